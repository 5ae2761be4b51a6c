-- The doubles that are handed on are the coefficients of the tree's polynomial, exactly, and the list's numbers say what they say of that polynomial.
use mathlib.Core.Path.{◌≡◌, refl, sym, ap, subst, subst⁻¹, ◌∙◌}
use mathlib.Core.Bool.{Bool, true, false, beq, ◌||◌, true≢false}
use mathlib.Core.List.{List, [], ◌∷◌}
use mathlib.Core.Logic.{◌⊎◌, inl, inr, ⊎_elim}
use Prim.Native.Nat.{ℕ, zero, suc, ◌-◌, ◌*◌, ◌^◌, ◌≤◌, ◌<◌}
use native.Mathlib.Nat.{eq_of_mul-eq-mul_right}
use native.Mathlib.Omega.{arith}
use lib.Dec.{T, eqb, eqb→eq, lit≤}
use lib.ListN.{length, get_or, length-map}
use lib.IntN.{ℤ, pos, negsuc, nat_abs}
use lib.Ieee.{Float, nan, inf, fin, binary64, up, down, eq, of_bits, of_int}
use lib.Ieee.Exact.{HasValue}
use lib.Ieee.Back.{round_whole}
use lib.Ieee.Fits.{down_pos, and_l}
use borrow.Author.Tests.{eq-eqb}
use Rattle.algebra.specs.NatOrder.{le_or_lt}
use Rattle.refusals.specs.Refusals.{outcome_of}
use Rattle.float.specs.Literals.{zero64}
use Rattle.float.specs.Methods.{is_finite_of}
use Rattle.angle.specs.declared.Sine.{Sine}
use Rattle.poly.specs.Coefficients.{trimmed_of}
use Rattle.poly.specs.RealRoots.{real_roots_of}
use Rattle.poly.specs.Conditions.{AllFinite, Exactly}
use Rattle.poly.proofs.Refusals.{trimmed_is, stands_for}
use Rattle.parts.specs.Polynomial.{coefficient_of, trimmed}
use Rattle.parts.proofs.Coefficients.{trimmed_at, trimmed_long}
use Rattle.parts.proofs.Trimmed.{trimmed_last}
use Rattle.formula.specs.Formula.{floats_of}
use Rattle.formula.specs.Parts.{Meets}
use Rattle.formula.proofs.Texts.{meets_short, meets_small}
use Rattle.formula_roots.specs.Claims.{Constant, Varying, Whole, Result}
use Rattle.formula_roots.proofs.Solved.{floats_fit}

-- ---- a double that is a whole number
whole_double : (z : ℤ) → nat_abs z ≤ 2 ^ 53 → Whole (of_int binary64 z) z
unfolding of_int
whole_double (pos n) h = round_whole binary64 false n h
whole_double (negsuc n) h = round_whole binary64 true (suc n) h

value_finite : (x : Float) (s : Bool) (n : ℕ) → HasValue x s n 1 → is_finite_of x ≡ true
unfolding is_finite_of
value_finite nan s n v = elim v [ ]
value_finite (inf t) s n v = elim v [ ]
value_finite (fin t m e) s n v = refl

value_level : (x : Float) (s : Bool) (n : ℕ) → HasValue x s n 1 → eq x zero64 ≡ true → n ≡ 0
unfolding eq of_bits
value_level nan s n v h = elim v [ ]
value_level (inf t) s n v h = elim v [ ]
value_level (fin t m e) s n v h =
    let level = and_l (eqb (m * up e * 1) (0 * down e)) (beq t false || eqb (m * up e * 1) 0) (subst T (sym h) tt) in
    eq_of_mul-eq-mul_right (down e) (down_pos e) n 0 (sym v.1 ∙ eqb→eq _ _ level)

zero_level : (x : Float) → HasValue x false 0 1 → eq x zero64 ≡ true
unfolding eq of_bits
zero_level nan v = elim v [ ]
zero_level (inf t) v = elim v [ ]
zero_level (fin t m e) v = rw (eq-eqb (m * up e * 1) (0 * down e) v.1, v.0)

whole_finite : (x : Float) (z : ℤ) → Whole x z → is_finite_of x ≡ true
whole_finite x (pos n) w = value_finite x false n w
whole_finite x (negsuc n) w = value_finite x true (suc n) w

-- it equals 0 exactly where the number is zero
whole_level : (x : Float) (z : ℤ) → Whole x z → eq x zero64 ≡ true → z ≡ pos 0
whole_level x (pos n) w e = ap pos (value_level x false n w e)
whole_level x (negsuc n) w e = let z : suc n ≡ 0 = value_level x true (suc n) w e in absurd (omega arith)

level_whole : (x : Float) (z : ℤ) → Whole x z → z ≡ pos 0 → eq x zero64 ≡ true
level_whole x z w e = zero_level x (subst (Whole x) e w)

-- ---- what is handed on
float_at : (q : List ℤ) (k : ℕ) → k < length (floats_of q) → get_or (floats_of q) k nan ≡ of_int binary64 (coefficient_of q k)
float_at [] k h = absurd (omega arith)
float_at (a ∷ q) zero h = refl
float_at (a ∷ q) (suc k) h = float_at q k (omega arith)

pub result_of : (p : List ℤ) → Meets p → Result p (floats_of (trimmed p))
result_of p m =
    let q = trimmed p in
    let same : length (floats_of q) ≡ length q = length-map q (of_int binary64) in
    record {
      five = omega (arith, meets_short p m);
      doubles = floats_fit q;
      each = λ k h.
          subst⁻¹ (λ (x : Float). Whole x (coefficient_of p k)) (float_at q k h ∙ ap (of_int binary64) (trimmed_at p k))
          (whole_double (coefficient_of p k) (meets_small p m k));
      last = λ k e.
          let w = trimmed_last p (omega arith) in
          let here : w.0 ≡ k = omega (arith, w.1) in
          subst (λ (j : ℕ). coefficient_of p j ≡ pos 0 → ⊥) here w.2;
      behind = λ k h. trimmed_long (length q) p (omega arith) k (omega arith);
    }

-- ---- the numbers of the list
module _ (p : List ℤ) (coeffs : List Float) (r : Result p coeffs) where
  finite : AllFinite coeffs
  finite k h = whole_finite (get_or coeffs k nan) (coefficient_of p k) (r.each k h)

  -- what the list drops, and what it keeps, is no power of t, or one
  dropped_constant : trimmed_of coeffs ≤ 1 → Constant p
  dropped_constant h k l = ⊎_elim (r.behind k) dropped (le_or_lt (length coeffs) k)
    where
      dropped : k < length coeffs → coefficient_of p k ≡ pos 0
      dropped i = whole_level (get_or coeffs k nan) (coefficient_of p k) (r.each k i) ((trimmed_is coeffs).dropped k (omega arith) i)

  kept_varying : 2 ≤ trimmed_of coeffs → Varying p
  kept_varying h =
      let k = trimmed_of coeffs - 1 in
      let t = trimmed_is coeffs in
      let inside : k < length coeffs = omega (arith, t.within) in
      (k, omega arith, λ e. true≢false (sym (level_whole (get_or coeffs k nan) (coefficient_of p k) (r.each k inside) e) ∙ t.last (omega arith)))

  module _ (sine : Sine) (tol : Float) where
    constant_refused : trimmed_of coeffs ≤ 1 → outcome_of (real_roots_of sine coeffs tol) ≡ 2
    constant_refused h = (stands_for sine coeffs tol 2 (lit≤ tt)).where_it_holds (finite, h)

    varying_answered : 2 ≤ trimmed_of coeffs → outcome_of (real_roots_of sine coeffs tol) ≡ 0
    varying_answered h = (stands_for sine coeffs tol 0 (lit≤ tt)).where_it_holds (finite, h, omega (arith, (trimmed_is coeffs).within, r.five))

    pub list_two : Exactly (outcome_of (real_roots_of sine coeffs tol) ≡ 2) (Constant p)
    list_two = record {
      where_it_holds = λ z. ⊎_elim constant_refused (λ h. let w = kept_varying h in absurd (w.2 (z w.0 w.1))) (le_or_lt (trimmed_of coeffs) 1);
      only_there = λ e. dropped_constant ((stands_for sine coeffs tol 2 (lit≤ tt)).only_there e).1;
    }

    pub list_zero : Exactly (outcome_of (real_roots_of sine coeffs tol) ≡ 0) (Varying p)
    list_zero = record {
      where_it_holds = λ w. ⊎_elim (λ h. absurd (w.2 (dropped_constant h w.0 w.1))) varying_answered (le_or_lt (trimmed_of coeffs) 1);
      only_there = λ e. kept_varying ((stands_for sine coeffs tol 0 (lit≤ tt)).only_there e).1;
    }

    pub list_number : (outcome_of (real_roots_of sine coeffs tol) ≡ 0) ⊎ (outcome_of (real_roots_of sine coeffs tol) ≡ 2)
    list_number = ⊎_elim (λ h. inr (constant_refused h)) (λ h. inl (varying_answered h)) (le_or_lt (trimmed_of coeffs) 1)
