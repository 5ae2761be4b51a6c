-- A double as a signed number of units: a value of so many units has them (`val_units`), a double that compares as no larger has no more of them (`no_larger`),
-- and one of size c at most is a number with that bound (`at_most_num`).
use mathlib.Core.Path.{◌≡◌, refl, sym, ap, ◌∙◌, subst}
use mathlib.Core.Bool.{Bool, true, false, ◌&&◌, ◌||◌, false≢true}
use Prim.Native.Nat.{ℕ, ◌*◌, ◌/◌, ◌^◌, ◌≤◌, ◌<◌}
use native.Mathlib.Nat.{le_trans, le_of_eq, le_of_mul-le-mul_right, mul-le-mul_right, mul-div_cancel, div-mul-le_self, le-div_iff_mul-le}
use native.Mathlib.Omega.{arith}
use borrow.Author.Tests.{ltb-true, eqb-true}
use lib.Dec.{T, ltb, eqb}
use lib.IntN.{ℤ}
use lib.Ieee.{Float, nan, inf, fin, binary64, up, down, le, lt, eq, fits, of_bits}
use lib.Ieee.Fits.{down_pos}
use Rattle.facts.specs.Cond.{first_holds, second_holds}
use Rattle.float.specs.Literals.{two64, four64}
use Rattle.float.specs.Methods.{abs_of, is_finite_of, is_sign_negative_of}
use Rattle.float.specs.Units.{units_of}
use Rattle.rounding.specs.Units.{one_units}
use Rattle.rounding.specs.Diff.{Diff}
use Rattle.rounding.proofs.Value.{Val, plus_sign, minus_sign, value}
use Rattle.rounding.proofs.Num.{Num}
use Rattle.accuracy.specs.Terms.{signed_diff, signed_units}
use Rattle.accuracy.specs.Claims.{at_most}
use Rattle.accuracy.proofs.Sizes.{signed_magnitude}

-- ---- values and units
pub val_units : {x : Float} {p n : ℕ} → Val x p n → signed_units x ≡ record { p = p; n = n }
unfolding is_sign_negative_of one_units
val_units (plus_sign {p = p} {e = e} h) = ap (signed_diff false) (ap (λ (z : ℕ). z / down e) h ∙ mul-div_cancel p (down_pos e))
val_units (minus_sign {n = n} {e = e} h) = ap (signed_diff true) (ap (λ (z : ℕ). z / down e) h ∙ mul-div_cancel n (down_pos e))

pub num_units : {x : Float} {k : ℕ} (X : Num x k) → signed_units x ≡ X.v
num_units X = val_units X.is

pub val_finite : {x : Float} {p n : ℕ} → Val x p n → is_finite_of x ≡ true
unfolding is_finite_of
val_finite (plus_sign h) = refl
val_finite (minus_sign h) = refl

units_val : (x : Float) → is_finite_of x ≡ true → T (fits binary64 x) → Val x (signed_units x).p (signed_units x).n
unfolding is_finite_of
units_val nan f t = absurd (false≢true f)
units_val (inf s) f t = absurd (false≢true f)
units_val (fin s m e) f t = let v = value s m e t in subst (λ (w : Diff). Val (fin s m e) w.p w.n) (sym (val_units v.2)) v.2

-- ---- comparisons of sizes
-- of a / c and b / d
floor_le : (a b c d s : ℕ) → 0 < c → 0 < d → a * d ≤ b * c → a * s / c ≤ b * s / d
floor_le a b c d s C D h = (le-div_iff_mul-le D).1 (le_of_mul-le-mul_right (go (a * s / c) (div-mul-le_self (a * s) c)) C)
  where
    go : (q : ℕ) → q * c ≤ a * s → q * d * c ≤ b * s * c
    go q l = omega (arith, mul-le-mul_right d l, mul-le-mul_right s h)

pub units_le : (s t : Bool) (m n : ℕ) (e d : ℤ) → m * up e * down d ≤ n * up d * down e → units_of (fin s m e) ≤ units_of (fin t n d)
units_le s t m n e d h = floor_le (m * up e) (n * up d) (down e) (down d) (2 ^ 1074) (down_pos e) (down_pos d) h

pub no_larger : (x z : Float) → is_finite_of z ≡ true → le (abs_of x) (abs_of z) ≡ true → (is_finite_of x ≡ true) × (units_of x ≤ units_of z)
unfolding is_finite_of abs_of le lt eq
no_larger nan z f h = absurd (false≢true h)
no_larger (inf s) nan f h = absurd (false≢true f)
no_larger (inf s) (inf t) f h = absurd (false≢true f)
no_larger (inf s) (fin t n d) f h = absurd (false≢true h)
no_larger (fin s m e) nan f h = absurd (false≢true f)
no_larger (fin s m e) (inf t) f h = absurd (false≢true f)
no_larger (fin s m e) (fin t n d) f h = (refl, units_le s t m n e d (go (m * up e * down d) (n * up d * down e) h))
  where
    go : (a b : ℕ) → (ltb a b || (eqb a b && true)) ≡ true → a ≤ b
    go a b h = cases (ltb a b) (eqb a b) (ltb-true a b) (eqb-true a b) h
      where
        cases : (l e : Bool) → (l ≡ true → a < b) → (e ≡ true → a ≡ b) → (l || (e && true)) ≡ true → a ≤ b
        cases true e l i h = let k = l refl in omega arith
        cases false true l i h = le_of_eq (i refl)
        cases false false l i h = absurd (false≢true h)

-- ---- a double of size c at most, where c is k
at_most_fits : (c x : Float) → at_most c x ≡ true → T (fits binary64 x)
unfolding at_most
at_most_fits c x h = subst T (sym (first_holds (fits binary64 x) _ h)) tt

module _ (c : Float) (k : ℕ) (above : abs_of c ≡ c) (finite : is_finite_of c ≡ true) (is : units_of c ≡ k * one_units) (x : Float)
    (h : at_most c x ≡ true) where
  compared : (is_finite_of x ≡ true) × (units_of x ≤ units_of c)
  unfolding at_most
  compared = no_larger x c finite (ap (le (abs_of x)) above ∙ second_holds (fits binary64 x) _ h)

  at_most_num : Num x k
  at_most_num =
      record {
        v = signed_units x;
        is = units_val x compared.0 (at_most_fits c x h);
        held = at_most_fits c x h;
        bound = le_trans (le_of_eq (signed_magnitude (is_sign_negative_of x) (units_of x))) (le_trans compared.1 (le_of_eq is));
      }

pub at_most_two : (x : Float) → at_most two64 x ≡ true → Num x 2
at_most_two x h = at_most_num two64 2 (unfold of_bits abs_of in refl) (unfold of_bits is_finite_of in refl) (unfold of_bits one_units in refl) x h

pub at_most_four : (x : Float) → at_most four64 x ≡ true → Num x 4
at_most_four x h = at_most_num four64 4 (unfold of_bits abs_of in refl) (unfold of_bits is_finite_of in refl) (unfold of_bits one_units in refl) x h
