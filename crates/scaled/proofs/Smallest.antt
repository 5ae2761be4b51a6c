-- 'e is the smallest whole number with |a_i| ≤ |a_d|·2^(e(d−i)) for all i < d; e = 0 where d = 0', for finite coefficients and a last one that is not zero.
use mathlib.Core.Path.{◌≡◌, refl, sym, ap, ◌∙◌, subst}
use mathlib.Core.Bool.{Bool, true, false, not, ◌&&◌, cond, false≢true}
use mathlib.Core.List.{List}
use mathlib.Core.Logic.{⊎_elim}
use Prim.Native.Nat.{ℕ, zero, suc, ◌+◌, ◌-◌, ◌*◌, ◌^◌, ◌≤◌, ◌<◌}
use native.Mathlib.Omega.{arith}
use native.Mathlib.Nat.{one-mul, zero-mul, mul-one, mul-le-mul_right, le_trans, le_refl, le_of_eq, le_of_lt, lt_of_lt_of_le, ne_of_lt}
use borrow.Author.Tests.{leb-true, le-leb}
use lib.Dec.{T}
use lib.Pow.{pow-add, pow_mono}
use lib.IntN.{ℤ, pos, negsuc, suc_ℤ, ◌-ℤ◌, ◌*ℤ◌, pred-suc, -ℤ_one}
use lib.Signed.{◌≤ℤ◌, ≤ℤ_refl}
use lib.ListN.{get_or}
use lib.Ieee.{Float, nan, up, down}
use Rattle.algebra.specs.RingInt.{ringℤ, #, ◌:+◌, ◌:-◌, ◌:=◌}
use Rattle.algebra.specs.IntOrder.{+ℤ_mono, ≤ℤ_or}
use Rattle.facts.specs.Cond.{both_hold}
use Rattle.float.specs.Units.{units_of, Finite}
use Rattle.decode.specs.Exponent.{regular_of}
use Rattle.decode.proofs.Class.{irregular_units}
use Rattle.nearest.specs.Greatest.{greatest}
use Rattle.nearest.proofs.Search.{found}
use Rattle.scaled.specs.Exponent.{held_at, held_below, candidate, too_small, scale_exponent_of}
use Rattle.scaled.proofs.Digits.{units_under}
use Rattle.scaled.proofs.Held.{held, not_held, held_more, held_one}
use Rattle.scaled.proofs.Best.{exponent_is}

-- |a_i| ≤ |a_d|·2^(e(d − i)), in units; 2^z is up z / down z
abbrev pub Held : List Float → ℕ → ℤ → ℕ → Type 0
Held a d e i = let z = e *ℤ pos (d - i) in units_of (get_or a i nan) * down z ≤ units_of (get_or a d nan) * up z

held_in : (a : List Float) (d : ℕ) (e : ℤ) (n : ℕ) → ((i : ℕ) → i < n → Held a d e i) → held_below a d e n ≡ true
unfolding held_below held_at
held_in a d e zero h = refl
held_in a d e (suc n) h = both_hold _ _ (le-leb _ _ (h n (le_refl (suc n)))) (held_in a d e n (λ i l. h i (omega arith)))

pub regular : (x : Float) → 0 < units_of x → regular_of x ≡ true
regular x P = go (regular_of x) refl
  where
    go : (b : Bool) → regular_of x ≡ b → regular_of x ≡ true
    go true e = e
    go false e = absurd (ne_of_lt P (sym (irregular_units x e)))

one_less : (n : ℕ) → candidate (suc n) -ℤ pos 1 ≡ candidate n
one_less n =
    (let e : suc n ≡ 1 + n = omega arith in ap (λ (k : ℕ). candidate k -ℤ pos 1) e) ∙ ringℤ 2 (λ n c. ((# 1 :+ n) :- c) :- # 1 := n :- c) tt (pos n) (pos 2098)

module _ (a : List Float) (d : ℕ) (F : (i : ℕ) → i ≤ d → Finite (get_or a i nan)) (P : 0 < units_of (get_or a d nan)) where
  -- 8192 - 2098 is large enough
  large : (i : ℕ) → i < d → held_at a d (candidate (2 ^ 13)) i ≡ true
  large i l =
      let j = d - i in
      held a d i (2 ^ 13) 2098
      (le_trans (mul-le-mul_right (2 ^ (2098 * j)) (le_of_lt (units_under (get_or a i nan) (F i (le_of_lt l)))))
      (le_trans (le_of_eq (sym (pow-add 2 2098 (2098 * j))))
      (le_trans (pow_mono (let m : 2098 + 2098 * j ≤ 8192 * j = omega arith in m))
      (le_trans (le_of_eq (sym (one-mul (2 ^ (8192 * j))))) (mul-le-mul_right (2 ^ (8192 * j)) P)))))

  all_large : (n : ℕ) → n ≤ d → held_below a d (candidate (2 ^ 13)) n ≡ true
  unfolding held_below
  all_large zero l = refl
  all_large (suc n) l = both_hold _ _ (large n l) (all_large n (le_of_lt l))

  -- one above the greatest that is too small, where there is one
  abbrev last : ℕ
  last = greatest (too_small a d) 13 0

  last_found : T (too_small a d 0) → T (too_small a d last) × T (not (too_small a d (suc last)))
  last_found s = found (too_small a d) 13 0 s (unfold too_small in subst (λ (b : Bool). T (not (not b))) (sym (all_large d (le_refl d))) tt)

  is_last : too_small a d 0 ≡ true → scale_exponent_of a d ≡ candidate (suc last)
  is_last s = rw (exponent_is, regular (get_or a d nan) P, s)

  is_zero : too_small a d 0 ≡ false → scale_exponent_of a d ≡ pos 0
  is_zero s = rw (exponent_is, regular (get_or a d nan) P, s)

  holds : held_below a d (scale_exponent_of a d) d ≡ true
  holds = go (too_small a d 0) refl
    where
      twice_not : (b : Bool) → not b ≡ false → b ≡ true
      twice_not true e = refl
      twice_not false e = absurd (false≢true (sym e))

      twice_not' : (b : Bool) → T (not (not b)) → b ≡ true
      twice_not' true t = refl
      twice_not' false t = absurd t

      go : (b : Bool) → too_small a d 0 ≡ b → held_below a d (scale_exponent_of a d) d ≡ true
      go true s = subst (λ (e : ℤ). held_below a d e d ≡ true) (sym (is_last s)) (unfold too_small in twice_not' _ (last_found (subst T (sym s) tt)).1)
      go false s =
          subst (λ (e : ℤ). held_below a d e d ≡ true) (sym (is_zero s))
          (held_more a d (candidate 0) (pos 0) d (record { le = tt }) (unfold too_small in twice_not _ s))

  pub exponent_holds : (i : ℕ) → i < d → Held a d (scale_exponent_of a d) i
  exponent_holds i l = unfold held_at in leb-true _ _ (held_one a d (scale_exponent_of a d) d i holds l)

  -- -2098 is too small for a coefficient that is not zero
  module _ (i : ℕ) (l : i < d) (some : 0 < units_of (get_or a i nan)) where
    first : too_small a d 0 ≡ true
    first = go (held_below a d (candidate 0) d) refl
      where
        small : held_at a d (candidate 0) i ≡ false
        small =
            let j = d - i in
            not_held a d i 0 2098
            (lt_of_lt_of_le (subst (λ (n : ℕ). n < 2 ^ 2098) (sym
            (ap (λ (k : ℕ). units_of (get_or a d nan) * 2 ^ k) (zero-mul j) ∙ mul-one (units_of (get_or a d nan))))
            (units_under (get_or a d nan) (F d (le_refl d))))
            (le_trans (pow_mono (let m : 2098 ≤ 2098 * j = omega arith in m))
            (le_trans (le_of_eq (sym (one-mul (2 ^ (2098 * j))))) (mul-le-mul_right (2 ^ (2098 * j)) some))))

        go : (b : Bool) → held_below a d (candidate 0) d ≡ b → too_small a d 0 ≡ true
        go true e = absurd (false≢true (sym small ∙ held_one a d (candidate 0) d i e l))
        go false e = unfold too_small in ap not e

    pub exponent_least : (e : ℤ) → ((i : ℕ) → i < d → Held a d e i) → scale_exponent_of a d ≤ℤ e
    exponent_least e h = ⊎_elim (λ m. m) (λ m. absurd (clash m)) (≤ℤ_or (scale_exponent_of a d) e)
      where
        low : T (too_small a d last)
        low = (last_found (subst T (sym first) tt)).0

        before : suc_ℤ e ≤ℤ candidate (suc last) → e ≤ℤ candidate last
        before m =
            subst (λ (z : ℤ). e ≤ℤ z) (one_less last)
            (subst (λ (z : ℤ). z ≤ℤ (candidate (suc last) -ℤ pos 1)) (-ℤ_one (suc_ℤ e) ∙ pred-suc e) (+ℤ_mono m (≤ℤ_refl (negsuc 0))))

        clash : suc_ℤ e ≤ℤ scale_exponent_of a d → ⊥
        clash m =
            unfold too_small in
            subst (λ (b : Bool). T (not b)) (held_more a d e (candidate last) d (before (subst (λ (z : ℤ). suc_ℤ e ≤ℤ z) (is_last first) m))
            (held_in a d e d h)) low

pub exponent_of_constant : (a : List Float) → scale_exponent_of a 0 ≡ pos 0
unfolding too_small held_below
exponent_of_constant a = exponent_is a 0 ∙ go (regular_of (get_or a 0 nan)) _
  where
    go : (b : Bool) (z : ℤ) → cond (b && too_small a 0 0) z (pos 0) ≡ pos 0
    go true z = refl
    go false z = refl
