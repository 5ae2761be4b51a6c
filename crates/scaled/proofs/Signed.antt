-- Sums and products of small whole numbers as the machine computes them, in an i32.
use mathlib.Core.Path.{◌≡◌, sym, ap, ap₂, ◌∙◌, subst}
use Prim.Native.Nat.{ℕ, ◌^◌, ◌≤◌, ◌<◌}
use native.Mathlib.Omega.{arith}
use native.Mathlib.Nat.{le_trans, le_of_eq, mul-le-mul}
use lib.IntN.{ℤ, pos, negsuc, neg_ℤ, ◌+ℤ◌, ◌-ℤ◌, ◌*ℤ◌, nat_abs, +ℤ_idl}
use lib.Signed.{mag}
use mir.Syntax.{w32}
use mir.Val.{SFits, to_z, of_z}
use mir.Facts.{to_z-of_z}
use Rattle.algebra.specs.IntOrder.{nat_abs_mul, nat_abs_add, nat_abs_sub, nat_abs_neg}

pub small_fits : (z : ℤ) → nat_abs z ≤ 2 ^ 20 → SFits w32 z
small_fits (pos n) h = record { sfits = omega arith }
small_fits (negsuc n) h = record { sfits = omega arith }

-- x, which the machine computes, is z
pub record Machine (x z : ℤ) : Type 0 where
  pub fits : SFits w32 x
  pub is : to_z w32 (of_z w32 x) ≡ z

machine : {x z : ℤ} → x ≡ z → nat_abs z ≤ 2 ^ 20 → Machine x z
machine {x} {z} e h = let f = subst (λ (y : ℤ). SFits w32 y) (sym e) (small_fits z h) in record { fits = f; is = to_z-of_z f ∙ e }

-- a number read back from its bits: what a call returned, and a small one
pub read : (z : ℤ) → mag z < 2 ^ 31 → to_z w32 (of_z w32 z) ≡ z
read z h = to_z-of_z {w = w32} (record { sfits = h })

pub back : (z : ℤ) → nat_abs z ≤ 2 ^ 20 → to_z w32 (of_z w32 z) ≡ z
back z h = to_z-of_z (small_fits z h)

pub less_machine : (k : ℕ) → k ≤ 4196 → Machine (to_z w32 k -ℤ pos 2098) (pos k -ℤ pos 2098)
less_machine k h = machine (ap (λ (z : ℤ). z -ℤ pos 2098) (back (pos k) (omega arith))) (omega (arith, nat_abs_sub (pos k) (pos 2098)))

pub less : (k : ℕ) → k ≤ 4196 → to_z w32 (of_z w32 (to_z w32 k -ℤ pos 2098)) ≡ pos k -ℤ pos 2098
less k h = (less_machine k h).is

pub negated_machine : (e : ℤ) → nat_abs e ≤ 2 ^ 13 → Machine (pos 0 -ℤ to_z w32 (of_z w32 e)) (neg_ℤ e)
negated_machine e h = machine (+ℤ_idl (neg_ℤ (to_z w32 (of_z w32 e))) ∙ ap neg_ℤ (back e (omega arith))) (le_trans (le_of_eq (nat_abs_neg e)) (omega arith))

pub negated : (e : ℤ) → nat_abs e ≤ 2 ^ 13 → to_z w32 (of_z w32 (pos 0 -ℤ to_z w32 (of_z w32 e))) ≡ neg_ℤ e
negated e h = (negated_machine e h).is

module _ (e : ℤ) (i : ℕ) (E : nat_abs e ≤ 2 ^ 13) (I : i ≤ 4) where
  product_small : nat_abs (e *ℤ pos i) ≤ 2 ^ 15
  product_small = le_trans (le_of_eq (nat_abs_mul e (pos i))) (mul-le-mul E I)

  pub product : Machine (to_z w32 (of_z w32 e) *ℤ to_z w32 i) (e *ℤ pos i)
  product = machine (ap₂ (λ (x y : ℤ). x *ℤ y) (back e (omega arith)) (back (pos i) (omega arith))) (omega (arith, product_small))

  module _ (t : ℤ) where
    pub sum_small : nat_abs t ≤ 2 ^ 13 → nat_abs (t +ℤ e *ℤ pos i) ≤ 2 ^ 16
    sum_small T = omega (arith, nat_abs_add t (e *ℤ pos i), product_small)

    pub sum : nat_abs t ≤ 2 ^ 13 → Machine (to_z w32 (of_z w32 t) +ℤ to_z w32 (of_z w32 (to_z w32 (of_z w32 e) *ℤ to_z w32 i))) (t +ℤ e *ℤ pos i)
    sum T = machine (ap₂ (λ (x y : ℤ). x +ℤ y) (back t (omega arith)) product.is) (omega (arith, sum_small T))

    pub sum_is : (t' : ℤ) → t ≡ t' → nat_abs t ≤ 2 ^ 13 → let m = to_z w32
        (of_z w32 (to_z w32 (of_z w32 t) +ℤ to_z w32 (of_z w32 (to_z w32 (of_z w32 e) *ℤ to_z w32 i)))) in (m ≡ t' +ℤ e *ℤ pos i) × (nat_abs m ≤ 2 ^ 16)
    sum_is t' q T = let s = (sum T).is in (s ∙ ap (λ (x : ℤ). x +ℤ e *ℤ pos i) q, subst (λ (z : ℤ). nat_abs z ≤ 2 ^ 16) (sym s) (sum_small T))

    pub difference : nat_abs t ≤ 2 ^ 16 → Machine (to_z w32 (of_z w32 (to_z w32 (of_z w32 e) *ℤ to_z w32 i)) -ℤ to_z w32 (of_z w32 t)) (e *ℤ pos i -ℤ t)
    difference T = machine (ap₂ (λ (x y : ℤ). x -ℤ y) product.is (back t (omega arith))) (omega (arith, nat_abs_sub (e *ℤ pos i) t, product_small))
