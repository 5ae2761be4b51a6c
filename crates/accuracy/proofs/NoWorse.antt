-- Where the residual at a last place is no larger in size than at a first one, the last is no worse beyond rounding: demand 3's inequality (`no_worse`).
-- With w for the residuals and e = 2^-53·P + 201·2^-106·M + 2^-1001 for how far they are from the exact values,
-- P(last) - e(last) ≤ |w(last)| ≤ |w(first)| ≤ P(first) + e(first). That times 2^53 is the inequality, as 201·2^-53 ≤ 2^-45 and 2·2^(53 - 1001) ≤ 2^-946.
use mathlib.Core.Path.{◌≡◌}
use mathlib.Core.Bool.{true}
use mathlib.Core.List.{List}
use Prim.Native.Nat.{ℕ, ◌+◌, ◌-◌, ◌*◌, ◌^◌, ◌≤◌}
use native.Mathlib.Nat.{mul-le-mul_right, le_of_mul-le-mul_left}
use native.Mathlib.Omega.{arith}
use lib.Dec.{lit<, lit≤}
use lib.Ieee.{Float}
use Rattle.float.specs.Literals.{two64, four64}
use Rattle.float.specs.Units.{units_of}
use Rattle.rounding.specs.Units.{one_units}
use Rattle.rounding.specs.Diff.{◌⊡◌}
use Rattle.rounding.proofs.Diff.{apart_sym}
use Rattle.accuracy.specs.Terms.{signed_units, exact_of, P, M}
use Rattle.accuracy.specs.Claims.{at_most, AllAtMost, residual_of, distance_of, Accurate, Polished}
use Rattle.accuracy.proofs.Sizes.{size_near, units_size}
use Rattle.accuracy.proofs.Accurate.{accurate}

-- ---- on plain numbers: p and q are P at the last and the first place, m and n are M there, and u and t the residuals' sizes
closing : (p q m n u t S c K L : ℕ) → p * 2 ^ 106 ≤ u * (2 ^ 106 * S) + (2 ^ 53 * p + c * m + K * S)
    → t * (2 ^ 106 * S) ≤ q * 2 ^ 106 + (2 ^ 53 * q + c * n + K * S) → u ≤ t → c ≤ 2 ^ 8 → 2 * K ≤ 2 ^ 8 * L
    → 2 ^ 45 * ((2 ^ 53 - 1) * p) ≤ 2 ^ 45 * ((2 ^ 53 + 1) * q) + (n + m) + L * S
closing p q m n u t S c K L a b l j k =
    let e = mul-le-mul_right (2 ^ 106 * S) l in
    let f = mul-le-mul_right (m + n) j in
    let g = mul-le-mul_right S k in
    le_of_mul-le-mul_left {k = 2 ^ 8} (omega arith) (lit< tt)

module _ (f : List Float) (d : ℕ) where
  exact_le : (y : Float) → Accurate f d y → P f d y * 2 ^ 106 ≤ units_of (residual_of f d y) * (2 ^ 106 * one_units ^ d) + distance_of f d y
  unfolding P
  exact_le y A =
      let far = apart_sym (signed_units (residual_of f d y) ⊡ (2 ^ 106 * one_units ^ d)) (exact_of f d y ⊡ 2 ^ 106) (distance_of f d y) A.near in
      rw (units_size (residual_of f d y)) at (size_near (exact_of f d y) (signed_units (residual_of f d y)) (2 ^ 106) (2 ^ 106 * one_units ^ d)
      (distance_of f d y) far)

  value_le : (y : Float) → Accurate f d y → units_of (residual_of f d y) * (2 ^ 106 * one_units ^ d) ≤ P f d y * 2 ^ 106 + distance_of f d y
  unfolding P
  value_le y A =
      rw (units_size (residual_of f d y)) at (size_near (signed_units (residual_of f d y)) (exact_of f d y) (2 ^ 106 * one_units ^ d) (2 ^ 106)
      (distance_of f d y) A.near)

  -- Demand 3 for any two places of size 4 at most, with coefficients of size 2 at most and degree 4 at most, whatever leads from the first to the last.
  pub no_worse : (first last : Float) → d ≤ 4 → AllAtMost two64 f d → at_most four64 first ≡ true → at_most four64 last ≡ true
      → units_of (residual_of f d last) ≤ units_of (residual_of f d first) → Polished f d first last
  no_worse first last degree coefficients begin end h =
      closing (P f d last) (P f d first) (M f d last) (M f d first) (units_of (residual_of f d last)) (units_of (residual_of f d first)) (one_units ^ d) _ _ _
      (exact_le last (accurate f d last degree coefficients end)) (value_le first (accurate f d first degree coefficients begin)) h (lit≤ tt) (lit≤ tt)
