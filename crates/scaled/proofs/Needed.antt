-- The smallest k for one coefficient, from digits and exponents: it has w' * 2^k' / 2^52 units, the leading one w * 2^k / 2^52, and w and w' have 53 digits.
-- So 2^x is the smallest power of two that brings the leading one up to it, 2^(2098 j) times, where x is k' + 2098 j - k, and one more where w < w'. Then k is
-- x / j, rounded up.
use mathlib.Core.Path.{◌≡◌, sym, ap, ◌∙◌, subst}
use Prim.Native.Nat.{ℕ, zero, suc, ◌+◌, ◌-◌, ◌*◌, ◌/◌, ◌%◌, ◌^◌, ◌≤◌, ◌<◌, zero-le, min}
use native.Mathlib.Omega.{arith}
use native.Mathlib.Nat.{mul_assoc, mul_comm, mul-le-mul_right, mul-le-mul_left, mul-lt-mul_of_pos_right, le_trans, le_of_eq, lt_of_le_of_lt}
use native.Mathlib.Nat.{suc-mul, zero-mul, pow-succ', zero-lt-suc, lt_of_not-le, lt_irrefl}
use lib.Pow.{pow_pos, pow_mono}
use lib.Ieee.{Float}
use Rattle.algebra.specs.NatOrder.{pow2_join}
use Rattle.float.specs.Units.{units_of}
use Rattle.std.specs.Prelude.{None}
use Rattle.std.proofs.lemmas.Grind.{div_ceil_times}
use Rattle.decode.specs.Shape.{Decoded}
use Rattle.decode.proofs.Class.{decoded_irregular, irregular_units}
use Rattle.scaled.specs.Exponent.{Least}

-- rounding up: (k - 1) * j < x ≤ k * j
record Ceiling (x j k : ℕ) : Type 0 where
  above : x ≤ k * j
  below : 0 < k → (k - 1) * j < x

-- as `div_ceil` gives it
abbrev over : ℕ → ℕ → ℕ
over x j = x / j + min 1 (x % j)

less_one : (q : ℕ) → suc q - 1 ≡ q
less_one q = omega arith

ceiling : (x j : ℕ) → 0 < j → Ceiling x j (over x j)
ceiling x j J = let d = div_ceil_times x j J in go (over x j) d.0 d.1
  where
    go : (q : ℕ) → x ≤ q * j → q * j < x + j → Ceiling x j q
    go zero a b = record { above = a; below = λ p. absurd (lt_irrefl 0 p) }
    go (suc q) a b =
        let s : suc q * j ≡ q * j + j = suc-mul q j in
        record { above = a; below = λ p. subst (λ (y : ℕ). y * j < x) (sym (less_one q)) (omega arith) }

-- it is at most 4196 where x is at most 2098 (j + 1)
at_most : (x j k : ℕ) → 0 < j → x ≤ 2098 + 2098 * j → Ceiling x j k → k ≤ 4196
at_most x j zero J h C = omega arith
at_most x j (suc k) J h C =
    let l : k * j < x = subst (λ (y : ℕ). y * j < x) (less_one k) (C.below (zero-lt-suc k)) in
    lt_of_not-le (λ (g : 4196 ≤ k). lt_irrefl x (lt_of_le_of_lt
    (le_trans h (le_trans (let w : 2098 + 2098 * j ≤ 4196 * j = omega arith in w) (mul-le-mul_right j g))) l))

module _ (w k w' k' j : ℕ) (J : 0 < j) where
  -- 2^x brings the leading coefficient up, and 2^(x - 1) does not
  from_power : (x : ℕ) → 0 < x → x ≤ 2098 + 2098 * j → w' * 2 ^ (k' + 2098 * j) ≤ w * 2 ^ (k + x) → w * 2 ^ (k + (x - 1)) < w' * 2 ^ (k' + 2098 * j)
      → Least (w * 2 ^ k) (w' * 2 ^ k') j (over x j)
  from_power x X B lo hi =
      let r = over x j in
      let C = ceiling x j J in
      record {
        holds =
            le_trans (le_of_eq (pow2_join w' k' (2098 * j))) (le_trans lo
            (le_trans (mul-le-mul_left w (pow_mono (omega (arith, C.above)))) (le_of_eq (sym (pow2_join w k (r * j))))));
        least = λ p. subst (λ (y : ℕ). w * 2 ^ k * 2 ^ ((r - 1) * j) < y) (sym (pow2_join w' k' (2098 * j)))
            (lt_of_le_of_lt (le_of_eq (pow2_join w k ((r - 1) * j))) (lt_of_le_of_lt (mul-le-mul_left w (pow_mono (within ((r - 1) * j) (C.below p)))) hi));
        bound = at_most x j r J B C;
      }
    where
      within : (y : ℕ) → y < x → k + y ≤ k + (x - 1)
      within y h = omega arith

  double : (a i : ℕ) → 2 * a * 2 ^ i ≡ a * 2 ^ suc i
  double a i = ap (λ (x : ℕ). x * 2 ^ i) (mul_comm 2 a) ∙ mul_assoc a 2 (2 ^ i) ∙ ap (λ (x : ℕ). a * x) (sym (pow-succ' 2 i))

  module _ (K : k < 2098) (K' : k' < 2098) where
    -- w' is at most w: the exponents alone decide
    same : w < 2 ^ 53 → 2 ^ 52 ≤ w' → w' ≤ w → Least (w * 2 ^ k) (w' * 2 ^ k') j (over (k' + 2098 * j - k) j)
    same s l h =
        let x = k' + 2098 * j - k in
        from_power x (omega arith) (omega arith)
        (le_trans (mul-le-mul_right (2 ^ (k' + 2098 * j)) h) (mul-le-mul_left w (pow_mono (omega arith))))
        (subst (λ (y : ℕ). w * 2 ^ (k + (x - 1)) < w' * 2 ^ y) (let q : suc (k + (x - 1)) ≡ k' + 2098 * j = omega arith in q)
        (subst (λ (y : ℕ). w * 2 ^ (k + (x - 1)) < y) (double w' (k + (x - 1)))
        (mul-lt-mul_of_pos_right (let t : w < 2 * w' = omega arith in t) (pow_pos (k + (x - 1))))))

    -- w' is above w: one more
    more : 2 ^ 52 ≤ w → w' < 2 ^ 53 → w < w' → Least (w * 2 ^ k) (w' * 2 ^ k') j (over (k' + 2098 * j - k + 1) j)
    more l s h =
        let t = k' + 2098 * j - k in
        let x = t + 1 in
        from_power x (omega arith) (omega arith)
        (le_trans (mul-le-mul_right (2 ^ (k' + 2098 * j)) (let t : w' ≤ 2 * w = omega arith in t))
        (le_trans (le_of_eq (double w (k' + 2098 * j))) (le_of_eq (ap (λ (y : ℕ). w * 2 ^ y) (let q : suc (k' + 2098 * j) ≡ k + x = omega arith in q)))))
        (subst (λ (y : ℕ). w * 2 ^ y < w' * 2 ^ (k' + 2098 * j)) (let q : k' + 2098 * j ≡ k + (x - 1) = omega arith in q)
        (mul-lt-mul_of_pos_right h (pow_pos (k' + 2098 * j))))

-- ---- the same for a number r that was computed
module _ (w k w' k' j r : ℕ) (J : 0 < j) (K : k < 2098) (K' : k' < 2098) where
  pub reach_same : w < 2 ^ 53 → 2 ^ 52 ≤ w' → w' ≤ w → r ≡ over (k' + 2098 * j - k) j → Least (w * 2 ^ k) (w' * 2 ^ k') j r
  reach_same s l h q = subst (λ (r : ℕ). Least (w * 2 ^ k) (w' * 2 ^ k') j r) (sym q) (same w k w' k' j J K K' s l h)

  pub reach_more : 2 ^ 52 ≤ w → w' < 2 ^ 53 → w < w' → r ≡ over (k' + 2098 * j - k + 1) j → Least (w * 2 ^ k) (w' * 2 ^ k') j r
  reach_more l s h q = subst (λ (r : ℕ). Least (w * 2 ^ k) (w' * 2 ^ k') j r) (sym q) (more w k w' k' j J K K' l s h)

-- a double without digits needs nothing
pub reach_none : (x : Float) (top j : ℕ) → Decoded x None → Least top (units_of x * 2 ^ 52) j 0
reach_none x top j D =
    subst (λ (n : ℕ). Least top (n * 2 ^ 52) j 0) (sym (irregular_units x (decoded_irregular x D)))
    (record { holds = le_trans (le_of_eq (zero-mul (2 ^ (2098 * j)))) zero-le; least = λ p. absurd (lt_irrefl 0 p); bound = omega arith })
