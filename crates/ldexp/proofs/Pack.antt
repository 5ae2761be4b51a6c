-- A bit pattern made of a significand and an exponent's field: it stands for w * 2 ^ k times the smallest positive value, 2 ^ -1074.
use mathlib.Core.Path.{◌≡◌, refl, sym, ap, ◌∙◌, subst}
use mathlib.Core.Bool.{true, false, not}
use Prim.Native.Nat.{ℕ, zero, suc, ◌+◌, ◌-◌, ◌*◌, ◌/◌, ◌%◌, ◌^◌, ◌≤◌, ◌<◌}
use native.Mathlib.Omega.{arith}
use lib.Dec.{T, not_T, ltb→lt}
use lib.IntN.{pos}
use borrow.Author.Tests.{lt-leb, ne_eqb}
use lib.Ieee.{fin, binary64, odd, minus, of_fields, of_bits, nan_bits}
use lib.Ieee.Bits.{nan_bits_above}
use lib.Count.{count_trailing_zeros}
use Rattle.ldexp.specs.Scale.{pow2_of, signed}
use Rattle.ldexp.proofs.Chain.{minus_up, minus_down}

fields : (b x t : ℕ) → b < 9223372036854775808 → b / 4503599627370496 ≡ x → b % 4503599627370496 ≡ t → of_bits binary64 b ≡ of_fields binary64 false x t
unfolding of_bits
fields b x t h p q =
    rw (lt-leb 9223372036854775808 b h)
    (let e : b % 9223372036854775808 / 4503599627370496 ≡ x = omega arith in rw (e, q))

high : (x t : ℕ) → suc x < 2047 → of_fields binary64 false (suc x) t ≡ odd 53 false (4503599627370496 + t) x 1074
unfolding of_fields
high x t h = rw (ne_eqb (suc x) 2047 (λ e. omega arith))

-- a normal value: 2 ^ 52 ≤ w < 2 ^ 53
pub pack_normal : (w k : ℕ) → 2 ^ 52 ≤ w → w < 2 ^ 53 → k < 2046 → of_bits binary64 (k * 2 ^ 52 + w) ≡ odd 53 false w k 1074
pack_normal w k lo hi h =
    fields (k * 2 ^ 52 + w) (suc k) (w - 2 ^ 52) (omega arith) (omega arith) (omega arith)
    ∙ high k (w - 2 ^ 52) (omega arith)
    ∙ (let e : 2 ^ 52 + (w - 2 ^ 52) ≡ w = omega arith in ap (λ (x : ℕ). odd 53 false x k 1074) e)

-- no pattern below an infinity's is a NaN's
pub pack_not_nan : (b : ℕ) → b < 2047 * 2 ^ 52 → T (not (nan_bits binary64 b))
pack_not_nan b h =
    not_T (nan_bits binary64 b)
    (λ t.
    let l : 2047 * 2 ^ 52 < b % 2 ^ 63 = ltb→lt (2047 * 2 ^ 52) (b % 2 ^ 63) (subst T (nan_bits_above binary64 b) t) in
    omega arith)

-- ---- powers of two, by the exponent's field

field_power : (k : ℕ) → k < 2046 → of_bits binary64 (suc k * 2 ^ 52) ≡ fin false 1 (minus (k + 52) 1074)
unfolding odd count_trailing_zeros
field_power k h =
    (let e : suc k * 2 ^ 52 ≡ k * 2 ^ 52 + 2 ^ 52 = omega arith in ap (λ (b : ℕ). of_bits binary64 b) e)
    ∙ pack_normal (2 ^ 52) k (omega arith) (omega arith) h

pub power_up : (n : ℕ) → n ≤ 1023 → of_bits binary64 ((1023 + n) * 2 ^ 52) ≡ pow2_of (signed false n)
power_up n h =
    (let e : 1023 + n ≡ suc (n + 1022) = omega arith in ap (λ (x : ℕ). of_bits binary64 (x * 2 ^ 52)) e)
    ∙ field_power (n + 1022) (omega arith)
    ∙ ap pow2_of (sym (minus_up (n + 1022 + 52) 1074 (omega arith)) ∙ (let e : n + 1022 + 52 - 1074 ≡ n = omega arith in ap pos e))

pub power_down : (n : ℕ) → n ≤ 1022 → of_bits binary64 ((1023 - n) * 2 ^ 52) ≡ pow2_of (signed true n)
power_down n h =
    (let e : 1023 - n ≡ suc (1022 - n) = omega arith in ap (λ (x : ℕ). of_bits binary64 (x * 2 ^ 52)) e)
    ∙ field_power (1022 - n) (omega arith)
    ∙ ap pow2_of (go n h)
  where
    go : (n : ℕ) → n ≤ 1022 → minus (1022 - n + 52) 1074 ≡ signed true n
    go zero h = refl
    go (suc n) h =
        sym (minus_down (1022 - suc n + 52) 1074 (omega arith)) ∙ (let e : 1074 - (1022 - suc n + 52) ≡ suc n = omega arith in ap (λ (m : ℕ). signed true m) e)
