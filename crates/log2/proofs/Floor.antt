-- L(x) is the greatest multiple of 1/256 not above the exact logarithm of x, in whole numbers: `log2_floor`.
use mathlib.Core.Path.{◌≡◌, refl, sym, ap, ◌∙◌, subst}
use mathlib.Core.Bool.{Bool, false, true, cond}
use Prim.Native.Nat.{ℕ, zero, suc, ◌+◌, ◌-◌, ◌*◌, ◌^◌, ◌≤◌, ◌<◌}
use native.Mathlib.Omega.{arith}
use native.Mathlib.Nat.{lt_of_lt_of_le, lt_of_le_of_lt, lt_irrefl, zero-lt-suc, mul_assoc, mul-lt-mul_of_pos_right, pow-lt-pow_left, one-le-pow}
use borrow.Author.Tests.{leb-false}
use lib.Dec.{T, leb, lit≤}
use lib.Pow.{pow_pos, pow_mono, shl_lt}
use lib.IntN.{ℤ, pos, negsuc, ◌+ℤ◌, nat_abs, -ℤ-+ℤ_cancel}
use lib.Ieee.{Float, nan, inf, fin, binary64, fits, minus, size}
use lib.Ieee.Digits.{size-lt, size-le, size_reaches}
use lib.Ieee.Exact.{HasValue, round_exact}
use lib.Ieee.Positive.{positive}
use Rattle.algebra.specs.NatOrder.{pow_mul}
use Rattle.float.specs.Units.{units_of}
use Rattle.decode.proofs.Fields.{shape, units_pos}
use Rattle.log2.specs.Log.{grid_of, over256, log2_grid_of}
use Rattle.decode.proofs.Difference.{minus_is}

-- 2 ^ (z / 256) ≤ n * 2 ^ -1074 < 2 ^ ((z + 1) / 256), raised to 256 and times 2 ^ (256 * 1074): the place is z + 256 * 1074
pub record Floor256 (n : ℕ) (z : ℤ) : Type 0 where
  pub place : ℕ
  pub is : z +ℤ pos (256 * 1074) ≡ pos place
  pub low : 2 ^ place ≤ n ^ 256
  pub high : n ^ 256 < 2 ^ suc place

pub grid_floor : (n : ℕ) → 0 < n → Floor256 n (grid_of n)
unfolding grid_of
grid_floor n p = go (size (n ^ 256)) refl
  where
    go : (j : ℕ) → size (n ^ 256) ≡ j → Floor256 n (minus (size (n ^ 256)) (256 * 1074 + 1))
    go zero e = absurd (lt_irrefl (2 ^ 0) (lt_of_le_of_lt (one-le-pow 256 n p) (subst (λ (j : ℕ). n ^ 256 < 2 ^ j) e (size-lt (n ^ 256)))))
    go (suc j) e = record {
      place = j;
      is = ap (λ (x : ℕ). minus x 274945 +ℤ pos 274944) e ∙ ap (λ (z : ℤ). z +ℤ pos 274944) (minus_is 274943 j) ∙ -ℤ-+ℤ_cancel (pos j) (pos 274944);
      low = size_reaches (n ^ 256) j (subst (λ (x : ℕ). j < x) (sym e) (next j));
      high = subst (λ (x : ℕ). n ^ 256 < 2 ^ x) e (size-lt (n ^ 256));
    }
      where
        next : (j : ℕ) → j < suc j
        next j = omega arith

-- x is z / 256
abbrev pub Over256 : Float → ℤ → Type 0
Over256 x (pos n) = HasValue x false n 256
Over256 x (negsuc n) = HasValue x true (suc n) 256

fine : (n : ℕ) → n < 2 ^ 53 → n * 2 ^ 1066 < 2 ^ 2098
fine n h = lt_of_lt_of_le (mul-lt-mul_of_pos_right h (pow_pos 1066)) (lit≤ tt)

-- nothing is rounded: a z of 53 digits
pub over256_exact : (z : ℤ) → nat_abs z < 2 ^ 53 → Over256 (over256 z) z
unfolding over256
over256_exact (pos n) h = round_exact binary64 false n 256 n 1066 (zero-lt-suc 255) h (fine n h) (sym (mul_assoc n (2 ^ 1066) 256))
over256_exact (negsuc n) h = round_exact binary64 true (suc n) 256 (suc n) 1066 (zero-lt-suc 255) h (fine (suc n) h) (sym (mul_assoc (suc n) (2 ^ 1066) 256))

-- ---- the logarithm of a double

abs_minus : (a b : ℕ) → nat_abs (minus a b) ≤ a + b
abs_minus a b = go (leb b a) refl
  where
    go : (c : Bool) → leb b a ≡ c → nat_abs (cond c (pos (a - b)) (negsuc (b - suc a))) ≤ a + b
    go true e = omega arith
    go false e = omega (arith, leb-false b a e)

-- a number of fewer than 2 ^ 2099 units
abs_grid : (n : ℕ) → n < 2 ^ 2099 → nat_abs (grid_of n) < 2 ^ 53
unfolding grid_of
abs_grid n u =
    let s : size (n ^ 256) ≤ 2099 * 256 = size-le (n ^ 256) (2099 * 256)
    (subst (λ (x : ℕ). n ^ 256 < x) (sym (pow_mul 2 2099 256)) (pow-lt-pow_left u not_zero)) in
    few (size (n ^ 256)) s (abs_minus (size (n ^ 256)) 274945)
  where
    not_zero : ◌≡◌ {A = ℕ} 256 0 → ⊥
    not_zero e = omega arith

    few : {a : ℕ} (s : ℕ) → s ≤ 2099 * 256 → a ≤ s + 274945 → a < 2 ^ 53
    few s h l = omega arith

-- L(x) of a finite x above zero is z / 256 for the whole number z with 2 ^ (z / 256) ≤ x < 2 ^ ((z + 1) / 256)
pub log2_floor : (x : Float) → T (fits binary64 x) → T (positive x)
    → Floor256 (units_of x) (grid_of (units_of x)) × Over256 (log2_grid_of x) (grid_of (units_of x))
unfolding log2_grid_of
log2_floor nan f p = absurd p
log2_floor (inf s) f p = absurd p
log2_floor (fin true m e) f p = absurd p
log2_floor (fin false zero e) f p = absurd p
log2_floor (fin false (suc m) e) f p =
    let h = shape false (suc m) e f in
    let n = units_of (fin false (suc m) e) in
    let u : n < 2 ^ 2099 = subst (λ (x : ℕ). x < 2 ^ 2099) h.whole.value
    (lt_of_lt_of_le (shl_lt 53 h.k h.whole.short) (pow_mono (reach h.k h.whole.reach))) in
    (grid_floor n (units_pos false (suc m) e f (zero-lt-suc m)), over256_exact (grid_of n) (abs_grid n u))
  where
    reach : (k : ℕ) → k < 2046 → 53 + k ≤ 2099
    reach k r = omega arith
