-- Which patterns are a NaN's, and what a double's pattern is.
use mathlib.Core.Path.{◌≡◌, refl, sym, ap, subst, ◌∙◌}
use mathlib.Core.Bool.{Bool, true, not, false≢true}
use Prim.Native.Nat.{ℕ, ◌%◌, ◌^◌, ◌<◌, ◌≤◌}
use borrow.Author.Tests.{lt-ltb, le-ltb}
use lib.Dec.{T}
use lib.Ieee.{Float, nan, inf, fin, binary64, div, fits, is_nan, nan_bits, of_bits, to_bits}
use lib.Ieee.Bits.{nan_bits_is, nan_bits_above, to_bits-lt}

-- a test that is passed, as the format's laws have it
pub of_true : {b : Bool} → b ≡ true → T b
of_true e = subst T (sym e) tt

-- the one NaN
pub nan_is : (x : Float) → is_nan x ≡ true → nan ≡ x
unfolding is_nan
nan_is nan h = refl
nan_is (inf s) h = absurd (false≢true h)
nan_is (fin s m e) h = absurd (false≢true h)

-- a pattern above infinity's, the sign taken off, reads as the NaN
pub above_infinity : (n : ℕ) → 0x7FF0_0000_0000_0000 < n % 0x8000_0000_0000_0000 → nan ≡ of_bits binary64 n
above_infinity n h = nan_is (of_bits binary64 n) (sym (nan_bits_is binary64 n) ∙ nan_bits_above binary64 n ∙ lt-ltb _ _ h)

-- any other is no NaN's
pub up_to_infinity : (n : ℕ) → n % 0x8000_0000_0000_0000 ≤ 0x7FF0_0000_0000_0000 → T (not (nan_bits binary64 n))
up_to_infinity n h = subst (λ (b : Bool). T (not b)) (sym (le-ltb _ _ h) ∙ sym (nan_bits_above binary64 n)) tt

pub zero_over_zero : nan ≡ div binary64 (of_bits binary64 0) (of_bits binary64 0)
unfolding div of_bits
zero_over_zero = refl

pub nan_pattern : nan ≡ of_bits binary64 0x7FF8_0000_0000_0000
unfolding of_bits
nan_pattern = refl

-- the pattern that stands for the NaN
pub bits_of_nan : (x : Float) → is_nan x ≡ true → 0x7FF8_0000_0000_0000 ≡ to_bits binary64 x
unfolding to_bits
bits_of_nan x h = ap (to_bits binary64) (nan_is x h)

-- the pattern of a value of the format has 64 bits
pub bits_below : (x : Float) → T (fits binary64 x) → to_bits binary64 x < 2 ^ 64
bits_below x t = to_bits-lt binary64 x t
