-- What the functions that take a double apart return. Definitions only.
use Rattle.std.specs.Prelude.{Bool, false, ltb, ℤ, pos, Float}
use Rattle.std.specs.Float.{nan, inf, fin}
use Rattle.std.specs.Float.Ieee.{minus, size}
use Rattle.float.specs.Units.{units_of}

-- 'the exact exponent': the greatest k with 2 ^ k ≤ |x|. 'The exponent of a number below 2^-1022 comes from its highest set bit': so does every
-- other here, from the size of its units. -1075 for a zero and 1024 for an infinity and a NaN, below and above all others.
unfoldable pub exponent_of : Float → ℤ
unfolding size
exponent_of nan = pos 1024
exponent_of (inf s) = pos 1024
exponent_of (fin s m e) = minus (size (units_of (fin s m e))) 1075

-- finite and not zero
abbrev pub regular_of : Float → Bool
regular_of nan = false
regular_of (inf s) = false
regular_of (fin s m e) = ltb 0 m
