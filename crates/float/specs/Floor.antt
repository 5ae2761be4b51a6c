-- A double rounded down to a whole number. Definitions only.
use Rattle.std.specs.Prelude.{true, false, cond, ℕ, ◌+◌, ◌-◌, ◌*◌, ◌/◌, min, Float}
use Rattle.std.specs.Float.{nan, inf, fin}
use Rattle.std.specs.Float.Ieee.{up, down}

-- The greatest whole number that is not above x, with 8192 added and kept from 0 to 16383, so that it is unsigned. NaN and -infinity give 0, infinity 16383.
-- The reference build: `exp2` of the gap's middle: `ldexp(1.0, k)`, k the middle rounded down. (A power of two beyond these bounds is 0 or infinity.)
unfoldable pub floor_of : Float → ℕ
floor_of nan = 0
floor_of (inf s) = cond s 0 16383
floor_of (fin false m e) = min (8192 + m * up e / down e) 16383
floor_of (fin true m e) = 8192 - (m * up e + (down e - 1)) / down e
