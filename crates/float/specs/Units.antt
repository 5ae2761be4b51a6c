-- A finite double, and its size in whole numbers. Definitions only.
use Rattle.std.specs.Prelude.{◌≡◌, true, ℕ, ◌*◌, ◌/◌, ◌^◌, Float}
use Rattle.std.specs.Float.{nan, inf, fin, binary64}
use Rattle.std.specs.Float.Ieee.{fits, up, down}
use Rattle.float.specs.Methods.{is_finite_of}

-- a finite double: a value of binary64 that is no NaN and no infinity
pub record Finite (x : Float) : Type 0 where
  pub held : fits binary64 x ≡ true
  pub finite : is_finite_of x ≡ true

-- The size of a finite double, in units of the smallest positive one, 2 ^ -1074: a whole number. 0 for a NaN and an infinity.
abbrev pub units_of : Float → ℕ
units_of nan = 0
units_of (inf s) = 0
units_of (fin s m e) = m * up e * 2 ^ 1074 / down e
