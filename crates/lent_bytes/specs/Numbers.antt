-- Numbers of an answer as doubles. Definitions only.
use Rattle.std.specs.Prelude.{Bool, cond, List, [], ◌∷◌, ℕ, ltb, pos, get_or, Float}
use Rattle.std.specs.Float.{nan, binary64}
use Rattle.std.specs.Float.Ieee.{of_int}
use Rattle.float.specs.Literals.{zero64, one64}

-- n as f64
abbrev pub number : ℕ → Float
number n = of_int binary64 (pos n)

-- the first five of an array
abbrev pub five : List Float → List Float
five x = get_or x 0 nan ∷ get_or x 1 nan ∷ get_or x 2 nan ∷ get_or x 3 nan ∷ get_or x 4 nan ∷ []

-- 1 for yes, 0 for no
abbrev pub flag_of : Bool → Float
flag_of b = cond b one64 zero64

-- x for an n up to the most it may be, and NaN beyond it
unfoldable pub up_to : ℕ → ℕ → Float → Float
up_to most n x = cond (ltb most n) nan x
