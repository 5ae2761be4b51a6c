-- A list of six numbers in place of a list of any length: it is solved alike (proofs/Short.antt). Definitions only.
use Rattle.std.specs.Prelude.{cond, ℕ, zero, suc, Float}
use mathlib.Core.List.{List, [], ◌∷◌, foldl}
use Rattle.std.specs.Float.Ieee.{eq}
use Rattle.float.specs.Literals.{zero64}
use Rattle.float.specs.Methods.{is_finite_of}

-- the number that stands for those that rest stands for, and for x: one that is not finite, else one that is no zero, else a zero
unfoldable pub rest_with : Float → Float → Float
rest_with rest x = cond (is_finite_of rest) (cond (eq x zero64) rest x) rest

-- the same for a list
unfoldable pub rest_of : List Float → Float
rest_of l = foldl rest_with zero64 l

-- the first k, zeros where there are fewer, and one number for the rest
unfoldable pub short_from : ℕ → List Float → List Float
short_from zero l = rest_of l ∷ []
short_from (suc k) [] = zero64 ∷ short_from k []
short_from (suc k) (x ∷ l) = x ∷ short_from k l

-- five, as a polynomial of degree 4 has
abbrev pub short_of : List Float → List Float
short_of coeffs = short_from 5 coeffs
