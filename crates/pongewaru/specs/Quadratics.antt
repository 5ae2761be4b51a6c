-- A quadratic's answer as it is handed in and out, and the crank's quartic. Definitions only.
use Rattle.std.specs.Prelude.{cond, List, [], ◌∷◌, ℕ, eqb, get_or, Float}
use Rattle.std.specs.Float.{nan}
use Rattle.solution.specs.declared.QuadraticSolution.{QuadraticSolution}
use Rattle.solution.specs.declared.QuadraticSolution.TheVariants.{Two, One, Linear, Degenerate, Empty}
use Rattle.trig_quartic.specs.declared.TrigEquation.{TrigEquation}
use Rattle.trig_quartic.specs.declared.Crank.{Crank}
use Rattle.solution.specs.Solution.{number_of, values_of}
use Rattle.lent_bytes.specs.Numbers.{number, five}

-- the answer whose number is n, with its places: empty from 4 on
unfoldable pub solution_of : ℕ → Float → Float → QuadraticSolution
solution_of n x y = cond (eqb n 0) (Two x y) (cond (eqb n 1) (One x) (cond (eqb n 2) (Linear x) (cond (eqb n 3) Degenerate Empty)))

-- its number, its first and its second place
unfoldable pub solution_numbers : QuadraticSolution → List Float
unfolding number_of values_of
solution_numbers s = number (number_of s) ∷ get_or (values_of s) 0 nan ∷ get_or (values_of s) 1 nan ∷ []

-- the equation with these numbers
abbrev pub trig_of : Float → Float → Float → Float → Float → TrigEquation
trig_of a2 b2 c1 d1 e = record { a2 = a2; b2 = b2; c1 = c1; d1 = d1; e = e }

-- k, and the quartic
abbrev pub front_numbers : Crank → List Float
front_numbers f = number f.k ∷ five f.q
