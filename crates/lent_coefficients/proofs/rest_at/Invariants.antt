use mathlib.Core.Path.{◌≡◌}
use mathlib.Core.List.{foldl}
use lib.ListN.{drop}
use Rattle.poly.specs.Short.{rest_with, rest_of}
use Rattle.lent_coefficients.specs.Coefficients.{coefficients_at}
use Rattle.lent_coefficients.proofs.rest_at.Given as goal

abbrev pub invariant-loop-i : goal.invariant-loop-i
invariant-loop-i l = foldl rest_with l.rest (drop l.i (coefficients_at l.s)) ≡ rest_of (drop 5 (coefficients_at l.s))
