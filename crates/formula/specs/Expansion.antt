-- What a formula expands to: a polynomial, or 14 or 15 for the first part, from the left and from the inside, that is refused. Definitions only.
use Rattle.std.specs.Prelude.{◌-◌, Ok}
use Rattle.parts.specs.Polynomial.{multiplied}
use Rattle.parts.specs.Value.{Value, limited, joined, power_of}
use Rattle.formula.specs.Grammar.{Power, plain, power, Sum, term, join, Term, factor, times, Factor, number, letter, bracket}
use Rattle.formula.specs.Parts.{sign_of, constant, variable}

-- 'a power as repeated products from 1'
abbrev pub powered_of : Power → Value → Value
powered_of plain x = x
powered_of (power d t) x = power_of x (d - 48)

unfoldable mutual
  unfolding joined power_of limited

  pub sum_of : Sum → Value
  sum_of (term a) = term_of a
  sum_of (join a g b) = joined (sign_of g) (sum_of a) (term_of b)

  pub term_of : Term → Value
  term_of (factor a) = factor_of a
  term_of (times a b) = joined multiplied (term_of a) (factor_of b)

  pub factor_of : Factor → Value
  factor_of (number n p) = powered_of p (limited (constant n))
  factor_of (letter p) = powered_of p (Ok variable)
  factor_of (bracket a p) = powered_of p (sum_of a)
