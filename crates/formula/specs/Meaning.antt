-- What a formula is worth at a whole number x in place of t: school arithmetic on the tree, with no limit. Definitions only.
use Rattle.std.specs.Prelude.{◌-◌, ℤ, pos, ◌+ℤ◌, ◌-ℤ◌, ◌*ℤ◌}
use Rattle.std.proofs.Math.IntN.{pow}
use Rattle.formula.specs.Grammar.{Sign, plus, minus, Power, plain, power, Sum, term, join, Term, factor, times, Factor, number, letter, bracket}
use Rattle.formula.specs.Parts.{digits_from}

abbrev pub sign_value : Sign → ℤ → ℤ → ℤ
sign_value plus y z = y +ℤ z
sign_value minus y z = y -ℤ z

abbrev pub power_at : Power → ℤ → ℤ
power_at plain z = z
power_at (power d t) z = pow z (d - 48)

abbrev mutual
  pub sum_at : ℤ → Sum → ℤ
  sum_at x (term a) = term_at x a
  sum_at x (join a g b) = sign_value g (sum_at x a) (term_at x b)

  pub term_at : ℤ → Term → ℤ
  term_at x (factor a) = factor_at x a
  term_at x (times a b) = term_at x a *ℤ factor_at x b

  pub factor_at : ℤ → Factor → ℤ
  factor_at x (number n p) = power_at p (pos (digits_from 0 n.digits))
  factor_at x (letter p) = power_at p x
  factor_at x (bracket a p) = power_at p (sum_at x a)
