-- At every whole number the polynomial of a tree is worth what school arithmetic on the tree gives: `sum_value`.
use mathlib.Core.Path.{◌≡◌, ap, ap₂, ◌∙◌}
use mathlib.Core.List.{List, [], ◌∷◌}
use Prim.Native.Nat.{ℕ, zero, suc, ◌-◌}
use lib.IntN.{ℤ, pos, ◌+ℤ◌, ◌*ℤ◌, one, pow, *ℤ-zero}
use Rattle.algebra.specs.RingInt.{ringℤ, #, ◌:+◌, ◌:*◌, ◌:=◌}
use Rattle.parts.specs.Polynomial.{value_at}
use Rattle.parts.proofs.Values.{added_value, subtracted_value, multiplied_value}
use Rattle.formula.specs.Grammar.{Sign, plus, minus, Power, plain, power, Sum, term, join, Term, factor, times, Factor, number, letter, bracket}
use Rattle.formula.specs.Meaning.{sign_value, power_at, sum_at, term_at, factor_at}
use Rattle.formula.specs.Parts.{digits_from, sign_of, variable, repeated, power_polynomial, sum_polynomial, term_polynomial, factor_polynomial}

module _ (x : ℤ) where
  sign_is : (g : Sign) (p q : List ℤ) → value_at (sign_of g p q) x ≡ sign_value g (value_at p x) (value_at q x)
  sign_is plus p q = added_value p q x
  sign_is minus p q = subtracted_value p q x

  repeated_value : (p : List ℤ) (k : ℕ) → value_at (repeated p k) x ≡ pow (value_at p x) k
  unfolding pow one
  repeated_value p zero = ap (λ (y : ℤ). pos 1 +ℤ y) (*ℤ-zero x)
  repeated_value p (suc k) = multiplied_value (repeated p k) p x ∙ ap (λ (y : ℤ). y *ℤ value_at p x) (repeated_value p k)

  power_value : (a : Power) (p : List ℤ) (z : ℤ) → value_at p x ≡ z → value_at (power_polynomial a p) x ≡ power_at a z
  power_value plain p z e = e
  power_value (power d t) p z e = repeated_value p (d - 48) ∙ ap (λ (y : ℤ). pow y (d - 48)) e

  constant_value : (z : ℤ) → value_at (z ∷ []) x ≡ z
  constant_value z = ringℤ 2 (λ z x. z :+ x :* # 0 := z) tt z x

  variable_value : value_at variable x ≡ x
  variable_value = ringℤ 1 (λ x. # 0 :+ x :* (# 1 :+ x :* # 0) := x) tt x

  mutual
    pub sum_value : (a : Sum) → value_at (sum_polynomial a) x ≡ sum_at x a
    sum_value (term a) = term_value a
    sum_value (join a g b) = sign_is g (sum_polynomial a) (term_polynomial b) ∙ ap₂ (sign_value g) (sum_value a) (term_value b)

    term_value : (a : Term) → value_at (term_polynomial a) x ≡ term_at x a
    term_value (factor a) = factor_value a
    term_value (times a b) = multiplied_value (term_polynomial a) (factor_polynomial b) x ∙ ap₂ ◌*ℤ◌ (term_value a) (factor_value b)

    factor_value : (a : Factor) → value_at (factor_polynomial a) x ≡ factor_at x a
    factor_value (number n p) = let z = pos (digits_from 0 n.digits) in power_value p (z ∷ []) z (constant_value z)
    factor_value (letter p) = power_value p variable x variable_value
    factor_value (bracket a p) = power_value p (sum_polynomial a) (sum_at x a) (sum_value a)
