-- The coefficients of a sum, a difference and a product, as code makes them; `made_at` says that they are those of `added`, `subtracted` and
-- `multiplied`. Definitions only.
use Rattle.std.specs.Prelude.{List, ℕ, zero, suc, ◌+◌, ◌-◌, max, ℤ, pos, neg_ℤ, ◌+ℤ◌, ◌*ℤ◌}
use Rattle.parts.specs.declared.Operator.{Operator}
use Rattle.parts.specs.declared.Operator.TheVariants.{Sum, Difference, Product}
use Rattle.parts.specs.Polynomial.{added, subtracted, multiplied}

-- a_0 b_k + a_1 b_(k-1) + .., n products of them
abbrev pub products_to : (ℕ → ℤ) → (ℕ → ℤ) → ℕ → ℕ → ℤ
products_to a b k zero = pos 0
products_to a b k (suc n) = products_to a b k n +ℤ a n *ℤ b (k - n)

-- the coefficient of t^k
abbrev pub made_of : Operator → (ℕ → ℤ) → (ℕ → ℤ) → ℕ → ℤ
made_of Sum a b k = a k +ℤ b k
made_of Difference a b k = a k +ℤ neg_ℤ (b k)
made_of Product a b k = products_to a b k (suc k)

-- how many coefficients there can be where the operands have m and n: the degree of a product is the sum of the degrees
abbrev pub made_length : Operator → ℕ → ℕ → ℕ
made_length Sum m n = max m n
made_length Difference m n = max m n
made_length Product m n = m + n - 1

abbrev pub operator_of : Operator → List ℤ → List ℤ → List ℤ
operator_of Sum p q = added p q
operator_of Difference p q = subtracted p q
operator_of Product p q = multiplied p q
