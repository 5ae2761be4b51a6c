-- What a formula is, exactly: the polynomial of a tree, its parts in the order in which they are met, and what it is for a part to meet the limits.
-- Nothing is cut short here: a part behind one that is too high or too large is a part like any other. Definitions only.
use Rattle.std.specs.Prelude.{◌≡◌, List, [], ◌∷◌, ◌++◌, ℕ, zero, suc, ◌+◌, ◌-◌, ◌*◌, ◌^◌, ◌≤◌, ◌<◌, length, get_or, ℤ, pos, nat_abs}
use Rattle.parts.specs.Polynomial.{coefficient_of, added, subtracted, multiplied}
use Rattle.formula.specs.Grammar.{Number, Sign, plus, minus, Power, plain, power, Sum, term, join, Term, factor, times, Factor, number, letter, bracket}

-- ---- the polynomial

-- digits read from the left, behind n
abbrev pub digits_from : ℕ → List ℕ → ℕ
digits_from n [] = n
digits_from n (b ∷ s) = digits_from (10 * n + (b - 48)) s

abbrev pub constant : Number → List ℤ
constant n = pos (digits_from 0 n.digits) ∷ []

abbrev pub variable : List ℤ
variable = pos 0 ∷ pos 1 ∷ []

abbrev pub sign_of : Sign → List ℤ → List ℤ → List ℤ
sign_of plus p q = added p q
sign_of minus p q = subtracted p q

-- 'a power as repeated products from 1', 'The power 0 gives 1'
abbrev pub repeated : List ℤ → ℕ → List ℤ
repeated p zero = pos 1 ∷ []
repeated p (suc k) = multiplied (repeated p k) p

abbrev pub power_polynomial : Power → List ℤ → List ℤ
power_polynomial plain p = p
power_polynomial (power d t) p = repeated p (d - 48)

abbrev mutual
  pub sum_polynomial : Sum → List ℤ
  sum_polynomial (term a) = term_polynomial a
  sum_polynomial (join a g b) = sign_of g (sum_polynomial a) (term_polynomial b)

  pub term_polynomial : Term → List ℤ
  term_polynomial (factor a) = factor_polynomial a
  term_polynomial (times a b) = multiplied (term_polynomial a) (factor_polynomial b)

  pub factor_polynomial : Factor → List ℤ
  factor_polynomial (number n p) = power_polynomial p (constant n)
  factor_polynomial (letter p) = power_polynomial p variable
  factor_polynomial (bracket a p) = power_polynomial p (sum_polynomial a)

-- ---- the parts: every number, t, bracket, each product of a power and each join

-- the products of a power: p^1, p^2, .. p^k
abbrev pub products : List ℤ → ℕ → List (List ℤ)
products p zero = []
products p (suc k) = products p k ++ repeated p (suc k) ∷ []

abbrev pub power_parts : Power → List ℤ → List (List ℤ)
power_parts plain p = []
power_parts (power d t) p = products p (d - 48)

-- 'the left operand first, then the right, then their operator'
abbrev mutual
  pub sum_parts : Sum → List (List ℤ)
  sum_parts (term a) = term_parts a
  sum_parts (join a g b) = sum_parts a ++ term_parts b ++ sum_polynomial (join a g b) ∷ []

  pub term_parts : Term → List (List ℤ)
  term_parts (factor a) = factor_parts a
  term_parts (times a b) = term_parts a ++ factor_parts b ++ term_polynomial (times a b) ∷ []

  pub factor_parts : Factor → List (List ℤ)
  factor_parts (number n p) = constant n ∷ power_parts p (constant n)
  factor_parts (letter p) = variable ∷ power_parts p variable
  factor_parts (bracket a p) = sum_parts a ++ sum_polynomial a ∷ power_parts p (sum_polynomial a)

-- ---- the limits

-- 'degree above 4 after zero terms are dropped': some coefficient beyond t^4 is no zero
abbrev pub High : List ℤ → Type 0
High p = (k : ℕ) × (5 ≤ k) × (coefficient_of p k ≡ pos 0 → ⊥)

-- 'some coefficient of a part is above 2^53 in size'
abbrev pub Large : List ℤ → Type 0
Large p = (k : ℕ) × (2 ^ 53 < nat_abs (coefficient_of p k))

-- 'meet the limits': neither
abbrev pub Meets : List ℤ → Type 0
Meets p = (High p → ⊥) × (Large p → ⊥)

-- '14 where one product meets both'
abbrev pub OnlyLarge : List ℤ → Type 0
OnlyLarge p = Large p × (High p → ⊥)

abbrev pub part_at : List (List ℤ) → ℕ → List ℤ
part_at parts i = get_or parts i []

abbrev pub AllMeet : List (List ℤ) → Type 0
AllMeet parts = (i : ℕ) → i < length parts → Meets (part_at parts i)

-- the first part that does not meet the limits is such
abbrev pub First : (List ℤ → Type 0) → List (List ℤ) → Type 0
First Such parts = (i : ℕ) × (i < length parts) × Such (part_at parts i) × ((j : ℕ) → j < i → Meets (part_at parts j))

-- 'of 14 and 15 the one met first decides'
abbrev pub FirstHigh : List (List ℤ) → Type 0
FirstHigh parts = First High parts

abbrev pub FirstLarge : List (List ℤ) → Type 0
FirstLarge parts = First OnlyLarge parts
