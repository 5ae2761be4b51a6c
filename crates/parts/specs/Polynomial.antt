-- Polynomials over the whole numbers, exactly: their coefficients, that of t^0 first. Definitions only.
use Rattle.std.specs.Prelude.{cond, List, [], ◌∷◌, map, ℕ, eqb, get_or, ℤ, pos, neg_ℤ, nat_abs, ◌+ℤ◌, ◌*ℤ◌}

-- the coefficient of t^k
abbrev pub coefficient_of : List ℤ → ℕ → ℤ
coefficient_of p k = get_or p k (pos 0)

abbrev pub added : List ℤ → List ℤ → List ℤ
added [] q = q
added (a ∷ p) [] = a ∷ p
added (a ∷ p) (b ∷ q) = (a +ℤ b) ∷ added p q

abbrev pub subtracted : List ℤ → List ℤ → List ℤ
subtracted p q = added p (map neg_ℤ q)

-- (a + t p) q = a q + t (p q)
abbrev pub multiplied : List ℤ → List ℤ → List ℤ
multiplied [] q = []
multiplied (a ∷ p) q = added (map (λ b. a *ℤ b) q) (pos 0 ∷ multiplied p q)

-- a + t p, where p is without zeros at its end
abbrev pub led : ℤ → List ℤ → List ℤ
led a [] = cond (eqb (nat_abs a) 0) [] (a ∷ [])
led a (b ∷ p) = a ∷ b ∷ p

-- 'after zero terms are dropped': without zeros at its end
abbrev pub trimmed : List ℤ → List ℤ
trimmed [] = []
trimmed (a ∷ p) = led a (trimmed p)

-- the value at t = x
abbrev pub value_at : List ℤ → ℤ → ℤ
value_at [] x = pos 0
value_at (a ∷ p) x = a +ℤ x *ℤ value_at p x
