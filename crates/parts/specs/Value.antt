-- What a part of a formula comes to, within the limits that 14 and 15 name. Definitions only.
use Rattle.std.specs.Prelude.{Bool, false, ◌||◌, cond, List, [], ◌∷◌, ℕ, zero, suc, ◌^◌, ltb, length, ℤ, pos, nat_abs, Result, Ok, Err}
use Rattle.refusals.specs.declared.Refusal.{Refusal}
use Rattle.refusals.specs.declared.Refusal.TheVariants.{DegreeTooHigh, CoefficientTooLarge}
use Rattle.parts.specs.Polynomial.{multiplied, trimmed}

-- a polynomial, its last coefficient no zero, or its refusal
abbrev pub Value : Type 0
Value = Result (List ℤ) Refusal

-- some coefficient is above 2^53 in size
abbrev pub too_large : List ℤ → Bool
too_large [] = false
too_large (a ∷ p) = ltb (2 ^ 53) (nat_abs a) || too_large p

-- '14, some part of it has degree above 4 after zero terms are dropped; 15, some coefficient of a part is above 2^53 in size'; '14 where one product
-- meets both'
unfoldable pub limited : List ℤ → Value
limited p =
    let q = trimmed p in
    cond (ltb 5 (length q)) (Err DegreeTooHigh) (cond (too_large q) (Err CoefficientTooLarge) (Ok q))

-- 'the left operand first, then the right, then their operator'
unfoldable pub joined : (List ℤ → List ℤ → List ℤ) → Value → Value → Value
unfolding limited
joined op (Err refusal) y = Err refusal
joined op (Ok p) (Err refusal) = Err refusal
joined op (Ok p) (Ok q) = limited (op p q)

-- 'a power as repeated products from 1', 'The power 0 gives 1'
unfoldable pub power_of : Value → ℕ → Value
unfolding joined
power_of (Err refusal) k = Err refusal
power_of (Ok p) zero = Ok (pos 1 ∷ [])
power_of (Ok p) (suc k) = joined multiplied (power_of (Ok p) k) (Ok p)
