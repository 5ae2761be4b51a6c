-- What a part stands for. Definitions only.
use Rattle.std.specs.Prelude.{ℕ, length, ℤ, Result, Ok, Err}
use Rattle.refusals.specs.declared.Refusal.{Refusal}
use Rattle.parts.specs.declared.part.Part.{Part}
use Rattle.parts.specs.Polynomial.{coefficient_of, trimmed}
use Rattle.parts.specs.Value.{Value}

abbrev pub coefficient_in : Part → ℕ → ℤ
coefficient_in a k = coefficient_of a.coeffs k

-- the polynomial, or the refusal
abbrev pub value_in : Result Part Refusal → Value
value_in (Ok a) = Ok (trimmed a.coeffs)
value_in (Err refusal) = Err refusal

-- how many coefficients there are up to the last that is no zero
abbrev pub length_in : Part → ℕ
length_in a = length (trimmed a.coeffs)
