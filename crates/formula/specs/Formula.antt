-- What a text is answered with. Definitions only.
use Rattle.std.specs.Prelude.{List, map, ◌++◌, ℕ, ◌-◌, length, replicate, ℤ, Float, Result, Ok, Err}
use Rattle.std.specs.Float.{binary64}
use Rattle.std.specs.Float.Ieee.{of_int}
use Rattle.refusals.specs.declared.Refusal.{Refusal}
use Rattle.refusals.specs.declared.Refusal.TheVariants.{NotASum}
use Rattle.float.specs.Literals.{zero64}
use Rattle.parts.specs.Value.{Value}
use Rattle.formula.specs.declared.Expanded.{Expanded}
use Rattle.formula.specs.Reading.{if_some, reading_of}
use Rattle.formula.specs.Expansion.{sum_of}

-- '13, the text is not a sum', which 'comes before the others'
unfoldable pub formula_of : List ℕ → Value
unfolding reading_of sum_of
formula_of s = if_some (reading_of s) (Err NotASum) sum_of

-- each is exact, and zero is +0
abbrev pub floats_of : List ℤ → List Float
floats_of p = map (of_int binary64) p

-- the coefficients for the list operation, zeros behind them
unfoldable pub expanded_of : List ℤ → Expanded
expanded_of p = record { len = length p; coeffs = floats_of p ++ replicate (5 - length p) zero64 }

unfoldable pub answered_of : Value → Result Expanded Refusal
answered_of (Ok p) = Ok (expanded_of p)
answered_of (Err refusal) = Err refusal

unfoldable pub expand_of : List ℕ → Result Expanded Refusal
unfolding formula_of answered_of
expand_of s = answered_of (formula_of s)
