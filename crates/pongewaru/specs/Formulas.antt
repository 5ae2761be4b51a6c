-- What the C functions for formulas store, and their refusals. Definitions only.
use Rattle.std.specs.Prelude.{Bool, List, ◌∷◌, ℕ, ltb, length, Float}
use Rattle.angle.specs.declared.Sine.{Sine}
use Rattle.refusals.specs.declared.Refusal.TheVariants.{TextTooLong}
use Rattle.refusals.specs.Refusals.{number_of, outcome_of}
use Rattle.poly.specs.RealRoots.{roots_in}
use Rattle.formula.specs.declared.Expanded.{Expanded}
use Rattle.formula.specs.Formula.{expand_of}
use Rattle.formula_roots.specs.FormulaRoots.{formula_roots_of, formula_systems_of}
use Rattle.formula_roots.specs.Claims.{expanded_in}
use Rattle.lent_bytes.specs.Bytes.{unless}
use Rattle.lent_bytes.specs.Numbers.{number, five}
use Rattle.pongewaru.specs.Lists.{told_numbers}

-- the text has more bytes than a record holds
abbrev pub too_long : List ℕ → Bool
too_long s = ltb 255 (length s)

-- the refusal of its roots, and their numbers
abbrev pub formula_refusal : Sine → List ℕ → Float → ℕ
formula_refusal sine s tol = unless (number_of TextTooLong) (too_long s) (outcome_of (formula_roots_of sine s tol))

abbrev pub formula_numbers : Sine → List ℕ → Float → List Float
formula_numbers sine s tol = told_numbers (roots_in (formula_roots_of sine s tol)) (formula_systems_of sine s tol)

-- how many coefficients there are, and all five
abbrev pub expanded_numbers : Expanded → List Float
expanded_numbers e = number e.len ∷ five e.coeffs

-- the refusal of its coefficients, and their numbers
abbrev pub coefficients_refusal : List ℕ → ℕ
coefficients_refusal s = unless (number_of TextTooLong) (too_long s) (outcome_of (expand_of s))

abbrev pub coefficients_numbers : List ℕ → List Float
coefficients_numbers s = expanded_numbers (expanded_in s)
