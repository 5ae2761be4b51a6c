-- What is claimed of formulas: request Three of document 02. Statements only; proofs/Theorem.antt has the proof, for texts of any bytes and any length, and for
-- all bits of the tolerance. `Grammar` of formula has the trees and their texts, `Parts` what a tree stands for, with no limit, and its parts.
use Rattle.std.specs.Prelude.{◌≡◌, true, false, List, ◌⊎◌, ℕ, suc, ◌≤◌, ◌<◌, length, get_or, take, replicate, ℤ, pos, negsuc, Float}
use Rattle.std.specs.Float.{nan}
use Rattle.std.specs.Float.Ieee.Exact.{HasValue}
use Rattle.refusals.specs.Refusals.{outcome_of, value_or}
use Rattle.float.specs.Literals.{zero64}
use Rattle.roots.specs.Roots.{list_of, no_roots}
use Rattle.roots.specs.Listed.{Within, Fits}
use Rattle.angle.specs.declared.Sine.{Sine}
use Rattle.poly.specs.Coefficients.{degree_left}
use Rattle.poly.specs.RealRoots.{roots_in, real_roots_of}
use Rattle.poly.specs.Conditions.{AllDoubles, Exactly}
use Rattle.parts.specs.Polynomial.{coefficient_of, value_at}
use Rattle.formula.specs.declared.Expanded.{Expanded}
use Rattle.formula.specs.Grammar.{Sum, Derives}
use Rattle.formula.specs.Parts.{sum_polynomial, sum_parts, AllMeet, FirstHigh, FirstLarge}
use Rattle.formula.specs.Meaning.{sum_at}
use Rattle.formula.specs.Formula.{formula_of, expand_of}
use Rattle.formula_roots.specs.FormulaRoots.{handed_on, formula_roots_of}

-- no power of t is left, or one is
abbrev pub Constant : List ℤ → Type 0
Constant p = (k : ℕ) → 1 ≤ k → coefficient_of p k ≡ pos 0

abbrev pub Varying : List ℤ → Type 0
Varying p = (k : ℕ) × (1 ≤ k) × (coefficient_of p k ≡ pos 0 → ⊥)

-- Each number, 0 for an answer too, stands exactly for its condition on the text. There are no others: 1 and 3 to 12 never come.
pub record Numbers (s : List ℕ) (number : ℕ) : Type 0 where
  -- '13, the text is not a sum'; '13 comes before the others'
  pub thirteen : Exactly (number ≡ 13) ((a : Sum) → Derives s a → ⊥)
  -- '14, some part of it has degree above 4 after zero terms are dropped'; 'of 14 and 15 the one met first decides, 14 where one product meets both'
  pub fourteen : Exactly (number ≡ 14) ((a : Sum) × Derives s a × FirstHigh (sum_parts a))
  -- '15, some coefficient of a part is above 2^53 in size'
  pub fifteen : Exactly (number ≡ 15) ((a : Sum) × Derives s a × FirstLarge (sum_parts a))
  -- 'the list operation, whose answer or refusal': 2 is the list's own
  pub two : Exactly (number ≡ 2) ((a : Sum) × Derives s a × AllMeet (sum_parts a) × Constant (sum_polynomial a))
  pub zero : Exactly (number ≡ 0) ((a : Sum) × Derives s a × AllMeet (sum_parts a) × Varying (sum_polynomial a))
  pub no_other : (number ≡ 0) ⊎ ((number ≡ 2) ⊎ ((13 ≤ number) × (number ≤ 15)))

-- x is exactly z: finite, of that size and sign, + for zero
abbrev pub Whole : Float → ℤ → Type 0
Whole x (pos n) = HasValue x false n 1
Whole x (negsuc n) = HasValue x true (suc n) 1

-- these doubles are the coefficients of p, exactly, up to the last that is no zero
pub record Result (p : List ℤ) (coeffs : List Float) : Type 0 where
  pub five : length coeffs ≤ 5
  pub doubles : AllDoubles coeffs
  pub each : (k : ℕ) → k < length coeffs → Whole (get_or coeffs k nan) (coefficient_of p k)
  pub last : (k : ℕ) → length coeffs ≡ suc k → coefficient_of p k ≡ pos 0 → ⊥
  pub behind : (k : ℕ) → length coeffs ≤ k → coefficient_of p k ≡ pos 0

-- what a text expands to, and nothing where it is refused
abbrev pub expanded_in : List ℕ → Expanded
expanded_in s = value_or (record { len = 0; coeffs = replicate 5 zero64 }) (expand_of s)

-- What holds of every text.
pub record Formulas (sine : Sine) (s : List ℕ) (tol : Float) : Type 0 where
  -- 'with one reading each'
  pub one_reading : (a b : Sum) → Derives s a → Derives s b → a ≡ b
  pub numbers : Numbers s (outcome_of (formula_roots_of sine s tol))
  -- 'Expansion is exact over whole numbers': the polynomial of a tree is worth, at every whole number, what the formula is
  pub exact : (a : Sum) (x : ℤ) → value_at (sum_polynomial a) x ≡ sum_at x a
  -- 'The texts that reach it are exactly those the grammar derives that meet the limits below'
  pub reached : Exactly (outcome_of (expand_of s) ≡ 0) ((a : Sum) × Derives s a × AllMeet (sum_parts a))
  -- 'The result, zero being +0, goes to the list operation, whose answer or refusal prints'
  pub result : (a : Sum) → Derives s a → AllMeet (sum_parts a)
      → Result (sum_polynomial a) (handed_on (formula_of s)) × (formula_roots_of sine s tol ≡ real_roots_of sine (handed_on (formula_of s)) tol)
  pub handed : take (expanded_in s).len (expanded_in s).coeffs ≡ handed_on (formula_of s)
  -- a text that does not reach it is answered with its number
  pub stopped : 0 < outcome_of (expand_of s) → outcome_of (formula_roots_of sine s tol) ≡ outcome_of (expand_of s)
  -- demand 1; no root where it is refused
  pub roots : Within (degree_left (handed_on (formula_of s))) (list_of (roots_in (formula_roots_of sine s tol)))
  pub array : Fits (roots_in (formula_roots_of sine s tol))
  pub refused : 0 < outcome_of (formula_roots_of sine s tol) → roots_in (formula_roots_of sine s tol) ≡ no_roots
