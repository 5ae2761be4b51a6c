-- The roots of a formula: request Three of document 02. Definitions only.
use Rattle.std.specs.Prelude.{List, [], ℕ, Float, Result, Ok, Err}
use Rattle.refusals.specs.declared.Refusal.{Refusal}
use Rattle.roots.specs.declared.Roots.{Roots}
use Rattle.angle.specs.declared.Sine.{Sine}
use Rattle.poly.specs.RealRoots.{real_roots_of, real_roots_systems_of}
use Rattle.parts.specs.Value.{Value}
use Rattle.formula.specs.Formula.{formula_of, floats_of}

-- 'The result, zero being +0, goes to the list operation'; of a refusal nothing does
abbrev pub handed_on : Value → List Float
handed_on (Ok p) = floats_of p
handed_on (Err refusal) = []

-- 'whose answer or refusal prints like PL'; a refusal of the text is the answer
unfoldable pub solved_of : Sine → Value → Float → Result Roots Refusal
solved_of sine (Ok p) tol = real_roots_of sine (floats_of p) tol
solved_of sine (Err refusal) tol = Err refusal

unfoldable pub formula_roots_of : Sine → List ℕ → Float → Result Roots Refusal
unfolding formula_of solved_of
formula_roots_of sine s tol = solved_of sine (formula_of s) tol

-- how many systems were solved for it: those of the list that is handed on; a refused text hands on nothing, of which the list is refused too
unfoldable pub formula_systems_of : Sine → List ℕ → Float → ℕ
formula_systems_of sine s tol = real_roots_systems_of sine (handed_on (formula_of s)) tol
