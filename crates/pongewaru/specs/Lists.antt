-- What the export for lists stores, and its refusal. Definitions only.
use Rattle.std.specs.Prelude.{Bool, List, [], ◌∷◌, ◌++◌, ℕ, ◌*◌, ◌/◌, ltb, length, Float, Result}
use Rattle.angle.specs.declared.Sine.{Sine}
use Rattle.refusals.specs.declared.Refusal.{Refusal}
use Rattle.refusals.specs.declared.Refusal.TheVariants.{CutDouble}
use Rattle.refusals.specs.Refusals.{number_of, outcome_of}
use Rattle.roots.specs.declared.Roots.{Roots}
use Rattle.poly.specs.RealRoots.{real_roots_of, real_roots_systems_of, roots_in}
use Rattle.lent_bytes.specs.Bytes.{unless}
use Rattle.lent_coefficients.specs.Coefficients.{coefficients_at}
use Rattle.lent_bytes.specs.Numbers.{number}
use Rattle.lent_bytes.specs.Lists.{root_numbers}

-- the bytes are no whole doubles
abbrev pub not_doubles : List ℕ → Bool
not_doubles s = ltb (8 * (length s / 8)) (length s)

-- the list, and how many systems were solved for it
unfoldable pub told_numbers : Roots → ℕ → List Float
told_numbers roots systems = root_numbers roots ++ (number systems ∷ [])

-- the answer to the doubles in the bytes
unfoldable pub answer_at : Sine → List ℕ → Float → Result Roots Refusal
answer_at sine s tol = real_roots_of sine (coefficients_at s) tol

-- its refusal, which the bytes have where they are no doubles, and its numbers
abbrev pub list_refusal : Sine → List ℕ → Float → ℕ
list_refusal sine s tol = unless (number_of CutDouble) (not_doubles s) (outcome_of (answer_at sine s tol))

abbrev pub list_numbers : Sine → List ℕ → Float → List Float
list_numbers sine s tol = told_numbers (roots_in (answer_at sine s tol)) (real_roots_systems_of sine (coefficients_at s) tol)
