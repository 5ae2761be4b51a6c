-- What `listed` ends with, by what the list was solved to: the list for these replies, or its refusal.
use mathlib.Core.Path.{◌≡◌, refl, ap, ◌∙◌}
use mathlib.Core.List.{List}
use lib.Ieee.{Float}
use Rattle.std.specs.Prelude.{ℕ, Result, Ok, Err}
use Rattle.tally.specs.declared.Tallied.{Tallied}
use Rattle.tally.specs.Tally.{answer_in}
use Rattle.refusals.specs.declared.Refusal.{Refusal}
use Rattle.refusals.specs.Refusals.{and_then}
use Rattle.float.specs.Literals.{zero64}
use Rattle.float.specs.Methods.{max_of}
use Rattle.roots.specs.declared.Roots.{Roots}
use Rattle.roots.specs.Roots.{roots_of}
use Rattle.angle.specs.declared.Sine.{Sine}
use Rattle.poly.specs.declared.Solved.{Solved}
use Rattle.poly.specs.Coefficients.{zeros_of, counted_of, poly_of}
use Rattle.poly.specs.Solve.{finished_of, solve_of}
use Rattle.poly.specs.Brief.{relogged, ButLogs}
use Rattle.inquiry.specs.Start.{real_roots_touching_of}
use Rattle.contact.specs.declared.Path.{Path}
use Rattle.contact.specs.Contact.{touches_of, listed_of}

module _ (sine : Sine) (confusion : Float) (p : Path) (r : Float) (coeffs : List Float) where
  abbrev list : Roots
  list = roots_of (real_roots_touching_of sine (touches_of confusion p r) coeffs confusion)

  same : (lg : List Float) (n : Result ℕ Refusal)
      → and_then (and_then (and_then n (λ n. Ok (finished_of sine (poly_of coeffs) (zeros_of coeffs) (max_of confusion zero64)))) (λ s. Ok (relogged lg s)))
      (λ s. Ok list)
      ≡ and_then n (λ n. Ok list)
  same lg (Ok n) = refl
  same lg (Err refusal) = refl

  pub listed_is : (s : Result Solved Refusal) → ButLogs s (solve_of sine coeffs confusion) → and_then s (λ s. Ok list) ≡ listed_of sine confusion p r coeffs
  unfolding listed_of solve_of
  listed_is s (lg, b) = rw b (same lg (counted_of coeffs))

  pub listed_refused : (refusal : Refusal) {answer : Result (Tallied Roots) Refusal} → ButLogs (Err refusal) (solve_of sine coeffs confusion)
      → answer ≡ Err refusal → answer_in answer ≡ listed_of sine confusion p r coeffs
  listed_refused refusal b is = ap answer_in is ∙ listed_is (Err refusal) b
