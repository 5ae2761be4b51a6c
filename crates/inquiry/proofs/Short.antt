-- An inquiry about a short list starts as the one about the whole list does.
use mathlib.Core.Path.{◌≡◌, ap}
use mathlib.Core.List.{List}
use lib.Ieee.{Float}
use Rattle.std.specs.Prelude.{Result, Ok}
use Rattle.refusals.specs.declared.Refusal.{Refusal}
use Rattle.refusals.specs.Refusals.{and_then}
use Rattle.angle.specs.declared.Sine.{Sine}
use Rattle.poly.specs.declared.Solved.{Solved}
use Rattle.poly.specs.Short.{short_of}
use Rattle.poly.proofs.Short.{short_solves}
use Rattle.inquiry.specs.Start.{fresh_by, start_of}

pub short_starts : (sine : Sine) (coeffs : List Float) (tol : Float) → start_of sine (short_of coeffs) tol ≡ start_of sine coeffs tol
unfolding start_of
short_starts sine coeffs tol = ap (λ (r : Result Solved Refusal). and_then r (λ s. Ok (fresh_by s))) (short_solves sine coeffs tol)
