use mathlib.Core.Path.{◌≡◌}
use Rattle.horner.specs.Loops.{down_to}
use Rattle.horner.specs.Taylor.{derivs_step, derivs12_of}
use Rattle.horner.proofs.Polynomial.derivs12.Given as goal

abbrev pub invariant-loop-i : goal.invariant-loop-i
invariant-loop-i l = down_to 1 (derivs_step l.self.f l.y) l.i (record { d1 = l.d1; d2 = l.d2 }) ≡ derivs12_of l.self.f l.self.d l.y
