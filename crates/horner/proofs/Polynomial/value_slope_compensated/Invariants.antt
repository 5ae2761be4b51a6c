use mathlib.Core.Path.{◌≡◌}
use Rattle.horner.specs.Horner.{compensated_step, compensated_of}
use Rattle.horner.proofs.Loops.{from_end}
use Rattle.horner.proofs.Polynomial.value_slope_compensated.Given as goal

abbrev pub invariant-loop-c : goal.invariant-loop-c
invariant-loop-c l =
    from_end (compensated_step l.y) l.c-iterator.iter.rest.now (record { v = l.v; err = l.err; s = l.s }) ≡ compensated_of l.fn.self.f l.fn.self.d l.y
