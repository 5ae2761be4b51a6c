use mathlib.Core.Path.{◌≡◌}
use Rattle.horner.specs.Horner.{horner_step, value_slope_of}
use Rattle.horner.proofs.Loops.{from_end}
use Rattle.horner.proofs.Polynomial.value_slope.Given as goal

abbrev pub invariant-loop-c : goal.invariant-loop-c
invariant-loop-c l = from_end (horner_step l.y) l.c-iterator.iter.rest.now (record { value = l.v; slope = l.s }) ≡ value_slope_of l.fn.self.f l.fn.self.d l.y
