use Rattle.std.proofs.Common.{◌≡◌, ◌+◌, ◌-◌}
use Rattle.facts.specs.Count.{count_up}
use Rattle.quotient.specs.Quotient.{less_at, quotient_step, quotient_of}
use Rattle.quotient.proofs.quotient.Given as goal

abbrev pub invariant-loop-j : goal.invariant-loop-j
invariant-loop-j l =
    count_up l.j-end (less_at l.p.l l.s l.i) (l.j-end - l.j) l.acc ≡ count_up l.j-end (less_at l.p.l l.s l.i) (l.j-end - 1) l.initial.acc

abbrev pub invariant-loop-i : goal.invariant-loop-i
invariant-loop-i l = count_up (l.small + 1) (quotient_step l.g l.p) (l.small + 1 - l.i) l.s ≡ quotient_of l.g l.p l.small
