use Rattle.std.proofs.Common.{◌≡◌, ◌-◌, ◌<◌}
use Rattle.facts.specs.Count.{count_up}
use Rattle.square.specs.Square.{pivot_step, pivot_of}
use Rattle.square.proofs.pivot.Given as goal

abbrev pub invariant-loop-row : goal.invariant-loop-row
invariant-loop-row g l = (l.pivot < g.row.N) × (count_up g.row.N (pivot_step l.m l.col) (g.row.N - l.row) l.pivot ≡ pivot_of g.row.N l.m l.col)
