use Rattle.std.proofs.Common.{◌≡◌, ◌-◌, length}
use Rattle.facts.specs.Count.{count_up}
use Rattle.refine.specs.Refine.{weigh_rows_step, weigh_rows_of}
use Rattle.refine.proofs.weigh_rows.Given as goal

abbrev pub invariant-loop-i : goal.invariant-loop-i
invariant-loop-i g l = (length l.j ≡ g.row.N) × (count_up g.row.N (weigh_rows_step l.mag) (g.row.N - l.i) l.j ≡ weigh_rows_of g.row.N l.initial.j l.mag)
