use Rattle.std.proofs.Common.{◌≡◌, ◌-◌, length}
use Rattle.facts.specs.Count.{count_up}
use Rattle.refine.specs.Refine.{weigh_row_step}
use Rattle.refine.proofs.weigh_row.Given as goal

abbrev pub invariant-loop-v : goal.invariant-loop-v
invariant-loop-v g l =
    (length l.row ≡ g.row.N)
    × (count_up g.row.N (weigh_row_step l.m) (g.row.N - l.v-index) l.row ≡ count_up g.row.N (weigh_row_step l.m) g.row.N l.initial.row)
