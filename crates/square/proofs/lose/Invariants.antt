use Rattle.std.proofs.Common.{◌≡◌, ◌-◌, length}
use Rattle.facts.specs.Count.{count_up}
use Rattle.square.specs.Square.{lose_step, lose_of}
use Rattle.square.proofs.lose.Given as goal

abbrev pub invariant-loop-k : goal.invariant-loop-k
invariant-loop-k g l = (length l.row ≡ g.row.N) × (count_up g.row.N (lose_step l.factor l.p) (g.row.N - l.k) l.row ≡ lose_of l.factor l.p l.col l.initial.row)
