use Rattle.std.proofs.Common.{◌≡◌, ◌-◌, []}
use Rattle.std.proofs.Common.{slice_index_or}
use Rattle.facts.specs.Count.{count_up}
use Rattle.square.specs.Square.{size_sum_of, scale_of}
use Rattle.square.proofs.least.Given as goal

abbrev pub invariant-loop-row : goal.invariant-loop-row
invariant-loop-row g l = count_up g.row.N (λ i. size_sum_of (slice_index_or l.m i [])) (g.row.N - l.row-index) l.scale ≡ scale_of g.row.N l.m
