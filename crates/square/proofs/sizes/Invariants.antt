use Rattle.std.proofs.Common.{◌≡◌, ◌-◌, length}
use Rattle.facts.specs.Count.{count_up}
use Rattle.square.specs.Square.{size_sum_step, size_sum_of}
use Rattle.square.proofs.sizes.Given as goal

abbrev pub invariant-loop-v : goal.invariant-loop-v
invariant-loop-v l = count_up (length l.l) (size_sum_step l.l) (length l.l - l.v-index) l.sum ≡ size_sum_of l.l l.acc
