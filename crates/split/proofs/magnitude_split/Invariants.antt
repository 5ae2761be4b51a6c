use Rattle.std.proofs.Common.{◌≡◌}
use Rattle.split.specs.Gap.{split_from, magnitude_split_of}
use Rattle.split.proofs.magnitude_split.Given as goal

abbrev pub invariant-loop-k : goal.invariant-loop-k
invariant-loop-k l = split_from l.lg l.s.at l.k ≡ magnitude_split_of l.lg l.d
