use Rattle.std.proofs.Common.{◌≡◌, ◌≤◌}
use Rattle.split.specs.Hull.{popped_of}
use Rattle.split.proofs.Hull.popped.Given as goal

abbrev pub invariant-loop-k : goal.invariant-loop-k
invariant-loop-k l = (l.k ≤ l.self.h) × (popped_of l.lg l.self.at l.i l.k ≡ popped_of l.lg l.self.at l.i l.self.h)

abbrev pub decreases-loop-k : goal.decreases-loop-k
decreases-loop-k l = l.k
