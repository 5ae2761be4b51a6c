use Rattle.std.proofs.Common.{◌≡◌, ◌-◌, ◌+◌}
use Rattle.facts.specs.Count.{count_up}
use Rattle.split.specs.Hull.{hull_step, hull_of, Rising}
use Rattle.split.proofs.upper_hull.Given as goal

abbrev pub invariant-loop-i : goal.invariant-loop-i
invariant-loop-i l = Rising l.i l.s × (count_up (l.d + 1) (hull_step l.lg) (l.d + 1 - l.i) l.s ≡ hull_of l.lg l.d)
