use Prim.Native.Nat.{◌-◌, ◌<◌, ◌≤◌}
use Rattle.float.specs.Floor.{floor_of}
use Rattle.float.proofs.floor.Given as goal

abbrev pub invariant-loop-low : goal.invariant-loop-low
invariant-loop-low l = (l.low ≤ floor_of l.x) × ((floor_of l.x < l.high) × (l.high ≤ 16384))

abbrev pub decreases-loop-low : goal.decreases-loop-low
decreases-loop-low l = l.high - l.low
