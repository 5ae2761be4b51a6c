use mathlib.Core.Path.{◌≡◌}
use Prim.Native.Nat.{◌+◌, ◌-◌}
use Rattle.facts.specs.Count.{count_up}
use Rattle.band.specs.Band.{radius_step, radius_of}
use Rattle.band.proofs.radius.Given as goal

abbrev pub invariant-loop-k : goal.invariant-loop-k
invariant-loop-k l = count_up (l.d + 1) (radius_step l.t l.budget) (l.d + 1 - l.k) l.r ≡ radius_of l.t l.d l.budget
