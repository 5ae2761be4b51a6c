use mathlib.Core.Path.{◌≡◌}
use Rattle.ldexp.specs.Scale.{times_power_of}
use Rattle.ldexp.proofs.Signed.scaled.Given as goal

abbrev pub invariant-loop-n : goal.invariant-loop-n
invariant-loop-n l = times_power_of l.self.below l.self.n l.x ≡ times_power_of l.self.below l.n l.y

abbrev pub decreases-loop-n : goal.decreases-loop-n
decreases-loop-n l = l.n
