use Prim.Native.Nat.{◌-◌}
use lib.ListN.{length}
use Rattle.formula.proofs.Factors.{Counted}
use Rattle.formula.proofs.number.Given as goal

abbrev pub invariant-loop-d : goal.invariant-loop-d
invariant-loop-d l = Counted l.s l.at l.i l.n

abbrev pub decreases-loop-d : goal.decreases-loop-d
decreases-loop-d l = length l.s - l.i
