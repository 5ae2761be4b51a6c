use mathlib.Core.Path.{◌≡◌}
use Prim.Native.Nat.{◌-◌}
use Rattle.facts.specs.Count.{count_up}
use Rattle.horner.specs.Loops.{down_to}
use Rattle.horner.specs.Taylor.{taylor_step, sweep_of, taylor_of}
use Rattle.horner.proofs.Polynomial.taylor.Given as goal

abbrev pub invariant-loop-i : goal.invariant-loop-i
invariant-loop-i l = down_to l.k (taylor_step l.y) l.i l.t ≡ sweep_of l.y l.self.d l.k l.initial.t

abbrev pub invariant-loop-k : goal.invariant-loop-k
invariant-loop-k l = count_up l.self.d (sweep_of l.y l.self.d) (l.self.d - l.k) l.t ≡ taylor_of l.self.f l.self.d l.y
