use Prim.Native.Nat.{◌<◌}
use Rattle.level.proofs.Turns.{Seen}
use Rattle.level.proofs.in_window.Given as goal

abbrev pub invariant-loop-i : goal.invariant-loop-i
invariant-loop-i l = (l.hi < 100000) × (l.lo < 100000) × Seen l.p.f l.p.d l.s l.lo l.hi l.i
