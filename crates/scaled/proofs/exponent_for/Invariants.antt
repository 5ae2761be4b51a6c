use Rattle.scaled.proofs.Best.{Best}
use Rattle.scaled.proofs.exponent_for.Given as goal

abbrev pub invariant-loop-i : goal.invariant-loop-i
invariant-loop-i l = Best l.p.f l.p.d l.i l.k
