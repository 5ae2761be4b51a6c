use Rattle.parts.proofs.Joins.{Made}
use Rattle.parts.proofs.made.Given as goal

abbrev pub invariant-loop-k : goal.invariant-loop-k
invariant-loop-k l = Made l.op l.a.coeffs l.b.coeffs l.k l.coeffs
