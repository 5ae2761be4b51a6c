use Rattle.nearest.proofs.Search.{Searched}
use Rattle.nearest.proofs.whole_part.Given as goal

abbrev pub invariant-loop-k : goal.invariant-loop-k
invariant-loop-k g l = Searched (goal.F-post g l.fn.test) l.t l.k
