use Rattle.roots.specs.Roots.{roots_of}
use Rattle.finish.specs.Finish.{joined_of}
use Rattle.finish.specs.Places.{places_polished}
use Rattle.finish.specs.Run.{Joining}
use Rattle.finish.proofs.Banded.joined.Given as goal

abbrev pub invariant-loop-k : goal.invariant-loop-k
invariant-loop-k l =
    let all = places_polished l.self.poly.now l.o.roots.now in
    Joining l.self.poly.now l.self.tol (roots_of (joined_of l.self.poly.now l.self.tol all)) all l.k l.run
