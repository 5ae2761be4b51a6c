use Rattle.std.proofs.Common.{◌≡◌}
use Rattle.facts.specs.Arrays.{from_fn}
use Rattle.facts.specs.Count.{count_down}
use Rattle.quotient.specs.Quotient.{product_term_of, next_at}
use Rattle.quotient.proofs.InPlace.{put_next}
use Rattle.quotient.proofs.Monic.multiply.Given as goal

abbrev pub invariant-loop-j : goal.invariant-loop-j
invariant-loop-j l = count_down (product_term_of l.self.l l.self.dl l.f l.k) l.j l.acc ≡ next_at l.self.l l.self.dl l.f l.k

abbrev pub invariant-loop-k : goal.invariant-loop-k
invariant-loop-k l = (l.self.dl ≡ l.initial.self.dl) × (count_down (put_next l.self.dl l.f) l.k l.self.l ≡ from_fn 5 (next_at l.initial.self.l l.self.dl l.f))
