-- Counts stay within their arrays.
use Rattle.c_clusters.proofs.Polynomials.{holding, quadratic_fits}
use Rattle.c_clusters.proofs.pongewaru_push_quadratic.Goals as goal

pub found_numbers-requires-clause-fits : goal.found_numbers-requires-clause-fits
found_numbers-requires-clause-fits c =
    let few = (holding _ _ _ _ c.lacks.ensures c.if-lacks.false).1 in
    (quadratic_fits _ _ _ _ _ _ _ few.0 few.1 c.candidates_at-roots.ensures.0 c.pairs_at-pairs.ensures c.push_quadratic-s.ensures).0

pub found_numbers-requires-clause-pairs_fit : goal.found_numbers-requires-clause-pairs_fit
found_numbers-requires-clause-pairs_fit c =
    let few = (holding _ _ _ _ c.lacks.ensures c.if-lacks.false).1 in
    (quadratic_fits _ _ _ _ _ _ _ few.0 few.1 c.candidates_at-roots.ensures.0 c.pairs_at-pairs.ensures c.push_quadratic-s.ensures).1
