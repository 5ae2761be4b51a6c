-- At most four candidates.
use mathlib.Core.Path.{subst⁻¹}
use Prim.Native.Nat.{◌≤◌}
use Rattle.roots.specs.declared.Roots.{Roots}
use Rattle.c_clusters.specs.Clustering.{candidates_at}
use Rattle.c_clusters.proofs.Polynomials.{holding}
use Rattle.c_clusters.proofs.pongewaru_finish.Goals as goal

pub finish-s-requires-clause-c_fits : goal.finish-s-requires-clause-c_fits
finish-s-requires-clause-c_fits c =
    let few = (holding _ _ _ _ c.lacks.ensures c.if-lacks.false).1.0 in
    (subst⁻¹ (λ (s : Roots). s.len ≤ 4) c.candidates_at.ensures.0 (unfold candidates_at in few), c.candidates_at.ensures.1)
