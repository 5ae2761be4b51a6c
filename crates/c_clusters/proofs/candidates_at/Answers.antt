-- Candidate by candidate.
use Rattle.std.proofs.Common.{rules, arith}
use Rattle.float.proofs.Made.{made_by}
use Rattle.c_clusters.specs.Clustering.{candidate_at}
use Rattle.c_clusters.proofs.Polynomials.{four_candidates, bytes_of}
use Rattle.c_clusters.proofs.candidates_at.Goals as goal

pub returns : goal.returns
returns c =
    let made = made_by _ (candidate_at c.args.c.now) _ _ _ (λ i y q l k. search rules) c.from_fn-root.ensures.items in
    (four_candidates c.args.c.now _ made, bytes_of c.args.c.now _ (λ k. omega (arith, c.type_inv.c k)) made)
