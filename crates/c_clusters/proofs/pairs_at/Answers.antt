-- Pair by pair.
use Rattle.std.proofs.Common.{rules}
use Rattle.float.proofs.Made.{made_by}
use Rattle.c_clusters.specs.Clustering.{pair_at}
use Rattle.c_clusters.proofs.Polynomials.{two_pairs}
use Rattle.c_clusters.proofs.pairs_at.Goals as goal

pub returns : goal.returns
returns c = two_pairs c.args.c.now _ (made_by _ (pair_at c.args.c.now) _ _ _ (λ i y q l k. search rules) c.from_fn-pair.ensures.items)
