-- The searches.
use Rattle.std.proofs.Common.{rules}
use Rattle.wide.specs.Quad.{quad_of}
use Rattle.angle.proofs.Binades.{none_passes, searched}
use Rattle.angle.proofs.exact.near_sin.Goals as goal

pub returns : goal.returns
returns c =
    let b = c.search_binade-k.ensures in
    searched _ _ _ _ b
    (c.whole_part-t.ensures.found _ (record { says = λ t b l r. search rules })
    (none_passes c.args.below (quad_of c.args.gap) c.search_binade-k.result) b.beyond)
