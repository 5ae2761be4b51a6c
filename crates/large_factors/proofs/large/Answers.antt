use Rattle.std.specs.Float.{nan}
use Rattle.facts.specs.Lists.{length_mapped}
use Rattle.large_factors.specs.Large.{unit_of}
use Rattle.large_factors.proofs.Taken.{SizesOf, large_is}
use borrow.Author.Rules.{rules}
use Rattle.large_factors.proofs.large.Goals as goal

pub returns : goal.returns
returns c =
    let sizes : SizesOf c.map.result c.units_of-u.result.at =
    λ i h. let called = (c.map.ensures.items.at i (unit_of nan nan nan) nan h).2 in search rules in
    large_is _ c.requires _ c.units_of-u.ensures _ sizes _ _ _ _ (search (rules, length_mapped)) c.falling-order.ensures.0 c.take_large.ensures
