use Rattle.angle.proofs.Tripled.{gap_is}
use Rattle.angle.proofs.exact.gap_of.Goals as goal

pub returns : goal.returns
returns c =
    gap_is _ _ _ _ c.args.d.short c.requires.k_low c.requires.k_high c.mul-x.ensures.product c.product.ensures _ _ c.difference.ensures.value
    c.difference.ensures.borrow
