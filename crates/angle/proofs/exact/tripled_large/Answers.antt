use Rattle.angle.proofs.Tripled.{large_fits, large_is}
use Rattle.angle.proofs.exact.tripled_large.Goals as goal

pub tripled-requires : goal.tripled-requires
tripled-requires c = large_fits _ c.requires

pub returns : goal.returns
returns c = large_is c.args.t _ c.tripled.ensures
