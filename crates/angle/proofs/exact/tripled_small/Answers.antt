use Rattle.angle.proofs.Tripled.{small_fits, small_is}
use Rattle.angle.proofs.exact.tripled_small.Goals as goal

pub tripled-requires : goal.tripled-requires
tripled-requires c = small_fits _ _ c.requires.t_high c.requires.k_low c.requires.k_high _ c.mul.ensures.product

pub returns : goal.returns
returns c = small_is _ _ c.requires.t_high c.requires.k_low c.requires.k_high _ c.mul.ensures.product _ c.tripled.ensures
