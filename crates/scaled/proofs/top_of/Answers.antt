use Rattle.scaled.proofs.Built.{top_is}
use Rattle.scaled.proofs.top_of.Goals as goal

pub returns : goal.returns
returns c = top_is _ _ _ c.well_formed.0.1 c.requires.e_size c.requires.d_high _ c.exponent.ensures
