-- By the words of the cube.
use Rattle.std.proofs.Common.{◌∙◌}
use Rattle.cbrt.proofs.Words.{one, within_is}
use Rattle.cbrt.proofs.within.Goals as goal

pub returns : goal.returns
returns c =
    c.at_most.ensures
    ∙ within_is c.args.t c.args.a _ _ _ _ _ _ _ _ _ _ c.mul-s.ensures.product c.mul-p.ensures.product c.mul-q.ensures.product c.mul-q.ensures.high
    (one _ _ c.from-rest.ensures) c.mul-n.ensures.product c.add.ensures.0
