-- Where the equation is refused there is no k.
use Rattle.crank.proofs.Refused.{start_err}
use Rattle.crank.proofs.start.Goals as goal

pub returns-in_err-front : goal.returns-in_err-front
returns-in_err-front c = start_err _ _ _ _ _ c.from_residual.ensures c.in_err-front.ensures
