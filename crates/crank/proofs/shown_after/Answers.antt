-- What the front's quartic shows, with its k, and its systems; or the refusal of either.
use Rattle.crank.proofs.Answer.{systems_by_front}
use Rattle.crank.proofs.Refused.{shown_err}
use Rattle.crank.proofs.shown_after.Goals as goal

pub returns-in_err-made : goal.returns-in_err-made
returns-in_err-made c =
    let is = shown_err _ _ _ _ _ _ c.from_residual.ensures c.in_err-made.ensures in
    record { value = is.0; systems = is.1 }

pub returns-in-Ok-clause-systems : goal.returns-in-Ok-clause-systems
returns-in-Ok-clause-systems c = rw c.with.ensures (systems_by_front _ _ _ _ c.in_ok-made.ensures c.in-Ok.ensures.systems)

pub returns-in-Err-clause-systems : goal.returns-in-Err-clause-systems
returns-in-Err-clause-systems c = systems_by_front _ _ _ _ c.in_ok-made.ensures c.in-Err.ensures.systems
