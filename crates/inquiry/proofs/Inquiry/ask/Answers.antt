use Rattle.inquiry.proofs.Shown.{asked_within}
use Rattle.inquiry.proofs.Inquiry.ask.Goals as goal

pub returns-clause-value : goal.returns-clause-value
returns-clause-value c = rw c.with.ensures (asked_within _ _ c.see-seen.ensures.value)
