use Rattle.std.proofs.Common.{rules}
use Rattle.scaled.proofs.Needed.{reach_same, reach_more}
use Rattle.scaled.proofs.reach.Goals as goal

pub returns-then-n-lead : goal.returns-then-n-lead
returns-then-n-lead c = search (rules, reach_same)

pub returns : goal.returns
returns c = search (rules, reach_more)
