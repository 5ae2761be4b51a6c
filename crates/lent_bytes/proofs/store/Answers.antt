-- All the bytes, or none.
use Rattle.std.proofs.Common.{rules}
use Rattle.lent_bytes.proofs.Whole.{are_too_few, all_stored}
use Rattle.lent_bytes.proofs.store.Goals as goal

pub returns-then-out-xs : goal.returns-then-out-xs
returns-then-out-xs c = search (rules, are_too_few)

pub returns : goal.returns
returns c = search (rules, all_stored)
