use mathlib.Core.Path.{◌≡◌}
use Rattle.lent_bytes.proofs.Rows.{filled}
use Rattle.lent_bytes.proofs.lists.root_numbers.Given as goal

abbrev pub invariant-loop-k : goal.invariant-loop-k
invariant-loop-k l = l.x ≡ filled l.fn.s l.k
