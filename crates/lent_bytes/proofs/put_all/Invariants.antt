use mathlib.Core.Path.{◌≡◌}
use lib.ListN.{take}
use lib.Seq.{sets}
use Rattle.lent_bytes.specs.Bytes.{doubles_bytes}
use Rattle.lent_bytes.proofs.put_all.Given as goal

abbrev pub invariant-loop-i : goal.invariant-loop-i
invariant-loop-i l = l.out ≡ sets l.fn.out 0 (doubles_bytes (take l.i l.xs))
