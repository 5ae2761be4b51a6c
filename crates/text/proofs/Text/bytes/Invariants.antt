-- After i turns the first i bytes of s are written.
use lib.ListN.{take}
use Rattle.text.specs.Written.{Written}
use Rattle.text.proofs.Text.bytes.Given as goal

abbrev pub invariant-loop-b : goal.invariant-loop-b
invariant-loop-b l = Written l.fn.self (take l.b-index l.s) l.self
