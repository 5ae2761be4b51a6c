-- Something is left behind the sum.
use native.Mathlib.Omega.{arith}
use Rattle.formula.proofs.Whole.{text_rest}
use Rattle.formula.proofs.value.Goals as goal

pub returns-in_default : goal.returns-in_default
returns-in_default c = text_rest _ c.in-Some.all c.in-Some.ensures (omega (arith, c.in-Some.ensures.ahead.high))
