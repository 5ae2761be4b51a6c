-- The loop's invariant: n is the value of the digits passed, of which there are at most nine.
use mathlib.Core.Path.{refl}
use native.Mathlib.Omega.{arith}
use Rattle.formula.proofs.Factors.{counted_next, number_some}
use Rattle.formula.proofs.number.Goals as goal

pub loop-d-preserved : goal.loop-d-preserved
loop-d-preserved c = counted_next _ _ _ _ _ c.loop-d.invariant (λ e. omega arith) c.in-Some.ensures.0 (c.in-Some.ensures.1, c.in-Some.ensures.2)

pub returns : goal.returns
returns c =
    let is = number_some _ _ c.loop-d.i c.loop-d.n c.loop-d.invariant c.in_default.ensures c.if-i-at.false _ refl c.number.ensures in
    record { ahead = is.0; based = is.1 }
