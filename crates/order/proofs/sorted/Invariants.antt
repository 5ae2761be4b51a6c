use Rattle.std.proofs.Common.{◌≡◌, Bool}
use Rattle.std.specs.Prelude.{Float}
use Rattle.order.specs.Order.{order_of, Tells, Places}
use Rattle.order.proofs.sorted.Given as goal

abbrev pub invariant-loop-i : goal.invariant-loop-i
invariant-loop-i g l = ((f : Float → Float → Bool) → Tells (goal.F-post g l.before) f → l.at ≡ order_of f l.key l.i-counter) × Places l.at
