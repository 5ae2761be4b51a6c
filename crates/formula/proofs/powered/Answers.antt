-- By the byte behind what was read, and by the one behind that.
use mathlib.Core.Path.{refl, sym, ◌∙◌}
use Rattle.formula.proofs.Factors.{powered_plain, powered_digit}
use Rattle.formula.proofs.powered.Goals as goal

pub returns-then-not-is_at-clause-powered : goal.returns-then-not-is_at-clause-powered
returns-then-not-is_at-clause-powered c = powered_plain _ c.args.base (sym c.is_at.ensures ∙ c.if-not-is_at.true)

pub returns : goal.returns
returns c =
    let is = powered_digit _ c.args.base (sym c.is_at.ensures ∙ c.if-not-is_at.false) _ c.in_ok-d.ensures _ refl c.power.ensures in
    record { ahead = is.0; powered = is.1 }
