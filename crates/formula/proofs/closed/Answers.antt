-- By the byte behind the sum.
use mathlib.Core.Path.{refl, sym, ◌∙◌}
use Rattle.formula.proofs.Factors.{closed_shut}
use Rattle.formula.proofs.closed.Goals as goal

pub returns-then-is_at : goal.returns-then-is_at
returns-then-is_at c =
    let is = closed_shut _ c.args.inner (sym c.is_at.ensures ∙ c.if-is_at.true) _ refl refl in
    record { ahead = is.0; closed = is.1 }
