use mathlib.Core.Path.{sym, ◌∙◌}
use borrow.Author.Rules.{rules}
use Rattle.touching.proofs.Steps.{link_asked}
use Rattle.touching.proofs.Walker.link_at.Goals as goal

pub returns-in_err-h : goal.returns-in_err-h
returns-in_err-h c =
    link_asked _ _ _ _ _ _ (sym c.between.ensures ∙ c.if-not-between.false) _ _ _ _ c.from_residual.ensures (let h = c.in_err-h.ensures in search rules)
