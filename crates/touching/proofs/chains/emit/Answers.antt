-- One root more.
use mathlib.Core.Path.{sym, ◌∙◌}
use borrow.Author.Rules.{rules}
use Rattle.touching.proofs.Steps.{emit_more}
use Rattle.touching.proofs.chains.emit.Goals as goal

pub returns : goal.returns
returns c =
    emit_more _ _ _ _ _ _ _ c.requires.0 c.requires.1 c.in-Some.is c.if-c-eq0.false c.contact.ensures (let h = c.ldexp-x.ensures in search rules)
    (sym c.is_finite.ensures ∙ c.if-not-is_finite.false) c.append.ensures
