-- A letter where its byte comes first, else a number.
use mathlib.Core.Path.{refl, sym, ◌∙◌}
use Rattle.formula.proofs.Factors.{unit_letter}
use Rattle.formula.proofs.unit.Goals as goal

pub returns-then-is_at : goal.returns-then-is_at
returns-then-is_at c =
    let is = unit_letter _ _ (sym c.is_at.ensures ∙ c.if-is_at.true) _ refl c.letter.ensures in
    record { ahead = is.0; based = is.1 }
