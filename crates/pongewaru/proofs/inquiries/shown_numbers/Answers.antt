-- Three numbers before those of the list.
use mathlib.Core.Path.{◌∙◌}
use Rattle.pongewaru.proofs.Feeding.{shown_is}
use Rattle.pongewaru.proofs.inquiries.shown_numbers.Goals as goal

pub returns : goal.returns
returns c = shown_is _ _ _ _ _ _ _ c.from.ensures (c.copy_from_slice.ensures.after ∙ c.told_numbers.ensures)
