-- Each case's word, and its places.
use mathlib.Core.Path.{sym, ap}
use Rattle.text.proofs.Laws.{written_then, written_as}
use Rattle.listing.specs.Lines.{solution_text}
use Rattle.listing.proofs.lines.put_solution.Goals as goal

pub returns-in-Two : goal.returns-in-Two
unfolding solution_text
returns-in-Two c =
    written_as (sym (ap solution_text c.in-Two.is))
    (written_then c.bytes.ensures (written_then c.put_place.ensures c.put_place-in-Two.ensures))
