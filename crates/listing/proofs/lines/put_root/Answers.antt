-- The place, behind a blank the multiplicity, and the kind.
use Rattle.text.proofs.Laws.{written_then}
use Rattle.listing.specs.Lines.{root_text}
use Rattle.listing.proofs.lines.put_root.Goals as goal

pub returns : goal.returns
unfolding root_text
returns c =
    written_then c.put_place.ensures
    (written_then c.byte.ensures (written_then c.decimal.ensures c.put_kind.ensures))
