-- The parts of the head, one behind the other.
use Rattle.text.proofs.Laws.{written_then, written_as}
use Rattle.listing.specs.Lines.{head_of}
use Rattle.listing.proofs.lines.put_head.Goals as goal

pub returns : goal.returns
unfolding head_of
returns c =
    written_then c.decimal.ensures
    (written_then c.byte.ensures
    (written_then (written_as c.from.ensures c.bytes.ensures) c.byte-2.ensures))
