-- `T`, and the three numbers, one behind the other.
use Rattle.text.proofs.Laws.{written_then}
use Rattle.listing.specs.Lines.{total_text}
use Rattle.listing.proofs.lines.put_total.Goals as goal

pub returns : goal.returns
unfolding total_text
returns c =
    written_then c.bytes.ensures
    (written_then c.decimal.ensures
    (written_then c.byte.ensures
    (written_then c.decimal-2.ensures
    (written_then c.byte-2.ensures
    (written_then c.decimal-3.ensures c.byte-3.ensures)))))
