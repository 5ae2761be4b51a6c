-- The parts of the line, one behind the other.
use Rattle.text.proofs.Laws.{written_then}
use Rattle.listing.specs.Lines.{line_of}
use Rattle.listing.proofs.lines.put_line.Goals as goal

pub returns-clause-text : goal.returns-clause-text
unfolding line_of
returns-clause-text c =
    written_then c.put_head.ensures (written_then c.put_words-total.ensures.text c.byte.ensures)
