-- The parts of the line, one behind the other.
use Rattle.std.proofs.Common.{arith}
use Rattle.text.proofs.Laws.{written_then}
use Rattle.leafcases.specs.Lines.{leaf_line_of}
use Rattle.leafcases.proofs.lines.put_line.Goals as goal

pub returns-clause-written : goal.returns-clause-written
unfolding leaf_line_of
returns-clause-written c = written_then c.bytes.ensures (written_then c.put_words.ensures.written c.byte.ensures)

pub returns-clause-upper_bound : goal.returns-clause-upper_bound
returns-clause-upper_bound c = omega (arith, c.requires, c.bytes.ensures.place, c.put_words.ensures.upper_bound, c.byte.ensures.place)
