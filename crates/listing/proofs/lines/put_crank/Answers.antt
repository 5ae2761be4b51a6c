-- `ok`, k, and the roots.
use mathlib.Core.Path.{sym, ap}
use Rattle.text.proofs.Laws.{written_then, written_as}
use Rattle.listing.specs.Lines.{crank_text}
use Rattle.listing.proofs.lines.put_crank.Goals as goal

pub returns-in-Ok-clause-text : goal.returns-in-Ok-clause-text
unfolding crank_text
returns-in-Ok-clause-text c =
    written_as (sym (ap crank_text c.in-Ok.is))
    (written_then c.bytes.ensures
    (written_then c.decimal.ensures
    (written_then c.byte.ensures c.put_roots.ensures)))
