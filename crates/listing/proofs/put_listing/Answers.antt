-- The lines, and behind them their total.
use mathlib.Core.Path.{ap}
use Rattle.text.proofs.Laws.{written_then, written_as}
use Rattle.listing.specs.Lines.{total_text}
use Rattle.listing.specs.File.{listing}
use Rattle.listing.proofs.put_listing.Goals as goal

pub returns : goal.returns
unfolding listing
returns c =
    written_then c.put_lines-total.ensures.text (written_as (ap total_text c.put_lines-total.ensures.total) c.put_total.ensures)
