-- A new range has its two ends.
use Rattle.std.proofs.Common.{◌∙◌}
use Rattle.critical.specs.Critical.{is_between_of}
use Rattle.critical.proofs.Laws.{said_le}
use Rattle.critical.proofs.is_between.Goals as goal

pub returns : goal.returns
unfolding is_between_of
returns c =
    c.contains.ensures.value
    ∙ rw (c.new.ensures.start, c.new.ensures.end, c.new.ensures.exhausted, said_le c.args.lo c.args.x, said_le c.args.x c.args.hi)
