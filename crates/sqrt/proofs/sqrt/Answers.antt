-- What the digits of x give.
use Rattle.std.proofs.Common.{◌∙◌}
use Rattle.sqrt.proofs.Squares.{root_of}
use Rattle.sqrt.proofs.sqrt.Goals as goal

pub returns-in-Some : goal.returns-in-Some
returns-in-Some c = c.from_units.ensures ∙ root_of _ _ c.nearest_root-m.ensures _ c.in-Some.ensures c.if-x.false
