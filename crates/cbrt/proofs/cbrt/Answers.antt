-- What the digits of x give.
use Rattle.std.proofs.Common.{ap, ◌∙◌}
use lib.Ieee.{neg}
use Rattle.cbrt.proofs.Cubes.{root_up, root_down}
use Rattle.cbrt.proofs.cbrt.Goals as goal

pub returns-then-x : goal.returns-then-x
returns-then-x c = ap neg c.from_units-r.ensures ∙ root_down _ _ c.nearest_root-m.ensures _ c.in-Some.ensures c.if-x.true

pub returns-else-x : goal.returns-else-x
returns-else-x c = c.from_units-r.ensures ∙ root_up _ _ c.nearest_root-m.ensures _ c.in-Some.ensures c.if-x.false
