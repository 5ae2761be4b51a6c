-- By what the text expands to.
use mathlib.Core.Path.{◌∙◌}
use Rattle.std.specs.Prelude.{Ok}
use Rattle.formula_roots.proofs.Solved.{solved, solved_systems, holds}
use Rattle.formula_roots.proofs.formula_roots.Goals as goal

pub returns-clause-value : goal.returns-clause-value
returns-clause-value c = holds _ _ _ (c.real_roots.ensures.value.0 ∙ solved _ _ _ _ c.in_ok-e.ensures)

pub returns-clause-systems : goal.returns-clause-systems
returns-clause-systems c = c.real_roots.ensures.systems ∙ solved_systems _ _ _ (Ok c.in_ok-e.e) c.in_ok-e.ensures
