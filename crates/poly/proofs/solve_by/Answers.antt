-- The polynomial without its zeros, with the logarithms that are asked for.
use mathlib.Core.Path.{sym, ◌∙◌}
use Rattle.poly.proofs.Steps.{answered_by}
use Rattle.poly.proofs.solve_by.Goals as goal

pub returns : goal.returns
returns g c =
    answered_by _ _ _ _ _ _ _ _ _ _ (sym c.counted.ensures.value ∙ c.in_ok-n.was) c.leading_zeros-zeros.ensures
    c.polynomial-p.ensures.0 c.polynomial-p.ensures.1 c.logs.ensures c.with_logs.ensures c.max-tol.ensures c.finished.ensures
