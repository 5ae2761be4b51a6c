-- `real_roots` is its definition, and demand 1 holds of it; and how many systems were solved.
use mathlib.Core.Path.{refl, sym, ◌∙◌}
use Rattle.poly.proofs.Steps.{parts_solved, lists_all}
use Rattle.poly.proofs.Sums.{candidates_fit}
use Rattle.poly.proofs.Systems.{systems_solved}
use Rattle.facts.specs.Lists.{length_mapped}
use borrow.Author.Rules.{rules}
use Rattle.poly.proofs.real_roots.Goals as goal

pub finish_lent-requires-clause-c_fits : goal.finish_lent-requires-clause-c_fits
finish_lent-requires-clause-c_fits c =
    let fit = candidates_fit _ _ _ _ _ c.candidates.ensures.value (search rules) in
    ((search (rules, length_mapped), fit.0), fit.1)

pub returns-clause-value : goal.returns-clause-value
returns-clause-value c =
    lists_all _ _ _
    (parts_solved _ _ _ c.polynomial-p.result _ _ _ _ _ _ _ _ (sym c.counted.ensures.value ∙ c.in_ok-n.was)
    c.leading_zeros-zeros.ensures c.polynomial-p.ensures.0 c.polynomial-p.ensures.1 c.needed.ensures.1
    c.with_logs.ensures c.max-tol.ensures c.candidates.ensures.value c.finish_lent.ensures
    c.candidates.ensures.systems)
    _ refl (search rules)

pub returns-clause-systems : goal.returns-clause-systems
returns-clause-systems c =
    systems_solved _ _ _
    (parts_solved _ _ _ c.polynomial-p.result _ _ _ _ _ _ _ _ (sym c.counted.ensures.value ∙ c.in_ok-n.was)
    c.leading_zeros-zeros.ensures c.polynomial-p.ensures.0 c.polynomial-p.ensures.1 c.needed.ensures.1
    c.with_logs.ensures c.max-tol.ensures c.candidates.ensures.value c.finish_lent.ensures
    c.candidates.ensures.systems)
    _ refl
