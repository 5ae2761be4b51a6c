-- What is shown of what was solved without logarithms, and how many systems were solved for it; and its refusal.
use mathlib.Core.Path.{refl}
use borrow.Author.Rules.{rules}
use Rattle.poly.proofs.Systems.{systems_refused}
use Rattle.inquiry.proofs.Logs.{shown_refused, shown_solved}
use Rattle.inquiry.proofs.Systems.{shown_systems}
use Rattle.inquiry.proofs.shown_after.Goals as goal

pub returns-in_err-s-clause-value : goal.returns-in_err-s-clause-value
returns-in_err-s-clause-value c = shown_refused _ _ _ _ _ {r = c.from_residual.result} c.in_err-s.ensures (search rules)

pub returns-in_err-s-clause-systems : goal.returns-in_err-s-clause-systems
returns-in_err-s-clause-systems c = systems_refused _ _ _ c.in_err-s.ensures _ {a = c.from_residual.result} refl (search rules)

pub returns-clause-value : goal.returns-clause-value
returns-clause-value c = shown_solved _ _ _ _ _ _ _ c.in_ok-s.ensures c.begun.ensures c.see.ensures.value

pub returns-clause-systems : goal.returns-clause-systems
returns-clause-systems c = shown_systems _ _ _ _ _ _ c.in_ok-s.ensures c.begun.ensures c.see.ensures.systems
