-- What passes the three tests is answered as its list; what does not is found.
use borrow.Author.Rules.{rules}
use Rattle.contact.proofs.Theorem.{holds, listed_so}
use Rattle.contact.proofs.Systems.{none_by_record, none_by_radius, none_by_made, listed_systems}
use Rattle.contact.proofs.pin_contact.Goals as goal

pub returns-then-not-all_finite-clause-systems : goal.returns-then-not-all_finite-clause-systems
returns-then-not-all_finite-clause-systems c = none_by_record _ _ _ _ (search rules)

pub returns-then-not-circle-clause-systems : goal.returns-then-not-circle-clause-systems
returns-then-not-circle-clause-systems c = none_by_radius _ _ _ _ (search rules) (search rules)

pub returns-then-not-all_finite-2-clause-systems : goal.returns-then-not-all_finite-2-clause-systems
returns-then-not-all_finite-2-clause-systems c =
    none_by_made _ _ _ _ _ _ c.seen-p.ensures c.coefficients-coeffs.ensures (search rules) (search rules) (search rules)

pub returns-clause-value : goal.returns-clause-value
returns-clause-value c =
    holds _ _ _ _
    (listed_so _ _ _ _ _ _ c.seen-p.ensures c.coefficients-coeffs.ensures (search rules) (search rules) (search rules) c.listed.ensures.value)

pub returns-clause-systems : goal.returns-clause-systems
returns-clause-systems c =
    listed_systems _ _ _ _ _ _ c.seen-p.ensures c.coefficients-coeffs.ensures (search rules) (search rules) c.listed.ensures.systems
