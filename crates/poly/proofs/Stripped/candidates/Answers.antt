-- The arrays hold the lists of the definition.
use mathlib.Core.Path.{refl, ◌∙◌}
use Rattle.factorize.proofs.Discs.{the_factors, handed_on_is}
use Rattle.poly.proofs.Sums.{counts_fit}
use Rattle.poly.proofs.Arrays.{candidates_found}
use borrow.Author.Rules.{rules}
use Rattle.poly.proofs.Stripped.candidates.Goals as goal

pub with_lins-roots-requires : goal.with_lins-roots-requires
with_lins-roots-requires c = (counts_fit _ c.args.self.now.poly.now _ (the_factors c.factorize_lent.ensures.value) (search rules)).0

pub with_quads-value-requires : goal.with_quads-value-requires
with_quads-value-requires c =
    let is = c.factorize_lent.ensures.value in
    ((counts_fit _ c.args.self.now.poly.now _ (the_factors is) (search rules)).1, handed_on_is _ is refl)

pub returns-clause-value : goal.returns-clause-value
returns-clause-value c =
    let f = the_factors c.factorize_lent.ensures.value in
    rw (← f) (candidates_found _ _ _ _ _ _ _ c.zero_roots.ensures c.with_lins-roots.ensures
    (c.with_quads-value.ensures ∙ rw c.default-pairs.ensures))
