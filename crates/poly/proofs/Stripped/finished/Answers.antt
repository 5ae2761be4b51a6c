use Rattle.poly.proofs.Sums.{candidates_fit}
use borrow.Author.Rules.{rules}
use Rattle.facts.specs.Lists.{length_mapped}
use Rattle.poly.proofs.Stripped.finished.Goals as goal

pub finish_lent-roots-requires-clause-c_fits : goal.finish_lent-roots-requires-clause-c_fits
finish_lent-roots-requires-clause-c_fits c =
    let fit = candidates_fit _ _ _ _ _ c.candidates.ensures.value (search rules) in
    ((search (rules, length_mapped), fit.0), fit.1)
