-- As many zeros as the chain takes.
use mathlib.Core.Path.{◌∙◌}
use Rattle.std.proofs.Common.{rules, tests}
use Rattle.std.proofs.lemmas.Iterator.{YieldsList-from_slice}
use Rattle.std.proofs.lemmas.Iterator.Consumers.{YieldsList-at, count_from_yields_List}
use Rattle.std.proofs.lemmas.Iterator.Search.{YieldsList-from_take_while}
use Rattle.std.proofs.lemmas.List.Folds.{length-prefix_len}
use Rattle.poly.proofs.Coefficients.{is_zero, zeros_prefix}
use Rattle.poly.proofs.leading_zeros.Goals as goal

pub returns : goal.returns
returns c =
    let coeffs = c.args.coeffs.now in
    count_from_yields_List c.take_while.result _ c.count.ensures.ran
    (YieldsList-from_take_while _ is_zero (YieldsList-at c.take_while.ensures.source (YieldsList-from_slice coeffs cc)) c.take_while.ensures.closure
    c.take_while.ensures.done (λ x b q k. search (rules, tests)))
    ∙ length-prefix_len is_zero coeffs
    ∙ zeros_prefix coeffs
