use Rattle.std.proofs.Common.{◌∙◌, sym, rules}
use Rattle.angle.proofs.Binades.{placed}
use Rattle.angle.proofs.exact.by_guess.Goals as goal

pub returns-then-not-test_sin : goal.returns-then-not-test_sin
returns-then-not-test_sin c =
    placed _ _ _ _ c.max-low.result (search rules) (search rules) (search rules) (search rules) (search rules) (search rules)
    (sym c.test_sin.ensures ∙ c.if-test_sin.true) (search rules)
