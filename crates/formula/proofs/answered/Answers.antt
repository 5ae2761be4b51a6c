-- The coefficients one by one.
use borrow.Author.Rules.{rules}
use Rattle.float.proofs.Made.{made_by}
use Rattle.formula.proofs.Answers.{float_of, answer_is}
use Rattle.formula.proofs.answered.Goals as goal

pub returns : goal.returns
returns c =
    let a = c.args.a in
    answer_is a _ _ (search rules) c.len.ensures.value (made_by _ (float_of a) _ _ _ (λ k y q l e. search rules) c.from_fn.ensures.items)
