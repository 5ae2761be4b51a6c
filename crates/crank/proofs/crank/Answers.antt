-- `crank` is its definition: the refusal of its start, or the list that four replies no end with; they are enough, so that no question is left.
use Rattle.crank.proofs.Answer.{never_asks, answer_listed, answer_refused}
use Rattle.crank.proofs.Refused.{given_k, refused_k}
use Rattle.crank.proofs.Theorem.{with_demand}
use borrow.Author.Rules.{rules}
use Rattle.crank.proofs.crank.Goals as goal

pub returns-in_err-shown-clause-value : goal.returns-in_err-shown-clause-value
returns-in_err-shown-clause-value c =
    with_demand _ _ _ (answer_refused _ _ _ _ {a = c.from_residual.result} (refused_k _ _ _ c.in_err-shown.ensures.value) (search rules))

pub unreachable-requires : goal.unreachable-requires
unreachable-requires c = never_asks _ _ _ _ (given_k _ _ _ c.in_ok-shown.ensures.value) _ c.in-Question.is

pub returns-clause-value : goal.returns-clause-value
returns-clause-value c = rw c.with.ensures (with_demand _ _ _ (answer_listed _ _ _ _ (given_k _ _ _ c.in_ok-shown.ensures.value) _ c.in-Finished.is))
