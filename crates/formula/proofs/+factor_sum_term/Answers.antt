-- A factor by its first byte; a sum and a term by what is read so far, and whether one more comes.
use mathlib.Core.Bool.{not}
use Rattle.std.proofs.Common.{refl, sym, ap, subst, ◌∙◌}
use Rattle.formula.proofs.Bytes.{sign_some, sign_none, sign_missing}
use Rattle.formula.proofs.Factors.{bracket_none, bracket_plain}
use Rattle.formula.proofs.Cycle.{factor_bracket, factor_bare}
use Rattle.formula.proofs.Cycle.{TermSoFar, term_none, term_first, term_more, term_last, SumSoFar, sum_none, sum_first, sum_more, sum_last}
use Rattle.formula.proofs.+factor_sum_term.Goals as goal

-- ---- a factor
pub factor-returns-then-not-is_at : goal.factor-returns-then-not-is_at
factor-returns-then-not-is_at t c = factor_bare _ _ _ (sym c.is_at.ensures ∙ c.if-not-is_at.true) c.bare.ensures.ahead c.bare.ensures.read

pub factor-returns-in_default : goal.factor-returns-in_default
factor-returns-in_default t c =
    factor_bracket _ _ _ _ (sym c.is_at.ensures ∙ c.if-not-is_at.false) c.in_default.ensures (λ at h. tt) (bracket_none c.args.s.now)

pub factor-returns-then-not-is_at-2 : goal.factor-returns-then-not-is_at-2
factor-returns-then-not-is_at-2 t c =
    let plain =
    bracket_plain _ c.in-Some.c _ (sym c.is_at-2.ensures ∙ c.if-is_at.true) (sym c.is_at-then-is_at.ensures ∙ c.if-not-is_at-2.true) refl refl in
    factor_bracket _ _ _ _ (sym c.is_at.ensures ∙ c.if-not-is_at.false) c.in-Some.ensures plain.0 plain.1

pub factor-returns : goal.factor-returns
factor-returns t c =
    factor_bracket _ _ _ _ (sym c.is_at.ensures ∙ c.if-not-is_at.false) c.in-Some.ensures c.bracketed.ensures.further c.bracketed.ensures.shut

-- ---- a sum
pub sum-returns-in_default : goal.sum-returns-in_default
sum-returns-in_default t c = sum_none _ _ c.in_default.ensures

pub sum-returns-then-is_none : goal.sum-returns-then-is_none
sum-returns-then-is_none t c =
    let none = c.is_none.ensures ∙ ap not c.if-is_none.true in
    sum_last _ _ c.in-Some.c (sum_first _ _ _ c.in-Some.ensures) (sign_missing _ _ _ c.operator_at.ensures none)

pub sum-loop-left-init : goal.sum-loop-left-init
sum-loop-left-init t c = sum_first _ _ _ c.in-Some.ensures

pub sum-returns-in_default-operator_at : goal.sum-returns-in_default-operator_at
sum-returns-in_default-operator_at t c =
    sum_last _ _ c.in-Some-left.c (subst (SumSoFar _ _) c.in-Some-left.is c.loop-left.invariant) (sign_none _ _ c.in_default-operator_at.ensures)

pub sum-loop-left-preserved : goal.sum-loop-left-preserved
sum-loop-left-preserved t c =
    let sign = sign_some _ _ _ c.in-Some-operator_at.ensures in
    sum_more _ _ c.in-Some-left.c (subst (SumSoFar _ _) c.in-Some-left.is c.loop-left.invariant) sign.0 _ sign.1 _ _ c.term-right.ensures c.join.ensures

-- ---- a term
pub term-returns-in_default : goal.term-returns-in_default
term-returns-in_default t c = term_none _ _ c.in_default.ensures

pub term-returns-then-not-is_at : goal.term-returns-then-not-is_at
term-returns-then-not-is_at t c =
    term_last _ _ c.in-Some.c (term_first _ _ _ c.in-Some.ensures) (sym c.is_at.ensures ∙ c.if-not-is_at.true)

pub term-loop-left-init : goal.term-loop-left-init
term-loop-left-init t c = term_first _ _ _ c.in-Some.ensures

pub term-returns-then-not-is_at-2 : goal.term-returns-then-not-is_at-2
term-returns-then-not-is_at-2 t c =
    term_last _ _ c.in-Some-left.c (subst (TermSoFar _ _) c.in-Some-left.is c.loop-left.invariant) (sym c.is_at-in-Some-left.ensures ∙ c.if-not-is_at-2.true)

pub term-loop-left-preserved : goal.term-loop-left-preserved
term-loop-left-preserved t c =
    let star = sym c.is_at-in-Some-left.ensures ∙ c.if-not-is_at-2.false in
    term_more _ _ c.in-Some-left.c (subst (TermSoFar _ _) c.in-Some-left.is c.loop-left.invariant) star _ _ c.factor-right.ensures c.join.ensures
