-- The unread length falls: the measure is three times it, and 2 more for a sum and 1 more for a term, since a sum calls a term, and a term a factor, at the
-- same place. A loop's invariant says what is read so far.
use Rattle.std.proofs.Common.{◌+◌, ◌-◌, ◌*◌, length}
use Rattle.formula.proofs.Cycle.{SumSoFar, TermSoFar, unread}
use Rattle.formula.proofs.+factor_sum_term.Given as goal

abbrev pub decreases-factor : goal.decreases-factor
decreases-factor l = 3 * (length l.s.now - l.at)

abbrev pub decreases-sum : goal.decreases-sum
decreases-sum l = 3 * (length l.s.now - l.at) + 2

abbrev pub decreases-term : goal.decreases-term
decreases-term l = 3 * (length l.s.now - l.at) + 1

abbrev pub invariant-sum-loop-left : goal.invariant-sum-loop-left
invariant-sum-loop-left l = SumSoFar l.s l.at l.left

abbrev pub decreases-sum-loop-left : goal.decreases-sum-loop-left
decreases-sum-loop-left l = unread l.s l.left

abbrev pub invariant-term-loop-left : goal.invariant-term-loop-left
invariant-term-loop-left l = TermSoFar l.s l.at l.left

abbrev pub decreases-term-loop-left : goal.decreases-term-loop-left
decreases-term-loop-left l = unread l.s l.left
