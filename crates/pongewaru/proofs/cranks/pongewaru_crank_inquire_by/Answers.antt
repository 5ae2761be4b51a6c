-- The replies put in at once show what they show one by one.
use Rattle.pongewaru.proofs.Once.{turned}
use Rattle.pongewaru.proofs.cranks.pongewaru_crank_inquire_by.Goals as goal

pub returns : goal.returns
returns c =
    let s = c.crank_shown-s.ensures in
    turned _ _ _ _ _ _ c.first_replies.ensures (rw c.from.ensures at s.value) (rw c.from.ensures at s.systems) _ c.map.ensures.cases c.answer.ensures
