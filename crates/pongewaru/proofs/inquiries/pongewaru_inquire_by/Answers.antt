-- The replies put in at once show what they show one by one.
use Rattle.pongewaru.specs.Inquiries.{start_at}
use Rattle.pongewaru.proofs.Listing.{answered_then}
use Rattle.pongewaru.proofs.Once.{inquired}
use Rattle.pongewaru.proofs.inquiries.pongewaru_inquire_by.Goals as goal

pub returns : goal.returns
unfolding start_at
returns c =
    let s = c.shown_after-s.ensures in
    answered_then _ _ _ c.not_doubles.ensures c.if-not_doubles.false
    (inquired _ _ _ _ _ _ _ c.short_at.ensures c.first_replies.ensures (rw c.from.ensures at s.value) (rw c.from.ensures at s.systems) _ c.map.ensures.cases
    c.answer-2.ensures)
