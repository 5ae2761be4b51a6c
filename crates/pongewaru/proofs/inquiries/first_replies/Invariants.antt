use mathlib.Core.Path.{◌≡◌}
use lib.ListN.{drop}
use Rattle.touching.specs.Replies.{replied_by}
use Rattle.pongewaru.specs.Inquiries.{each_reply, first_replies}
use Rattle.pongewaru.proofs.inquiries.first_replies.Given as goal

abbrev pub invariant-loop-reply : goal.invariant-loop-reply
invariant-loop-reply l =
    (l.first.count ≡ l.reply-index) × (each_reply replied_by (drop l.reply-index l.reply-items) l.first ≡ first_replies l.replies)
