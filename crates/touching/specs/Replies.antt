-- The replies so far, in an array with a count. Definitions only.
use Rattle.std.specs.Prelude.{◌≡◌, Bool, false, List, ◌+◌, ◌≤◌, length, take, set, replicate}
use Rattle.touching.specs.declared.Replies.{Replies}

-- none
abbrev pub no_replies : Replies
no_replies = record { reply = replicate 4 false; count = 0 }

-- the replies that count
abbrev pub replies_of : Replies → List Bool
replies_of s = take s.count s.reply

-- one reply more
abbrev pub replied_by : Replies → Bool → Replies
replied_by s r = record { reply = set s.reply s.count r; count = s.count + 1 }

-- the array is one of four, and the count is in it
abbrev pub RepliesFit : Replies → Type 0
RepliesFit s = (length s.reply ≡ 4) × (s.count ≤ 4)
