-- An inquiry: what `solve` and `finish` gave, and the replies so far. It shows a question about a place, or the finished list. Definitions only.
use Rattle.std.specs.Prelude.{Bool, true, false, cond, ◌&&◌, List, [], ◌∷◌, ℕ, ◌-◌, ◌*◌, ltb, leb, Float, Option, Some, None, Result, Ok, Err}
use Rattle.refusals.specs.declared.Refusal.{Refusal}
use Rattle.refusals.specs.declared.Refusal.TheVariants.{NothingAsked}
use Rattle.refusals.specs.Refusals.{value_or}
use Rattle.float.specs.Literals.{zero64}
use Rattle.roots.specs.declared.RealRoot.{RealRoot}
use Rattle.roots.specs.declared.Roots.{Roots}
use Rattle.roots.specs.Roots.{list_of, roots_of, no_roots, pair_list_of}
use Rattle.asking.specs.Asking.{Asking, Stage, asks, ended, walked, left_by}
use Rattle.touching.specs.Touching.{touching}
use Rattle.touching.specs.Replies.{replies_of, replied_by}
use Rattle.inquiry.specs.declared.Inquiry.{Inquiry}
use Rattle.inquiry.specs.declared.Asked.{Asked}
use Rattle.inquiry.specs.declared.Asked.TheVariants.{Question, Finished}
use Rattle.inquiry.specs.declared.Seen.{Seen}

-- ---- which values ask
-- each root counts at least once, and together they count at most n times
unfoldable pub counted_in : ℕ → List RealRoot → Bool
counted_in n [] = true
counted_in n (r ∷ l) = ltb 0 r.multiplicity && (leb r.multiplicity n && counted_in (n - r.multiplicity) l)

-- a degree, replies, roots and pairs that their arrays hold
abbrev pub sizes_fit : ℕ → ℕ → ℕ → ℕ → Bool
sizes_fit d replies roots pairs = leb d 4 && (leb replies 4 && (leb roots 4 && leb pairs 2))

-- what every inquiry has that `start` makes and `reply` keeps: roots, and pairs as two each, of at most the degree 4. By sizes alone, whatever the floats are.
unfoldable pub sound_of : Inquiry → Bool
unfolding counted_in
sound_of q =
    sizes_fit q.poly.d q.replies.count q.roots.len q.pairs.len && counted_in (4 - 2 * q.pairs.len) (list_of q.roots)

-- ---- what an inquiry shows
-- the computation that its replies are read by
abbrev pub asking : Inquiry → Asking (List RealRoot)
asking q = touching q.poly q.tol (list_of q.roots) (pair_list_of q.pairs)

-- a question, or the list
unfoldable pub shown : Stage (List RealRoot) → Asked
shown (asks x) = Question x
shown (ended l rs) = Finished (roots_of l)

-- no question, and no root
abbrev pub nothing : Asked
nothing = Finished no_roots

-- `ask`; a value that is not sound asks nothing
unfoldable pub asked_of : Inquiry → Asked
unfolding sound_of shown
asked_of q = cond (sound_of q) (shown (walked (replies_of q.replies) (asking q))) nothing

-- the place of a question, and the list that is shown: 0 and no root where there is none
abbrev pub place_of : Asked → Float
place_of (Question x) = x
place_of (Finished l) = zero64

abbrev pub list_in : Asked → Roots
list_in (Question x) = no_roots
list_in (Finished l) = l

abbrev pub is_question : Asked → Bool
is_question (Question x) = true
is_question (Finished l) = false

-- ---- the same for replies that were put in at once
-- why the last one was refused, by those that were not needed: nothing is being asked
unfoldable pub over_by : List Bool → Option Refusal
over_by [] = None
over_by (r ∷ rs) = Some NothingAsked

abbrev pub seen_at : Stage (List RealRoot) → Seen
seen_at s = record { asked = shown s; refused = over_by (left_by s) }

abbrev pub unseen : Seen
unseen = record { asked = nothing; refused = None }

-- `see`; a value that is not sound asks nothing
unfoldable pub seen_of : Inquiry → Seen
unfolding sound_of shown over_by
seen_of q = cond (sound_of q) (seen_at (walked (replies_of q.replies) (asking q))) unseen

-- ---- a reply
-- the inquiry with one reply more
abbrev pub with_reply : Inquiry → Bool → Inquiry
with_reply q r = record { poly = q.poly; tol = q.tol; roots = q.roots; pairs = q.pairs; systems = q.systems; replies = replied_by q.replies r }

-- `reply`: refused where nothing is being asked
abbrev pub replied_by_asked : Asked → Inquiry → Bool → Result Inquiry Refusal
replied_by_asked (Question x) q r = Ok (with_reply q r)
replied_by_asked (Finished l) q r = Err NothingAsked

unfoldable pub replied_of : Inquiry → Bool → Result Inquiry Refusal
unfolding asked_of
replied_of q r = replied_by_asked (asked_of q) q r

-- the inquiry after a reply: unaltered where it is refused
abbrev pub after : Inquiry → Bool → Inquiry
after q r = value_or q (replied_of q r)
