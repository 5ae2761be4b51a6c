-- What the export for inquiries stores, and its answer. Definitions only.
use Rattle.std.specs.Prelude.{Bool, not, List, [], ◌∷◌, ℕ, eqb, take, Float, Result}
use Rattle.angle.specs.declared.Sine.{Sine}
use Rattle.refusals.specs.declared.Refusal.{Refusal}
use Rattle.refusals.specs.declared.Refusal.TheVariants.{CutDouble}
use Rattle.refusals.specs.Refusals.{number_of, outcome_of, number_in}
use Rattle.roots.specs.declared.Roots.{Roots}
use Rattle.touching.specs.declared.Replies.{Replies}
use Rattle.touching.specs.Replies.{no_replies, replied_by}
use Rattle.inquiry.specs.declared.Inquiry.{Inquiry}
use Rattle.inquiry.specs.declared.Seen.{Seen}
use Rattle.inquiry.specs.Inquiry.{asked_of, place_of, list_in, is_question, replied_of, after}
use Rattle.inquiry.specs.Start.{start_of, inquiry_in}
use Rattle.lent_bytes.specs.Bytes.{unless}
use Rattle.lent_bytes.specs.Numbers.{number, flag_of}
use Rattle.lent_coefficients.specs.Coefficients.{coefficients_at}
use Rattle.pongewaru.specs.Lists.{not_doubles, told_numbers}

-- a reply's byte: 0 is no, every other one yes
abbrev pub reply_at : ℕ → Bool
reply_at b = not (eqb b 0)

-- each reply in turn
module _ {A : Type 0} where
  unfoldable pub each_reply : (A → Bool → A) → List ℕ → A → A
  each_reply f [] p = p
  each_reply f (b ∷ rs) p = each_reply f rs (f p (reply_at b))

-- the last reply's number, 4 from the first refused one on; whether there is a question, its place, and the list; how many systems were solved
unfoldable pub shown_numbers : ℕ → Bool → Float → Roots → ℕ → List Float
shown_numbers n asks place list systems = number n ∷ flag_of asks ∷ place ∷ told_numbers list systems

-- ---- lists
-- the last reply's number, and the inquiry
abbrev pub fresh : Inquiry → ℕ × Inquiry
fresh q = (0, q)

abbrev pub next : ℕ × Inquiry → Bool → ℕ × Inquiry
next p reply = (outcome_of (replied_of p.1 reply), after p.1 reply)

-- a refused reply leaves the inquiry as it was
abbrev pub fed_all : List ℕ → Inquiry → ℕ × Inquiry
fed_all rs q = each_reply next rs (fresh q)

unfoldable pub inquiry_numbers : ℕ × Inquiry → List Float
inquiry_numbers p = let a = asked_of p.1 in shown_numbers p.0 (is_question a) (place_of a) (list_in a) p.1.systems

-- the inquiry about the doubles in the bytes
unfoldable pub start_at : Sine → List ℕ → Float → Result Inquiry Refusal
start_at sine s tol = start_of sine (coefficients_at s) tol

-- the refusal of its start, which the bytes have where they are no doubles, and what it shows then
abbrev pub inquiry_refusal : Sine → List ℕ → Float → ℕ
inquiry_refusal sine s tol = unless (number_of CutDouble) (not_doubles s) (outcome_of (start_at sine s tol))

abbrev pub shown_at : Sine → List ℕ → Float → List ℕ → List Float
shown_at sine s tol rs = inquiry_numbers (fed_all rs (inquiry_in (start_at sine s tol)))

-- ---- the same with the replies put in at once, which proofs/Once.antt shows
-- at most three questions are asked, so that the fourth reply is refused, if it is there, and each after it
unfoldable pub first_replies : List ℕ → Replies
first_replies rs = each_reply replied_by (take 4 rs) no_replies

abbrev pub seen_numbers : Seen → ℕ → List Float
seen_numbers s systems = let a = s.asked in shown_numbers (number_in s.refused) (is_question a) (place_of a) (list_in a) systems
