-- Replies fed one after another, and the numbers that say what an inquiry shows.
use mathlib.Core.Path.{◌≡◌, refl, ap}
use mathlib.Core.Bool.{Bool, true, false}
use mathlib.Core.List.{List, [], ◌∷◌, ◌++◌, append-nil}
use Prim.Native.Nat.{ℕ, ◌+◌, ◌≤◌, ◌<◌}
use native.Mathlib.Numerals.{add-one}
use lib.ListN.{length, take, drop, get_or, drop_of_length-le}
use lib.Seq.{drop-cons}
use lib.Ieee.{Float, of_bits, of_int}
use mir.Val.{bool_byte}
use Rattle.std.proofs.Common.{min}
use Rattle.std.proofs.Math.Nat.{min_comm}
use Rattle.std.proofs.lemmas.List.{take_min}
use Rattle.roots.specs.declared.Roots.{Roots}
use Rattle.lent_bytes.specs.Numbers.{number, flag_of}
use Rattle.pongewaru.specs.Lists.{told_numbers}
use Rattle.pongewaru.specs.Inquiries.{reply_at, each_reply, shown_numbers}

module _ {A : Type 0} (f : A → Bool → A) (rs : List ℕ) (i : ℕ) (p : A) where
  pub fed_next : i < length rs → each_reply f (drop i rs) p ≡ each_reply f (drop (i + 1) rs) (f p (reply_at (get_or rs i 0)))
  unfolding each_reply
  fed_next h = rw (add-one) (ap (λ (l : List ℕ). each_reply f l p) (drop-cons rs i 0 h))

  pub fed_end : length rs ≤ i → each_reply f (drop i rs) p ≡ p
  unfolding each_reply
  fed_end h = ap (λ (l : List ℕ). each_reply f l p) (drop_of_length-le rs {i = i} h)

-- the first four, as a slice
pub few : (rs : List ℕ) {k : ℕ} → k ≡ min (length rs) 4 → take k rs ≡ take 4 rs
few rs e = rw (e, min_comm (length rs) 4) (take_min 4 rs)

pub ruleset fed = (fed_next, fed_end, few)

flag_is : (asks : Bool) → number (bool_byte asks) ≡ flag_of asks
unfolding of_bits of_int
flag_is true = refl
flag_is false = refl

-- from the numbers of the list
pub shown_is : (n : ℕ) (asks : Bool) (place x : Float) (list : Roots) (systems : ℕ) (l : List Float) → x ≡ number (bool_byte asks)
    → l ≡ told_numbers list systems → number n ∷ x ∷ place ∷ (l ++ []) ≡ shown_numbers n asks place list systems
unfolding shown_numbers
shown_is n asks place x list systems l e f = rw (append-nil, f, e, flag_is asks)
