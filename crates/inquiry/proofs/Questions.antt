-- What an inquiry shows, for every list of replies: while it asks there is room for one reply more; and a reply is taken or refused.
use mathlib.Core.Path.{◌≡◌, refl, sym}
use mathlib.Core.Bool.{Bool, true, false, cond, true≢false, false≢true}
use mathlib.Core.List.{List}
use Prim.Native.Nat.{ℕ, ◌+◌, ◌*◌, ◌-◌, ◌<◌}
use native.Mathlib.Omega.{arith}
use lib.ListN.{length}
use lib.Seq.{length-take-le}
use Rattle.std.specs.Prelude.{Ok, Err}
use Rattle.refusals.specs.declared.Refusal.TheVariants.{NothingAsked}
use Rattle.roots.specs.declared.RealRoot.{RealRoot}
use Rattle.roots.specs.Roots.{list_of, pair_list_of}
use Rattle.roots.specs.Listed.{multiplicities}
use Rattle.roots.proofs.Laws.{length_pair_list}
use Rattle.roots.proofs.Sums.{length_counted}
use Rattle.asking.specs.Asking.{Stage, asks, ended, walked}
use Rattle.asking.specs.Within.{AtStage}
use Rattle.asking.proofs.Within.{walked_within}
use Rattle.touching.specs.Replies.{replies_of}
use Rattle.touching.proofs.Bound.{ListedIn, touching_within}
use Rattle.inquiry.specs.declared.Inquiry.{Inquiry}
use Rattle.inquiry.specs.declared.Asked.{Asked}
use Rattle.inquiry.specs.declared.Asked.TheVariants.{Question, Finished}
use Rattle.inquiry.specs.Inquiry.{sound_of, asking, shown, nothing, asked_of, is_question, with_reply, replied_by_asked, replied_of}
use Rattle.inquiry.proofs.Sound.{sound_is}

-- what asks is sound, and at a question
asks_sound : (q : Inquiry) → is_question (asked_of q) ≡ true → (sound_of q ≡ true) × (is_question (shown (walked (replies_of q.replies) (asking q))) ≡ true)
unfolding asked_of
asks_sound q = go (sound_of q) refl
  where
    go : (b : Bool) → sound_of q ≡ b → is_question (cond b (shown (walked (replies_of q.replies) (asking q))) nothing) ≡ true
        → (sound_of q ≡ true) × (is_question (shown (walked (replies_of q.replies) (asking q))) ≡ true)
    go true s e = (s, e)
    go false s e = absurd (false≢true e)

at_question : (n m : ℕ) (P : List RealRoot → Type 0) (s : Stage (List RealRoot)) → is_question (shown s) ≡ true → AtStage (n < m) P s → n < m
unfolding shown
at_question n m P (asks x) e h = h
at_question n m P (ended l rs) e h = absurd (false≢true e)

-- while it asks, fewer than three replies are there (the lengths are those of the arrays)
pub asking_room : (q : Inquiry) → length q.replies.reply ≡ 4 → length q.roots.root ≡ 4 → length q.pairs.pair ≡ 2
    → is_question (asked_of q) ≡ true → q.replies.count < 3
asking_room q l m n e =
    let on = asks_sound q e in
    let s = sound_is q on.0 in
    let rs = replies_of q.replies in
    let roots = list_of q.roots in
    let pairs = pair_list_of q.pairs in
    let most = (length roots + 2 * length pairs) - 1 in
    let P = ListedIn (multiplicities roots + 2 * length pairs) in
    let few = at_question (length rs) most P (walked rs (asking q)) on.1
    (walked_within P rs most (asking q) (touching_within q.poly q.tol roots pairs)) in
    let replies : length rs ≡ q.replies.count = length-take-le q.replies.count q.replies.reply (omega (arith, l, s.replies)) in
    omega (arith, few, replies, length_pair_list q.pairs (n, s.pairs), length_counted roots s.counted, s.total)

-- ---- a reply
module _ (q : Inquiry) (r : Bool) where
  taken : (a : Asked) → is_question a ≡ true → replied_by_asked a q r ≡ Ok (with_reply q r)
  taken (Question x) e = refl
  taken (Finished l) e = absurd (false≢true e)

  refused : (a : Asked) → is_question a ≡ false → replied_by_asked a q r ≡ Err NothingAsked
  refused (Question x) e = absurd (true≢false e)
  refused (Finished l) e = refl

  pub reply_taken : is_question (asked_of q) ≡ true → Ok (with_reply q r) ≡ replied_of q r
  unfolding replied_of
  reply_taken e = sym (taken (asked_of q) e)

  pub reply_refused : is_question (asked_of q) ≡ false → Err NothingAsked ≡ replied_of q r
  unfolding replied_of
  reply_refused e = sym (refused (asked_of q) e)
