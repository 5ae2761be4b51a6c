-- The list that an inquiry shows has at most four roots, which count at most four times, whatever the inquiry is; `see` shows it too.
use mathlib.Core.Path.{◌≡◌, refl, sym, ap, ◌∙◌, subst, subst⁻¹}
use mathlib.Core.Bool.{Bool, true, false, cond}
use mathlib.Core.List.{List, []}
use Prim.Native.Nat.{ℕ, ◌+◌, ◌-◌, ◌*◌, ◌≤◌, ◌<◌}
use native.Mathlib.Omega.{arith}
use lib.ListN.{length, length-take}
use Rattle.roots.specs.declared.RealRoot.{RealRoot}
use Rattle.roots.specs.Roots.{list_of, pair_list_of}
use Rattle.roots.specs.Listed.{multiplicities, Fits, Within}
use Rattle.roots.proofs.Laws.{list_roots, roots_fit}
use Rattle.roots.proofs.Sums.{counted, length_counted, within_none, within_more}
use Rattle.asking.specs.Asking.{Stage, asks, ended, walked}
use Rattle.asking.specs.Within.{AtStage}
use Rattle.asking.proofs.Within.{walked_within}
use Rattle.touching.specs.Replies.{replies_of}
use Rattle.touching.proofs.Bound.{ListedIn, touching_within}
use Rattle.inquiry.specs.declared.Inquiry.{Inquiry}
use Rattle.inquiry.specs.declared.Asked.{Asked}
use Rattle.inquiry.specs.declared.Seen.{Seen}
use Rattle.inquiry.specs.Inquiry.{sound_of, asking, shown, nothing, list_in, seen_at, unseen, asked_of, seen_of}
use Rattle.inquiry.proofs.Sound.{sound_is}

stage_fits : (d : ℕ) (X : Type 0) (s : Stage (List RealRoot)) → d ≤ 4 → AtStage X (ListedIn d) s → Fits (list_in (shown s))
unfolding shown
stage_fits d X (asks x) four h = (refl, omega arith)
stage_fits d X (ended l rs) four h = let each = length_counted l (counted l h.0) in let sum = h.1 in roots_fit l (omega arith)

stage_within : (d : ℕ) (X : Type 0) (s : Stage (List RealRoot)) → d ≤ 4 → AtStage X (ListedIn d) s → Within 4 (list_of (list_in (shown s)))
unfolding shown
stage_within d X (asks x) four h = within_more 0 4 [] (omega arith) within_none
stage_within d X (ended l rs) four h =
    let each = length_counted l (counted l h.0) in
    let sum = h.1 in
    rw (list_roots l) (record { four = omega arith; listed = h.0; sum = omega arith })

-- what holds of nothing, and at every stage of a sound inquiry
shown_by : (P : Asked → Type 0) → P nothing → ((d : ℕ) (X : Type 0) (s : Stage (List RealRoot)) → d ≤ 4 → AtStage X (ListedIn d) s → P (shown s))
    → (q : Inquiry) → P (asked_of q)
unfolding asked_of
shown_by P none each q = go (sound_of q) refl
  where
    rs : List Bool
    rs = replies_of q.replies

    go : (b : Bool) → sound_of q ≡ b → P (cond b (shown (walked rs (asking q))) nothing)
    go false e = none
    go true e =
        let roots = list_of q.roots in
        let pairs = pair_list_of q.pairs in
        let most = (length roots + 2 * length pairs) - 1 in
        let d = multiplicities roots + 2 * length pairs in
        let total = (sound_is q e).total in
        let few = length-take q.pairs.len q.pairs.pair in
        each d (length rs < most) (walked rs (asking q)) (omega arith)
        (walked_within (ListedIn d) rs most (asking q) (touching_within q.poly q.tol roots pairs))

pub shown_fits : (q : Inquiry) → Fits (list_in (asked_of q))
shown_fits = shown_by (λ a. Fits (list_in a)) (refl, omega arith) stage_fits

pub shown_within : (q : Inquiry) → Within 4 (list_of (list_in (asked_of q)))
shown_within = shown_by (λ a. Within 4 (list_of (list_in a))) (within_more 0 4 [] (omega arith) within_none) stage_within

pub asked_seen : (q : Inquiry) → asked_of q ≡ (seen_of q).asked
unfolding asked_of seen_of
asked_seen q = go (sound_of q) (seen_at (walked (replies_of q.replies) (asking q))) unseen
  where
    go : (b : Bool) (s u : Seen) → cond b s.asked u.asked ≡ (cond b s u).asked
    go true s u = refl
    go false s u = refl

pub seen_fits : (q : Inquiry) → Fits (list_in (seen_of q).asked)
seen_fits q = subst (λ (a : Asked). Fits (list_in a)) (asked_seen q) (shown_fits q)

-- what `ask` promises, of what `see` shows
pub asked_within : (q : Inquiry) (s : Seen) → s ≡ seen_of q → (s.asked ≡ asked_of q) × Within 4 (list_of (list_in s.asked))
asked_within q s h =
    let e : s.asked ≡ asked_of q = ap (λ (t : Seen). t.asked) h ∙ sym (asked_seen q) in
    (e, subst⁻¹ (λ (a : Asked). Within 4 (list_of (list_in a))) e (shown_within q))
