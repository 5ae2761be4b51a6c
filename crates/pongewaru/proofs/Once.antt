-- Replies that are put in at once and walked once show what they show one by one: the first that is not needed is refused, and so is each after it.
use mathlib.Core.Path.{◌≡◌, refl, sym, ap, ◌∙◌, subst, subst⁻¹}
use mathlib.Core.Bool.{Bool, true, false}
use mathlib.Core.List.{List, [], ◌∷◌, ◌++◌}
use Prim.Native.Nat.{ℕ, zero, suc, ◌+◌, ◌≤◌, ◌<◌}
use native.Mathlib.Omega.{arith}
use lib.ListN.{length, take, length-take}
use lib.Ieee.{Float}
use Rattle.std.specs.Prelude.{Some, Result, Ok, Err}
use Rattle.facts.specs.Lists.{length_snoc}
use Rattle.angle.specs.declared.Sine.{Sine}
use Rattle.tally.specs.declared.Tallied.{Tallied}
use Rattle.tally.specs.Tally.{answer_in, systems_in}
use Rattle.refusals.specs.declared.Refusal.{Refusal}
use Rattle.refusals.specs.declared.Refusal.TheVariants.{NothingAsked}
use Rattle.refusals.specs.Refusals.{outcome_of, number_in, value_or, and_then}
use Rattle.roots.specs.declared.RealRoot.{RealRoot}
use Rattle.roots.specs.Listed.{Fits}
use Rattle.poly.specs.declared.Solved.{Solved}
use Rattle.poly.specs.Short.{short_of}
use Rattle.poly.specs.Solve.{solve_of}
use Rattle.poly.specs.RealRoots.{real_roots_systems_of}
use Rattle.poly.proofs.Refusals.{then_number}
use Rattle.poly.proofs.Systems.{short_systems}
use Rattle.asking.specs.Asking.{Asking, Stage, asks, ended, walked, left_by}
use Rattle.asking.proofs.Laws.{ended_more, asks_more, none_left}
use Rattle.touching.specs.declared.Replies.{Replies}
use Rattle.touching.specs.Replies.{no_replies, replied_by}
use Rattle.inquiry.specs.declared.Inquiry.{Inquiry}
use Rattle.inquiry.specs.declared.Asked.{Asked}
use Rattle.inquiry.specs.declared.Seen.{Seen}
use Rattle.inquiry.specs.Inquiry.{shown, place_of, list_in, is_question, over_by, seen_at, asked_of, seen_of, replied_of}
use Rattle.inquiry.specs.Start.{real_roots_touching, fresh_by, start_of, inquiry_in, given, shown_after_of}
use Rattle.inquiry.proofs.Questions.{reply_taken, reply_refused}
use Rattle.inquiry.proofs.Shown.{seen_fits}
use Rattle.inquiry.proofs.Short.{short_starts}
use Rattle.inquiry.proofs.Systems.{after_keeps, start_systems}
use Rattle.inquiry.proofs.Theorem.{Has, has_seen, has_asked, has_more, start_has, start_room}
use Rattle.trig_quartic.specs.declared.TrigEquation.{TrigEquation}
use Rattle.crank.specs.declared.CrankShown.{CrankShown}
use Rattle.crank.specs.declared.CrankInquiry.{CrankInquiry}
use Rattle.crank.specs.Crank.{trig_quartic_of, crank_start_of, crank_in, crank_asked_of, crank_replied_of, crank_shown_of, crank_systems_of}
use Rattle.crank.proofs.Front.{same_inquiry}
use Rattle.lent_bytes.specs.Numbers.{number}
use Rattle.lent_bytes.specs.Bytes.{Answered}
use Rattle.pongewaru.proofs.Answers.{Mapped, told_as, same_number}
use Rattle.pongewaru.specs.Inquiries.{reply_at, each_reply, shown_numbers, fresh, next, fed_all, inquiry_numbers, first_replies, seen_numbers}
use Rattle.pongewaru.specs.Cranks.{next_crank, crank_numbers, shown_after, crank_shown_numbers}

-- ---- what is said of a reply, and what an inquiry shows: a number, and a question or a list
abbrev step : Inquiry → Result Inquiry Refusal → ℕ × Inquiry
step p r = (outcome_of r, value_or p r)

abbrev showing : ℕ → Asked → ℕ × Asked
showing n a = (n, a)

abbrev told : Seen → ℕ × Asked
told s = showing (number_in s.refused) s.asked

abbrev seen_after : ℕ × Inquiry → ℕ × Asked
seen_after f = showing f.0 (asked_of f.1)

-- beside how many systems were solved for it
abbrev shown_by : ℕ → ℕ × Asked → List Float
shown_by systems u = shown_numbers u.0 (is_question u.1) (place_of u.1) (list_in u.1) systems

-- .. which replies leave as it was
fed_all_keeps : (rs : List ℕ) (p : ℕ × Inquiry) → (each_reply next rs p).1.systems ≡ p.1.systems
unfolding each_reply
fed_all_keeps [] p = refl
fed_all_keeps (b ∷ rs) p = fed_all_keeps rs (next p (reply_at b)) ∙ after_keeps p.1 (reply_at b)

-- ---- an inquiry that asks nothing refuses each reply
refuses : (rs : List ℕ) (p : Inquiry) → is_question (asked_of p) ≡ false → each_reply next rs (step p (Err NothingAsked)) ≡ step p (Err NothingAsked)
unfolding each_reply
refuses [] p e = refl
refuses (b ∷ rs) p e = ap (λ (r : Result Inquiry Refusal). each_reply next rs (step p r)) (sym (reply_refused p (reply_at b) e)) ∙ refuses rs p e

-- ---- q asks what t asks, where replies that lead to a question are at most two
module _ (q : Inquiry) (t : Asking (List RealRoot)) (room : (us : List Bool) (x : Float) → walked us t ≡ asks x → length us < 3) where
  -- one was not needed, and those after it are not
  over : (rs : List ℕ) (us left : List Bool) (s : Replies) (l : List RealRoot) (r : Bool) → Has t us (given q s) → length us + length rs ≤ 4
      → walked us t ≡ ended l (r ∷ left) → seen_of (given q (each_reply replied_by rs s)) ≡ record { asked = shown (ended l []); refused = Some NothingAsked }
  unfolding each_reply shown left_by over_by
  over [] us left s l r h f e = has_seen t (given q s) us h ∙ ap seen_at e
  over (b ∷ rs) us left s l r h f e =
      let y = reply_at b in
      over rs (us ++ y ∷ []) (left ++ y ∷ []) (replied_by s y) l r (has_more t (given q s) us y (omega arith) h) (omega (arith, length_snoc us y))
      (ended_more us t l (r ∷ left) y e)

  -- with the replies us at hand, all of them needed, and room for n more and for one that is refused
  abbrev Once : List ℕ → ℕ → List Bool → Replies → Type 0
  Once rs n us s =
      Has t us (given q s) → length us + n ≡ 3 → left_by (walked us t) ≡ []
      → seen_after (each_reply next rs (fresh (given q s))) ≡ told (seen_of (given q (each_reply replied_by (take (suc n) rs) s)))

  one_more : (b : ℕ) (rs : List ℕ) → ((n : ℕ) (us : List Bool) (s : Replies) → Once rs n us s)
      → (st : Stage (List RealRoot)) (n : ℕ) (us : List Bool) (s : Replies) → walked us t ≡ st → Once (b ∷ rs) n us s
  unfolding each_reply shown left_by
  one_more b rs go (asks x) zero us s w h f e = absurd (omega (arith, room us x w, f))
  one_more b rs go (asks x) (suc n) us s w h f e =
      let p = given q s in
      let y = reply_at b in
      let on : is_question (asked_of p) ≡ true = ap is_question (has_asked t p us h ∙ ap shown w) in
      ap (λ (r : Result Inquiry Refusal). seen_after (each_reply next rs (step p r))) (sym (reply_taken p y on))
      ∙ go n (us ++ y ∷ []) (replied_by s y) (has_more t p us y (omega arith) h) (omega (arith, length_snoc us y)) (asks_more us t x y w)
  one_more b rs go (ended l left) n us s w h f e =
      let p = given q s in
      let y = reply_at b in
      let is = has_asked t p us h ∙ ap shown w in
      let off : is_question (asked_of p) ≡ false = ap is_question is in
      let all : left ≡ [] = sym (ap left_by w) ∙ e in
      ap (λ (r : Result Inquiry Refusal). seen_after (each_reply next rs (step p r))) (sym (reply_refused p y off))
      ∙ ap seen_after (refuses rs p off)
      ∙ ap (showing 4) is
      ∙ sym
      (ap told
      (over (take n rs) (us ++ y ∷ []) [] (replied_by s y) l y (has_more t p us y (omega arith) h) (omega (arith, length_snoc us y, length-take n rs))
      (ended_more us t l left y w ∙ ap (λ (k : List Bool). ended l (k ++ y ∷ [])) all)))

  once : (rs : List ℕ) (n : ℕ) (us : List Bool) (s : Replies) → Once rs n us s
  unfolding each_reply over_by
  once [] n us s h f e =
      ap (showing 0) (has_asked t (given q s) us h)
      ∙ ap (λ (k : List Bool). showing (number_in (over_by k)) (shown (walked us t))) (sym e)
      ∙ sym (ap told (has_seen t (given q s) us h))
  once (b ∷ rs) n us s h f e = one_more b rs (once rs) (walked us t) n us s refl h f e

-- ---- what `start` makes
start_given : (r : Result Solved Refusal)
    → let q = inquiry_in (and_then r (λ s. Ok (fresh_by s))) in q ≡ given q no_replies
start_given (Ok s) = refl
start_given (Err refusal) = refl

module _ (sine : Sine) (coeffs : List Float) (tol : Float) (rs : List ℕ) where
  abbrev q : Inquiry
  q = inquiry_in (start_of sine coeffs tol)

  q_given : q ≡ given q no_replies
  unfolding start_of
  q_given = start_given (solve_of sine coeffs tol)

  fed_once : seen_numbers (seen_of (given q (first_replies rs))) q.systems ≡ inquiry_numbers (fed_all rs q)
  unfolding first_replies inquiry_numbers
  fed_once =
      let t = real_roots_touching sine coeffs tol in
      sym (ap (λ (n : ℕ). shown_by n (seen_after (fed_all rs q))) (fed_all_keeps rs (fresh q)) ∙ ap (shown_by q.systems)
      (ap (λ (p : Inquiry). seen_after (each_reply next rs (fresh p))) q_given
      ∙ once q t (start_room sine coeffs tol) rs 3 [] no_replies (subst (Has t []) q_given (start_has sine coeffs tol)) refl (none_left t)))

-- what `shown_after` gives for the six numbers in place of the coefficients
abbrev pub seen_told : Tallied Seen → List Float
seen_told t = seen_numbers t.value t.systems

module _ (sine : Sine) (coeffs : List Float) (tol : Float) (rs : List ℕ) (s : Result (Tallied Seen) Refusal)
    (is : answer_in s ≡ shown_after_of sine (short_of coeffs) tol (first_replies rs)) where
  abbrev shows : Result Inquiry Refusal → Result Seen Refusal
  shows start = and_then start (λ p. Ok (seen_of (given p (first_replies rs))))

  short_shows : answer_in s ≡ shows (start_of sine coeffs tol)
  unfolding shown_after_of
  short_shows = is ∙ ap shows (short_starts sine coeffs tol)

  pub shown_number : outcome_of s ≡ outcome_of (start_of sine coeffs tol)
  shown_number =
      same_number s ∙ ap outcome_of short_shows ∙ then_number (λ p. seen_of (given p (first_replies rs))) (start_of sine coeffs tol)

  module _ (x : Tallied Seen) (e : s ≡ Ok x) where
    shown_is : x.value ≡ seen_of (given (inquiry_in (start_of sine coeffs tol)) (first_replies rs))
    shown_is = go (start_of sine coeffs tol) (sym short_shows ∙ ap answer_in e)
      where
        go : (start : Result Inquiry Refusal) → shows start ≡ Ok x.value → x.value ≡ seen_of (given (inquiry_in start) (first_replies rs))
        go (Ok p) h = cc
        go (Err refusal) h = absurd cc

    pub shown_fits : Fits (list_in x.value.asked)
    shown_fits = subst⁻¹ (λ (t : Seen). Fits (list_in t.asked)) shown_is (seen_fits _)

    module _ (count : systems_in s ≡ real_roots_systems_of sine (short_of coeffs) tol) where
      shown_count : x.systems ≡ (inquiry_in (start_of sine coeffs tol)).systems
      shown_count =
          sym (ap systems_in e) ∙ count ∙ short_systems sine coeffs tol
          ∙ sym (start_systems sine coeffs tol)

      pub shown_numbers_are : seen_told x
          ≡ inquiry_numbers (fed_all rs (inquiry_in (start_of sine coeffs tol)))
      shown_numbers_are =
          (λ i. seen_numbers (shown_is i) (shown_count i)) ∙ fed_once sine coeffs tol rs

-- for `using`: of the replies f that are put in at once, the six numbers in place of the coefficients
module _ (sine : Sine) (coeffs short : List Float) (tol : Float) (rs : List ℕ) (f : Replies) (s : Result (Tallied Seen) Refusal) (h : short ≡ short_of coeffs)
    (first : f ≡ first_replies rs) (is : answer_in s ≡ shown_after_of sine short tol f) (count : systems_in s ≡ real_roots_systems_of sine short tol) where
  in_short : answer_in s ≡ shown_after_of sine (short_of coeffs) tol (first_replies rs)
  in_short = rw (h, first) at is

  count_in_short : systems_in s ≡ real_roots_systems_of sine (short_of coeffs) tol
  count_in_short = rw h at count

  pub inquired_fits : {x : Tallied Seen} → s ≡ Ok x → Fits (list_in x.value.asked)
  inquired_fits e = shown_fits sine coeffs tol rs s in_short _ e

  pub inquired : (y : Result (List Float) Refusal) {l : List ℕ} {r : ℕ} {m : List ℕ} → Mapped seen_told s y → Answered (outcome_of y) (value_or [] y) l r m
      → Answered (outcome_of (start_of sine coeffs tol)) (inquiry_numbers (fed_all rs (inquiry_in (start_of sine coeffs tol)))) l r m
  inquired y same a =
      told_as seen_told s y same (shown_number sine coeffs tol rs s in_short)
      (λ x e. shown_numbers_are sine coeffs tol rs s in_short x e count_in_short) a

-- ---- a crank's inquiry, k beside it
abbrev with : ℕ → Inquiry → CrankInquiry
with k p = record { k = k; inquiry = p }

abbrev beside : ℕ → ℕ × Inquiry → ℕ × CrankInquiry
beside k p = (p.0, with k p.1)

crank_step : (k : ℕ) (p : Inquiry) (r : Result Inquiry Refusal)
    → let c = and_then r (λ i. Ok (with k i)) in (outcome_of c, value_or (with k p) c) ≡ beside k (step p r)
crank_step k p (Ok i) = refl
crank_step k p (Err refusal) = refl

crank_fed_is : (k : ℕ) (rs : List ℕ) (p : ℕ × Inquiry) → each_reply next_crank rs (beside k p) ≡ beside k (each_reply next rs p)
unfolding each_reply crank_replied_of
crank_fed_is k [] p = refl
crank_fed_is k (b ∷ rs) p =
    ap (each_reply next_crank rs) (crank_step k p.1 (replied_of p.1 (reply_at b))) ∙ crank_fed_is k rs (next p (reply_at b))

-- what a crank's start shows, of a refused one too
module _ (sine : Sine) (confusion : Float) (trig : TrigEquation) (rs : List ℕ) where
  abbrev begun : CrankInquiry
  begun = crank_in (crank_start_of sine confusion trig)

  crank_once : number begun.k ∷ seen_numbers (seen_of (given begun.inquiry (first_replies rs))) begun.inquiry.systems
      ≡ shown_after rs (crank_start_of sine confusion trig)
  unfolding crank_numbers crank_asked_of inquiry_numbers
  crank_once =
      let once = subst⁻¹ (λ (i : Inquiry). seen_numbers (seen_of (given i (first_replies rs))) i.systems ≡ inquiry_numbers (fed_all rs i))
      (same_inquiry trig sine confusion) (fed_once sine (trig_quartic_of trig) confusion rs) in
      ap (λ (l : List Float). number begun.k ∷ l) once ∙ sym (ap crank_numbers (crank_fed_is begun.k rs (fresh begun.inquiry)))

abbrev pub crank_told : Tallied CrankShown → List Float
crank_told t = crank_shown_numbers t.value t.systems

module _ (sine : Sine) (confusion : Float) (trig : TrigEquation) (rs : List ℕ) (s : Result (Tallied CrankShown) Refusal)
    (is : answer_in s ≡ crank_shown_of sine confusion trig (first_replies rs)) where
  abbrev shows_at : CrankInquiry → CrankShown
  shows_at c = record { k = c.k; seen = seen_of (given c.inquiry (first_replies rs)) }

  pub crank_number : outcome_of s ≡ outcome_of (crank_start_of sine confusion trig)
  unfolding crank_shown_of
  crank_number = same_number s ∙ ap outcome_of is ∙ then_number shows_at (crank_start_of sine confusion trig)

  module _ (x : Tallied CrankShown) (e : s ≡ Ok x) where
    crank_is : x.value ≡ shows_at (crank_in (crank_start_of sine confusion trig))
    unfolding crank_shown_of
    crank_is = go (crank_start_of sine confusion trig) (sym is ∙ ap answer_in e)
      where
        go : (start : Result CrankInquiry Refusal) → and_then start (λ c. Ok (shows_at c)) ≡ Ok x.value → x.value ≡ shows_at (crank_in start)
        go (Ok c) h = cc
        go (Err refusal) h = absurd cc

    pub crank_fits : Fits (list_in x.value.seen.asked)
    crank_fits = subst⁻¹ (λ (t : CrankShown). Fits (list_in t.seen.asked)) crank_is (seen_fits _)

    module _ (count : systems_in s ≡ crank_systems_of sine confusion trig) where
      crank_count : x.systems ≡ (crank_in (crank_start_of sine confusion trig)).inquiry.systems
      unfolding crank_systems_of
      crank_count = sym (ap systems_in e) ∙ count

      pub crank_numbers_are : crank_told x ≡ shown_after rs (crank_start_of sine confusion trig)
      crank_numbers_are =
          (λ i. crank_shown_numbers (crank_is i) (crank_count i))
          ∙ crank_once sine confusion trig rs

module _ (sine : Sine) (confusion : Float) (trig : TrigEquation) (rs : List ℕ) (f : Replies) (s : Result (Tallied CrankShown) Refusal)
    (first : f ≡ first_replies rs) (is : answer_in s ≡ crank_shown_of sine confusion trig f) (count : systems_in s ≡ crank_systems_of sine confusion trig) where
  cranked : answer_in s ≡ crank_shown_of sine confusion trig (first_replies rs)
  cranked = rw first at is

  pub turned_fits : {x : Tallied CrankShown} → s ≡ Ok x → Fits (list_in x.value.seen.asked)
  turned_fits e = crank_fits sine confusion trig rs s cranked _ e

  pub turned : (y : Result (List Float) Refusal) {l : List ℕ} {r : ℕ} {m : List ℕ} → Mapped crank_told s y → Answered (outcome_of y) (value_or [] y) l r m
      → Answered (outcome_of (crank_start_of sine confusion trig)) (shown_after rs (crank_start_of sine confusion trig)) l r m
  turned y same a =
      told_as crank_told s y same (crank_number sine confusion trig rs s cranked)
      (λ x e. crank_numbers_are sine confusion trig rs s cranked x e count) a
