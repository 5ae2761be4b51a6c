-- The ways out of `crank`: the refusal of its start, or a list, every question replied no.
use mathlib.Core.Path.{◌≡◌, refl, sym, ap, ◌∙◌}
use mathlib.Core.Bool.{false, false≢true}
use Prim.Native.Nat.{ℕ, ◌≤◌}
use native.Mathlib.Omega.{arith}
use lib.Ieee.{Float}
use Rattle.std.specs.Prelude.{Result, Ok, Err}
use Rattle.refusals.specs.declared.Refusal.{Refusal}
use Rattle.refusals.specs.Refusals.{number_of, outcome_of, value_or, and_then}
use Rattle.refusals.proofs.Numbers.{number_bounds}
use Rattle.tally.specs.declared.Tallied.{Tallied}
use Rattle.tally.specs.Tally.{answer_in, systems_in}
use Rattle.roots.specs.declared.Roots.{Roots}
use Rattle.roots.specs.Roots.{roots_of}
use Rattle.angle.specs.declared.Sine.{Sine}
use Rattle.poly.specs.Coefficients.{degree_left}
use Rattle.poly.specs.RealRoots.{real_roots_systems_of}
use Rattle.trig_quartic.specs.declared.TrigEquation.{TrigEquation}
use Rattle.trig_quartic.specs.declared.Crank.{Crank}
use Rattle.trig_quartic.specs.Crank.{sample_of, crank_front_of}
use Rattle.touching.specs.declared.Replies.{Replies}
use Rattle.inquiry.specs.declared.Inquiry.{Inquiry}
use Rattle.inquiry.specs.declared.Asked.{Asked}
use Rattle.inquiry.specs.declared.Seen.{Seen}
use Rattle.inquiry.specs.declared.Asked.TheVariants.{Question, Finished}
use Rattle.inquiry.specs.Inquiry.{list_in, is_question, seen_of}
use Rattle.inquiry.specs.Start.{start_of, inquiry_in, given, shown_after_of}
use Rattle.inquiry.proofs.Shown.{asked_seen}
use Rattle.inquiry.proofs.Systems.{start_systems}
use Rattle.crank.specs.declared.CrankInquiry.{CrankInquiry}
use Rattle.crank.specs.declared.CrankShown.{CrankShown}
use Rattle.crank.specs.declared.CrankAnswer.{CrankAnswer}
use Rattle.crank.specs.declared.CrankRefused.{CrankRefused}
use Rattle.crank.specs.Crank.{trig_quartic_of, solve_trig_of, crank_start_of, crank_in, crank_shown_of, crank_of, crank_systems_of}
use Rattle.crank.proofs.Front.{quartic_five, started}
use Rattle.crank.proofs.Feeding.{four_no, all_no, no_listed}

-- ---- what is shown
module _ (sine : Sine) (confusion : Float) (rs : Replies) where
  abbrev shown : CrankInquiry → CrankShown
  shown c = record { k = c.k; seen = seen_of (given c.inquiry rs) }

  list_shown : (k : ℕ) (r : Result Inquiry Refusal)
      → and_then (and_then r (λ q. Ok (seen_of (given q rs)))) (λ seen. Ok (record { k = k; seen = seen }))
      ≡ and_then (and_then r (λ q. Ok (record { k = k; inquiry = q }))) (λ c. Ok (shown c))
  list_shown k (Ok q) = refl
  list_shown k (Err refusal) = refl

  front_shown : (f : Result Crank Refusal)
      → and_then f (λ c. and_then (shown_after_of sine c.q confusion rs) (λ seen. Ok (record { k = c.k; seen = seen })))
      ≡ and_then (and_then f (λ c. and_then (start_of sine c.q confusion) (λ q. Ok (record { k = c.k; inquiry = q })))) (λ c. Ok (shown c))
  unfolding shown_after_of
  front_shown (Ok c) = list_shown c.k (start_of sine c.q confusion)
  front_shown (Err refusal) = refl

  -- what `inquiry::shown_after` shows of the front's quartic, with its k
  pub shown_is : (trig : TrigEquation)
      → and_then (crank_front_of trig) (λ c. and_then (shown_after_of sine c.q confusion rs) (λ seen. Ok (record { k = c.k; seen = seen })))
      ≡ crank_shown_of sine confusion trig rs
  unfolding crank_shown_of crank_start_of
  shown_is trig = front_shown (crank_front_of trig)

  -- a refusal of the front's quartic is that of what is shown
  pub shown_refused : (trig : TrigEquation) (front : Crank) (refusal : Refusal)
      {a : Result (Tallied CrankShown) Refusal} → Ok front ≡ crank_front_of trig
      → Err refusal ≡ shown_after_of sine front.q confusion rs → a ≡ Err refusal
      → answer_in a ≡ crank_shown_of sine confusion trig rs
  shown_refused trig front refusal f e is =
      let by_front = λ (r : Result Crank Refusal).
      and_then r (λ c. and_then (shown_after_of sine c.q confusion rs)
      (λ seen. Ok (record { k = c.k; seen = seen }))) in
      ap answer_in is
      ∙ ap (λ (r : Result Seen Refusal). and_then r (λ seen. Ok (record { k = front.k; seen = seen }))) e
      ∙ ap by_front f ∙ shown_is trig

-- ---- how many systems are solved: those of the front's quartic
module _ (sine : Sine) (confusion : Float) where
  abbrev begun : ℕ → Result Inquiry Refusal → Result CrankInquiry Refusal
  begun k r = and_then r (λ q. Ok (record { k = k; inquiry = q }))

  abbrev systems_by : Result Crank Refusal → ℕ
  systems_by f = (crank_in (and_then f (λ c. begun c.k (start_of sine c.q confusion)))).inquiry.systems

  begun_systems : (k : ℕ) (r : Result Inquiry Refusal) → (inquiry_in r).systems ≡ (crank_in (begun k r)).inquiry.systems
  begun_systems k (Ok q) = refl
  begun_systems k (Err refusal) = refl

  module _ (trig : TrigEquation) where
    -- no system is solved where the equation is refused, whatever type the refusal has
    none_solved : {R : Type 0} {r : R} {refusal : Refusal} {a : Result (Tallied CrankShown) R}
        → Err refusal ≡ crank_front_of trig → a ≡ Err r
        → systems_in a ≡ crank_systems_of sine confusion trig
    unfolding crank_systems_of crank_start_of
    none_solved e is = ap systems_in is ∙ ap systems_by e

    pub none_by_front : (refusal : Refusal) {a : Result (Tallied CrankShown) Refusal}
        → Err refusal ≡ crank_front_of trig → a ≡ Err refusal
        → systems_in a ≡ crank_systems_of sine confusion trig
    none_by_front refusal e is = none_solved e is

    -- the same where k stands beside the refusal
    pub none_with_k : (refusal : Refusal) (r : CrankRefused)
        {a : Result (Tallied CrankShown) CrankRefused} → Err refusal ≡ crank_front_of trig
        → a ≡ Err r → systems_in a ≡ crank_systems_of sine confusion trig
    none_with_k refusal r e is = none_solved e is

    pub systems_by_front : (front : Crank) {n : ℕ} → Ok front ≡ crank_front_of trig → n ≡ real_roots_systems_of sine front.q confusion
        → n ≡ crank_systems_of sine confusion trig
    unfolding crank_systems_of crank_start_of
    systems_by_front front e is =
        is ∙ sym (start_systems sine front.q confusion) ∙ begun_systems front.k (start_of sine front.q confusion) ∙ ap systems_by e

-- ---- the answer
module _ (sine : Sine) (confusion : Float) (trig : TrigEquation) where
  abbrev start : Result CrankInquiry Refusal
  start = crank_start_of sine confusion trig

  abbrev pub listed : CrankAnswer
  listed = let solved = solve_trig_of sine (λ k u. false) confusion trig in record { k = solved.0; roots = roots_of solved.1 }

  -- the list where the start is not refused, and else its refusal
  pub answer_by : (P : Result CrankAnswer Refusal → Type 0) → (outcome_of start ≡ 0 → P (Ok listed))
      → ((refusal : Refusal) → start ≡ Err refusal → P (Err refusal)) → P (crank_of sine confusion trig)
  unfolding crank_of
  answer_by P f g = go start refl
    where
      go : (r : Result CrankInquiry Refusal) → start ≡ r → P (and_then r (λ c. Ok listed))
      go (Ok c) e = f (ap outcome_of e)
      go (Err refusal) e = g refusal e

  -- the replies no, put in at once
  module _ (s : CrankShown) (is-s : Ok s ≡ crank_shown_of sine confusion trig four_no) where
    shown_no : (outcome_of start ≡ 0)
        × (s ≡ record { k = sample_of trig; seen = seen_of (all_no (inquiry_in (start_of sine (trig_quartic_of trig) confusion))) })
    unfolding crank_shown_of
    shown_no = go start refl is-s
      where
        go : (r : Result CrankInquiry Refusal) → start ≡ r → Ok s ≡ and_then r (λ c. Ok (shown sine confusion four_no c)) → (outcome_of start ≡ 0)
            × (s ≡ record { k = sample_of trig; seen = seen_of (all_no (inquiry_in (start_of sine (trig_quartic_of trig) confusion))) })
        go (Ok c) e is =
            let z : outcome_of start ≡ 0 = ap outcome_of e in (
              z,
              ap (λ (r : Result CrankShown Refusal). value_or s r) is
                  ∙ ap (λ (r : Result CrankInquiry Refusal). shown sine confusion four_no (crank_in r)) (sym e ∙ started trig sine confusion z),
            )
        go (Err refusal) e is = absurd (let n : 0 ≡ number_of refusal = ap outcome_of is in omega (arith, n, number_bounds refusal))

    asked_no : s.seen.asked ≡ Finished (roots_of (solve_trig_of sine (λ k u. false) confusion trig).1)
    asked_no =
        let q = trig_quartic_of trig in
        let four : degree_left q ≤ 4 = omega (arith, quartic_five trig) in
        ap (λ (t : CrankShown). t.seen.asked) shown_no.1 ∙ sym (asked_seen (all_no (inquiry_in (start_of sine q confusion)))) ∙ no_listed sine q confusion four

    -- four replies no are enough
    pub never_asks : (x : Float) → s.seen.asked ≡ Question x → ⊥
    never_asks x e = false≢true (ap is_question (sym asked_no ∙ e))

    pub answer_listed : (l : Roots) → s.seen.asked ≡ Finished l → Ok (record { k = s.k; roots = l }) ≡ crank_of sine confusion trig
    answer_listed l e =
        answer_by (λ a. Ok (record { k = s.k; roots = l }) ≡ a)
        (λ z. ap (λ (k : ℕ). Ok (record { k = k; roots = l })) (ap (λ (t : CrankShown). t.k) shown_no.1)
        ∙ ap (λ (a : Asked). Ok (record { k = sample_of trig; roots = list_in a })) (sym e ∙ asked_no))
        (λ refusal e. absurd (let n : number_of refusal ≡ 0 = sym (ap outcome_of e) ∙ shown_no.0 in omega (arith, n, number_bounds refusal)))

  pub answer_refused : (refusal : Refusal) {a : Result (Tallied CrankAnswer) Refusal} → Err refusal ≡ crank_shown_of sine confusion trig four_no
      → a ≡ Err refusal → answer_in a ≡ crank_of sine confusion trig
  unfolding crank_of crank_shown_of
  answer_refused refusal is-s is = ap answer_in is ∙ go start is-s
    where
      go : (r : Result CrankInquiry Refusal) → Err refusal ≡ and_then r (λ c. Ok (shown sine confusion four_no c)) → Err refusal ≡ and_then r (λ c. Ok listed)
      go (Ok c) e = absurd (let n : number_of refusal ≡ 0 = ap outcome_of e in omega (arith, n, number_bounds refusal))
      go (Err other) e = ap (λ (r : Result CrankShown Refusal). and_then r (λ s. Ok listed)) e
