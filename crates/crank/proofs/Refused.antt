-- What a start gives, and with a refusal the k that was found, by what the equation's front and the list's start give.
use mathlib.Core.Path.{◌≡◌, refl, ap, ◌∙◌}
use Prim.Native.Nat.{ℕ}
use mathlib.Core.List.{[]}
use lib.Ieee.{Float}
use Rattle.std.specs.Prelude.{Result, Ok, Err}
use Rattle.std.specs.Result.{IsErr, IsErrAnd}
use Rattle.refusals.specs.declared.Refusal.{Refusal}
use Rattle.refusals.specs.Refusals.{value_or, and_then}
use Rattle.tally.specs.declared.Tallied.{Tallied}
use Rattle.tally.specs.Tally.{answer_in, systems_in}
use Rattle.angle.specs.declared.Sine.{Sine}
use Rattle.trig_quartic.specs.declared.TrigEquation.{TrigEquation}
use Rattle.trig_quartic.specs.declared.Crank.{Crank}
use Rattle.trig_quartic.specs.Crank.{crank_front_of}
use Rattle.touching.specs.declared.Replies.{Replies}
use Rattle.inquiry.specs.declared.Inquiry.{Inquiry}
use Rattle.inquiry.specs.declared.Seen.{Seen}
use Rattle.inquiry.specs.Start.{start_of, shown_after_of}
use Rattle.crank.specs.declared.CrankInquiry.{CrankInquiry}
use Rattle.crank.specs.declared.CrankShown.{CrankShown}
use Rattle.crank.specs.declared.CrankRefused.{CrankRefused}
use Rattle.crank.specs.Crank.{crank_start_of, crank_shown_of, crank_systems_of, crank_k_of, with_k}
use Rattle.crank.proofs.Answer.{shown_is, none_with_k}

-- a refusal with its k, by what both are
abbrev err_of : (A : Type 0) → CrankRefused → Result A CrankRefused
err_of A r = Err r

refused_as : (A : Type 0) (r : CrankRefused) (refusal : Refusal) → (r.refusal ≡ refusal) × (r.k ≡ 0)
    → err_of A r ≡ err_of A (record { refusal = refusal; k = 0 })
refused_as A r refusal is = λ i. err_of A (record { refusal = is.0 i; k = is.1 i })

-- ---- without k
pub given_k : {A : Type 0} (k : ℕ) (a : A) (x : Result A Refusal) → Ok a ≡ with_k k x → Ok a ≡ x
given_k k a (Ok b) h = cc
given_k k a (Err refusal) h = absurd cc

pub refused_k : {A : Type 0} (k : ℕ) (r : CrankRefused) (x : Result A Refusal) → Err r ≡ with_k k x → Err r.refusal ≡ x
refused_k k r (Ok b) h = absurd cc
refused_k k r (Err refusal) h = cc

-- ---- with k, of a start and of what is shown
-- the k of a front
abbrev k_in : Result Crank Refusal → ℕ
k_in f = (value_or (record { k = 0; q = [] }) f).k

module _ (sine : Sine) (confusion : Float) (trig : TrigEquation) where
  -- ---- the start
  abbrev begun : ℕ → Result Inquiry Refusal → Result CrankInquiry CrankRefused
  begun k r = with_k k (and_then r (λ inquiry. Ok (record { k = k; inquiry = inquiry })))

  abbrev begins : Result Crank Refusal → Result CrankInquiry CrankRefused
  begins f = with_k (k_in f) (and_then f (λ c. and_then (start_of sine c.q confusion) (λ inquiry. Ok (record { k = c.k; inquiry = inquiry }))))

  start_by : (f : Result Crank Refusal) → f ≡ crank_front_of trig → begins f ≡ with_k (crank_k_of trig) (crank_start_of sine confusion trig)
  unfolding crank_k_of crank_start_of
  start_by f e = ap begins e

  pub start_none : (refusal : Refusal) (r : CrankRefused) → Err refusal ≡ crank_front_of trig → (r.refusal ≡ refusal) × (r.k ≡ 0)
      → Err r ≡ with_k (crank_k_of trig) (crank_start_of sine confusion trig)
  start_none refusal r e is = refused_as CrankInquiry r refusal is ∙ start_by (Err refusal) e

  pub start_err : (refusal : Refusal) (a : Result CrankInquiry CrankRefused)
      → IsErr a × IsErrAnd a (λ r. (r.refusal ≡ refusal) × (r.k ≡ 0)) → Err refusal ≡ crank_front_of trig
      → a ≡ with_k (crank_k_of trig) (crank_start_of sine confusion trig)
  start_err refusal (Ok c) h e = absurd h.1
  start_err refusal (Err r) h e = start_none refusal r e h.1

  module _ (front : Crank) (e : Ok front ≡ crank_front_of trig) where
    pub start_some : (inquiry : Inquiry) → Ok inquiry ≡ start_of sine front.q confusion
        → Ok (record { k = front.k; inquiry = inquiry }) ≡ with_k (crank_k_of trig) (crank_start_of sine confusion trig)
    start_some inquiry is = ap (begun front.k) is ∙ start_by (Ok front) e

    pub start_refused : (refusal : Refusal) → Err refusal ≡ start_of sine front.q confusion
        → Err (record { refusal = refusal; k = front.k }) ≡ with_k (crank_k_of trig) (crank_start_of sine confusion trig)
    start_refused refusal is = ap (begun front.k) is ∙ start_by (Ok front) e

  -- ---- what is shown
  module _ (rs : Replies) where
    abbrev told : ℕ → Result Seen Refusal → Result CrankShown CrankRefused
    told k r = with_k k (and_then r (λ seen. Ok (record { k = k; seen = seen })))

    abbrev shown : Result Crank Refusal → Result CrankShown Refusal
    shown f = and_then f (λ c. and_then (shown_after_of sine c.q confusion rs) (λ seen. Ok (record { k = c.k; seen = seen })))

    shown_by : (f : Result Crank Refusal) → f ≡ crank_front_of trig
        → with_k (k_in f) (shown f) ≡ with_k (crank_k_of trig) (crank_shown_of sine confusion trig rs)
    unfolding crank_k_of
    shown_by f e =
        ap (λ (g : Result Crank Refusal). with_k (k_in g) (shown g)) e ∙ ap (with_k (k_in (crank_front_of trig))) (shown_is sine confusion rs trig)

    pub shown_none : (refusal : Refusal) (r : CrankRefused) → Err refusal ≡ crank_front_of trig → (r.refusal ≡ refusal) × (r.k ≡ 0)
        → Err r ≡ with_k (crank_k_of trig) (crank_shown_of sine confusion trig rs)
    shown_none refusal r e is = refused_as CrankShown r refusal is ∙ shown_by (Err refusal) e

    pub shown_err : (refusal : Refusal) (a : Result (Tallied CrankShown) CrankRefused)
        → IsErr a × IsErrAnd a (λ r. (r.refusal ≡ refusal) × (r.k ≡ 0)) → Err refusal ≡ crank_front_of trig
        → (answer_in a ≡ with_k (crank_k_of trig) (crank_shown_of sine confusion trig rs)) × (systems_in a ≡ crank_systems_of sine confusion trig)
    shown_err refusal (Ok s) h e = absurd h.1
    shown_err refusal (Err r) h e = (shown_none refusal r e h.1, none_with_k sine confusion trig refusal r e refl)

    module _ (front : Crank) (e : Ok front ≡ crank_front_of trig) where
      pub shown_some : (seen : Seen) → Ok seen ≡ shown_after_of sine front.q confusion rs
          → Ok (record { k = front.k; seen = seen }) ≡ with_k (crank_k_of trig) (crank_shown_of sine confusion trig rs)
      shown_some seen is = ap (told front.k) is ∙ shown_by (Ok front) e

      pub shown_refused : (refusal : Refusal) → Err refusal ≡ shown_after_of sine front.q confusion rs
          → Err (record { refusal = refusal; k = front.k }) ≡ with_k (crank_k_of trig) (crank_shown_of sine confusion trig rs)
      shown_refused refusal is = ap (told front.k) is ∙ shown_by (Ok front) e

pub ruleset starts = (start_none, start_some, start_refused)

pub ruleset shows = (shown_none, shown_some, shown_refused)
