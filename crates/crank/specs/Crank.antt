-- `solve_trig` of equation.rs up to its list of r, `touches` an argument; the inquiry that starts it; and an inquiry that is fed. Definitions only.
use Rattle.std.specs.Prelude.{Bool, false, List, [], ℕ, zero, suc, Float, Result, Ok, Err}
use Rattle.refusals.specs.declared.Refusal.{Refusal}
use Rattle.refusals.specs.Refusals.{value_or, and_then}
use Rattle.roots.specs.declared.RealRoot.{RealRoot}
use Rattle.roots.specs.declared.Roots.{Roots}
use Rattle.roots.specs.Roots.{roots_of, no_roots}
use Rattle.angle.specs.declared.Sine.{Sine}
use Rattle.trig_quartic.specs.declared.TrigEquation.{TrigEquation}
use Rattle.trig_quartic.specs.Crank.{sample_of, quartic_of, crank_front_of}
use Rattle.touching.specs.declared.Replies.{Replies}
use Rattle.poly.specs.Solve.{no_solved}
use Rattle.inquiry.specs.Inquiry.{asked_of, place_of, seen_of, replied_of}
use Rattle.inquiry.specs.Start.{real_roots_touching_of, places_touching_of, fresh_by, start_of, given}
use Rattle.crank.specs.declared.CrankInquiry.{CrankInquiry}
use Rattle.crank.specs.declared.CrankAsked.{CrankAsked}
use Rattle.crank.specs.declared.CrankShown.{CrankShown}
use Rattle.crank.specs.declared.CrankAnswer.{CrankAnswer}
use Rattle.crank.specs.declared.CrankRefused.{CrankRefused}

-- ---- the Rust's function, for all bits
module _ (trig : TrigEquation) where
  -- `q`, for the k of the largest sample
  abbrev pub trig_quartic_of : List Float
  trig_quartic_of = quartic_of trig (sample_of trig)

module _ (sine : Sine) (touches : ℕ → Float → Bool) (confusion : Float) (trig : TrigEquation) where
  -- `for r in &roots_with_tangency(&q, tol, |u| touches(to_t(u)))`: k and that list, where touches is told k and u in place of t: 'Questions name k and u'
  abbrev pub solve_trig_of : ℕ × List RealRoot
  solve_trig_of = let k = sample_of trig in (k, real_roots_touching_of sine (touches k) (trig_quartic_of trig) confusion)

  -- the places u at which it calls `touches`, in order
  abbrev pub places_trig_of : List Float
  places_trig_of = places_touching_of sine (touches (sample_of trig)) (trig_quartic_of trig) confusion

-- ---- the inquiry: that about the quartic in u, and k
-- 'Crank start: 1, one of the five not finite; 5, a quartic coefficient not finite; 2, trimmed length 0 or 1'
unfoldable pub crank_start_of : Sine → Float → TrigEquation → Result CrankInquiry Refusal
crank_start_of sine confusion trig =
    and_then (crank_front_of trig) (λ front. and_then (start_of sine front.q confusion) (λ inquiry. Ok (record { k = front.k; inquiry = inquiry })))

-- the k that was found: 0 where the equation is refused
unfoldable pub crank_k_of : TrigEquation → ℕ
crank_k_of trig = (value_or (record { k = 0; q = [] }) (crank_front_of trig)).k

-- what is given, and with a refusal k
abbrev pub with_k : {A : Type 0} → ℕ → Result A Refusal → Result A CrankRefused
with_k k (Ok a) = Ok a
with_k k (Err refusal) = Err (record { refusal = refusal; k = k })

-- what theorems say of a start that is refused too: that its inquiry is about nothing
abbrev pub crank_in : Result CrankInquiry Refusal → CrankInquiry
crank_in start = value_or (record { k = 0; inquiry = fresh_by no_solved }) start

-- the crank's own `ask`: what is asked, with k
unfoldable pub crank_asked_of : CrankInquiry → CrankAsked
crank_asked_of c = record { k = c.k; asked = asked_of c.inquiry }

-- the crank's own `reply`
unfoldable pub crank_replied_of : CrankInquiry → Bool → Result CrankInquiry Refusal
crank_replied_of c reply = and_then (replied_of c.inquiry reply) (λ inquiry. Ok (record { k = c.k; inquiry = inquiry }))

-- the inquiry after a reply: unaltered where it is refused
abbrev pub crank_after : CrankInquiry → Bool → CrankInquiry
crank_after c reply = value_or c (crank_replied_of c reply)

-- `start`, and `see` with these replies put in at once
unfoldable pub crank_shown_of : Sine → Float → TrigEquation → Replies → Result CrankShown Refusal
crank_shown_of sine confusion trig rs = and_then (crank_start_of sine confusion trig) (λ c. Ok (record { k = c.k; seen = seen_of (given c.inquiry rs) }))

-- n questions, each given the reply of touches
unfoldable pub crank_fed : (ℕ → Float → Bool) → ℕ → CrankInquiry → CrankInquiry
crank_fed touches zero c = c
crank_fed touches (suc n) c =
    let p = crank_fed touches n c in
    let a = crank_asked_of p in
    crank_after p (touches a.k (place_of a.asked))

-- ---- TG of the hall file: 'every question replied no'
unfoldable pub crank_of : Sine → Float → TrigEquation → Result CrankAnswer Refusal
crank_of sine confusion trig =
    let solved = solve_trig_of sine (λ k u. false) confusion trig in
    and_then (crank_start_of sine confusion trig) (λ c. Ok (record { k = solved.0; roots = roots_of solved.1 }))

-- the roots of an answer; of a refusal none
abbrev pub crank_roots_in : Result CrankAnswer Refusal → Roots
crank_roots_in answer = (value_or (record { k = 0; roots = no_roots }) answer).roots

-- how many systems were solved for it: those of the list, whatever is replied; of a refusal none
unfoldable pub crank_systems_of : Sine → Float → TrigEquation → ℕ
crank_systems_of sine confusion trig = (crank_in (crank_start_of sine confusion trig)).inquiry.systems
