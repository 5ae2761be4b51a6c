-- Every claim about cranks, for all bits.
use mathlib.Core.Path.{◌≡◌, refl, sym, ap, ◌∙◌, subst, subst⁻¹}
use mathlib.Core.Logic.{◌⊎◌, ⊎_elim}
use mathlib.Core.Bool.{Bool, false}
use mathlib.Core.List.{List, []}
use Prim.Native.Nat.{ℕ, ◌<◌}
use native.Mathlib.Omega.{arith}
use lib.Ieee.{Float}
use Rattle.std.specs.Prelude.{Result}
use Rattle.refusals.specs.declared.Refusal.{Refusal}
use Rattle.refusals.specs.Refusals.{outcome_of}
use Rattle.roots.specs.declared.RealRoot.{RealRoot}
use Rattle.roots.specs.Roots.{list_of}
use Rattle.roots.specs.Listed.{Within}
use Rattle.roots.proofs.Laws.{list_roots}
use Rattle.roots.proofs.Sums.{within_none, within_more}
use Rattle.angle.specs.declared.Sine.{Sine}
use Rattle.poly.specs.Coefficients.{degree_left}
use Rattle.asking.specs.Asking.{Asking, done, answered, places_asked}
use Rattle.trig_quartic.specs.declared.TrigEquation.{TrigEquation}
use Rattle.trig_quartic.specs.Crank.{sample_of}
use Rattle.inquiry.specs.declared.Inquiry.{Inquiry}
use Rattle.inquiry.specs.Start.{real_roots_touching}
use Rattle.inquiry.proofs.Theorem.{start_most, start_list}
use Rattle.crank.specs.declared.CrankInquiry.{CrankInquiry}
use Rattle.crank.specs.declared.CrankAnswer.{CrankAnswer}
use Rattle.crank.specs.Crank.{trig_quartic_of, solve_trig_of, places_trig_of, crank_start_of, crank_in, crank_k_of, crank_of, crank_roots_in}
use Rattle.crank.specs.Claims.{CrankFed, Cranks}
use Rattle.crank.proofs.Front.{front_below, found_below, quartic_five, same_inquiry, same_k, found_k, start_numbers, started, refused_nothing}
use Rattle.crank.proofs.Feeding as feeding
use Rattle.crank.proofs.Answer.{answer_by}

module _ (sine : Sine) (confusion : Float) (trig : TrigEquation) where
  abbrev k : ℕ
  k = sample_of trig

  abbrev q : List Float
  q = trig_quartic_of trig

  abbrev start : CrankInquiry
  start = crank_in (crank_start_of sine confusion trig)

  module _ (touches : ℕ → Float → Bool) where
    -- by a k that is the Rust's, where anything is asked
    module _ (j : ℕ) (same : (j ≡ k) ⊎ (real_roots_touching sine q confusion ≡ done [])) where
      -- a computation that asks nothing is the same for every function
      same_reading : {X : Type 0} (read : (Float → Bool) → Asking (List RealRoot) → X) → ((f g : Float → Bool) → read f (done []) ≡ read g (done []))
          → read (touches j) (real_roots_touching sine q confusion) ≡ read (touches k) (real_roots_touching sine q confusion)
      same_reading read none =
          ⊎_elim (λ is. ap (λ (i : ℕ). read (touches i) (real_roots_touching sine q confusion)) is)
          (λ stop. ap (read (touches j)) stop ∙ none (touches j) (touches k) ∙ sym (ap (read (touches k)) stop)) same

      fed_by : CrankFed touches (record { k = j; inquiry = start.inquiry }) (places_trig_of sine touches confusion trig)
          (solve_trig_of sine touches confusion trig).1
      unfolding answered places_asked
      fed_by =
          rw (sym (same_reading places_asked (λ f g. refl)), sym (same_reading answered (λ f g. refl)))
          (subst⁻¹ (λ (i : Inquiry). CrankFed touches (record { k = j; inquiry = i }) (places_asked (touches j)
          (real_roots_touching sine q confusion)) (answered (touches j) (real_roots_touching sine q confusion))) (same_inquiry trig sine confusion)
          (feeding.fed_so sine touches j q confusion))

    refused : 0 < outcome_of (crank_start_of sine confusion trig) → (places_trig_of sine touches confusion trig ≡ [])
        × ((solve_trig_of sine touches confusion trig).1 ≡ [])
    unfolding answered places_asked
    refused h = let none = refused_nothing trig sine confusion h in (ap (places_asked (touches k)) none, ap (answered (touches k)) none)

    list : Within (degree_left q) (solve_trig_of sine touches confusion trig).1
    list = start_list sine (touches k) q confusion

  answer : Within (degree_left q) (list_of (crank_roots_in (crank_of sine confusion trig)))
  answer =
      let l = (solve_trig_of sine (λ j u. false) confusion trig).1 in
      answer_by sine confusion trig (λ a. Within (degree_left q) (list_of (crank_roots_in a)))
      (λ z. subst (Within (degree_left q)) (sym (list_roots l)) (list (λ j u. false)))
      (λ refusal e. within_more 0 (degree_left q) [] (omega arith) within_none)

  pub cranks : Cranks sine confusion trig
  cranks =
      record {
        numbers = start_numbers trig sine confusion;
        eighths = front_below trig sine confusion;
        k_is = λ z touches. ap (λ (r : Result CrankInquiry Refusal). (crank_in r).k) (started trig sine confusion z);
        fed_so = λ touches. fed_by touches start.k (same_k trig sine confusion);
        found_eighths = found_below trig;
        found_fed = λ touches. fed_by touches (crank_k_of trig) (found_k trig sine confusion);
        refused = λ h touches. refused touches h;
        degree = omega (arith, quartic_five trig);
        most = λ touches. start_most sine (touches k) q confusion;
        list = list;
        answer = answer;
      }

-- what `crank` promises, of its answer
pub with_demand : (sine : Sine) (confusion : Float) (trig : TrigEquation) {r : Result CrankAnswer Refusal} → r ≡ crank_of sine confusion trig
    → (r ≡ crank_of sine confusion trig) × Within (degree_left (trig_quartic_of trig)) (list_of (crank_roots_in r))
with_demand sine confusion trig {r} is =
    let within = λ (a : Result CrankAnswer Refusal). Within (degree_left (trig_quartic_of trig)) (list_of (crank_roots_in a)) in
    (is, subst⁻¹ within is (cranks sine confusion trig).answer)
