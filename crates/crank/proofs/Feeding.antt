-- A crank that is fed is the quartic's inquiry that is fed, with k beside it; and one that has four replies no at hand ends with the list.
use mathlib.Core.Path.{◌≡◌, refl, sym, ap, ◌∙◌}
use mathlib.Core.Bool.{Bool, true, false}
use mathlib.Core.List.{List}
use Prim.Native.Nat.{ℕ, zero, suc, ◌≤◌}
use native.Mathlib.Omega.{arith}
use lib.ListN.{length, replicate}
use lib.Ieee.{Float}
use Rattle.facts.specs.Cond.{if_taken}
use Rattle.std.specs.Prelude.{Result, Ok, Err}
use Rattle.refusals.specs.declared.Refusal.{Refusal}
use Rattle.refusals.specs.Refusals.{value_or, and_then}
use Rattle.roots.specs.declared.RealRoot.{RealRoot}
use Rattle.roots.specs.Roots.{roots_of}
use Rattle.angle.specs.declared.Sine.{Sine}
use Rattle.poly.specs.Coefficients.{degree_left}
use Rattle.asking.specs.Asking.{Asking, places_asked, walked}
use Rattle.asking.proofs.Feeding.{always}
use Rattle.touching.specs.declared.Replies.{Replies}
use Rattle.inquiry.specs.declared.Inquiry.{Inquiry}
use Rattle.inquiry.specs.declared.Asked.{Asked}
use Rattle.inquiry.specs.declared.Asked.TheVariants.{Finished}
use Rattle.inquiry.specs.Inquiry.{shown, nothing, asking, sound_of, asked_of, place_of, replied_of}
use Rattle.inquiry.specs.Start.{real_roots_touching, real_roots_touching_of, places_touching_of, start_of, inquiry_in, given, fed}
use Rattle.inquiry.proofs.Sound.{sound_is, sound_holds}
use Rattle.inquiry.proofs.Fresh.{start_sound, start_asks}
use Rattle.inquiry.proofs.Theorem.{start_fed, start_most}
use Rattle.crank.specs.declared.CrankInquiry.{CrankInquiry}
use Rattle.crank.specs.Crank.{crank_asked_of, crank_replied_of, crank_after, crank_fed}
use Rattle.crank.specs.Claims.{CrankFed}

-- ---- k beside an inquiry
abbrev with : ℕ → Inquiry → CrankInquiry
with k q = record { k = k; inquiry = q }

after_is : (k : ℕ) (q : Inquiry) (r : Result Inquiry Refusal) → value_or (with k q) (and_then r (λ p. Ok (with k p))) ≡ with k (value_or q r)
after_is k q (Ok p) = refl
after_is k q (Err refusal) = refl

fed_is : (touches : ℕ → Float → Bool) (n k : ℕ) (q : Inquiry) → crank_fed touches n (with k q) ≡ with k (fed (touches k) n q)
unfolding crank_fed fed crank_asked_of crank_replied_of
fed_is touches zero k q = refl
fed_is touches (suc n) k q =
    let p = fed (touches k) n q in
    ap (λ (c : CrankInquiry). let a = crank_asked_of c in crank_after c (touches a.k (place_of a.asked))) (fed_is touches n k q)
    ∙ after_is k p (replied_of p (touches k (place_of (asked_of p))))

module _ (sine : Sine) (touches : ℕ → Float → Bool) (k : ℕ) (coeffs : List Float) (tol : Float) where
  abbrev q : Inquiry
  q = inquiry_in (start_of sine coeffs tol)

  asked_is : (n : ℕ) {a : Asked} → asked_of (fed (touches k) n q) ≡ a → crank_asked_of (crank_fed touches n (with k q)) ≡ record { k = k; asked = a }
  unfolding crank_asked_of
  asked_is n e = ap crank_asked_of (fed_is touches n k q) ∙ ap (λ (a : Asked). record { k = k; asked = a }) e

  pub fed_so : CrankFed touches (with k q) (places_touching_of sine (touches k) coeffs tol) (real_roots_touching_of sine (touches k) coeffs tol)
  unfolding crank_replied_of
  fed_so =
      let f = start_fed sine (touches k) coeffs tol in
      let n = length (places_touching_of sine (touches k) coeffs tol) in
      record {
        question = λ m h. asked_is m (f.question m h);
        finished = asked_is n f.finished;
        over =
            λ r.
            let refused = ap (λ (c : CrankInquiry). crank_replied_of c r) (fed_is touches n k q)
            ∙ ap (λ (p : Result Inquiry Refusal). and_then p (λ i. Ok (with k i))) (f.over r).0 in
            (refused, ap (value_or (crank_fed touches n (with k q))) refused);
      }

-- ---- every question replied no
abbrev pub four_no : Replies
four_no = record { reply = replicate 4 false; count = 4 }

abbrev pub all_no : Inquiry → Inquiry
all_no q = given q four_no

no_sound : (q : Inquiry) → sound_of q ≡ true → sound_of (all_no q) ≡ true
no_sound q h =
    let s = sound_is q h in
    sound_holds (all_no q) (record { degree = s.degree; replies = omega arith; roots = s.roots; pairs = s.pairs; counted = s.counted; total = s.total })

pub no_listed : (sine : Sine) (coeffs : List Float) (tol : Float) → degree_left coeffs ≤ 4
    → asked_of (all_no (inquiry_in (start_of sine coeffs tol))) ≡ Finished (roots_of (real_roots_touching_of sine (λ x. false) coeffs tol))
unfolding asked_of shown
no_listed sine coeffs tol h =
    let t = real_roots_touching sine coeffs tol in
    let few : length (places_asked (λ x. false) t) ≤ 4 = omega (arith, start_most sine (λ x. false) coeffs tol, h) in
    sym (if_taken (shown (walked (replicate 4 false) (asking (inquiry_in (start_of sine coeffs tol))))) nothing
    (no_sound (inquiry_in (start_of sine coeffs tol)) (start_sound sine coeffs tol)) refl)
    ∙ ap (λ (u : Asking (List RealRoot)). shown (walked (replicate 4 false) u)) (start_asks sine coeffs tol)
    ∙ ap shown (always false 4 t few).1
