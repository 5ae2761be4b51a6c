-- Request Seven: how many systems are solved for a list, an inquiry, a crank, a contact and a formula.
use mathlib.Core.Path.{◌≡◌, refl, sym, ap, subst, ◌∙◌}
use mathlib.Core.Bool.{Bool, true, false, cond}
use mathlib.Core.List.{List, [], ◌∷◌, foldl}
use Prim.Native.Nat.{ℕ, zero, suc, ◌≤◌, ◌<◌}
use native.Mathlib.Omega.{arith}
use lib.ListN.{get_or}
use lib.Ieee.{Float, nan, lt, eq}
use Rattle.std.specs.Prelude.{Result, Ok, Err}
use Rattle.refusals.specs.declared.Refusal.{Refusal}
use Rattle.refusals.specs.declared.Refusal.TheVariants.{RecordNotFinite, NoRadius, MadeNotFinite}
use Rattle.refusals.specs.Refusals.{outcome_of, value_or, and_then}
use Rattle.tally.specs.declared.Tallied.{Tallied}
use Rattle.float.specs.Literals.{zero64}
use Rattle.float.specs.Methods.{all_finite_of}
use Rattle.angle.specs.declared.Sine.{Sine}
use Rattle.scaled.specs.Scaled.{scaled_of}
use Rattle.factors.specs.declared.Factors.{Factors}
use Rattle.roots.specs.declared.Roots.{Roots}
use Rattle.roots.specs.Roots.{roots_of}
use Rattle.poly.specs.Coefficients.{trimmed_of, zeros_of, counted_of, refusal_of, poly_of}
use Rattle.poly.specs.RealRoots.{real_roots_of, real_roots_systems_of}
use Rattle.poly.proofs.Coefficients.{counted_when, room}
use Rattle.poly.proofs.Refusals.{then_number, number_is}
use Rattle.poly.proofs.Systems.{none_refused, all_factoring, none_of_two, eight_of_three, thirty_two_of_four}
use Rattle.inquiry.specs.declared.Inquiry.{Inquiry}
use Rattle.inquiry.specs.Inquiry.{replied_of}
use Rattle.inquiry.specs.Start.{real_roots_touching_of}
use Rattle.inquiry.proofs.Systems.{after_keeps, start_systems}
use Rattle.trig_quartic.specs.declared.TrigEquation.{TrigEquation}
use Rattle.crank.specs.declared.CrankInquiry.{CrankInquiry}
use Rattle.crank.specs.Crank.{trig_quartic_of, crank_start_of, crank_in, crank_replied_of, crank_after, crank_systems_of}
use Rattle.crank.proofs.Front.{same_inquiry}
use Rattle.contact.specs.declared.Path.{Path}
use Rattle.contact.specs.declared.Circle.{Circle}
use Rattle.contact.specs.Contact.{numbers_of, seen_of, touches_of, made_of, listed_of, pin_contact_of, pin_contact_systems_of}
use Rattle.contact.proofs.Systems.{none_by_record, none_by_radius, listed_systems, none_by_made}
use Rattle.parts.specs.Value.{Value}
use Rattle.formula.specs.Formula.{formula_of, floats_of}
use Rattle.formula_roots.specs.FormulaRoots.{handed_on, solved_of, formula_roots_of, formula_systems_of}
use Rattle.formula_roots.proofs.Solved.{nothing_refused}
use Rattle.demands.specs.Calls.{factorize_called}
use Rattle.demands.proofs.Calls.{factorize_is}
use Rattle.demands.specs.Demands.{degree_without_zeros, ZerosFirst, MostSystems}

-- ---- zeros first
pub zeros_first : (coeffs : List Float) → ZerosFirst coeffs (zeros_of coeffs)
unfolding zeros_of
zeros_first [] = record { zeros_so_far = λ i h. absurd (omega (arith, h)); no_more = λ h. absurd (omega (arith, h)) }
zeros_first (c ∷ l) = go (eq c zero64) refl (zeros_first l)
  where
    go : (z : Bool) → eq c zero64 ≡ z → ZerosFirst l (zeros_of l) → ZerosFirst (c ∷ l) (cond z (suc (zeros_of l)) 0)
    go true e Z = record { zeros_so_far = so_far; no_more = λ h. Z.no_more (omega (arith, h)) }
      where
        so_far : (i : ℕ) → i < suc (zeros_of l) → eq (get_or (c ∷ l) i nan) zero64 ≡ true
        so_far zero h = e
        so_far (suc i) h = Z.zeros_so_far i (omega (arith, h))
    go false e Z = record { zeros_so_far = λ i h. absurd (omega (arith, h)); no_more = λ h. e }

-- ---- lists
module _ (sine : Sine) (coeffs : List Float) (tol : Float) where
  pub refused : 0 < outcome_of (real_roots_of sine coeffs tol) → real_roots_systems_of sine coeffs tol ≡ 0
  refused h = none_refused sine coeffs tol (subst (λ (k : ℕ). 0 < k) (number_is sine coeffs tol) h)

  answered : outcome_of (real_roots_of sine coeffs tol) ≡ 0 → refusal_of coeffs ≡ 0
  answered e = sym (number_is sine coeffs tol) ∙ e

  -- the calls, one by one
  pub counted : outcome_of (real_roots_of sine coeffs tol) ≡ 0 → real_roots_systems_of sine coeffs tol ≡ (factorize_called sine (poly_of coeffs) 0).systems
  counted e =
      all_factoring sine coeffs tol (answered e) ∙ sym (ap (λ (t : Tallied Factors). t.systems) (factorize_is sine (poly_of coeffs) 0))

  pub degree : outcome_of (real_roots_of sine coeffs tol) ≡ 0 → degree_without_zeros coeffs ≤ 4
  degree e =
      let w = room coeffs (trimmed_of coeffs) (zeros_of coeffs) (counted_when coeffs (answered e)) refl in
      omega (arith, w)

  pub most : MostSystems (degree_without_zeros coeffs) (real_roots_systems_of sine coeffs tol)
  unfolding poly_of scaled_of
  most = record { none = none_of_two sine coeffs tol; cubic = eight_of_three sine coeffs tol; quartic = thirty_two_of_four sine coeffs tol }

-- ---- a crank
crank_keeps : (c : CrankInquiry) (reply : Bool) → (crank_after c reply).inquiry.systems ≡ c.inquiry.systems
unfolding crank_replied_of
crank_keeps c reply = go (replied_of c.inquiry reply) (after_keeps c.inquiry reply)
  where
    go : (r : Result Inquiry Refusal) → (value_or c.inquiry r).systems ≡ c.inquiry.systems
        → (value_or c (and_then r (λ inquiry. Ok (record { k = c.k; inquiry = inquiry })))).inquiry.systems ≡ c.inquiry.systems
    go (Ok q) e = e
    go (Err refusal) e = refl

crank_replies : (c : CrankInquiry) (replies : List Bool) → (foldl crank_after c replies).inquiry.systems ≡ c.inquiry.systems
crank_replies c [] = refl
crank_replies c (r ∷ rest) = crank_replies (crank_after c r) rest ∙ crank_keeps c r

module _ (sine : Sine) (confusion : Float) (trig : TrigEquation) where
  pub crank : (replies : List Bool)
      → (foldl crank_after (crank_in (crank_start_of sine confusion trig)) replies).inquiry.systems ≡ crank_systems_of sine confusion trig
  unfolding crank_systems_of
  crank replies = crank_replies (crank_in (crank_start_of sine confusion trig)) replies

  pub crank_list : crank_systems_of sine confusion trig ≡ real_roots_systems_of sine (trig_quartic_of trig) confusion
  unfolding crank_systems_of
  crank_list = ap (λ (q : Inquiry). q.systems) (same_inquiry trig sine confusion) ∙ start_systems sine (trig_quartic_of trig) confusion

  pub crank_refused : 0 < outcome_of (crank_start_of sine confusion trig) → crank_systems_of sine confusion trig ≡ 0
  unfolding crank_systems_of
  crank_refused h = go (crank_start_of sine confusion trig) h
    where
      go : (r : Result CrankInquiry Refusal) → 0 < outcome_of r → (crank_in r).inquiry.systems ≡ 0
      go (Ok c) h = absurd (omega (arith, h))
      go (Err refusal) h = refl

-- ---- a contact
module _ (sine : Sine) (confusion : Float) (path : Path) (circle : Circle) where
  abbrev numbers : Bool
  numbers = all_finite_of (numbers_of confusion path circle)

  abbrev listed : Result Roots Refusal
  listed = listed_of sine confusion (seen_of path circle) circle.r (made_of path circle)

  abbrev number_by : Bool → Bool → Bool → ℕ
  number_by n r m = outcome_of (cond n (cond r (cond m listed (Err MadeNotFinite)) (Err NoRadius)) (Err RecordNotFinite))

  listed_number : outcome_of listed ≡ refusal_of (made_of path circle)
  unfolding listed_of
  listed_number =
      let touches = touches_of confusion (seen_of path circle) circle.r in
      then_number (λ (n : ℕ). roots_of (real_roots_touching_of sine touches (made_of path circle) confusion)) (counted_of (made_of path circle))

  through : numbers ≡ true → lt zero64 circle.r ≡ true
      → pin_contact_systems_of sine confusion path circle ≡ real_roots_systems_of sine (made_of path circle) confusion
  through h g = sym (listed_systems sine confusion path circle _ _ refl refl h g refl)

  pub contact : outcome_of (pin_contact_of sine confusion path circle) ≡ 0
      → pin_contact_systems_of sine confusion path circle ≡ real_roots_systems_of sine (made_of path circle) confusion
  unfolding pin_contact_of
  contact e = go numbers (lt zero64 circle.r) (all_finite_of (made_of path circle)) refl refl e
    where
      go : (n r m : Bool) → numbers ≡ n → lt zero64 circle.r ≡ r → number_by n r m ≡ 0
          → pin_contact_systems_of sine confusion path circle ≡ real_roots_systems_of sine (made_of path circle) confusion
      go true true m h g e = through h g
      go true false m h g e = absurd (omega (arith, e))
      go false r m h g e = absurd (omega (arith, e))

  pub contact_refused : 0 < outcome_of (pin_contact_of sine confusion path circle) → pin_contact_systems_of sine confusion path circle ≡ 0
  unfolding pin_contact_of
  contact_refused e = go numbers (lt zero64 circle.r) (all_finite_of (made_of path circle)) refl refl refl e
    where
      go : (n r m : Bool) → numbers ≡ n → lt zero64 circle.r ≡ r → all_finite_of (made_of path circle) ≡ m → 0 < number_by n r m
          → pin_contact_systems_of sine confusion path circle ≡ 0
      go true true true h g f e = through h g ∙ none_refused sine (made_of path circle) confusion (omega (arith, e, listed_number))
      go true true false h g f e = sym (none_by_made sine confusion path circle _ _ refl refl h g f)
      go true false m h g f e = sym (none_by_radius sine confusion path circle h g)
      go false r m h g f e = sym (none_by_record sine confusion path circle h)

-- ---- a formula
module _ (sine : Sine) (s : List ℕ) (tol : Float) where
  pub formula : formula_systems_of sine s tol ≡ real_roots_systems_of sine (handed_on (formula_of s)) tol
  unfolding formula_systems_of
  formula = refl

  pub formula_refused : 0 < outcome_of (formula_roots_of sine s tol) → formula_systems_of sine s tol ≡ 0
  unfolding formula_roots_of formula_systems_of solved_of
  formula_refused h = go (formula_of s) h
    where
      go : (v : Value) → 0 < outcome_of (solved_of sine v tol) → real_roots_systems_of sine (handed_on v) tol ≡ 0
      go (Ok p) h = refused sine (floats_of p) tol h
      go (Err refusal) h = none_refused sine [] tol nothing_refused
