-- What an equation starts, by whether its numbers and its quartic are finite: its refusal, k, and what is asked.
use mathlib.Core.Path.{◌≡◌, refl, sym, ap, ◌∙◌, subst}
use mathlib.Core.Logic.{◌⊎◌, inl, inr}
use mathlib.Core.Bool.{Bool, true, false, cond}
use mathlib.Core.List.{List, []}
use Prim.Native.Nat.{ℕ, zero, suc, ◌+◌, ◌-◌, ◌≤◌, ◌<◌}
use native.Mathlib.Omega.{arith}
use borrow.Author.Tests.{leb-true, leb-false, le-leb, lt-leb, ne_eqb}
use lib.Dec.{leb}
use lib.Ieee.{Float}
use Rattle.std.specs.Prelude.{Result, Ok, Err}
use Rattle.facts.specs.Cond.{either_way}
use Rattle.facts.specs.Count.{count_up}
use Rattle.refusals.specs.declared.Refusal.{Refusal}
use Rattle.refusals.specs.declared.Refusal.TheVariants.{NotFinite, TooFew, AnswerNotFinite}
use Rattle.refusals.specs.Refusals.{number_of, outcome_of, value_or, and_then}
use Rattle.refusals.proofs.Numbers.{number_bounds}
use Rattle.float.specs.Methods.{abs_of, all_finite_of, total_le_of}
use Rattle.angle.specs.declared.Sine.{Sine}
use Rattle.poly.specs.Coefficients.{trimmed_of, counted_by, refusal_of}
use Rattle.poly.specs.Conditions.{Exactly}
use Rattle.poly.specs.Solve.{no_solved}
use Rattle.poly.proofs.Coefficients.{trimmed_most}
use Rattle.poly.proofs.Refusals.{then_number}
use Rattle.asking.specs.Asking.{done}
use Rattle.trig_quartic.specs.declared.TrigEquation.{TrigEquation}
use Rattle.trig_quartic.specs.declared.Crank.{Crank}
use Rattle.trig_quartic.specs.Crank.{f_at_of, sampled_of, numbers_of, sample_of, quartic_of, crank_front_of}
use Rattle.inquiry.specs.declared.Inquiry.{Inquiry}
use Rattle.inquiry.specs.Start.{real_roots_touching, fresh_by, start_of, inquiry_in}
use Rattle.inquiry.proofs.Fresh.{start_number}
use Rattle.inquiry.proofs.Loop.{refused_asks}
use Rattle.crank.specs.declared.CrankInquiry.{CrankInquiry}
use Rattle.crank.specs.Crank.{trig_quartic_of, crank_start_of, crank_in, crank_k_of}
use Rattle.crank.specs.Claims.{Numbers}
use Rattle.crank.proofs.Finite.{numbers_finite}

-- a start that is refused is about nothing
about_nothing : (r : Result Inquiry Refusal) → (outcome_of r ≡ 0 → ⊥) → fresh_by no_solved ≡ inquiry_in r
about_nothing (Ok inquiry) h = absurd (h refl)
about_nothing (Err refusal) h = refl

module _ (trig : TrigEquation) where
  abbrev numbers : List Float
  numbers = numbers_of trig

  abbrev q : List Float
  q = trig_quartic_of trig

  abbrev front : Result Crank Refusal
  front = crank_front_of trig

  -- ---- the sample
  samples_below : (m : ℕ) (s : ℕ × Float) → s.0 < 8 → (count_up 8 (sampled_of trig) m s).0 < 8
  unfolding count_up
  samples_below zero s h = h
  samples_below (suc m) s h =
      let v = abs_of (f_at_of trig (8 - suc m + 4)) in
      samples_below m (sampled_of trig (8 - suc m) s) (either_way (λ (p : ℕ × Float). p.0 < 8) (total_le_of s.1 v)
      {x = (8 - suc m, v)} {y = s} (omega arith) h)

  sample_below : sample_of trig < 8
  unfolding sample_of
  sample_below = samples_below 7 (0, abs_of (f_at_of trig 4)) (omega arith)

  -- ---- the front
  made : all_finite_of numbers ≡ true → all_finite_of q ≡ true → front ≡ Ok (record { k = sample_of trig; q = q })
  unfolding crank_front_of
  made h g = rw (h, g)

  abbrev refused : Bool → Result Crank Refusal
  refused finite = Err (cond finite AnswerNotFinite NotFinite)

  unmade : all_finite_of q ≡ false → front ≡ refused (all_finite_of numbers)
  unfolding crank_front_of
  unmade h = rw h (either (all_finite_of numbers))
    where
      either : (a : Bool) → cond a (refused true) (refused false) ≡ refused a
      either true = refl
      either false = refl

  -- all finite, or not: by the quartic alone
  by_quartic : {A : Type 0} → (all_finite_of numbers ≡ true → all_finite_of q ≡ true → A)
      → (all_finite_of q ≡ false → front ≡ refused (all_finite_of numbers) → A) → A
  by_quartic {A = A} f g = go (all_finite_of q) refl
    where
      go : (b : Bool) → all_finite_of q ≡ b → A
      go true h = f (numbers_finite trig (sample_of trig) h) h
      go false h = g h (unmade h)

  -- ---- the k that was found
  abbrev k_in : Result Crank Refusal → ℕ
  k_in f = (value_or (record { k = 0; q = [] }) f).k

  found_made : all_finite_of numbers ≡ true → all_finite_of q ≡ true → crank_k_of trig ≡ sample_of trig
  unfolding crank_k_of
  found_made h g = ap k_in (made h g)

  found_unmade : all_finite_of q ≡ false → crank_k_of trig ≡ 0
  unfolding crank_k_of
  found_unmade h = ap k_in (unmade h)

  pub found_below : crank_k_of trig < 8
  found_below = by_quartic (λ h g. rw (found_made h g) sample_below) (λ h e. rw (found_unmade h) (omega arith))

  pub quartic_five : trimmed_of q ≤ 5
  unfolding trimmed_of quartic_of
  quartic_five = trimmed_most q 5

  -- a quartic that is not finite is refused as a list
  quartic_refused : all_finite_of q ≡ false → refusal_of q ≡ 1
  unfolding counted_by
  quartic_refused h = rw h refl

  module _ (sine : Sine) (confusion : Float) where
    abbrev start : Result CrankInquiry Refusal
    start = crank_start_of sine confusion trig

    abbrev number : ℕ
    number = outcome_of start

    -- ---- the start
    abbrev by_front : Result Crank Refusal → Result CrankInquiry Refusal
    by_front f = and_then f (λ c. and_then (start_of sine c.q confusion) (λ inquiry. Ok (record { k = c.k; inquiry = inquiry })))

    -- k, and what the list starts
    abbrev begun : Result Inquiry Refusal → Result CrankInquiry Refusal
    begun r = and_then r (λ inquiry. Ok (record { k = sample_of trig; inquiry = inquiry }))

    start_made : all_finite_of numbers ≡ true → all_finite_of q ≡ true → start ≡ begun (start_of sine q confusion)
    unfolding crank_start_of
    start_made h g = ap by_front (made h g)

    start_by : {A : Type 0} → (all_finite_of numbers ≡ true → all_finite_of q ≡ true → start ≡ begun (start_of sine q confusion) → A)
        → (all_finite_of q ≡ false → start ≡ by_front (refused (all_finite_of numbers)) → A) → A
    unfolding crank_start_of
    start_by f g = by_quartic (λ h i. f h i (start_made h i)) (λ h is. g h (ap by_front is))

    begun_below : (r : Result Inquiry Refusal) → (crank_in (begun r)).k < 8
    begun_below (Ok inquiry) = sample_below
    begun_below (Err refusal) = omega arith

    pub front_below : (crank_in start).k < 8
    front_below = start_by (λ h g e. rw e (begun_below (start_of sine q confusion))) (λ h e. rw e (omega arith))

    -- ---- what is asked
    begun_about : (r : Result Inquiry Refusal) → (crank_in (begun r)).inquiry ≡ inquiry_in r
    begun_about (Ok inquiry) = refl
    begun_about (Err refusal) = refl

    -- the inquiry is the quartic's, of a refused start too
    pub same_inquiry : (crank_in start).inquiry ≡ inquiry_in (start_of sine q confusion)
    same_inquiry =
        let about = λ (r : Result CrankInquiry Refusal). (crank_in r).inquiry in
        start_by (λ h g e. ap about e ∙ begun_about (start_of sine q confusion))
        (λ h e. ap about e ∙ about_nothing (start_of sine q confusion) (λ z. omega (arith, z, start_number sine q confusion, quartic_refused h)))

    refused_list : 0 < refusal_of q → real_roots_touching sine q confusion ≡ done []
    refused_list h = refused_asks sine q confusion (ne_eqb (refusal_of q) 0 (λ z. omega (arith, h, z)))

    -- k is the Rust's, or nothing is asked
    pub same_k : ((crank_in start).k ≡ sample_of trig) ⊎ (real_roots_touching sine q confusion ≡ done [])
    same_k = start_by (λ h g e. go e (start_of sine q confusion) refl) (λ h e. inr (refused_list (omega (arith, quartic_refused h))))
      where
        go : start ≡ begun (start_of sine q confusion) → (r : Result Inquiry Refusal) → start_of sine q confusion ≡ r
            → ((crank_in start).k ≡ sample_of trig) ⊎ (real_roots_touching sine q confusion ≡ done [])
        go e (Ok inquiry) is = inl (ap (λ (r : Result CrankInquiry Refusal). (crank_in r).k) (e ∙ ap begun is))
        go e (Err refusal) is =
            let n : number_of refusal ≡ refusal_of q = ap outcome_of (sym is) ∙ start_number sine q confusion in
            inr (refused_list (omega (arith, n, number_bounds refusal)))

    -- the k that was found is the Rust's, or nothing is asked
    pub found_k : (crank_k_of trig ≡ sample_of trig) ⊎ (real_roots_touching sine q confusion ≡ done [])
    found_k = by_quartic (λ h g. inl (found_made h g)) (λ h e. inr (refused_list (omega (arith, quartic_refused h))))

    -- ---- the number
    abbrev counted : Bool → Result ℕ Refusal
    counted few = cond few (Err TooFew) (Ok (trimmed_of q))

    listed_number : all_finite_of q ≡ true → refusal_of q ≡ cond (leb (trimmed_of q) 1) 2 0
    unfolding counted_by
    listed_number g = rw (g, le-leb (trimmed_of q) 5 quartic_five) (few (leb (trimmed_of q) 1))
      where
        few : (b : Bool) → outcome_of (counted b) ≡ cond b 2 0
        few true = refl
        few false = refl

    begun_number : start ≡ begun (start_of sine q confusion) → number ≡ refusal_of q
    begun_number e =
        ap outcome_of e ∙ then_number (λ inquiry. record { k = sample_of trig; inquiry = inquiry }) (start_of sine q confusion) ∙ start_number sine q confusion

    abbrev number_by : Bool → Bool → Bool → ℕ
    number_by a b c = cond a (cond b (cond c 2 0) 5) 1

    number_is : number ≡ number_by (all_finite_of numbers) (all_finite_of q) (leb (trimmed_of q) 1)
    number_is =
        start_by (λ h g e. begun_number e ∙ listed_number g ∙ rw (h, g)) (λ g e. ap outcome_of e ∙ said (all_finite_of numbers) ∙ rw g)
      where
        said : (a : Bool) → outcome_of (by_front (refused a)) ≡ cond a 5 1
        said true = refl
        said false = refl

    -- what a number stands for
    abbrev Told : ℕ → Type 0
    Told zero = (all_finite_of numbers ≡ true) × (all_finite_of q ≡ true) × (2 ≤ trimmed_of q)
    Told (suc zero) = all_finite_of numbers ≡ false
    Told (suc (suc zero)) = (all_finite_of numbers ≡ true) × (all_finite_of q ≡ true) × (trimmed_of q ≤ 1)
    Told (suc (suc (suc m))) = (all_finite_of numbers ≡ true) × (all_finite_of q ≡ false)

    told : Told (number_by (all_finite_of numbers) (all_finite_of q) (leb (trimmed_of q) 1))
    told = go (all_finite_of numbers) (all_finite_of q) (leb (trimmed_of q) 1) refl refl refl
      where
        go : (a b c : Bool) → all_finite_of numbers ≡ a → all_finite_of q ≡ b → leb (trimmed_of q) 1 ≡ c → Told (number_by a b c)
        go false b c h g t = h
        go true false c h g t = (h, g)
        go true true true h g t = (h, g, leb-true (trimmed_of q) 1 t)
        go true true false h g t = (h, g, leb-false (trimmed_of q) 1 t)

    exactly : (n : ℕ) → (Told n → number_by (all_finite_of numbers) (all_finite_of q) (leb (trimmed_of q) 1) ≡ n) → Exactly (number ≡ n) (Told n)
    exactly n f = record { where_it_holds = λ t. number_is ∙ f t; only_there = λ s. subst Told (sym number_is ∙ s) told }

    pub start_numbers : Numbers number numbers q
    start_numbers =
        record {
          zero = exactly 0 (λ t. rw (t.0, t.1, lt-leb (trimmed_of q) 1 t.2));
          one = exactly 1 (λ t. rw t);
          two = exactly 2 (λ t. rw (t.0, t.1, le-leb (trimmed_of q) 1 t.2));
          five = exactly 5 (λ t. rw (t.0, t.1));
        }

    -- ---- what is started
    begun_is : (r : Result Inquiry Refusal) → outcome_of (begun r) ≡ 0 → begun r ≡ Ok (record { k = sample_of trig; inquiry = inquiry_in r })
    begun_is (Ok inquiry) z = refl
    begun_is (Err refusal) z = absurd (omega (arith, z, number_bounds refusal))

    pub started : number ≡ 0 → start ≡ Ok (record { k = sample_of trig; inquiry = inquiry_in (start_of sine q confusion) })
    started z =
        let s = start_numbers.zero.only_there z in
        let e = start_made s.0 s.1 in
        e ∙ begun_is (start_of sine q confusion) (ap outcome_of (sym e) ∙ z)

    -- nothing is asked where anything is refused
    pub refused_nothing : 0 < number → real_roots_touching sine q confusion ≡ done []
    refused_nothing h =
        start_by (λ n g e. refused_list (omega (arith, h, begun_number e))) (λ g e. refused_list (omega (arith, quartic_refused g)))
