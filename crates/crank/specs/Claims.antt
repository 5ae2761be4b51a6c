-- What is claimed of cranks: document 01, 'Crank equations'. Statements only; proofs/Theorem.antt has the proof, for all bits.
use Rattle.std.specs.Prelude.{◌≡◌, Bool, true, false, List, [], ℕ, ◌-◌, ◌≤◌, ◌<◌, length, get_or, Float, Err}
use Rattle.std.specs.Float.{nan}
use Rattle.refusals.specs.declared.Refusal.TheVariants.{NothingAsked}
use Rattle.refusals.specs.Refusals.{outcome_of}
use Rattle.float.specs.Methods.{all_finite_of}
use Rattle.roots.specs.declared.RealRoot.{RealRoot}
use Rattle.roots.specs.Roots.{list_of, roots_of}
use Rattle.roots.specs.Listed.{Within}
use Rattle.angle.specs.declared.Sine.{Sine}
use Rattle.poly.specs.Coefficients.{trimmed_of, degree_left}
use Rattle.poly.specs.Conditions.{Exactly}
use Rattle.trig_quartic.specs.declared.TrigEquation.{TrigEquation}
use Rattle.trig_quartic.specs.Crank.{numbers_of}
use Rattle.inquiry.specs.declared.Asked.TheVariants.{Question, Finished}
use Rattle.crank.specs.declared.CrankInquiry.{CrankInquiry}
use Rattle.crank.specs.Crank.{trig_quartic_of, solve_trig_of, places_trig_of, crank_start_of, crank_in, crank_asked_of, crank_replied_of, crank_after}
use Rattle.crank.specs.Crank.{crank_fed, crank_of, crank_roots_in, crank_k_of}

-- Each number, 0 for a start too, stands exactly for its condition: on the equation's five numbers, and on the quartic's coefficients q.
pub record Numbers (number : ℕ) (numbers q : List Float) : Type 0 where
  pub zero : Exactly (number ≡ 0) ((all_finite_of numbers ≡ true) × (all_finite_of q ≡ true) × (2 ≤ trimmed_of q))
  pub one : Exactly (number ≡ 1) (all_finite_of numbers ≡ false)
  pub two : Exactly (number ≡ 2) ((all_finite_of numbers ≡ true) × (all_finite_of q ≡ true) × (trimmed_of q ≤ 1))
  pub five : Exactly (number ≡ 5) ((all_finite_of numbers ≡ true) × (all_finite_of q ≡ false))

-- Fed the replies of touches, c asks at these places in this order and ends with this list. After n replies the question is about the place number n; after as
-- many as there are places the list is shown, and nothing is asked any more: a further reply is refused with 4, the inquiry unaltered.
pub record CrankFed (touches : ℕ → Float → Bool) (c : CrankInquiry) (places : List Float) (list : List RealRoot) : Type 0 where
  pub question : (n : ℕ) → n < length places → crank_asked_of (crank_fed touches n c)
      ≡ record { k = c.k; asked = Question (get_or places n nan) }
  pub finished : crank_asked_of (crank_fed touches (length places) c) ≡ record { k = c.k; asked = Finished (roots_of list) }
  pub over : (reply : Bool) → let end = crank_fed touches (length places) c in
      (crank_replied_of end reply ≡ Err NothingAsked) × (crank_after end reply ≡ end)

-- What holds of every equation and every tolerance.
pub record Cranks (sine : Sine) (confusion : Float) (trig : TrigEquation) : Type 0 where
  pub numbers : Numbers (outcome_of (crank_start_of sine confusion trig)) (numbers_of trig) (trig_quartic_of trig)
  -- 'k (0 to 7, in eighths of a turn)', the Rust's where it is not refused
  pub eighths : (crank_in (crank_start_of sine confusion trig)).k < 8
  pub k_is : outcome_of (crank_start_of sine confusion trig) ≡ 0 → (touches : ℕ → Float → Bool)
      → (crank_in (crank_start_of sine confusion trig)).k ≡ (solve_trig_of sine touches confusion trig).0
  -- for every yes-or-no function of k and u
  pub fed_so : (touches : ℕ → Float → Bool)
      → CrankFed touches (crank_in (crank_start_of sine confusion trig)) (places_trig_of sine touches confusion trig)
      (solve_trig_of sine touches confusion trig).1
  -- both of the k that was found, which a refusal has beside it
  pub found_eighths : crank_k_of trig < 8
  pub found_fed : (touches : ℕ → Float → Bool)
      → CrankFed touches (record { k = crank_k_of trig; inquiry = (crank_in (crank_start_of sine confusion trig)).inquiry })
      (places_trig_of sine touches confusion trig) (solve_trig_of sine touches confusion trig).1
  -- what is refused is not asked about, and the Rust's list is empty
  pub refused : 0 < outcome_of (crank_start_of sine confusion trig) → (touches : ℕ → Float → Bool)
      → (places_trig_of sine touches confusion trig ≡ []) × ((solve_trig_of sine touches confusion trig).1 ≡ [])
  -- at most (degree − 1) questions, 0 where the degree is 1; so at most three
  pub degree : degree_left (trig_quartic_of trig) ≤ 4
  pub most : (touches : ℕ → Float → Bool) → length (places_trig_of sine touches confusion trig) ≤ degree_left (trig_quartic_of trig) - 1
  -- demand 1, of every list, and of the answer where every question is replied no
  pub list : (touches : ℕ → Float → Bool) → Within (degree_left (trig_quartic_of trig)) (solve_trig_of sine touches confusion trig).1
  pub answer : Within (degree_left (trig_quartic_of trig)) (list_of (crank_roots_in (crank_of sine confusion trig)))
