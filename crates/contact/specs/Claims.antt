-- What is claimed of pin contacts: request One of document 02. Statements only; proofs/Theorem.antt has the proof, for all bits.
use Rattle.std.specs.Prelude.{◌≡◌, ◌⊎◌, Bool, true, false, List, ℕ, ◌-◌, ◌≤◌, ◌<◌, length, Float}
use Rattle.std.specs.Float.Ieee.{lt}
use Rattle.refusals.specs.Refusals.{outcome_of}
use Rattle.float.specs.Literals.{zero64}
use Rattle.float.specs.Methods.{all_finite_of}
use Rattle.roots.specs.Roots.{list_of, roots_of, no_roots}
use Rattle.roots.specs.Listed.{Within, Fits}
use Rattle.angle.specs.declared.Sine.{Sine}
use Rattle.poly.specs.Coefficients.{trimmed_of, degree_left}
use Rattle.poly.specs.Solve.{solve_of}
use Rattle.poly.specs.RealRoots.{roots_in}
use Rattle.poly.specs.Conditions.{AllDoubles, Exactly}
use Rattle.inquiry.specs.Start.{real_roots_touching_of, places_touching_of, start_of, inquiry_in}
use Rattle.inquiry.specs.Claims.{Fed}
use Rattle.contact.specs.declared.Path.{Path}
use Rattle.contact.specs.declared.Circle.{Circle}
use Rattle.contact.specs.Contact.{numbers_of, seen_of, made_of, touches_of, pin_contact_of}

-- Each number, 0 for an answer too, stands exactly for its condition: on the record's numbers, on its radius, and on the coefficients made. There are no
-- others: 1 and 3 to 5 never come.
pub record Numbers (number : ℕ) (numbers : List Float) (r : Float) (coeffs : List Float) : Type 0 where
  pub zero : Exactly (number ≡ 0) ((all_finite_of numbers ≡ true) × (lt zero64 r ≡ true) × (all_finite_of coeffs ≡ true) × (2 ≤ trimmed_of coeffs))
  pub ten : Exactly (number ≡ 10) (all_finite_of numbers ≡ false)
  pub eleven : Exactly (number ≡ 11) ((all_finite_of numbers ≡ true) × (lt zero64 r ≡ false))
  pub twelve : Exactly (number ≡ 12) ((all_finite_of numbers ≡ true) × (lt zero64 r ≡ true) × (all_finite_of coeffs ≡ false))
  pub two : Exactly (number ≡ 2) ((all_finite_of numbers ≡ true) × (lt zero64 r ≡ true) × (all_finite_of coeffs ≡ true) × (trimmed_of coeffs ≤ 1))
  pub no_other : (number ≡ 0) ⊎ ((number ≡ 2) ⊎ ((10 ≤ number) × (number ≤ 12)))

-- the reply to a question at a time
abbrev pub replies_of : Float → Path → Circle → Float → Bool
replies_of confusion path circle = touches_of confusion (seen_of path circle) circle.r

-- What holds of every record.
pub record Contacts (sine : Sine) (confusion : Float) (path : Path) (circle : Circle) : Type 0 where
  pub numbers : Numbers (outcome_of (pin_contact_of sine confusion path circle)) (numbers_of confusion path circle) circle.r (made_of path circle)
  -- the list of the Rust for these replies, the tolerance being confusion; no root where it is refused
  pub list : outcome_of (pin_contact_of sine confusion path circle) ≡ 0
      → roots_in (pin_contact_of sine confusion path circle)
      ≡ roots_of (real_roots_touching_of sine (replies_of confusion path circle) (made_of path circle) confusion)
  pub refused : 0 < outcome_of (pin_contact_of sine confusion path circle) → roots_in (pin_contact_of sine confusion path circle) ≡ no_roots
  -- fed these replies, an inquiry about the coefficients asks at the Rust's places in its order, and ends with that list
  pub fed : Fed sine (replies_of confusion path circle) (inquiry_in (start_of sine (made_of path circle) confusion)) (made_of path circle) confusion
  -- where the confusion is below 0, every reply is no
  pub negative : lt confusion zero64 ≡ true → (t : Float) → replies_of confusion path circle t ≡ false
  -- at most (degree − 1) questions, 0 where the degree is 1; at most three
  pub degree : degree_left (made_of path circle) ≤ 4
  pub most : length (places_touching_of sine (replies_of confusion path circle) (made_of path circle) confusion) ≤ degree_left (made_of path circle) - 1
  pub questions : length (places_touching_of sine (replies_of confusion path circle) (made_of path circle) confusion) ≤ 3
  -- demand 1
  pub roots : Within (degree_left (made_of path circle)) (list_of (roots_in (pin_contact_of sine confusion path circle)))
  pub array : Fits (roots_in (pin_contact_of sine confusion path circle))
  -- what is solved is the list of these coefficients, which are doubles whatever the record
  pub solved : outcome_of (pin_contact_of sine confusion path circle) ≡ 0 → outcome_of (solve_of sine (made_of path circle) confusion) ≡ 0
  pub doubles : AllDoubles (made_of path circle)
