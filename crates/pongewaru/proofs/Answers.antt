-- What is said and stored of an answer that may be refused.
use mathlib.Core.Path.{◌≡◌, refl, sym, ap, subst, ◌∙◌}
use mathlib.Core.List.{List, []}
use Prim.Native.Nat.{ℕ}
use native.Mathlib.Omega.{arith}
use lib.Ieee.{Float}
use Rattle.std.specs.Prelude.{Result, Ok, Err, IsOkAnd, MatchResult}
use Rattle.refusals.specs.declared.Refusal.{Refusal}
use Rattle.refusals.specs.Refusals.{outcome_of, value_or}
use Rattle.refusals.proofs.Numbers.{number_bounds}
use Rattle.tally.specs.declared.Tallied.{Tallied}
use Rattle.tally.specs.Tally.{answer_in, systems_in}
use Rattle.lent_bytes.specs.Bytes.{Answered}
use Rattle.lent_bytes.proofs.Whole.{answered_as, answered_if}
use Rattle.roots.specs.declared.Roots.{Roots}
use Rattle.poly.specs.RealRoots.{roots_in}
use lib.ListN.{replicate}
use Rattle.float.specs.Literals.{zero64}
use Rattle.formula.specs.declared.Expanded.{Expanded}
use Rattle.formula_roots.specs.Claims.{expanded_in}
use Rattle.formula.specs.Formula.{expand_of}
use Rattle.pongewaru.specs.Lists.{told_numbers}
use Rattle.pongewaru.specs.Formulas.{expanded_numbers}
use Rattle.pongewaru.specs.Answers.{numbers_in, AnsweredBy}

module _ {A : Type 0} (numbers : A → List Float) where
  -- `answer.map(numbers)`
  abbrev pub Mapped : Result A Refusal → Result (List Float) Refusal → Type 0
  Mapped s y = MatchResult s (λ x. IsOkAnd y (λ u. u ≡ numbers x)) (λ e. y ≡ Err e)

  module _ {k : ℕ} {ys : List Float} {l : List ℕ} {r : ℕ} {m : List ℕ} where
    -- the answer that is told has the number k, and the numbers ys where it is not refused
    pub told_as : (s : Result A Refusal) (y : Result (List Float) Refusal) → Mapped s y → outcome_of s ≡ k → ((x : A) → s ≡ Ok x → numbers x ≡ ys)
        → Answered (outcome_of y) (value_or [] y) l r m → Answered k ys l r m
    told_as (Ok x) (Ok u) same e p h = answered_as e (same ∙ p x refl) h
    told_as (Ok x) (Err refusal) same e p h = absurd same
    told_as (Err refusal) y same e p h =
        answered_if (ap outcome_of same ∙ e) (λ z. absurd (omega (arith, e, z, (number_bounds refusal).0))) h

  pub told_by : {l : List ℕ} {r : ℕ} {m : List ℕ} (s answer : Result A Refusal) (y : Result (List Float) Refusal) → s ≡ answer → Mapped s y
      → Answered (outcome_of y) (value_or [] y) l r m → AnsweredBy numbers answer l r m
  told_by {l} {r} {m} s answer y is same h =
      subst (λ (a : Result A Refusal). AnsweredBy numbers a l r m) is
      (told_as s y same refl (λ x e. sym (ap (numbers_in numbers) e)) h)

-- ---- a list, and how many systems were solved for it
pub same_number : {A : Type 0} (s : Result (Tallied A) Refusal) → outcome_of s ≡ outcome_of (answer_in s)
same_number (Ok t) = refl
same_number (Err refusal) = refl

abbrev pub tallied_numbers : Tallied Roots → List Float
tallied_numbers t = told_numbers t.value t.systems

pub told_list : {l : List ℕ} {r : ℕ} {m : List ℕ} (s : Result (Tallied Roots) Refusal) (answer : Result Roots Refusal) (systems : ℕ)
    (y : Result (List Float) Refusal) → answer_in s ≡ answer → systems_in s ≡ systems → Mapped tallied_numbers s y
    → Answered (outcome_of y) (value_or [] y) l r m → Answered (outcome_of answer) (told_numbers (roots_in answer) systems) l r m
told_list s answer systems y is count same h =
    told_as tallied_numbers s y same (same_number s ∙ ap outcome_of is)
    (λ x e.
    let value : x.value ≡ roots_in answer = ap roots_in (sym (ap answer_in e) ∙ is) in
    let number : x.systems ≡ systems = sym (ap systems_in e) ∙ count in
    λ i. told_numbers (value i) (number i)) h

-- the coefficients of a text
pub told_coefficients : {l : List ℕ} {r : ℕ} {m : List ℕ} (text : List ℕ) (s : Result Expanded Refusal) (y : Result (List Float) Refusal) → s ≡ expand_of text
    → Mapped expanded_numbers s y → Answered (outcome_of y) (value_or [] y) l r m
    → Answered (outcome_of (expand_of text)) (expanded_numbers (expanded_in text)) l r m
told_coefficients text s y is same h =
    told_as expanded_numbers s y same (ap outcome_of is)
    (λ x e. ap (λ (r : Result Expanded Refusal). expanded_numbers (value_or (record { len = 0; coeffs = replicate 5 zero64 }) r)) (sym e ∙ is)) h
