-- Every claim about formulas, for all texts and all bits of the tolerance.
use mathlib.Core.Path.{◌≡◌, refl, sym, ap, subst⁻¹, ◌∙◌}
use mathlib.Core.List.{List}
use mathlib.Core.Logic.{◌⊎◌, inl, inr, ⊎_elim}
use Prim.Native.Nat.{ℕ, ◌≤◌, ◌<◌}
use native.Mathlib.Omega.{arith}
use lib.IntN.{ℤ}
use lib.Ieee.{Float}
use Rattle.std.specs.Prelude as Prelude
use Rattle.std.specs.Prelude.{Ok, Err}
use Rattle.refusals.specs.declared.Refusal.{Refusal}
use Rattle.refusals.specs.declared.Refusal.TheVariants.{NotASum, DegreeTooHigh, CoefficientTooLarge}
use Rattle.refusals.specs.Refusals.{number_of, outcome_of}
use Rattle.roots.specs.declared.Roots.{Roots}
use Rattle.roots.specs.Roots.{no_roots}
use Rattle.angle.specs.declared.Sine.{Sine}
use Rattle.poly.specs.RealRoots.{roots_in, real_roots_of}
use Rattle.poly.specs.Conditions.{Exactly}
use Rattle.poly.proofs.Refusals.{number_most, has_no_root}
use Rattle.parts.specs.Polynomial.{trimmed}
use Rattle.parts.specs.Value.{Value}
use Rattle.formula.specs.Grammar.{Sum, Derives}
use Rattle.formula.specs.Parts.{sum_polynomial, sum_parts, Meets, AllMeet, FirstHigh, FirstLarge}
use Rattle.formula.specs.Formula.{formula_of, answered_of, expand_of}
use Rattle.formula.proofs.Complete.{one_reading}
use Rattle.formula.proofs.Meaning.{sum_value}
use Rattle.formula.proofs.Parts.{all_exact, high_refused, large_refused}
use Rattle.formula.proofs.Texts.{Way, no_sum, high, large, meets, way, derived_judged}
use Rattle.formula_roots.specs.FormulaRoots.{handed_on, solved_of, formula_roots_of}
use Rattle.formula_roots.specs.Claims.{Constant, Varying, Result, Formulas}
use Rattle.formula_roots.proofs.Solved.{handed, formula_within, answered_by_list, formula_fits}
use Rattle.formula_roots.proofs.Doubles.{result_of, list_two, list_zero, list_number}

module _ (sine : Sine) (s : List ℕ) (tol : Float) where
  abbrev answer : Prelude.Result Roots Refusal
  answer = formula_roots_of sine s tol

  -- its number, 0 for roots
  abbrev number : ℕ
  number = outcome_of answer

  -- ---- by what the text is worth
  refused_answer : (n : Refusal) → formula_of s ≡ Err n → number ≡ number_of n
  unfolding formula_roots_of
  refused_answer n e = ap (λ (v : Value). outcome_of (solved_of sine v tol)) e

  refused_expand : (n : Refusal) → formula_of s ≡ Err n → outcome_of (expand_of s) ≡ number_of n
  unfolding expand_of answered_of
  refused_expand n e = ap (λ (v : Value). outcome_of (answered_of v)) e

  exact_expand : (p : List ℤ) → formula_of s ≡ Ok p → outcome_of (expand_of s) ≡ 0
  unfolding expand_of answered_of
  exact_expand p e = ap (λ (v : Value). outcome_of (answered_of v)) e

  -- the polynomial p goes to the list operation
  abbrev coeffs : List Float
  coeffs = handed_on (formula_of s)

  abbrev Listed : List ℤ → Type 0
  Listed p = Result p coeffs × (answer ≡ real_roots_of sine coeffs tol)

  listed : (p : List ℤ) → Meets p → formula_of s ≡ Ok (trimmed p) → Listed p
  unfolding formula_roots_of solved_of
  listed p m e = subst⁻¹ (λ (v : Value). Result p (handed_on v) × (solved_of sine v tol ≡ real_roots_of sine (handed_on v) tol)) e (result_of p m, refl)

  list_most : (p : List ℤ) → Listed p → number ≤ 3
  list_most p w = subst⁻¹ (λ (x : Prelude.Result Roots Refusal). outcome_of x ≤ 3) w.1 (number_most sine coeffs tol)

  -- ---- a tree whose parts all meet the limits
  worth : (a : Sum) → Derives s a → AllMeet (sum_parts a) → Meets (sum_polynomial a) × (formula_of s ≡ Ok (trimmed (sum_polynomial a)))
  worth a d h = all_exact (sum_parts a) (sum_polynomial a) (formula_of s) (derived_judged s a d) h

  goes_on : (a : Sum) → Derives s a → AllMeet (sum_parts a) → Listed (sum_polynomial a)
  goes_on a d h = let w = worth a d h in listed (sum_polynomial a) w.0 w.1

  reached : Exactly (outcome_of (expand_of s) ≡ 0) ((a : Sum) × Derives s a × AllMeet (sum_parts a))
  reached = record { where_it_holds = λ w. exact_expand (trimmed (sum_polynomial w.0)) (worth w.0 w.1 w.2).1; only_there = go (way s) }
    where
      go : Way s → outcome_of (expand_of s) ≡ 0 → (a : Sum) × Derives s a × AllMeet (sum_parts a)
      go (no_sum f q) e = absurd (omega (arith, refused_expand NotASum q, e))
      go (high a d w q) e = absurd (omega (arith, refused_expand DegreeTooHigh q, e))
      go (large a d w q) e = absurd (omega (arith, refused_expand CoefficientTooLarge q, e))
      go (meets a d h m q) e = (a, d, h)

  -- ---- the numbers
  thirteen : Exactly (number ≡ 13) ((a : Sum) → Derives s a → ⊥)
  thirteen = record { where_it_holds = at (way s); only_there = only (way s) }
    where
      at : Way s → ((a : Sum) → Derives s a → ⊥) → number ≡ 13
      at (no_sum f q) g = refused_answer NotASum q
      at (high a d w q) g = absurd (g a d)
      at (large a d w q) g = absurd (g a d)
      at (meets a d h m q) g = absurd (g a d)

      only : Way s → number ≡ 13 → (a : Sum) → Derives s a → ⊥
      only (no_sum f q) e = f
      only (high a d w q) e = absurd (omega (arith, refused_answer DegreeTooHigh q, e))
      only (large a d w q) e = absurd (omega (arith, refused_answer CoefficientTooLarge q, e))
      only (meets a d h m q) e = absurd (omega (arith, list_most (sum_polynomial a) (listed (sum_polynomial a) m q), e))

  fourteen : Exactly (number ≡ 14) ((a : Sum) × Derives s a × FirstHigh (sum_parts a))
  fourteen = record { where_it_holds = at; only_there = only (way s) }
    where
      at : ((a : Sum) × Derives s a × FirstHigh (sum_parts a)) → number ≡ 14
      at (a, d, w) = refused_answer DegreeTooHigh (high_refused (sum_parts a) (sum_polynomial a) (formula_of s) (derived_judged s a d) w)

      only : Way s → number ≡ 14 → (a : Sum) × Derives s a × FirstHigh (sum_parts a)
      only (no_sum f q) e = absurd (omega (arith, refused_answer NotASum q, e))
      only (high a d w q) e = (a, d, w)
      only (large a d w q) e = absurd (omega (arith, refused_answer CoefficientTooLarge q, e))
      only (meets a d h m q) e = absurd (omega (arith, list_most (sum_polynomial a) (listed (sum_polynomial a) m q), e))

  fifteen : Exactly (number ≡ 15) ((a : Sum) × Derives s a × FirstLarge (sum_parts a))
  fifteen = record { where_it_holds = at; only_there = only (way s) }
    where
      at : ((a : Sum) × Derives s a × FirstLarge (sum_parts a)) → number ≡ 15
      at (a, d, w) = refused_answer CoefficientTooLarge (large_refused (sum_parts a) (sum_polynomial a) (formula_of s) (derived_judged s a d) w)

      only : Way s → number ≡ 15 → (a : Sum) × Derives s a × FirstLarge (sum_parts a)
      only (no_sum f q) e = absurd (omega (arith, refused_answer NotASum q, e))
      only (high a d w q) e = absurd (omega (arith, refused_answer DegreeTooHigh q, e))
      only (large a d w q) e = (a, d, w)
      only (meets a d h m q) e = absurd (omega (arith, list_most (sum_polynomial a) (listed (sum_polynomial a) m q), e))

  -- those of the list
  of_the_list : (n : ℕ) → n ≤ 3 → (Such : List ℤ → Type 0)
      → ((p : List ℤ) → Result p coeffs → Exactly (outcome_of (real_roots_of sine coeffs tol) ≡ n) (Such p))
      → Exactly (number ≡ n) ((a : Sum) × Derives s a × AllMeet (sum_parts a) × Such (sum_polynomial a))
  of_the_list n l Such law = record { where_it_holds = at; only_there = only (way s) }
    where
      at : ((a : Sum) × Derives s a × AllMeet (sum_parts a) × Such (sum_polynomial a)) → number ≡ n
      at (a, d, h, such) = let w = goes_on a d h in ap outcome_of w.1 ∙ (law (sum_polynomial a) w.0).where_it_holds such

      only : Way s → number ≡ n → (a : Sum) × Derives s a × AllMeet (sum_parts a) × Such (sum_polynomial a)
      only (no_sum f q) e = absurd (omega (arith, refused_answer NotASum q, e))
      only (high a d w q) e = absurd (omega (arith, refused_answer DegreeTooHigh q, e))
      only (large a d w q) e = absurd (omega (arith, refused_answer CoefficientTooLarge q, e))
      only (meets a d h m q) e =
          let w = listed (sum_polynomial a) m q in
          (a, d, h, (law (sum_polynomial a) w.0).only_there (sym (ap outcome_of w.1) ∙ e))

  two : Exactly (number ≡ 2) ((a : Sum) × Derives s a × AllMeet (sum_parts a) × Constant (sum_polynomial a))
  two = of_the_list 2 (omega arith) Constant (λ p r. list_two p coeffs r sine tol)

  zero : Exactly (number ≡ 0) ((a : Sum) × Derives s a × AllMeet (sum_parts a) × Varying (sum_polynomial a))
  zero = of_the_list 0 (omega arith) Varying (λ p r. list_zero p coeffs r sine tol)

  no_other : (number ≡ 0) ⊎ ((number ≡ 2) ⊎ ((13 ≤ number) × (number ≤ 15)))
  no_other = go (way s)
    where
      go : Way s → (number ≡ 0) ⊎ ((number ≡ 2) ⊎ ((13 ≤ number) × (number ≤ 15)))
      go (no_sum f q) = let e = refused_answer NotASum q in inr (inr (omega arith, omega arith))
      go (high a d w q) = let e = refused_answer DegreeTooHigh q in inr (inr (omega arith, omega arith))
      go (large a d w q) = let e = refused_answer CoefficientTooLarge q in inr (inr (omega arith, omega arith))
      go (meets a d h m q) =
          let w = listed (sum_polynomial a) m q in
          let is = ap outcome_of w.1 in
          ⊎_elim (λ e. inl (is ∙ e)) (λ e. inr (inl (is ∙ e))) (list_number (sum_polynomial a) coeffs w.0 sine tol)

  -- ---- all of them
  stopped : 0 < outcome_of (expand_of s) → number ≡ outcome_of (expand_of s)
  unfolding formula_roots_of solved_of expand_of answered_of
  stopped = go (formula_of s)
    where
      go : (v : Value) → 0 < outcome_of (answered_of v) → outcome_of (solved_of sine v tol) ≡ outcome_of (answered_of v)
      go (Ok p) h = absurd (omega arith)
      go (Err n) h = refl

  pub formulas : Formulas sine s tol
  formulas = record {
    one_reading = λ a b d e. one_reading a b (d ∙ sym e);
    numbers = record { thirteen = thirteen; fourteen = fourteen; fifteen = fifteen; two = two; zero = zero; no_other = no_other };
    exact = λ a x. sum_value x a;
    reached = reached;
    result = goes_on;
    handed = handed s;
    stopped = stopped;
    roots = formula_within sine s tol;
    array = formula_fits sine s tol;
    refused =
        answered_by_list sine (λ (x : Prelude.Result Roots Refusal). 0 < outcome_of x → roots_in x ≡ no_roots) s tol (λ n l h. refl)
        (λ cs l. has_no_root sine cs tol);
  }
