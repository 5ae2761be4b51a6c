-- What a quadratic's number stands for, and what its answer is.
use mathlib.Core.Path.{◌≡◌, refl, sym, ◌∙◌}
use mathlib.Core.Logic.{inl, inr}
use mathlib.Core.Bool.{Bool, true, false, cond, true≢false}
use mathlib.Core.List.{List, [], ◌∷◌}
use Prim.Native.Nat.{◌<◌, ◌≤◌}
use native.Mathlib.Omega.{arith}
use lib.ListN.{length, get_or}
use lib.Ieee.{Float}
use Rattle.float.specs.Methods.{all_finite_of}
use Rattle.float.proofs.Finite.{finite_at}
use Rattle.solution.specs.declared.QuadraticSolution.{QuadraticSolution}
use Rattle.solution.specs.declared.QuadraticSolution.TheVariants.{Two, One, Linear, Degenerate, Empty}
use Rattle.solution.specs.Solution.{number_of, values_of}
use Rattle.std.specs.Prelude.{Result, Ok, Err}
use Rattle.refusals.specs.declared.Refusal.{Refusal}
use Rattle.refusals.specs.declared.Refusal.TheVariants.{NotFinite, AnswerNotFinite}
use Rattle.refusals.specs.Refusals.{outcome_of}
use Rattle.equation.specs.Quadratic.{solve_quadratic_of, quadratic_of, places_in}
use Rattle.poly.specs.Conditions.{Exactly}
use Rattle.poly.proofs.Refusals.{some_not, finite_all, not_all}
use Rattle.demands.specs.Demands.{QuadraticNumbers, Quadratics}

-- ---- a number n stands for its condition where the number at hand is n, or the condition fails
is_it : {A B : Type 0} → A → B → Exactly A B
is_it a b = record { where_it_holds = λ t. a; only_there = λ e. b }

is_not : {A B : Type 0} → (A → ⊥) → (B → ⊥) → Exactly A B
is_not p q = record { where_it_holds = λ t. absurd (q t); only_there = λ e. absurd (p e) }

-- not all of them are finite, where some one is not
apart : (l : List Float) → all_finite_of l ≡ true → all_finite_of l ≡ false → ⊥
apart l e f = true≢false (sym e ∙ f)

-- s is the Rust's answer
abbrev answered_by : Bool → Bool → QuadraticSolution → Result QuadraticSolution Refusal
answered_by f g s = cond f (cond g (Ok s) (Err AnswerNotFinite)) (Err NotFinite)

module _ (handed : List Float) (s : QuadraticSolution) where
  numbers_so : (f g : Bool) → all_finite_of handed ≡ f → all_finite_of (values_of s) ≡ g
      → QuadraticNumbers (outcome_of (answered_by f g s)) handed (values_of s)
  numbers_so true true e h = record {
    zero = is_it refl (finite_at handed e, finite_at (values_of s) h);
    one = is_not (λ z. omega arith) (λ r. apart handed e (not_all handed r));
    five = is_not (λ z. omega arith) (λ r. apart (values_of s) h (not_all (values_of s) r.1));
    nothing_else = inl refl;
  }
  numbers_so true false e h = record {
    zero = is_not (λ z. omega arith) (λ r. apart (values_of s) (finite_all (values_of s) r.1) h);
    one = is_not (λ z. omega arith) (λ r. apart handed e (not_all handed r));
    five = is_it refl (finite_at handed e, some_not (values_of s) h);
    nothing_else = inr (inr refl);
  }
  numbers_so false g e h = record {
    zero = is_not (λ z. omega arith) (λ r. apart handed (finite_all handed r.0) e);
    one = is_it refl (some_not handed e);
    five = is_not (λ z. omega arith) (λ r. apart handed (finite_all handed r.0) e);
    nothing_else = inr (inl refl);
  }

answer_so : (s : QuadraticSolution) (f g : Bool) → outcome_of (answered_by f g s) ≡ 0 → answered_by f g s ≡ Ok s
answer_so s true true z = refl
answer_so s true false z = absurd (omega (arith, z))
answer_so s false g z = absurd (omega (arith, z))

places_so : (s : QuadraticSolution) (f g : Bool) → all_finite_of (values_of s) ≡ g → all_finite_of (places_in (answered_by f g s)) ≡ true
unfolding places_in
places_so s true true h = h
places_so s true false h = refl
places_so s false g h = refl

refused_so : (s : QuadraticSolution) (f g : Bool) → 0 < outcome_of (answered_by f g s) → places_in (answered_by f g s) ≡ []
unfolding places_in
refused_so s true true z = absurd (omega (arith, z))
refused_so s true false z = refl
refused_so s false g z = refl

words_so : (s : QuadraticSolution) → (number_of s ≤ 4) × (length (values_of s) ≡ get_or (2 ∷ 1 ∷ 1 ∷ 0 ∷ 0 ∷ []) (number_of s) 0)
unfolding number_of values_of
words_so (Two x y) = (omega arith, refl)
words_so (One x) = (omega arith, refl)
words_so (Linear x) = (omega arith, refl)
words_so Degenerate = (omega arith, refl)
words_so Empty = (omega arith, refl)

pub quadratics : Quadratics
unfolding quadratic_of
quadratics = record {
  numbers = λ a b c confusion angular. numbers_so (a ∷ b ∷ c ∷ []) (solve_quadratic_of a b c confusion angular) _ _ refl refl;
  answer = λ a b c confusion angular. by answer_so a b c (solve_quadratic_of a b c confusion angular);
  places = λ a b c confusion angular.
      finite_at (places_in (quadratic_of a b c confusion angular)) (by places_so a b c (solve_quadratic_of a b c confusion angular) refl);
  refused = λ a b c confusion angular. by refused_so a b c (solve_quadratic_of a b c confusion angular);
  words = words_so;
}
  where
    by : {P : Bool → Bool → QuadraticSolution → Type 0} → ((s : QuadraticSolution) (f g : Bool) → P f g s) → (a b c : Float) (s : QuadraticSolution)
        → P (all_finite_of (a ∷ b ∷ c ∷ [])) (all_finite_of (values_of s)) s
    by law a b c s = law s (all_finite_of (a ∷ b ∷ c ∷ [])) (all_finite_of (values_of s))
