-- What is left of a list, and what each number stands for: it is answered under its condition and nowhere else.
use mathlib.Core.Path.{◌≡◌, refl, sym, ◌∙◌, subst}
use mathlib.Core.Logic.{⊎_elim}
use mathlib.Core.Bool.{Bool, true, false, cond, ◌&&◌, true≢false}
use mathlib.Core.List.{List, [], ◌∷◌}
use Prim.Native.Nat.{ℕ, zero, suc, ◌≤◌, ◌<◌}
use native.Mathlib.Nat.{eq-or-lt_of_le}
use native.Mathlib.Omega.{arith}
use borrow.Author.Tests.{leb-true, leb-false, le-leb, lt-leb}
use lib.Dec.{leb}
use lib.ListN.{length, get_or}
use lib.Ieee.{Float, nan, eq}
use Rattle.float.specs.Literals.{zero64}
use Rattle.float.specs.Methods.{is_finite_of, max_of, all_finite_of}
use Rattle.float.proofs.Finite.{finite_at}
use Rattle.std.specs.Prelude.{Result, Ok, Err}
use Rattle.refusals.specs.declared.Refusal.{Refusal}
use Rattle.refusals.specs.Refusals.{outcome_of, and_then}
use Rattle.roots.specs.declared.Roots.{Roots}
use Rattle.roots.specs.Roots.{no_roots}
use Rattle.angle.specs.declared.Sine.{Sine}
use Rattle.poly.specs.Coefficients.{trimmed_from, trimmed_of, zeros_of, counted_by, counted_of, refusal_of, poly_of}
use Rattle.poly.specs.Solve.{finished_of, solve_of}
use Rattle.poly.specs.RealRoots.{answer_of, real_roots_of, roots_in}
use Rattle.poly.specs.Conditions.{Trimmed, AllFinite, SomeNotFinite, Exactly}
use Rattle.poly.proofs.Coefficients.{last_left, trimmed_most, tested, counted_when}

-- ---- finite, or not
pub some_not : (s : List Float) → all_finite_of s ≡ false → SomeNotFinite s
some_not [] e = absurd (true≢false e)
some_not (c ∷ s) e = go (is_finite_of c) refl e (some_not s)
  where
    go : (b : Bool) → is_finite_of c ≡ b → (b && all_finite_of s) ≡ false → (all_finite_of s ≡ false → SomeNotFinite s) → SomeNotFinite (c ∷ s)
    go true t e rest = let r = rest e in (suc r.0, omega (arith, r.1), r.2)
    go false t e rest = (0, omega arith, t)

pub finite_all : (s : List Float) → AllFinite s → all_finite_of s ≡ true
finite_all s f = go (all_finite_of s) refl
  where
    go : (b : Bool) → all_finite_of s ≡ b → all_finite_of s ≡ true
    go true e = e
    go false e = let r = some_not s e in absurd (true≢false (sym (f r.0 r.1) ∙ r.2))

pub not_all : (s : List Float) → SomeNotFinite s → all_finite_of s ≡ false
not_all s r = go (all_finite_of s) refl
  where
    go : (b : Bool) → all_finite_of s ≡ b → all_finite_of s ≡ false
    go true e = absurd (true≢false (sym (finite_at s e r.0 r.1) ∙ r.2))
    go false e = e

-- ---- the trimmed length
dropped : (s : List Float) (m i : ℕ) → trimmed_from s m ≤ i → i < m → eq (get_or s i nan) zero64 ≡ true
unfolding trimmed_from
dropped s zero i a b = absurd (omega (arith, b))
dropped s (suc k) i a b = go (eq (get_or s k nan) zero64) refl a (dropped s k i)
  where
    go : (z : Bool) → eq (get_or s k nan) zero64 ≡ z → cond z (trimmed_from s k) (suc k) ≤ i
        → (trimmed_from s k ≤ i → i < k → eq (get_or s i nan) zero64 ≡ true) → eq (get_or s i nan) zero64 ≡ true
    go true t h rest = ⊎_elim (λ e. rw e t) (λ l. rest h l) (eq-or-lt_of_le (let l : i ≤ k = omega arith in l))
    go false t h rest = absurd (omega (arith, h, b))

pub trimmed_is : (s : List Float) → Trimmed s (trimmed_of s)
unfolding trimmed_of
trimmed_is s = record { within = trimmed_most s (length s); dropped = λ i a b. dropped s (length s) i a b; last = last_left s (length s) }

-- ---- the numbers
-- what a number stands for
abbrev pub Told : List Float → ℕ → Type 0
Told s zero = AllFinite s × (2 ≤ trimmed_of s) × (trimmed_of s ≤ 5)
Told s (suc zero) = SomeNotFinite s
Told s (suc (suc zero)) = AllFinite s × (trimmed_of s ≤ 1)
Told s (suc (suc (suc k))) = AllFinite s × (5 < trimmed_of s)

pub told : (s : List Float) → Told s (refusal_of s)
unfolding counted_by
told s = go (all_finite_of s) (leb (trimmed_of s) 1) (leb (trimmed_of s) 5) refl refl refl
  where
    go : (f a b : Bool) → all_finite_of s ≡ f → leb (trimmed_of s) 1 ≡ a → leb (trimmed_of s) 5 ≡ b → Told s (outcome_of (tested f a b (trimmed_of s)))
    go false a b e p q = some_not s e
    go true true b e p q = (finite_at s e, leb-true (trimmed_of s) 1 p)
    go true false true e p q = (finite_at s e, leb-false (trimmed_of s) 1 p, leb-true (trimmed_of s) 5 q)
    go true false false e p q = (finite_at s e, leb-false (trimmed_of s) 5 q)

-- the condition gives the number, for those there are
number_when : (s : List Float) (k : ℕ) → k ≤ 3 → Told s k → refusal_of s ≡ k
unfolding counted_by
number_when s zero h t = rw (finite_all s t.0, lt-leb (trimmed_of s) 1 t.1, le-leb (trimmed_of s) 5 t.2)
number_when s (suc zero) h t = rw (not_all s t)
number_when s (suc (suc zero)) h t = rw (finite_all s t.0, le-leb (trimmed_of s) 1 t.1)
number_when s (suc (suc (suc zero))) h t = rw (finite_all s t.0, lt-leb (trimmed_of s) 1 (omega (arith, t.1)), lt-leb (trimmed_of s) 5 t.1)
number_when s (suc (suc (suc (suc k)))) h t = absurd (omega (arith, h))

pub refusal_most : (finite : Bool) (n : ℕ) → outcome_of (counted_by finite n) ≤ 3
unfolding counted_by
refusal_most finite n = go finite (leb n 1) (leb n 5)
  where
    go : (f a b : Bool) → outcome_of (tested f a b n) ≤ 3
    go false a b = omega arith
    go true true b = omega arith
    go true false true = omega arith
    go true false false = omega arith

-- `?` keeps the number
pub then_number : {A B : Type 0} (f : A → B) (r : Result A Refusal) → outcome_of (and_then r (λ a. Ok (f a))) ≡ outcome_of r
then_number f (Ok a) = refl
then_number f (Err refusal) = refl

module _ (sine : Sine) (s : List Float) (tol : Float) where
  pub solved_number : outcome_of (solve_of sine s tol) ≡ refusal_of s
  unfolding solve_of
  solved_number = then_number (λ n. finished_of sine (poly_of s) (zeros_of s) (max_of tol zero64)) (counted_of s)

  -- what is solved of a list that is not refused
  pub answered_is : outcome_of (solve_of sine s tol) ≡ 0 → solve_of sine s tol ≡ Ok (finished_of sine (poly_of s) (zeros_of s) (max_of tol zero64))
  unfolding solve_of
  answered_is e = rw (counted_when s (sym solved_number ∙ e))

  pub number_is : outcome_of (real_roots_of sine s tol) ≡ refusal_of s
  unfolding real_roots_of
  number_is = then_number answer_of (solve_of sine s tol) ∙ solved_number

  pub number_most : outcome_of (real_roots_of sine s tol) ≤ 3
  number_most = rw number_is (refusal_most (all_finite_of s) (trimmed_of s))

  pub has_no_root : 0 < outcome_of (real_roots_of sine s tol) → roots_in (real_roots_of sine s tol) ≡ no_roots
  has_no_root = go (real_roots_of sine s tol)
    where
      go : (r : Result Roots Refusal) → 0 < outcome_of r → roots_in r ≡ no_roots
      go (Ok roots) h = absurd (omega (arith, h))
      go (Err refusal) h = refl

  pub stands_for : (k : ℕ) → k ≤ 3 → Exactly (outcome_of (real_roots_of sine s tol) ≡ k) (Told s k)
  stands_for k h = record { where_it_holds = λ t. number_is ∙ number_when s k h t; only_there = λ e. subst (Told s) (sym number_is ∙ e) (told s) }
