-- How many systems are solved for a list: none where it is refused; else as many as for the factors of its polynomial; and how many at most.
use mathlib.Core.Path.{◌≡◌, refl, sym, ap, ◌∙◌, subst}
use mathlib.Core.List.{List}
use Prim.Native.Nat.{ℕ, ◌≤◌, ◌<◌}
use native.Mathlib.Omega.{arith}
use borrow.Author.Tests.{le-leb}
use lib.Ieee.{Float}
use Rattle.std.specs.Prelude.{Result, Ok, Err}
use Rattle.refusals.specs.declared.Refusal.{Refusal}
use Rattle.refusals.specs.Refusals.{outcome_of, and_then}
use Rattle.tally.specs.declared.Tallied.{Tallied}
use Rattle.tally.specs.Tally.{systems_in}
use Rattle.float.specs.Literals.{zero64}
use Rattle.float.specs.Methods.{max_of}
use Rattle.angle.specs.declared.Sine.{Sine}
use Rattle.factorize.specs.Factorize.{factorize_systems_of, systems_most}
use Rattle.factorize.proofs.Most.{factorize_most}
use Rattle.roots.specs.declared.Roots.{Roots}
use Rattle.poly.specs.declared.Solved.{Solved}
use Rattle.poly.specs.Coefficients.{zeros_of, counted_of, refusal_of, poly_of}
use Rattle.poly.specs.Solve.{finished_of, solve_of, solved_in}
use Rattle.poly.specs.RealRoots.{real_roots_systems_of}
use Rattle.poly.specs.Short.{short_of}
use Rattle.poly.specs.Brief.{relogged, ButLogs}
use Rattle.poly.proofs.Coefficients.{counted_when, room}
use Rattle.poly.proofs.Short.{short_solves}
use Rattle.poly.proofs.Steps.{none_solved}
use Rattle.poly.proofs.Sums.{poly_degree}

module _ (sine : Sine) (coeffs : List Float) where
  -- by how many coefficients count, or the refusal
  abbrev systems_by : Result ℕ Refusal → ℕ
  systems_by (Ok n) = factorize_systems_of sine (poly_of coeffs) 0
  systems_by (Err refusal) = 0

  systems_are : (tol : Float) → real_roots_systems_of sine coeffs tol ≡ systems_by (counted_of coeffs)
  unfolding real_roots_systems_of solve_of finished_of
  systems_are tol = go (counted_of coeffs)
    where
      solved : Solved
      solved = finished_of sine (poly_of coeffs) (zeros_of coeffs) (max_of tol zero64)

      go : (r : Result ℕ Refusal) → (solved_in (and_then r (λ n. Ok solved))).systems ≡ systems_by r
      go (Ok n) = refl
      go (Err refusal) = refl

  -- '.. and is 0 in a refusal'
  pub none_refused : (tol : Float) → 0 < refusal_of coeffs → real_roots_systems_of sine coeffs tol ≡ 0
  none_refused tol h = systems_are tol ∙ go (counted_of coeffs) h
    where
      go : (r : Result ℕ Refusal) → 0 < outcome_of r → systems_by r ≡ 0
      go (Ok n) h = absurd (omega (arith, h))
      go (Err refusal) h = refl

  pub all_factoring : (tol : Float) → refusal_of coeffs ≡ 0 → real_roots_systems_of sine coeffs tol ≡ factorize_systems_of sine (poly_of coeffs) 0
  all_factoring tol e = systems_are tol ∙ ap systems_by (counted_when coeffs e)

  -- at most what factoring allows for the degree that is left without the zeros
  systems_within : (tol : Float) → real_roots_systems_of sine coeffs tol ≤ systems_most (poly_of coeffs).d
  systems_within tol = rw (systems_are tol) (go (counted_of coeffs) refl)
    where
      go : (r : Result ℕ Refusal) → counted_of coeffs ≡ r → systems_by r ≤ systems_most (poly_of coeffs).d
      go (Ok n) e = factorize_most sine (poly_of coeffs) 0 (omega (arith, room coeffs n (zeros_of coeffs) e refl, poly_degree coeffs))
      go (Err refusal) e = omega arith

  -- 'it is 0 for d at most 2, at most 8 for d = 3 and at most 32 for d = 4'
  pub none_of_two : (tol : Float) → (poly_of coeffs).d ≤ 2 → real_roots_systems_of sine coeffs tol ≡ 0
  unfolding systems_most
  none_of_two tol h = let most = rw (le-leb (poly_of coeffs).d 2 h) at (systems_within tol) in omega (arith, most)

  pub eight_of_three : (tol : Float) → (poly_of coeffs).d ≡ 3 → real_roots_systems_of sine coeffs tol ≤ 8
  unfolding systems_most
  eight_of_three tol d = subst (λ (n : ℕ). real_roots_systems_of sine coeffs tol ≤ systems_most n) d (systems_within tol)

  pub thirty_two_of_four : (tol : Float) → (poly_of coeffs).d ≡ 4 → real_roots_systems_of sine coeffs tol ≤ 32
  unfolding systems_most
  thirty_two_of_four tol d = subst (λ (n : ℕ). real_roots_systems_of sine coeffs tol ≤ systems_most n) d (systems_within tol)

module _ (sine : Sine) (coeffs : List Float) (tol : Float) where
  -- a list and its short one
  pub short_systems : real_roots_systems_of sine (short_of coeffs) tol ≡ real_roots_systems_of sine coeffs tol
  unfolding real_roots_systems_of
  short_systems = ap (λ (s : Result Solved Refusal). (solved_in s).systems) (short_solves sine coeffs tol)

  -- ---- of what is solved but for its logarithms
  module _ {r : Result Solved Refusal} (by : ButLogs r (solve_of sine coeffs tol)) where
    same_systems : (solved_in r).systems ≡ real_roots_systems_of sine coeffs tol
    unfolding real_roots_systems_of
    same_systems = ap (λ (s : Result Solved Refusal). (solved_in s).systems) by.1 ∙ go (solve_of sine coeffs tol)
      where
        go : (s : Result Solved Refusal) → (solved_in (and_then s (λ solved. Ok (relogged by.0 solved)))).systems ≡ (solved_in s).systems
        go (Ok s) = refl
        go (Err refusal) = refl

    -- the two ways of `?`
    pub systems_refused : {A : Type 0} (refusal : Refusal) {a : Result (Tallied A) Refusal} → r ≡ Err refusal → a ≡ Err refusal
        → systems_in a ≡ real_roots_systems_of sine coeffs tol
    systems_refused refusal e is = ap systems_in is ∙ rw e at same_systems

    pub systems_solved : (s : Solved) → r ≡ Ok s → s.systems ≡ real_roots_systems_of sine coeffs tol
    systems_solved s e = rw e at same_systems

  pub refused_systems : (refusal : Refusal) {a : Result (Tallied Roots) Refusal} → counted_of coeffs ≡ Err refusal → a ≡ Err refusal
      → systems_in a ≡ real_roots_systems_of sine coeffs tol
  refused_systems refusal e is = systems_refused (none_solved sine coeffs tol refusal e) refusal refl is
