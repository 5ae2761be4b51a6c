-- What `start` makes is sound, and asks what real_roots_touching asks.
use mathlib.Core.Path.{◌≡◌, refl, ap, ◌∙◌, subst}
use mathlib.Core.Bool.{true}
use mathlib.Core.List.{List, []}
use Prim.Native.Nat.{ℕ, ◌+◌, ◌*◌, ◌≤◌}
use native.Mathlib.Omega.{arith}
use lib.Ieee.{Float}
use Rattle.std.specs.Prelude.{Result, Ok, Err}
use Rattle.refusals.specs.declared.Refusal.{Refusal}
use Rattle.refusals.specs.Refusals.{outcome_of, and_then}
use Rattle.roots.specs.Roots.{list_of}
use Rattle.roots.specs.Listed.{multiplicities}
use Rattle.roots.proofs.Laws.{length_pair_list}
use Rattle.roots.proofs.Sums.{counted}
use Rattle.angle.specs.declared.Sine.{Sine}
use Rattle.poly.specs.declared.Solved.{Solved}
use Rattle.poly.specs.Coefficients.{trimmed_of, counted_of, refusal_of, poly_of}
use Rattle.poly.specs.Solve.{finished_of, solve_of, no_solved, solved_in}
use Rattle.poly.proofs.Refusals.{Told, told, then_number, solved_number, answered_is}
use Rattle.poly.proofs.Sums.{solved_shared, solved_fits, poly_degree}
use Rattle.asking.specs.Asking.{done, ◌then◌, each}
use Rattle.touching.specs.Touching.{pair_order, ordered, emitted, chained, touching}
use Rattle.inquiry.specs.Inquiry.{sound_of, asking}
use Rattle.inquiry.specs.Start.{touching_by, real_roots_touching, fresh_by, start_of, inquiry_in}
use Rattle.inquiry.proofs.Sound.{sound_holds}

-- of a refusal nothing is asked, and nothing listed
none_asked : asking (fresh_by no_solved) ≡ done []
unfolding touching chained pair_order ordered emitted each ◌then◌
none_asked = refl

-- an inquiry about what was solved
begun_asks : (r : Result Solved Refusal) → asking (fresh_by (solved_in r)) ≡ touching_by r
begun_asks (Ok s) = refl
begun_asks (Err refusal) = none_asked

begun_in : (r : Result Solved Refusal) → inquiry_in (and_then r (λ s. Ok (fresh_by s))) ≡ fresh_by (solved_in r)
begun_in (Ok s) = refl
begun_in (Err refusal) = refl

module _ (sine : Sine) (coeffs : List Float) (tol : Float) where
  abbrev s : Solved
  s = solved_in (solve_of sine coeffs tol)

  refused : (refusal : Refusal) → counted_of coeffs ≡ Err refusal → solve_of sine coeffs tol ≡ Err refusal
  unfolding solve_of
  refused refusal h = rw h

  five : refusal_of coeffs ≡ 0 → trimmed_of coeffs ≤ 5
  five h = (subst (Told coeffs) h (told coeffs)).2

  -- what was solved has at most the degree 4
  solved_four : (s.poly.d ≤ 4) × (multiplicities (list_of s.roots) + 2 * s.pairs.len ≤ 4)
  unfolding finished_of
  solved_four = go (counted_of coeffs) refl
    where
      go : (r : Result ℕ Refusal) → counted_of coeffs ≡ r → (s.poly.d ≤ 4) × (multiplicities (list_of s.roots) + 2 * s.pairs.len ≤ 4)
      go (Ok n) h =
          let zero : refusal_of coeffs ≡ 0 = ap outcome_of h in
          let degree : s.poly.d ≡ (poly_of coeffs).d = ap (λ (r : Result Solved Refusal). (solved_in r).poly.d)
          (answered_is sine coeffs tol (solved_number sine coeffs tol ∙ zero)) in
          let most = (solved_shared sine coeffs tol).sum in
          let pairs = length_pair_list s.pairs (solved_fits sine coeffs tol).1 in
          (omega (arith, degree, poly_degree coeffs, five zero), omega (arith, most, pairs, five zero))
      go (Err refusal) h = rw (refused refusal h) (omega arith, omega arith)

  -- the inquiry of a start, of a refused one too
  pub start_is : inquiry_in (start_of sine coeffs tol) ≡ fresh_by s
  unfolding start_of
  start_is = begun_in (solve_of sine coeffs tol)

  pub solved_sound : sound_of (fresh_by s) ≡ true
  solved_sound =
      let fits = solved_fits sine coeffs tol in
      let shared = solved_shared sine coeffs tol in
      sound_holds (fresh_by s) (record {
        degree = solved_four.0;
        replies = omega arith;
        roots = fits.0.1;
        pairs = fits.1.1;
        counted = counted (list_of s.roots) shared.listed;
        total = solved_four.1;
      })

  pub solved_asks : asking (fresh_by s) ≡ real_roots_touching sine coeffs tol
  unfolding real_roots_touching
  solved_asks = begun_asks (solve_of sine coeffs tol)

  pub start_sound : sound_of (inquiry_in (start_of sine coeffs tol)) ≡ true
  start_sound = ap sound_of start_is ∙ solved_sound

  pub start_number : outcome_of (start_of sine coeffs tol) ≡ refusal_of coeffs
  unfolding start_of
  start_number = then_number fresh_by (solve_of sine coeffs tol) ∙ solved_number sine coeffs tol

  pub start_asks : asking (inquiry_in (start_of sine coeffs tol)) ≡ real_roots_touching sine coeffs tol
  start_asks = ap asking start_is ∙ solved_asks
