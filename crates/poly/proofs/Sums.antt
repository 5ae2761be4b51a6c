-- What is found counts at most the degree: zeros, linear factors and, two for each, quadratic factors; finishing and the way back to x add nothing.
use mathlib.Core.Path.{◌≡◌, refl, sym, subst}
use mathlib.Core.Bool.{Bool, true, false, cond}
use mathlib.Core.List.{List, [], ◌∷◌}
use Prim.Native.Nat.{ℕ, zero, suc, ◌+◌, ◌-◌, ◌*◌, ◌^◌, ◌≤◌, ◌<◌}
use native.Mathlib.Omega.{arith}
use borrow.Author.Tests.{ltb-true}
use lib.Dec.{ltb}
use lib.IntN.{ℤ}
use lib.ListN.{length}
use lib.Ieee.{Float}
use Rattle.facts.specs.Count.{count_up}
use Rattle.float.specs.Literals.{zero64}
use Rattle.float.specs.Methods.{is_finite_of, max_of}
use Rattle.angle.specs.declared.Sine.{Sine}
use Rattle.scaled.specs.declared.Scaled.{Scaled}
use Rattle.scaled.specs.Scaled.{scaled_of}
use Rattle.factors.specs.declared.Factors.{Factors}
use Rattle.factors.specs.Factors.{lin_at, quad_at, degree_of}
use Rattle.factorize.specs.Factorize.{factorize_of}
use Rattle.roots.specs.declared.RealRoot.{RealRoot}
use Rattle.roots.specs.declared.Pair.{Pair}
use Rattle.roots.specs.Roots.{root, kept, list_of, pair_list_of}
use Rattle.roots.specs.Listed.{multiplicities, Counted, Listed, Within, Shared, Fits, PairsFit}
use Rattle.roots.proofs.Laws.{list_roots, roots_fit, list_pairs, pairs_fit}
use Rattle.roots.proofs.Sums.{counted, within_none, within_more, within_kept, shared_none, shared_more}
use Rattle.push.specs.declared.Found.{Found}
use Rattle.push.specs.Quadratic.{found_of}
use Rattle.push.proofs.Lists.{quadratic_adds}
use Rattle.finish.specs.Finish.{finish_of}
use Rattle.std.specs.Prelude.{Result, Ok, Err}
use Rattle.refusals.specs.declared.Refusal.{Refusal}
use Rattle.refusals.specs.Refusals.{and_then}
use Rattle.poly.specs.Coefficients.{trimmed_of, zeros_of, counted_of, degree_left, poly_of}
use Rattle.poly.specs.Solve.{zero_roots_of, with_lin, with_quad, candidates_of, finished_of, solve_of, solved_in}
use Rattle.poly.specs.declared.Solved.{Solved}
use Rattle.poly.specs.RealRoots.{unscaled_of, unscaled_all, answer_of, real_roots_of, roots_in}
use Rattle.poly.proofs.Arrays.{unscaled_length}
use Rattle.poly.proofs.Coefficients.{room}
use Rattle.poly.proofs.Joined.{finish_within, degree_fits}

-- ---- the candidates
-- what a turn makes one larger, k turns make k larger
up_counts : {A : Type 0} (P : ℕ → A → Type 0) (f : ℕ → A → A) → ((i j : ℕ) (a : A) → P j a → P (suc j) (f i a))
    → (n k j : ℕ) (a : A) → P j a → P (j + k) (count_up n f k a)
unfolding count_up
up_counts P f step n zero j a p = subst (λ (m : ℕ). P m a) (let e : j ≡ j + 0 = omega arith in e) p
up_counts P f step n (suc k) j a p =
    subst (λ (m : ℕ). P m (count_up n f k (f (n - suc k) a))) (let e : suc j + k ≡ j + suc k = omega arith in e)
    (up_counts P f step n k (suc j) (f (n - suc k) a) (step (n - suc k) j a p))

zeros_within : (zeros : ℕ) → Within zeros (zero_roots_of zeros)
unfolding zero_roots_of
zeros_within zeros = go (ltb 0 zeros) refl
  where
    go : (b : Bool) → ltb 0 zeros ≡ b → Within zeros (cond b (kept [] (root zero64 zeros)) [])
    go true t = within_more (0 + zeros) zeros _ (omega arith) (within_kept 0 [] (root zero64 zeros) within_none (ltb-true 0 zeros t))
    go false t = within_more 0 zeros [] (omega arith) within_none

module _ (poly : Scaled) (zeros : ℕ) (f : Factors) (tol : Float) where
  lins_within : Within (zeros + (0 + f.nlin)) (count_up f.nlin (with_lin f) f.nlin (zero_roots_of zeros))
  lins_within =
      up_counts (λ (j : ℕ) (l : List RealRoot). Within (zeros + j) l) (with_lin f)
      (λ i j l w. within_more (zeros + j + 1) (zeros + suc j) _ (omega arith) (within_kept (zeros + j) l (root (lin_at f i) 1) w (omega arith)))
      f.nlin f.nlin 0 (zero_roots_of zeros) (within_more zeros (zeros + 0) _ (omega arith) (zeros_within zeros))

  pub candidates_shared : Shared (zeros + degree_of f) (candidates_of poly zeros f tol).0 (candidates_of poly zeros f tol).1
  unfolding candidates_of
  candidates_shared =
      let lins = count_up f.nlin (with_lin f) f.nlin (zero_roots_of zeros) in
      let d = zeros + (0 + f.nlin) in
      let c = candidates_of poly zeros f tol in
      shared_more (d + 2 * (0 + f.nquad)) (zeros + degree_of f) c.0 c.1 (omega arith)
      (up_counts (λ (j : ℕ) (s : List RealRoot × List Pair). Shared (d + 2 * j) s.0 s.1) (with_quad poly f tol)
      (λ i j s w. shared_more (d + 2 * j + 2) (d + 2 * suc j) _ _ (omega arith)
      (quadratic_adds poly (quad_at f i).al (quad_at f i).be tol (d + 2 * j) s.0 s.1 w))
      f.nquad f.nquad 0 (lins, []) (shared_more d (d + 2 * 0) lins [] (omega arith) (shared_none d lins lins_within)))

-- ---- what the functions need
pub counts_fit : (sine : Sine) (poly : Scaled) (f : Factors) → f ≡ factorize_of sine poly 0 → poly.d ≤ 4 → (f.nlin ≤ 4) × (f.nquad ≤ 2)
counts_fit sine poly f e h = let d = subst (λ (g : Factors). degree_of g ≤ poly.d) (sym e) (degree_fits sine poly h) in (omega arith, omega arith)

pub candidates_fit : (sine : Sine) (poly : Scaled) (zeros : ℕ) (tol : Float) (r : Found)
    → r ≡ found_of (candidates_of poly zeros (factorize_of sine poly 0) tol)
    → poly.d + zeros ≤ 4
    → (r.roots.len ≤ 4) × (multiplicities (list_of r.roots) < 2 ^ 32)
candidates_fit sine poly zeros tol r e h =
    let c = candidates_of poly zeros (factorize_of sine poly 0) tol in
    let s = candidates_shared poly zeros (factorize_of sine poly 0) tol in
    let t = s.sum in
    let d = degree_fits sine poly (omega arith) in
    rw (e, list_roots c.0) (s.four, omega arith)

-- ---- finished
pub finished_shared : (sine : Sine) (poly : Scaled) (zeros : ℕ) (tol : Float) → poly.d ≤ 4
    → Shared (zeros + poly.d) (list_of (finished_of sine poly zeros tol).roots) (pair_list_of (finished_of sine poly zeros tol).pairs)
unfolding finished_of
finished_shared sine poly zeros tol h =
    let c = candidates_of poly zeros (factorize_of sine poly 0) tol in
    let s = candidates_shared poly zeros (factorize_of sine poly 0) tol in
    let t = s.sum in
    let w = finish_within poly tol c.0 (counted c.0 s.listed) in
    let u = w.sum in
    let d = degree_fits sine poly h in
    rw (list_roots (finish_of poly c.0 tol), list_pairs c.1)
    (record { four = w.four; listed = w.listed; two = s.two; sum = omega arith })

pub poly_degree : (coeffs : List Float) → (poly_of coeffs).d ≡ trimmed_of coeffs - zeros_of coeffs - 1
unfolding poly_of scaled_of
poly_degree coeffs = refl

-- ---- solved: the roots, and two for each pair
pub solved_shared : (sine : Sine) (coeffs : List Float) (tol : Float) → Shared (degree_left coeffs) (list_of (solved_in (solve_of sine coeffs tol)).roots)
    (pair_list_of (solved_in (solve_of sine coeffs tol)).pairs)
unfolding solve_of
solved_shared sine coeffs tol = go (counted_of coeffs) refl
  where
    solved : Solved
    solved = finished_of sine (poly_of coeffs) (zeros_of coeffs) (max_of tol zero64)

    within : Solved → Type 0
    within s = Shared (degree_left coeffs) (list_of s.roots) (pair_list_of s.pairs)

    go : (r : Result ℕ Refusal) → counted_of coeffs ≡ r → within (solved_in (and_then r (λ n. Ok solved)))
    go (Ok n) e =
        let r = room coeffs n (zeros_of coeffs) e refl in
        let d = poly_degree coeffs in
        shared_more (zeros_of coeffs + (poly_of coeffs).d) (degree_left coeffs) _ _ (omega (arith, r, d))
        (finished_shared sine (poly_of coeffs) (zeros_of coeffs) _ (omega (arith, r, d)))
    go (Err refusal) e = shared_more 0 (degree_left coeffs) [] [] (omega arith) (shared_none 0 [] within_none)

-- the arrays have room for them
pub solved_fits : (sine : Sine) (coeffs : List Float) (tol : Float)
    → Fits (solved_in (solve_of sine coeffs tol)).roots × PairsFit (solved_in (solve_of sine coeffs tol)).pairs
unfolding solve_of finished_of
solved_fits sine coeffs tol = go (counted_of coeffs)
  where
    solved : Solved
    solved = finished_of sine (poly_of coeffs) (zeros_of coeffs) (max_of tol zero64)

    fit : Solved → Type 0
    fit s = Fits s.roots × PairsFit s.pairs

    go : (r : Result ℕ Refusal) → fit (solved_in (and_then r (λ n. Ok solved)))
    go (Ok n) =
        let poly = poly_of coeffs in
        let t = max_of tol zero64 in
        let c = candidates_of poly (zeros_of coeffs) (factorize_of sine poly 0) t in
        let s = candidates_shared poly (zeros_of coeffs) (factorize_of sine poly 0) t in
        let w = finish_within poly t c.0 (counted c.0 s.listed) in
        (roots_fit (finish_of poly c.0 t) w.four, pairs_fit c.1 s.two)
    go (Err refusal) = (roots_fit [] (omega arith), pairs_fit [] (omega arith))

-- ---- in x
unscaled_within : (e : ℤ) (d : ℕ) (l : List RealRoot) → Within d l → Within d (unscaled_all e l)
unfolding unscaled_all
unscaled_within e d l w =
    let u = go l (counted l w.listed) in
    let a = unscaled_length e l in
    let f = w.four in
    let b = u.1 in
    let s = w.sum in
    record { four = omega arith; listed = u.0; sum = omega arith }
  where
    go : (l : List RealRoot) → Counted l → Listed (unscaled_all e l) × (multiplicities (unscaled_all e l) ≤ multiplicities l)
    go [] h = (tt, omega arith)
    go (r ∷ l) h = step (go l h.1) (is_finite_of (unscaled_of e r.value)) refl
      where
        rest : List RealRoot
        rest = unscaled_all e l

        here : RealRoot
        here = root (unscaled_of e r.value) r.multiplicity

        step : Listed rest × (multiplicities rest ≤ multiplicities l) → (b : Bool) → is_finite_of (unscaled_of e r.value) ≡ b
            → Listed (cond b (here ∷ rest) rest) × (multiplicities (cond b (here ∷ rest) rest) ≤ r.multiplicity + multiplicities l)
        step i true t = (((t, h.0), i.0), let s = i.1 in omega arith)
        step i false t = (i.0, let s = i.1 in omega arith)

pub answer_within : (sine : Sine) (coeffs : List Float) (tol : Float) → Within (degree_left coeffs) (list_of (roots_in (real_roots_of sine coeffs tol)))
unfolding real_roots_of answer_of
answer_within sine coeffs tol = go (solve_of sine coeffs tol) (solved_shared sine coeffs tol)
  where
    go : (r : Result Solved Refusal) → Shared (degree_left coeffs) (list_of (solved_in r).roots) (pair_list_of (solved_in r).pairs)
        → Within (degree_left coeffs) (list_of (roots_in (and_then r (λ s. Ok (answer_of s)))))
    go (Ok s) h =
        let k = h.sum in
        rw (list_roots (unscaled_all s.poly.e (list_of s.roots)))
        (unscaled_within s.poly.e (degree_left coeffs) (list_of s.roots) (record { four = h.four; listed = h.listed; sum = omega arith }))
    go (Err refusal) h = within_more 0 (degree_left coeffs) [] (omega arith) within_none

-- the array has room for them
pub answer_fits : (sine : Sine) (coeffs : List Float) (tol : Float) → Fits (roots_in (real_roots_of sine coeffs tol))
unfolding real_roots_of answer_of
answer_fits sine coeffs tol = go (solve_of sine coeffs tol) (answer_within sine coeffs tol)
  where
    go : (r : Result Solved Refusal) → Within (degree_left coeffs) (list_of (roots_in (and_then r (λ s. Ok (answer_of s)))))
        → Fits (roots_in (and_then r (λ s. Ok (answer_of s))))
    go (Ok s) w = let l = unscaled_all s.poly.e (list_of s.roots) in roots_fit l (subst (λ (k : List RealRoot). length k ≤ 4) (list_roots l) w.four)
    go (Err refusal) w = roots_fit [] (omega arith)
