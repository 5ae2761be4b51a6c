-- Scaled::solve and Scaled::finish of poly.rs, joined: what real_roots and the inquiry begin with. Definitions only.
use Rattle.std.specs.Prelude.{cond, List, [], ℕ, ltb, pos, replicate, Float, Result, Ok}
use Rattle.facts.specs.Count.{count_up}
use Rattle.refusals.specs.declared.Refusal.{Refusal}
use Rattle.refusals.specs.Refusals.{value_or, and_then}
use Rattle.float.specs.Literals.{zero64}
use Rattle.float.specs.Methods.{max_of}
use Rattle.angle.specs.declared.Sine.{Sine}
use Rattle.scaled.specs.declared.Scaled.{Scaled}
use Rattle.factors.specs.declared.Factors.{Factors}
use Rattle.factors.specs.Factors.{lin_at, quad_at}
use Rattle.factorize.specs.Factorize.{factorize_of, factorize_systems_of}
use Rattle.roots.specs.declared.RealRoot.{RealRoot}
use Rattle.roots.specs.declared.Pair.{Pair}
use Rattle.roots.specs.Roots.{root, kept, roots_of, no_roots, pairs_of, no_pairs}
use Rattle.push.specs.Quadratic.{push_quadratic_of}
use Rattle.finish.specs.Finish.{finish_of}
use Rattle.poly.specs.declared.Solved.{Solved}
use Rattle.poly.specs.Coefficients.{zeros_of, counted_of, poly_of}

-- ---- Scaled::solve from the factors on: the candidates, and the complex pairs
-- `if zeros > 0 { cands.push(0.0, zeros as u32); }`: 'leading zeros become the root +0 with their number as multiplicity'
unfoldable pub zero_roots_of : ℕ → List RealRoot
zero_roots_of zeros = cond (ltb 0 zeros) (kept [] (root zero64 zeros)) []

-- `cands.push(r, 1);`
abbrev pub with_lin : Factors → ℕ → List RealRoot → List RealRoot
with_lin f i l = kept l (root (lin_at f i) 1)

-- `poly.push_quadratic(al, be, tol, &mut cands, &mut pairs);`
abbrev pub with_quad : Scaled → Factors → Float → ℕ → List RealRoot × List Pair → List RealRoot × List Pair
with_quad poly f tol i s = push_quadratic_of poly (quad_at f i).al (quad_at f i).be tol s.0 s.1

-- the zero roots, `for &r in &factors.lin[..factors.nlin]`, and then `for &(al, be) in &factors.quad[..factors.nquad]`
unfoldable pub candidates_of : Scaled → ℕ → Factors → Float → List RealRoot × List Pair
candidates_of poly zeros factors tol =
    let cands = count_up factors.nlin (with_lin factors) factors.nlin (zero_roots_of zeros) in
    count_up factors.nquad (with_quad poly factors tol) factors.nquad (cands, [])

-- ---- the finished roots, and the pairs
-- `let factors = factorize(&poly, 0);`, the candidates, and `poly.finish(cands, tol.max(0.0))`; how many systems were solved, by factorize alone
unfoldable pub finished_of : Sine → Scaled → ℕ → Float → Solved
finished_of sine poly zeros tol =
    let factors = factorize_of sine poly 0 in
    let c = candidates_of poly zeros factors tol in
    let systems = factorize_systems_of sine poly 0 in
    record { poly = poly; tol = tol; roots = roots_of (finish_of poly c.0 tol); pairs = pairs_of c.1; systems = systems }

-- `Scaled::solve`, then `finish`; `None` is a refusal. The tolerance is `tol.max(0.0)`: 'A NaN or negative tolerance counts as 0'
unfoldable pub solve_of : Sine → List Float → Float → Result Solved Refusal
solve_of sine coeffs tol = and_then (counted_of coeffs) (λ n. Ok (finished_of sine (poly_of coeffs) (zeros_of coeffs) (max_of tol zero64)))

-- ---- what theorems say of a list that is refused too: that nothing is solved, zeros
abbrev pub no_poly : Scaled
no_poly = record { f = replicate 5 zero64; g = replicate 5 zero64; lg = replicate 5 zero64; d = 0; e = pos 0; unit = zero64 }

abbrev pub no_solved : Solved
no_solved = record { poly = no_poly; tol = zero64; roots = no_roots; pairs = no_pairs; systems = 0 }

abbrev pub solved_in : Result Solved Refusal → Solved
solved_in s = value_or no_solved s
