-- real_roots of poly.rs: the finished roots in x, or a refusal. Definitions only.
use Rattle.std.specs.Prelude.{cond, List, [], ◌∷◌, ℕ, ℤ, Float, Result, Ok}
use Rattle.refusals.specs.declared.Refusal.{Refusal}
use Rattle.refusals.specs.Refusals.{value_or, and_then}
use Rattle.float.specs.Methods.{is_finite_of}
use Rattle.ldexp.specs.Scale.{ldexp_of}
use Rattle.roots.specs.declared.RealRoot.{RealRoot}
use Rattle.roots.specs.declared.Roots.{Roots}
use Rattle.roots.specs.Roots.{root, list_of, roots_of, no_roots}
use Rattle.angle.specs.declared.Sine.{Sine}
use Rattle.poly.specs.declared.Solved.{Solved}
use Rattle.poly.specs.Solve.{solve_of, solved_in}

-- `let value = ldexp(y, self.e);` of `unscaled`: the place y of the scaled variable in x
abbrev pub unscaled_of : ℤ → Float → Float
unscaled_of e y = ldexp_of y e

-- `.filter_map(|(&y, &m)| poly.unscaled(y, m))`: a place that is not finite in x is not listed
unfoldable pub unscaled_all : ℤ → List RealRoot → List RealRoot
unscaled_all e [] = []
unscaled_all e (r ∷ l) =
    let x = unscaled_of e r.value in
    let rest = unscaled_all e l in
    cond (is_finite_of x) (root x r.multiplicity ∷ rest) rest

-- the list of what was solved
unfoldable pub answer_of : Solved → Roots
answer_of s = roots_of (unscaled_all s.poly.e (list_of s.roots))

-- `fn real_roots(coeffs: &[f64], tol: f64) -> Vec<RealRoot>`, or the refusal
unfoldable pub real_roots_of : Sine → List Float → Float → Result Roots Refusal
real_roots_of sine coeffs tol = and_then (solve_of sine coeffs tol) (λ s. Ok (answer_of s))

-- the roots of an answer; of a refusal none
abbrev pub roots_in : Result Roots Refusal → Roots
roots_in answer = value_or no_roots answer

-- how many systems were solved for it; of a refusal none
unfoldable pub real_roots_systems_of : Sine → List Float → Float → ℕ
real_roots_systems_of sine coeffs tol = (solved_in (solve_of sine coeffs tol)).systems
