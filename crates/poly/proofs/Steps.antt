-- The ways out of `finished`, `solve` and `real_roots`, over plain values.
use mathlib.Core.Path.{◌≡◌, refl, sym, ap, ◌∙◌, subst, subst⁻¹}
use mathlib.Core.List.{List, []}
use Prim.Native.Nat.{ℕ, ◌-◌, ◌≤◌}
use native.Mathlib.Omega.{arith}
use lib.Ieee.{Float}
use Rattle.std.specs.Prelude.{Result, Ok, Err}
use Rattle.refusals.specs.declared.Refusal.{Refusal}
use Rattle.refusals.specs.Refusals.{number_of, outcome_of, and_then}
use Rattle.refusals.proofs.Numbers.{number_bounds}
use Rattle.tally.specs.declared.Tallied.{Tallied}
use Rattle.tally.specs.Tally.{answer_in}
use Rattle.float.specs.Literals.{zero64}
use Rattle.float.specs.Methods.{max_of}
use Rattle.angle.specs.declared.Sine.{Sine}
use Rattle.horner.specs.declared.Polynomial.{Polynomial}
use Rattle.scaled.specs.declared.Scaled.{Scaled}
use Rattle.scaled.specs.Scaled.{scaled_of, with_logs_of}
use Rattle.factorize.specs.Factorize.{factorize_of, factorize_systems_of}
use Rattle.roots.specs.declared.RealRoot.{RealRoot}
use Rattle.roots.specs.declared.Roots.{Roots}
use Rattle.roots.specs.Roots.{list_of, roots_of}
use Rattle.roots.specs.Listed.{Within}
use Rattle.roots.proofs.Laws.{list_roots}
use Rattle.push.specs.declared.Found.{Found}
use Rattle.push.specs.Quadratic.{found_of}
use Rattle.finish.specs.Finish.{finish_of}
use Rattle.poly.specs.declared.Solved.{Solved}
use Rattle.poly.specs.Coefficients.{trimmed_of, zeros_of, counted_of, degree_left, middle_of, poly_of}
use Rattle.poly.specs.Solve.{candidates_of, finished_of, solve_of, solved_in}
use Rattle.poly.specs.Brief.{Enough, SolvedBy, relogged, ButLogs}
use Rattle.poly.specs.RealRoots.{unscaled_all, answer_of, real_roots_of, roots_in}
use Rattle.poly.proofs.Coefficients.{room}
use Rattle.poly.proofs.Brief.{brief_solved}
use Rattle.poly.proofs.Sums.{solved_fits, answer_within}

pub finished_is : (sine : Sine) (poly : Scaled) (zeros : ℕ) (tol : Float) (c : Found) (roots : Roots) (systems : ℕ)
    → c ≡ found_of (candidates_of poly zeros (factorize_of sine poly 0) tol)
    → roots ≡ roots_of (finish_of poly (list_of c.roots) tol) → systems ≡ factorize_systems_of sine poly 0
    → record { poly = poly; tol = tol; roots = roots; pairs = c.pairs; systems = systems } ≡ finished_of sine poly zeros tol
unfolding finished_of
finished_is sine poly zeros tol c roots systems e f h =
    let l = (candidates_of poly zeros (factorize_of sine poly 0) tol).0 in
    let g : roots ≡ roots_of (finish_of poly l tol) =
    f ∙ ap (λ (s : Found). roots_of (finish_of poly (list_of s.roots) tol)) e ∙ ap (λ (m : List RealRoot). roots_of (finish_of poly m tol)) (list_roots l) in
    λ i. record { poly = poly; tol = tol; roots = g i; pairs = (e i).pairs; systems = h i }

pub new_degree : (a : List Float) (d l : ℕ) (poly : Scaled) → poly ≡ with_logs_of a d l → poly.d ≡ d
unfolding scaled_of with_logs_of
new_degree a d l poly e = ap (λ (s : Scaled). s.d) e

-- ---- solved with the logarithms of some degree
pub refused_by : (sine : Sine) (logs : Polynomial → ℕ → Type 0) (coeffs : List Float) (tol : Float) (refusal : Refusal) {r : Result Solved Refusal}
    → counted_of coeffs ≡ Err refusal → r ≡ Err refusal → SolvedBy sine logs coeffs tol r
unfolding SolvedBy
refused_by sine logs coeffs tol refusal e is =
    (0, is ∙ rw e, λ z. absurd (let n : number_of refusal ≡ 0 = sym (ap outcome_of e) ∙ z in omega (arith, (number_bounds refusal).0, n)))

pub answered_by : (sine : Sine) (logs : Polynomial → ℕ → Type 0) (coeffs : List Float) (tol : Float) (p : Polynomial) (n zeros l : ℕ) (poly : Scaled)
    (t : Float) {s : Solved}
    → counted_of coeffs ≡ Ok n → zeros ≡ zeros_of coeffs → p.f ≡ middle_of coeffs zeros n → p.d ≡ n - zeros - 1 → logs p l
    → poly ≡ with_logs_of p.f p.d l → t ≡ max_of tol zero64 → s ≡ finished_of sine poly zeros t → SolvedBy sine logs coeffs tol (Ok s)
unfolding SolvedBy
answered_by sine logs coeffs tol p n zeros l poly t e z m D given P T is =
    let same : n ≡ trimmed_of coeffs = (room coeffs n zeros e z).0 in
    (l, rw (is, P, T, D, m, e, same, z), λ _. (p, (m ∙ rw (same, z), D ∙ rw (same, z)), given))

and_relogged : (c : Result ℕ Refusal) (s t : Solved) (lg : List Float) → s ≡ relogged lg t
    → and_then c (λ k. Ok s) ≡ and_then (and_then c (λ k. Ok t)) (λ x. Ok (relogged lg x))
and_relogged (Ok n) s t lg is = ap Ok is
and_relogged (Err refusal) s t lg is = refl

module _ (sine : Sine) {logs : Polynomial → ℕ → Type 0} (coeffs : List Float) (tol : Float) {r : Result Solved Refusal}
    (by : SolvedBy sine logs coeffs tol r) where
  -- with all of them
  pub solved_all : ((p : Polynomial) (l : ℕ) → logs p l → l ≡ p.d) → r ≡ solve_of sine coeffs tol
  unfolding SolvedBy solve_of poly_of scaled_of with_logs_of
  solved_all all = go (counted_of coeffs) refl
    where
      go : (c : Result ℕ Refusal) → counted_of coeffs ≡ c → r ≡ solve_of sine coeffs tol
      go (Ok n) e =
          let g = by.2 (ap outcome_of e) in
          let p = g.0 in
          by.1 ∙ rw (e, all p by.0 g.2 ∙ g.1.1)
      go (Err refusal) e = by.1 ∙ rw e

  -- with enough of them
  pub solved_brief : ((p : Polynomial) (l : ℕ) → logs p l → Enough p.f p.d l) → ButLogs r (solve_of sine coeffs tol)
  unfolding SolvedBy solve_of poly_of
  solved_brief enough = go (counted_of coeffs) refl
    where
      zeros : ℕ
      zeros = zeros_of coeffs

      a : List Float
      a = middle_of coeffs zeros (trimmed_of coeffs)

      d : ℕ
      d = trimmed_of coeffs - zeros - 1

      go : (c : Result ℕ Refusal) → counted_of coeffs ≡ c → ButLogs r (solve_of sine coeffs tol)
      go (Ok n) e =
          let g = by.2 (ap outcome_of e) in
          let few : d ≤ 4 = omega (arith, room coeffs n zeros e refl) in
          let some : Enough a d by.0 = rw (g.1.0, g.1.1) at (enough g.0 by.0 g.2) in
          let b = brief_solved sine a d by.0 zeros (max_of tol zero64) few some in
          (b.0, by.1 ∙ and_relogged (counted_of coeffs) _ _ b.0 b.1)
      go (Err refusal) e = ([], by.1 ∙ rw e)

-- ---- the roots in x, of what is solved but for its logarithms
module _ (sine : Sine) (coeffs : List Float) (tol : Float) {r : Result Solved Refusal} (by : ButLogs r (solve_of sine coeffs tol)) where
  same_answer : and_then r (λ s. Ok (answer_of s)) ≡ real_roots_of sine coeffs tol
  unfolding real_roots_of answer_of
  same_answer = go (solve_of sine coeffs tol) by.1
    where
      go : (q : Result Solved Refusal) → r ≡ and_then q (λ s. Ok (relogged by.0 s)) → and_then r (λ s. Ok (answer_of s)) ≡ and_then q (λ s. Ok (answer_of s))
      go (Ok s) e = rw e
      go (Err refusal) e = rw e

  with_demand : (a : Result Roots Refusal) → a ≡ real_roots_of sine coeffs tol
      → (a ≡ real_roots_of sine coeffs tol) × Within (degree_left coeffs) (list_of (roots_in a))
  with_demand a is = (is, subst⁻¹ (λ (b : Result Roots Refusal). Within (degree_left coeffs) (list_of (roots_in b))) is (answer_within sine coeffs tol))

  pub lists_none : (refusal : Refusal) {a : Result (Tallied Roots) Refusal} → r ≡ Err refusal → a ≡ Err refusal
      → (answer_in a ≡ real_roots_of sine coeffs tol) × Within (degree_left coeffs) (list_of (roots_in (answer_in a)))
  lists_none refusal {a} e is = with_demand (answer_in a) (ap answer_in is ∙ rw e at same_answer)

  pub lists_all : (s : Solved) {l : Roots} → r ≡ Ok s → l ≡ roots_of (unscaled_all s.poly.e (list_of s.roots))
      → (Ok l ≡ real_roots_of sine coeffs tol) × Within (degree_left coeffs) (list_of l)
  unfolding answer_of
  lists_all s {l} e is = with_demand (Ok l) (ap Ok is ∙ rw e at same_answer)

  pub four_solved : (s : Solved) → r ≡ Ok s → s.roots.len ≤ 4
  four_solved s e = go (solve_of sine coeffs tol) by.1 (solved_fits sine coeffs tol).0.1
    where
      go : (q : Result Solved Refusal) → r ≡ and_then q (λ x. Ok (relogged by.0 x)) → (solved_in q).roots.len ≤ 4 → s.roots.len ≤ 4
      go (Ok x) i f = subst (λ (y : Result Solved Refusal). (solved_in y).roots.len ≤ 4) (sym i ∙ e) f
      go (Err refusal) i f = subst (λ (y : Result Solved Refusal). (solved_in y).roots.len ≤ 4) (sym i ∙ e) f

-- ---- solved from its parts, with enough logarithms; and refused
module _ (sine : Sine) (coeffs : List Float) (tol : Float) where
  pub parts_solved : (p : Polynomial) (n zeros l : ℕ) (poly : Scaled) (t : Float) (c : Found) (roots : Roots) (systems : ℕ)
      → counted_of coeffs ≡ Ok n → zeros ≡ zeros_of coeffs → p.f ≡ middle_of coeffs zeros n → p.d ≡ n - zeros - 1 → Enough p.f p.d l
      → poly ≡ with_logs_of p.f p.d l → t ≡ max_of tol zero64 → c ≡ found_of (candidates_of poly zeros (factorize_of sine poly 0) t)
      → roots ≡ roots_of (finish_of poly (list_of c.roots) t) → systems ≡ factorize_systems_of sine poly 0
      → ButLogs (Ok (record { poly = poly; tol = t; roots = roots; pairs = c.pairs; systems = systems })) (solve_of sine coeffs tol)
  parts_solved p n zeros l poly t c roots systems e z m D given P T C R S =
      solved_brief sine coeffs tol
      (answered_by sine (λ q k. Enough q.f q.d k) coeffs tol p n zeros l poly t e z m D given P T (finished_is sine poly zeros t c roots systems C R S))
      (λ q k enough. enough)

  pub none_solved : (refusal : Refusal) → counted_of coeffs ≡ Err refusal → ButLogs (Err refusal) (solve_of sine coeffs tol)
  none_solved refusal e = solved_brief sine coeffs tol (refused_by sine (λ q k. Enough q.f q.d k) coeffs tol refusal e refl) (λ q k enough. enough)

  pub refused_lists : (refusal : Refusal) {a : Result (Tallied Roots) Refusal} → counted_of coeffs ≡ Err refusal → a ≡ Err refusal
      → (answer_in a ≡ real_roots_of sine coeffs tol) × Within (degree_left coeffs) (list_of (roots_in (answer_in a)))
  refused_lists refusal e is = lists_none sine coeffs tol (none_solved refusal e) refusal refl is
