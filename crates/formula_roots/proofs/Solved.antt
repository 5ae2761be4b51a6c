-- What a formula is answered with, by what it expands to, and that demand 1 holds of it.
use mathlib.Core.Path.{◌≡◌, refl, sym, ap, subst⁻¹, ◌∙◌}
use mathlib.Core.List.{List, [], ◌∷◌}
use Prim.Native.Nat.{ℕ, zero, suc, ◌+◌, ◌-◌, ◌≤◌, ◌<◌}
use native.Mathlib.Omega.{arith}
use lib.IntN.{ℤ}
use lib.ListN.{length, take, replicate, length-map}
use lib.Seq.{take_at}
use lib.Ieee.{Float, binary64, of_int}
use lib.Ieee.Bits.{is_true}
use lib.Ieee.Fits.{of_int-fits}
use Rattle.std.specs.Prelude.{Result, Ok, Err, IfOk}
use Rattle.refusals.specs.declared.Refusal.{Refusal}
use Rattle.refusals.specs.Refusals.{number_of, outcome_of, value_or, and_then}
use Rattle.float.specs.Literals.{zero64}
use Rattle.roots.specs.declared.Roots.{Roots}
use Rattle.roots.specs.Roots.{list_of}
use Rattle.roots.specs.Listed.{Within, Fits}
use Rattle.roots.proofs.Sums.{within_none, within_more}
use Rattle.angle.specs.declared.Sine.{Sine}
use Rattle.poly.specs.Coefficients.{trimmed_from, trimmed_of, counted_by, refusal_of, degree_left}
use Rattle.poly.specs.Conditions.{AllDoubles}
use Rattle.poly.specs.Solve.{solve_of}
use Rattle.poly.specs.RealRoots.{answer_of, roots_in, real_roots_of, real_roots_systems_of}
use Rattle.poly.proofs.Refusals.{then_number}
use Rattle.poly.proofs.Sums.{answer_within, answer_fits}
use Rattle.poly.proofs.Systems.{none_refused}
use Rattle.parts.specs.Value.{Value}
use Rattle.formula.specs.declared.Expanded.{Expanded}
use Rattle.formula.specs.Formula.{formula_of, floats_of, expanded_of, answered_of, expand_of}
use Rattle.formula.proofs.Texts.{few, refused_number}
use Rattle.formula.proofs.Short.{short_text}
use Rattle.formula_roots.specs.FormulaRoots.{handed_on, solved_of, formula_roots_of, formula_systems_of}
use Rattle.formula_roots.specs.Claims.{expanded_in}

-- the coefficients that code hands on
expanded_taken : (p : List ℤ) → take (expanded_of p).len (expanded_of p).coeffs ≡ floats_of p
unfolding expanded_of
expanded_taken p = take_at (floats_of p) (replicate (5 - length p) zero64) (length p) (length-map p (of_int binary64))

pub handed : (s : List ℕ) → take (expanded_in s).len (expanded_in s).coeffs ≡ handed_on (formula_of s)
unfolding expand_of answered_of
handed s = go (formula_of s)
  where
    from : Value → Expanded
    from v = value_or (record { len = 0; coeffs = replicate 5 zero64 }) (answered_of v)

    go : (v : Value) → take (from v).len (from v).coeffs ≡ handed_on v
    go (Ok p) = expanded_taken p
    go (Err refusal) = refl

-- the list's answer to them, or the refusal
abbrev pub answered_by : Sine → Float → Result Expanded Refusal → Result Roots Refusal
answered_by sine tol r = and_then r (λ (e : Expanded). real_roots_of sine (take e.len e.coeffs) tol)

pub by_expand : (sine : Sine) (s : List ℕ) (tol : Float) → formula_roots_of sine s tol ≡ answered_by sine tol (expand_of s)
unfolding expand_of answered_of formula_roots_of solved_of
by_expand sine s tol = go (formula_of s)
  where
    go : (v : Value) → solved_of sine v tol ≡ answered_by sine tol (answered_of v)
    go (Ok p) = ap (λ (l : List Float). real_roots_of sine l tol) (sym (expanded_taken p))
    go (Err refusal) = refl

pub solved : (sine : Sine) (s : List ℕ) (tol : Float) (r : Result Expanded Refusal) → r ≡ expand_of s → answered_by sine tol r ≡ formula_roots_of sine s tol
solved sine s tol r q = ap (answered_by sine tol) q ∙ sym (by_expand sine s tol)

-- ---- how many systems are solved for it; a refused text hands on nothing, for which none is
abbrev systems_by : Sine → Float → Result Expanded Refusal → ℕ
systems_by sine tol (Ok e) = real_roots_systems_of sine (take e.len e.coeffs) tol
systems_by sine tol (Err refusal) = 0

pub nothing_refused : 0 < refusal_of []
unfolding counted_by trimmed_of trimmed_from
nothing_refused = omega arith

pub systems_are : (sine : Sine) (s : List ℕ) (tol : Float) → formula_systems_of sine s tol ≡ systems_by sine tol (expand_of s)
unfolding expand_of answered_of formula_systems_of
systems_are sine s tol = go (formula_of s)
  where
    go : (v : Value) → real_roots_systems_of sine (handed_on v) tol ≡ systems_by sine tol (answered_of v)
    go (Ok p) = ap (λ (l : List Float). real_roots_systems_of sine l tol) (sym (expanded_taken p))
    go (Err refusal) = none_refused sine [] tol nothing_refused

pub solved_systems : (sine : Sine) (s : List ℕ) (tol : Float) (r : Result Expanded Refusal) → r ≡ expand_of s
    → systems_by sine tol r ≡ formula_systems_of sine s tol
solved_systems sine s tol r q = ap (systems_by sine tol) q ∙ sym (systems_are sine s tol)

-- the coefficients that are handed on stand in the array
abbrev read : Expanded → Result Expanded Refusal
read e = Ok e

pub in_room : (s : List ℕ) (e : Expanded) → read e ≡ expand_of s → e.len ≤ 5
in_room s e q = subst⁻¹ (λ (r : Result Expanded Refusal). IfOk r (λ (x : Expanded). x.len ≤ 5)) q (few s)

-- ---- demand 1
value_within : (sine : Sine) (v : Value) (tol : Float) → Within (degree_left (handed_on v)) (list_of (roots_in (solved_of sine v tol)))
unfolding solved_of
value_within sine (Ok p) tol = answer_within sine (floats_of p) tol
value_within sine (Err refusal) tol = within_more 0 (degree_left []) [] (omega arith) within_none

pub formula_within : (sine : Sine) (s : List ℕ) (tol : Float)
    → Within (degree_left (handed_on (formula_of s))) (list_of (roots_in (formula_roots_of sine s tol)))
unfolding formula_roots_of
formula_within sine s tol = value_within sine (formula_of s) tol

pub holds : (sine : Sine) (s : List ℕ) (tol : Float) {answer : Result Roots Refusal} → answer ≡ formula_roots_of sine s tol
    → (answer ≡ formula_roots_of sine s tol) × Within (degree_left (handed_on (formula_of s))) (list_of (roots_in answer))
holds sine s tol is = (
  is,
  subst⁻¹ (λ (answer : Result Roots Refusal). Within (degree_left (handed_on (formula_of s))) (list_of (roots_in answer))) is (formula_within sine s tol),
)

-- for `using`
pub ruleset ways = (by_expand, systems_are, formula_within, in_room)

-- ---- what holds of every refusal, and of the list's answer to at most two coefficients more than the text has bytes, holds of every answer
pub answered_by_list : (sine : Sine) (P : Result Roots Refusal → Type 0) (s : List ℕ) (tol : Float)
    → ((refusal : Refusal) → number_of refusal ≤ 15 → P (Err refusal))
    → ((cs : List Float) → length cs ≤ length s + 2 → P (real_roots_of sine cs tol)) → P (formula_roots_of sine s tol)
unfolding formula_roots_of solved_of
answered_by_list sine P s tol refused answered = go (formula_of s) refl
  where
    go : (v : Value) → formula_of s ≡ v → P (solved_of sine v tol)
    go (Ok p) e = answered (floats_of p) (omega (arith, short_text s p e, length-map p (of_int binary64)))
    go (Err n) e = refused n (refused_number s n e).1

pub formula_fits : (sine : Sine) (s : List ℕ) (tol : Float) → Fits (roots_in (formula_roots_of sine s tol))
formula_fits sine s tol =
    answered_by_list sine (λ (answer : Result Roots Refusal). Fits (roots_in answer)) s tol (λ n h. (refl, omega arith)) (λ cs h. answer_fits sine cs tol)

-- ---- demand 3: what is solved are doubles
pub floats_fit : (p : List ℤ) → AllDoubles (floats_of p)
floats_fit [] i h = elim h [ ]
floats_fit (z ∷ p) zero h = is_true _ (of_int-fits binary64 z)
floats_fit (z ∷ p) (suc i) h = floats_fit p i (omega arith)

handed_fit : (v : Value) → AllDoubles (handed_on v)
handed_fit (Ok p) i h = floats_fit p i h
handed_fit (Err refusal) i h = absurd (omega arith)

pub formula_doubles : (s : List ℕ) → AllDoubles (handed_on (formula_of s))
formula_doubles s = handed_fit (formula_of s)

pub formula_solved : (sine : Sine) (s : List ℕ) (tol : Float) → outcome_of (formula_roots_of sine s tol) ≡ 0
    → outcome_of (solve_of sine (handed_on (formula_of s)) tol) ≡ 0
unfolding formula_roots_of solved_of real_roots_of
formula_solved sine s tol = go (formula_of s) refl
  where
    go : (v : Value) → formula_of s ≡ v → outcome_of (solved_of sine v tol) ≡ 0 → outcome_of (solve_of sine (handed_on v) tol) ≡ 0
    go (Ok p) e z = sym (then_number answer_of (solve_of sine (floats_of p) tol)) ∙ z
    go (Err n) e z = absurd (omega (arith, (refused_number s n e).0, z))
