-- The scaled polynomial of a list that is not refused: its coefficients are of size 2 at most, by the scaling theorem.
use mathlib.Core.Path.{◌≡◌, refl, sym, ◌∙◌, subst}
use mathlib.Core.Bool.{false}
use mathlib.Core.List.{List}
use Prim.Native.Nat.{ℕ, zero, suc, ◌+◌, ◌-◌, ◌≤◌, ◌<◌}
use native.Mathlib.Omega.{arith}
use borrow.Author.Tests.{lt-ltb}
use lib.ListN.{length, get_or}
use lib.Ieee.{Float, nan, eq, ne}
use Rattle.float.specs.Literals.{zero64, two64}
use Rattle.float.specs.Units.{units_of, Finite}
use Rattle.angle.specs.declared.Sine.{Sine}
use Rattle.scaled.specs.Scaled.{scaled_of}
use Rattle.scaled.proofs.Promise.{f_small}
use Rattle.decode.proofs.Class.{some_units}
use Rattle.accuracy.specs.Claims.{at_most, AllAtMost}
use Rattle.poly.specs.declared.Solved.{Solved}
use Rattle.poly.specs.Coefficients.{trimmed_of, zeros_of, refusal_of, middle_at, middle_of, poly_of}
use Rattle.std.specs.Prelude.{Result}
use Rattle.refusals.specs.declared.Refusal.{Refusal}
use Rattle.refusals.specs.Refusals.{outcome_of}
use Rattle.poly.specs.Solve.{finished_of, solve_of, solved_in}
use Rattle.poly.specs.Conditions.{AllDoubles}
use Rattle.poly.proofs.Coefficients.{counted_when, room}
use Rattle.poly.proofs.Refusals.{Told, told, trimmed_is, solved_number, answered_is}

five_at : (s : List Float) (from to i : ℕ) → i ≤ 4 → get_or (middle_of s from to) i nan ≡ middle_at s from to i
unfolding middle_of
five_at s from to zero h = refl
five_at s from to (suc zero) h = refl
five_at s from to (suc (suc zero)) h = refl
five_at s from to (suc (suc (suc zero))) h = refl
five_at s from to (suc (suc (suc (suc zero)))) h = refl
five_at s from to (suc (suc (suc (suc (suc i))))) h = absurd (omega (arith, h))

module _ (s : List Float) (H : AllDoubles s) (R : refusal_of s ≡ 0) where
  abbrev zeros : ℕ
  zeros = zeros_of s

  abbrev n : ℕ
  n = trimmed_of s

  abbrev a : List Float
  a = middle_of s zeros n

  fewer : (zeros < n) × (n ≤ 5)
  fewer = let r = room s n zeros (counted_when s R) refl in (r.1, r.2)

  degree : n - zeros - 1 ≤ 4
  degree = let h = fewer.1 in omega arith

  -- a_i is a coefficient of the list
  middle_is : (i : ℕ) → i ≤ n - zeros - 1 → get_or a i nan ≡ get_or s (zeros + i) nan
  unfolding middle_at
  middle_is i h =
      let f = fewer.0 in
      let m = degree in
      five_at s zeros n i (omega arith) ∙ rw (lt-ltb i (n - zeros) (omega arith))

  middle_finite : (i : ℕ) → i ≤ n - zeros - 1 → Finite (get_or a i nan)
  middle_finite i h =
      let f = fewer.0 in
      let l = (trimmed_is s).within in
      let t : zeros + i < length s = omega arith in
      subst Finite (sym (middle_is i h)) (record { held = H (zeros + i) t; finite = (subst (Told s) R (told s)).0 (zeros + i) t })

  middle_last : 0 < units_of (get_or a (n - zeros - 1) nan)
  unfolding ne
  middle_last =
      let f = fewer.0 in
      let i : zeros + (n - zeros - 1) ≡ n - 1 = omega arith in
      let e : eq (get_or a (n - zeros - 1) nan) zero64 ≡ false = rw (middle_is (n - zeros - 1) (omega arith), i) ((trimmed_is s).last (omega arith)) in
      some_units (get_or a (n - zeros - 1) nan) (middle_finite (n - zeros - 1) (omega arith)) (rw e)

  poly_small : ((poly_of s).d ≤ 4) × AllAtMost two64 (poly_of s).f (poly_of s).d
  unfolding poly_of scaled_of at_most
  poly_small = (degree, f_small a (n - zeros - 1) degree middle_finite middle_last)

-- the same of what is solved
pub solved_small : (sine : Sine) (s : List Float) (tol : Float) → AllDoubles s → outcome_of (solve_of sine s tol) ≡ 0
    → let poly = (solved_in (solve_of sine s tol)).poly in (poly.d ≤ 4) × AllAtMost two64 poly.f poly.d
unfolding finished_of
solved_small sine s tol H e =
    subst (λ (r : Result Solved Refusal). ((solved_in r).poly.d ≤ 4) × AllAtMost two64 (solved_in r).poly.f (solved_in r).poly.d)
    (sym (answered_is sine s tol e)) (poly_small s H (sym (solved_number sine s tol) ∙ e))
