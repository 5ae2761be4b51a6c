-- The factors, with each call of `solve_square` counted where it is made: request Seven of document 02. Each definition below is the value's own, but that it
-- says its calls too; `called` alone makes one, whether or not it finds a step. What is taken as it is (`cubic_start_of`, `quartic_start_of`, `peel_start_of`,
-- `isolated_root_of`, `second_of`, `merged_of`) makes none. Definitions only.
use Rattle.std.specs.Prelude.{cond, List, ℕ, zero, suc, ◌+◌, ◌-◌, leb, eqb, get_or, Float}
use Rattle.std.specs.Prelude.{Option as RustOption, Some, None}
use Rattle.std.proofs.Math.Option.{Option, none, Option-elim}
use Rattle.std.specs.Float.{nan}
use Rattle.std.specs.Float.Ieee.{neg}
use Rattle.float.specs.Literals.{zero64}
use Rattle.tally.specs.declared.Tallied.{Tallied}
use Rattle.tally.specs.Tally.{tallied}
use Rattle.square.specs.Square.{solve_square_of}
use Rattle.refine.specs.Refine.{System, weighted_of, norm_of, is_settled_of, weigh_rows_of, advanced_of, kept_of}
use Rattle.refine.specs.Systems.{cubic_system, quartic_system, peel_system}
use Rattle.angle.specs.declared.Sine.{Sine}
use Rattle.cubic.specs.declared.CubicFactor.{CubicFactor}
use Rattle.cubic.specs.Cubic.{cubic_start_of}
use Rattle.quartic.specs.declared.QuarticFactor.{QuarticFactor}
use Rattle.quartic.specs.Quartic.{quartic_start_of}
use Rattle.isolated.specs.declared.Peeled.{Peeled}
use Rattle.isolated.specs.Isolated.{isolated_root_of, peel_start_of}
use Rattle.scaled.specs.declared.Scaled.{Scaled}
use Rattle.factors.specs.declared.Factors.{Factors}
use Rattle.factors.specs.Factors.{no_factors, push_lin_of, push_quad_of}
use Rattle.quotient.specs.Quotient.{merged_of}
use Rattle.factorize.specs.Factorize.{second_of}

-- ---- values with their calls
module _ {A : Type 0} where
  -- made without a call
  abbrev pub uncalled : A → Tallied A
  uncalled a = tallied a 0

module _ {A B : Type 0} where
  -- t, and then f of its value: the calls of both
  infixl 20 ◌then◌
  unfoldable pub ◌then◌ : Tallied A → (A → Tallied B) → Tallied B
  t then f = let u = f t.value in tallied u.value (t.systems + u.systems)

-- a call: one, 'calls that find no step counted'
abbrev pub called : ℕ → List (List Float) → List Float → Float → Tallied (RustOption (List Float))
called n m b tol = tallied (solve_square_of n m b tol) 1

-- ---- `refine` and what calls it
-- `solve_square(j, w, 0.0)`, and the place to try
unfoldable pub trial_called : ℕ → List Float → List Float → List Float → List (List Float) → Tallied (RustOption (List Float))
trial_called n x w mag j = called n (weigh_rows_of n j mag) w zero64 then λ step. uncalled (advanced_of n x step)

unfoldable pub next_called : ℕ → System → List Float → Tallied (Option (List Float))
next_called n sys x =
    let mag = sys.mag x in
    let w = weighted_of n (sys.res x) mag in
    let current = norm_of w in
    cond (is_settled_of current) (uncalled none) (trial_called n x w mag (sys.jac x) then λ next. uncalled (kept_of n sys current next))

-- at most k turns
unfoldable pub refine_called : ℕ → System → ℕ → List Float → Tallied (List Float)
unfolding Option-elim
refine_called n sys zero x = uncalled x
refine_called n sys (suc k) x = next_called n sys x then λ next. Option-elim next (uncalled x) (refine_called n sys k)

unfoldable pub peel_called : Float → Float → Float → Float → Float → Tallied Peeled
peel_called b c d e r =
    refine_called 4 (peel_system b c d e) 8 (peel_start_of b c d r) then λ x.
    uncalled (record { r = get_or x 0 nan; h2 = get_or x 1 nan; h1 = get_or x 2 nan; h0 = get_or x 3 nan })

module _ (sine : Sine) where
  unfoldable pub cubic_called : Float → Float → Float → Tallied CubicFactor
  cubic_called b c d =
      refine_called 3 (cubic_system b c d) 8 (cubic_start_of sine b c d) then λ x.
      uncalled (record { r = get_or x 0 nan; e = get_or x 1 nan; f = get_or x 2 nan })

  unfoldable pub quartic_called : Float → Float → Float → Float → Tallied QuarticFactor
  quartic_called b c d e =
      refine_called 4 (quartic_system b c d e) 8 (quartic_start_of sine b c d e) then λ x.
      uncalled (record { al = get_or x 0 nan; be = get_or x 1 nan; ga = get_or x 2 nan; de = get_or x 3 nan })

  -- ---- `factorize`
  unfoldable pub paired_called : Float → Float → Float → Float → QuarticFactor → RustOption Float → Tallied Factors
  paired_called b c d e quads (Some r) =
      peel_called b c d e r then λ p.
      cubic_called p.h2 p.h1 p.h0 then λ k.
      uncalled (push_quad_of (push_lin_of (push_lin_of no_factors p.r) k.r) k.e k.f)
  paired_called b c d e quads None = uncalled (push_quad_of (push_quad_of no_factors quads.al quads.be) quads.ga quads.de)

  -- `match sc.d`
  unfoldable pub out_called : List Float → ℕ → Tallied Factors
  out_called g d =
      let g0 = get_or g 0 nan in
      let g1 = get_or g 1 nan in
      let g2 = get_or g 2 nan in
      let g3 = get_or g 3 nan in
      cond (eqb d 0) (uncalled no_factors)
      (cond (eqb d 1) (uncalled (push_lin_of no_factors (neg g0)))
      (cond (eqb d 2) (uncalled (push_quad_of no_factors g1 g0))
      (cond (eqb d 3) (cubic_called g2 g1 g0 then λ k. uncalled (push_quad_of (push_lin_of no_factors k.r) k.e k.f))
      (quartic_called g3 g2 g1 g0 then λ quads. paired_called g3 g2 g1 g0 quads (isolated_root_of quads)))))

  -- with `left` more scalings: `out` is made first, whether or not a second scaling drops it
  unfoldable pub factors_called : ℕ → Scaled → Tallied Factors
  factors_called zero sc = out_called sc.g sc.d
  factors_called (suc left) sc =
      out_called sc.g sc.d then λ out.
      let second = second_of sc out in
      cond (leb sc.d 2) (uncalled out)
      (cond second.found (factors_called left second.sub then λ inner. uncalled (merged_of second.large inner second.sub.e)) (uncalled out))

  -- `factorize`
  unfoldable pub factorize_called : Scaled → ℕ → Tallied Factors
  factorize_called sc depth = factors_called (3 - depth) sc
