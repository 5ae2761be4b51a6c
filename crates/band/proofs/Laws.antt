-- The last way out of `within_band`, and what it looks at.
use mathlib.Core.Path.{◌≡◌, refl, sym, ◌∙◌}
use mathlib.Core.Bool.{false}
use Prim.Native.Nat.{ℕ, ◌+◌, ◌<◌}
use native.Mathlib.Omega.{arith}
use lib.ListN.{get_or}
use Rattle.std.specs.Prelude.{List, length, take, reverse, fold}
use lib.Ieee.{Float, nan, binary64, add, sub, mul, lt, le}
use Rattle.facts.specs.Count.{up_turn, up_end}
use Rattle.float.specs.Literals.{zero64}
use Rattle.float.specs.Methods.{abs_of, powi_of}
use Rattle.horner.proofs.Loops.{end_all}
use Rattle.scaled.specs.declared.Scaled.{Scaled}
use Rattle.band.specs.Band.{magnitude_step, magnitude_of, budget_of, kth_root_of, radius_step, radius_of, noise_within, noise_of, base_of, band_of}
use Rattle.band.specs.Band.{within_band_of, bare}

-- ---- the sum of the terms' sizes, as a fold from the degree down
pub magnitude_folded : (f : List Float) (d : ℕ) (y r : Float) → d < length f
    → r ≡ fold (λ acc c. magnitude_step (abs_of y) c acc) zero64 (reverse (take (d + 1) f)) → r ≡ magnitude_of f d y
unfolding magnitude_of
magnitude_folded f d y r l e = e ∙ end_all (magnitude_step (abs_of y)) f (d + 1) zero64 (omega (arith, l))

-- ---- the band: beyond the caller's, and not beyond the crude bound: the noise decides
pub noise_decides : (poly : Scaled) (half y tol : Float) {base budget power lead noise : Float} → base ≡ base_of poly.unit y tol
    → budget ≡ budget_of poly.f poly.d y
    → power ≡ powi_of (sub binary64 half base) poly.d → lead ≡ abs_of (get_or poly.f poly.d nan) → noise ≡ noise_within poly.f poly.d y budget
    → le half base ≡ false → lt budget (mul binary64 power lead) ≡ false → le half (add binary64 base noise) ≡ within_band_of poly half y tol
unfolding within_band_of noise_of
noise_decides poly half y tol b m p l n beyond close = simp (sym b, sym m, beyond, sym p, sym l, close, sym n)

-- ---- f, d and unit suffice
abbrev pub barely : Scaled → Scaled
barely poly = bare poly.f poly.d poly.unit

pub same_within : (poly : Scaled) (half y tol : Float) → within_band_of (barely poly) half y tol ≡ within_band_of poly half y tol
unfolding within_band_of noise_of
same_within poly half y tol = refl

-- What the functions' proofs rest on: the laws, and the definitions.
pub ruleset laws = (up_turn, up_end, noise_decides)

unfoldable pub definitions : ℕ
unfolding budget_of kth_root_of radius_step radius_of noise_within noise_of base_of band_of within_band_of
definitions = 0
