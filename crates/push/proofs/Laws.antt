-- What a quadratic factor is by what `push_quadratic` found.
use mathlib.Core.Path.{◌≡◌, refl, sym, ◌∙◌}
use mathlib.Core.Bool.{Bool, true, false}
use Prim.Native.Nat.{ℕ}
use lib.Ieee.{Float, binary64, mul, div, neg, lt, le}
use Rattle.float.specs.Literals.{zero64, half64}
use Rattle.horner.specs.Product.{discriminant_of}
use Rattle.isolated.specs.declared.Disc.{Disc}
use Rattle.isolated.specs.Isolated.{disc_of, far_by}
use Rattle.isolated.proofs.Laws.{far_is}
use Rattle.scaled.specs.declared.Scaled.{Scaled}
use Rattle.roots.specs.declared.Roots.{Roots}
use Rattle.roots.specs.declared.Pairs.{Pairs}
use Rattle.roots.specs.Roots.{pair}
use Rattle.horner.specs.declared.Polynomial.{Polynomial}
use Rattle.band.specs.Band.{noise_of, band_of, within_band_of, bare}
use Rattle.band.proofs.Laws.{barely, same_within}
use Rattle.critical.specs.Critical.{critical_point_of, double_at}
use Rattle.push.specs.Quadratic.{double, apart, complex, quadratic_roots_of, quadratic_by, push_factor_in, push_quadratic_in, push_rooted_in}

-- f, d and unit suffice for a double root's place
same_double : (poly : Scaled) (mid tol : Float) → double_at (barely poly) mid tol ≡ double_at poly mid tol
unfolding band_of noise_of critical_point_of
same_double poly mid tol = refl

-- ---- what a quadratic factor is
-- p, which is made of f and d, serves for them
module _ (poly : Scaled) (p : Polynomial) (mid tol : Float) (e : (p.f ≡ poly.f) × (p.d ≡ poly.d)) where
  pub near_is : {near : Bool} (half : Float) → near ≡ within_band_of (bare p.f p.d poly.unit) half mid tol → near ≡ within_band_of (barely poly) half mid tol
  near_is half w = w ∙ rw (e.0, e.1)

  pub place_is : {y : Float} → y ≡ double_at (bare p.f p.d poly.unit) mid tol → y ≡ double_at (barely poly) mid tol
  place_is w = w ∙ rw (e.0, e.1)

module _ (poly : Scaled) (al be tol : Float) (s : Disc) {near : Bool}
    (w : near ≡ within_band_of (barely poly) (mul binary64 half64 s.root) (mul binary64 (neg half64) al) tol) where
  abbrev mid : Float
  mid = mul binary64 (neg half64) al

  is_near : within_band_of poly (mul binary64 half64 s.root) mid tol ≡ near
  is_near = sym (w ∙ same_within poly (mul binary64 half64 s.root) mid tol)

  pub double_is : {y : Float} → near ≡ true → y ≡ double_at (barely poly) mid tol → quadratic_by poly al be s tol ≡ double y
  unfolding quadratic_by
  double_is within y = simp (is_near, within, sym (y ∙ same_double poly mid tol))

  pub is_apart : {q : Float} → near ≡ false → lt zero64 s.disc ≡ true → q ≡ far_by al s.root → quadratic_by poly al be s tol ≡ apart q (div binary64 be q)
  unfolding quadratic_by
  is_apart beyond above q = simp (is_near, beyond, above, sym q)

  pub is_complex : near ≡ false → lt zero64 s.disc ≡ false → quadratic_by poly al be s tol ≡ complex (pair mid (mul binary64 half64 s.root))
  unfolding quadratic_by
  is_complex beyond below = simp (is_near, beyond, below)

-- from its own discriminant it is the definition: the root of the size serves where disc is above 0 too
same_quadratic : (poly : Scaled) (al be tol : Float) → quadratic_by poly al be (disc_of al be) tol ≡ quadratic_roots_of poly al be tol
unfolding quadratic_by quadratic_roots_of disc_of le
same_quadratic poly al be tol = by_sign (lt zero64 (discriminant_of al be)) refl
  where
    by_sign : (b : Bool) → lt zero64 (discriminant_of al be) ≡ b → quadratic_by poly al be (disc_of al be) tol ≡ quadratic_roots_of poly al be tol
    by_sign true h = rw (h, sym (far_is al be refl (rw h refl) refl))
    by_sign false h = rw h

pub same_push : (poly : Scaled) (al be tol : Float) (out : Roots) (pairs : Pairs) {s : Disc} → s ≡ disc_of al be
    → push_rooted_in poly al be s tol out pairs ≡ push_quadratic_in poly al be tol out pairs
unfolding push_rooted_in push_quadratic_in
same_push poly al be tol out pairs is = rw (is, same_quadratic poly al be tol)

-- What the functions' proofs rest on: the laws, and the definitions.
pub ruleset laws = (near_is, place_is, double_is, is_apart, is_complex, same_push)

unfoldable pub definitions : ℕ
unfolding push_factor_in push_rooted_in
definitions = 0
