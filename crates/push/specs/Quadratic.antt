-- `push_quadratic` of Scaled in poly.rs: what a quadratic factor is, and where it goes. Definitions only.
use Rattle.std.specs.Prelude.{cond, List, Float}
use Rattle.std.specs.Float.Ieee.{neg, lt}
use Rattle.float.specs.Rounded.{◌+ᶠ◌, ◌-ᶠ◌, ◌*ᶠ◌, ◌/ᶠ◌}
use Rattle.float.specs.Literals.{zero64, half64}
use Rattle.float.specs.Methods.{abs_of}
use Rattle.sqrt.specs.Root.{sqrt_of}
use Rattle.horner.specs.Product.{discriminant_of}
use Rattle.isolated.specs.declared.Disc.{Disc}
use Rattle.isolated.specs.Isolated.{far_root_of, far_by}
use Rattle.scaled.specs.declared.Scaled.{Scaled}
use Rattle.roots.specs.declared.RealRoot.{RealRoot}
use Rattle.roots.specs.declared.Roots.{Roots}
use Rattle.roots.specs.declared.Pair.{Pair}
use Rattle.roots.specs.declared.Pairs.{Pairs}
use Rattle.roots.specs.Roots.{root, roots_of, kept, kept_in, pair, pairs_of, paired, paired_in}
use Rattle.band.specs.Band.{band_of, within_band_of}
use Rattle.critical.specs.Critical.{critical_point_of}
use Rattle.push.specs.declared.Found.{Found}

-- what the factor y^2 + al*y + be is found to be: a double root at y, two simple roots, or a complex pair
pub data Factor : Type 0 where
  double : Float → Factor
  apart : Float → Float → Factor
  complex : Pair → Factor

-- A double root where half the distance of its two roots, real or complex, is within the band about their middle: where Newton's
-- method on f' leads from there within that band. Else two roots, `out.push(q, 1);` and `out.push(be / q, 1);`; else a pair, also where disc is a NaN.
unfoldable pub quadratic_roots_of : Scaled → Float → Float → Float → Factor
quadratic_roots_of poly al be tol =
    -- let disc = discriminant(al, be);
    let disc = discriminant_of al be in
    -- let mid = -0.5 * al;
    let mid = neg half64 *ᶠ al in
    -- let half = 0.5 * disc.abs().sqrt();
    let half = half64 *ᶠ sqrt_of (abs_of disc) in
    -- let band = self.band(mid, tol);
    let band = band_of poly mid tol in
    -- self.critical_point(mid, mid - band, mid + band)
    let y = critical_point_of poly mid (mid -ᶠ band) (mid +ᶠ band) in
    -- let q = -0.5 * (al + disc.sqrt().copysign(al));
    let q = far_root_of al disc in
    -- if self.within_band(half, mid, tol) { .. } else if disc > 0.0 { .. } else if mid.is_finite() && pairs.len < 2 { .. }
    cond (within_band_of poly half mid tol) (double y) (cond (lt zero64 disc) (apart q (be /ᶠ q)) (complex (pair mid half)))

-- the same from a discriminant and the root of its size, which the code hands on beside the factors
unfoldable pub quadratic_by : Scaled → Float → Float → Disc → Float → Factor
quadratic_by poly al be s tol =
    let mid = neg half64 *ᶠ al in
    let half = half64 *ᶠ s.root in
    let band = band_of poly mid tol in
    let y = critical_point_of poly mid (mid -ᶠ band) (mid +ᶠ band) in
    let q = far_by al s.root in
    cond (within_band_of poly half mid tol) (double y) (cond (lt zero64 s.disc) (apart q (be /ᶠ q)) (complex (pair mid half)))

-- what each adds to the candidates and the pairs
unfoldable pub push_factor : List RealRoot × List Pair → Factor → List RealRoot × List Pair
push_factor (out, pairs) (double y) = (kept out (root y 2), pairs)
push_factor (out, pairs) (apart y z) = (kept (kept out (root y 1)) (root z 1), pairs)
push_factor (out, pairs) (complex p) = (out, paired pairs p)

-- `push_quadratic`, of which `out` and `pairs` are what was found so far
unfoldable pub push_quadratic_of : Scaled → Float → Float → Float → List RealRoot → List Pair → List RealRoot × List Pair
push_quadratic_of poly al be tol out pairs = push_factor (out, pairs) (quadratic_roots_of poly al be tol)

-- ---- the same in the arrays, as the functions have it
abbrev pub found_of : List RealRoot × List Pair → Found
found_of s = record { roots = roots_of s.0; pairs = pairs_of s.1 }

unfoldable pub push_factor_in : Found → Factor → Found
push_factor_in s (double y) = record { roots = kept_in s.roots (root y 2); pairs = s.pairs }
push_factor_in s (apart y z) = record { roots = kept_in (kept_in s.roots (root y 1)) (root z 1); pairs = s.pairs }
push_factor_in s (complex p) = record { roots = s.roots; pairs = paired_in s.pairs p }

unfoldable pub push_quadratic_in : Scaled → Float → Float → Float → Roots → Pairs → Found
push_quadratic_in poly al be tol out pairs = push_factor_in (record { roots = out; pairs = pairs }) (quadratic_roots_of poly al be tol)

unfoldable pub push_rooted_in : Scaled → Float → Float → Disc → Float → Roots → Pairs → Found
push_rooted_in poly al be s tol out pairs = push_factor_in (record { roots = out; pairs = pairs }) (quadratic_by poly al be s tol)
