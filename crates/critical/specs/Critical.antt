-- `critical_point` and `extremum` of Scaled in poly.rs: Newton's method on f', since a double root, and a contact that only brushes, stand where f' is zero.
-- Definitions only.
use Rattle.std.specs.Prelude.{Bool, cond, not, ◌&&◌, List, ℕ, Float, Option as RustOption, Some, None}
use Rattle.std.proofs.Math.Option.{Option, none, some}
use Rattle.std.specs.Float.Ieee.{le}
use Rattle.facts.specs.Turns.{turns_of}
use Rattle.float.specs.Rounded.{◌+ᶠ◌, ◌-ᶠ◌, ◌*ᶠ◌, ◌/ᶠ◌}
use Rattle.float.specs.Methods.{abs_of}
use Rattle.horner.specs.Taylor.{derivs12_of}
use Rattle.refine.specs.Newton.{flat_of, no_gain_of}
use Rattle.scaled.specs.declared.Scaled.{Scaled}
use Rattle.band.specs.Band.{base_of, band_of}

-- `lo <= next && next <= hi`
unfoldable pub is_between_of : Float → Float → Float → Bool
is_between_of lo x hi = le lo x && le x hi

-- one turn of `critical_point`: Newton's next place on f', or none where the loop breaks
unfoldable pub critical_next : List Float → ℕ → Float → Float → Float → Option Float
critical_next f d lo hi y =
    -- let (mut d1, mut d2) = derivs12(&self.f, self.d, y);
    let here = derivs12_of f d y in
    let d1 = here.d1 in
    let d2 = here.d2 in
    -- let next = y - d1 / d2;
    let next = y -ᶠ d1 /ᶠ d2 in
    -- let (n1, n2) = derivs12(&self.f, self.d, next);
    let n1 = (derivs12_of f d next).d1 in
    cond (flat_of d1 d2) none (cond (not (is_between_of lo next hi)) none (cond (no_gain_of d1 n1) none (some next)))

-- `critical_point`: `for _ in 0..4`, each turn to a place within [lo, hi]
unfoldable pub critical_point_of : Scaled → Float → Float → Float → Float
critical_point_of poly y lo hi = turns_of (critical_next poly.f poly.d lo hi) 4 y

-- `self.critical_point(mid, mid - band, mid + band)` of `push_quadratic`: where a double root within the band about mid is
abbrev pub double_at : Scaled → Float → Float → Float
double_at poly mid tol = let band = band_of poly mid tol in critical_point_of poly mid (mid -ᶠ band) (mid +ᶠ band)

-- `extremum`: the place where these turns end, if Newton's step |d1 / d2| from there is within the caller's band
unfoldable pub extremum_of : Scaled → Float → Float → Float → Float → RustOption Float
extremum_of poly y lo hi tol =
    -- let y = self.critical_point(y, lo, hi);
    let at = critical_point_of poly y lo hi in
    -- let (d1, d2) = derivs12(&self.f, self.d, y);
    let there = derivs12_of poly.f poly.d at in
    let d1 = there.d1 in
    let d2 = there.d2 in
    -- (d1.abs() <= tol * (self.unit + y.abs()) * d2.abs()).then_some(y)
    cond (le (abs_of d1) (base_of poly.unit at tol *ᶠ abs_of d2)) (Some at) None
