-- The three systems of `refine`: the coefficients of a product's factors against those of the product. Definitions only.
use Rattle.std.specs.Prelude.{ℕ, List, [], ◌∷◌, slice_index_or, Float}
use Rattle.std.specs.Float.{nan}
use Rattle.std.specs.Float.Ieee.{neg}
use Rattle.float.specs.Rounded.{◌+ᶠ◌, ◌-ᶠ◌, ◌*ᶠ◌}
use Rattle.float.specs.Literals.{zero64, one64}
use Rattle.float.specs.Methods.{abs_of}
use Rattle.refine.specs.Refine.{System}

-- `x[i]`
abbrev at : List Float → ℕ → Float
at x i = slice_index_or x i nan

-- `x[1].abs() + x[0].abs() + b.abs()` and the like: the sizes of a residual's terms, added from the left
abbrev pub size2_of : Float → Float → Float
size2_of a b = abs_of a +ᶠ abs_of b

abbrev pub size3_of : Float → Float → Float → Float
size3_of a b c = size2_of a b +ᶠ abs_of c

abbrev pub size4_of : Float → Float → Float → Float → Float
size4_of a b c d = size3_of a b c +ᶠ abs_of d

-- ---- y^3 + b*y^2 + c*y + d = (y - x0) * (y^2 + x1*y + x2)

-- `[x[1] - x[0] - b, x[2] - x[0] * x[1] - c, -x[0] * x[2] - d]`
abbrev pub cubic_residual_of : Float → Float → Float → List Float → List Float
cubic_residual_of b c d x =
    at x 1 -ᶠ at x 0 -ᶠ b
    ∷ at x 2 -ᶠ at x 0 *ᶠ at x 1 -ᶠ c
    ∷ neg (at x 0) *ᶠ at x 2 -ᶠ d
    ∷ []

-- `[x[1].abs() + x[0].abs() + b.abs(), x[2].abs() + (x[0] * x[1]).abs() + c.abs(), (x[0] * x[2]).abs() + d.abs(),]`
abbrev pub cubic_magnitude_of : Float → Float → Float → List Float → List Float
cubic_magnitude_of b c d x =
    size3_of (at x 1) (at x 0) b
    ∷ size3_of (at x 2) (at x 0 *ᶠ at x 1) c
    ∷ size2_of (at x 0 *ᶠ at x 2) d
    ∷ []

-- `|x| [[-1.0, 1.0, 0.0], [-x[1], -x[0], 1.0], [-x[2], 0.0, -x[0]]]`
abbrev pub cubic_jacobian_of : List Float → List (List Float)
cubic_jacobian_of x =
    (neg one64 ∷ one64 ∷ zero64 ∷ [])
    ∷ (neg (at x 1) ∷ neg (at x 0) ∷ one64 ∷ [])
    ∷ (neg (at x 2) ∷ zero64 ∷ neg (at x 0) ∷ [])
    ∷ []

-- the closures of `cubic_factor`
abbrev pub cubic_system : Float → Float → Float → System
cubic_system b c d = record { res = cubic_residual_of b c d; mag = cubic_magnitude_of b c d; jac = cubic_jacobian_of }

-- ---- y^4 + b*y^3 + c*y^2 + d*y + e = (y^2 + x0*y + x1) * (y^2 + x2*y + x3)

-- `[x[0] + x[2] - b, x[1] + x[3] + x[0] * x[2] - c, x[0] * x[3] + x[1] * x[2] - d, x[1] * x[3] - e,]`
abbrev pub quartic_residual_of : Float → Float → Float → Float → List Float → List Float
quartic_residual_of b c d e x =
    at x 0 +ᶠ at x 2 -ᶠ b
    ∷ at x 1 +ᶠ at x 3 +ᶠ at x 0 *ᶠ at x 2 -ᶠ c
    ∷ at x 0 *ᶠ at x 3 +ᶠ at x 1 *ᶠ at x 2 -ᶠ d
    ∷ at x 1 *ᶠ at x 3 -ᶠ e
    ∷ []

-- `[x[0].abs() + x[2].abs() + b.abs(), x[1].abs() + x[3].abs() + (x[0] * x[2]).abs() + c.abs(),`
-- `(x[0] * x[3]).abs() + (x[1] * x[2]).abs() + d.abs(), (x[1] * x[3]).abs() + e.abs(),]`
abbrev pub quartic_magnitude_of : Float → Float → Float → Float → List Float → List Float
quartic_magnitude_of b c d e x =
    size3_of (at x 0) (at x 2) b
    ∷ size4_of (at x 1) (at x 3) (at x 0 *ᶠ at x 2) c
    ∷ size3_of (at x 0 *ᶠ at x 3) (at x 1 *ᶠ at x 2) d
    ∷ size2_of (at x 1 *ᶠ at x 3) e
    ∷ []

-- `[[1.0, 0.0, 1.0, 0.0], [x[2], 1.0, x[0], 1.0], [x[3], x[2], x[1], x[0]], [0.0, x[3], 0.0, x[1]],]`
abbrev pub quartic_jacobian_of : List Float → List (List Float)
quartic_jacobian_of x =
    (one64 ∷ zero64 ∷ one64 ∷ zero64 ∷ [])
    ∷ (at x 2 ∷ one64 ∷ at x 0 ∷ one64 ∷ [])
    ∷ (at x 3 ∷ at x 2 ∷ at x 1 ∷ at x 0 ∷ [])
    ∷ (zero64 ∷ at x 3 ∷ zero64 ∷ at x 1 ∷ [])
    ∷ []

-- the closures of `quartic_factor`
abbrev pub quartic_system : Float → Float → Float → Float → System
quartic_system b c d e = record { res = quartic_residual_of b c d e; mag = quartic_magnitude_of b c d e; jac = quartic_jacobian_of }

-- ---- y^4 + b*y^3 + c*y^2 + d*y + e = (y - x0) * (y^3 + x1*y^2 + x2*y + x3)

-- `[x[1] - x[0] - b, x[2] - x[0] * x[1] - c, x[3] - x[0] * x[2] - d, -x[0] * x[3] - e,]`
abbrev pub peel_residual_of : Float → Float → Float → Float → List Float → List Float
peel_residual_of b c d e x =
    at x 1 -ᶠ at x 0 -ᶠ b
    ∷ at x 2 -ᶠ at x 0 *ᶠ at x 1 -ᶠ c
    ∷ at x 3 -ᶠ at x 0 *ᶠ at x 2 -ᶠ d
    ∷ neg (at x 0) *ᶠ at x 3 -ᶠ e
    ∷ []

-- `[x[1].abs() + x[0].abs() + b.abs(), x[2].abs() + (x[0] * x[1]).abs() + c.abs(),`
-- `x[3].abs() + (x[0] * x[2]).abs() + d.abs(), (x[0] * x[3]).abs() + e.abs(),]`
abbrev pub peel_magnitude_of : Float → Float → Float → Float → List Float → List Float
peel_magnitude_of b c d e x =
    size3_of (at x 1) (at x 0) b
    ∷ size3_of (at x 2) (at x 0 *ᶠ at x 1) c
    ∷ size3_of (at x 3) (at x 0 *ᶠ at x 2) d
    ∷ size2_of (at x 0 *ᶠ at x 3) e
    ∷ []

-- `[[-1.0, 1.0, 0.0, 0.0], [-x[1], -x[0], 1.0, 0.0], [-x[2], 0.0, -x[0], 1.0], [-x[3], 0.0, 0.0, -x[0]],]`
abbrev pub peel_jacobian_of : List Float → List (List Float)
peel_jacobian_of x =
    (neg one64 ∷ one64 ∷ zero64 ∷ zero64 ∷ [])
    ∷ (neg (at x 1) ∷ neg (at x 0) ∷ one64 ∷ zero64 ∷ [])
    ∷ (neg (at x 2) ∷ zero64 ∷ neg (at x 0) ∷ one64 ∷ [])
    ∷ (neg (at x 3) ∷ zero64 ∷ zero64 ∷ neg (at x 0) ∷ [])
    ∷ []

-- the closures of `peel_root`
abbrev pub peel_system : Float → Float → Float → Float → System
peel_system b c d e = record { res = peel_residual_of b c d e; mag = peel_magnitude_of b c d e; jac = peel_jacobian_of }
