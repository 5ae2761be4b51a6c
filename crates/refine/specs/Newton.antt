-- `newton_cubic` of poly.rs: Newton's method on a cubic, which stands as [c0, c1, c2, c3, 0]. Definitions only.
use Rattle.std.specs.Prelude.{◌≡◌, Bool, cond, not, ◌||◌, List, is_nan, Float}
use Rattle.std.proofs.Math.Option.{Option, none, some}
use Rattle.std.specs.Float.Ieee.{le, eq}
use Rattle.facts.specs.Turns.{turns_of}
use Rattle.float.specs.Rounded.{◌-ᶠ◌, ◌/ᶠ◌}
use Rattle.float.specs.Literals.{zero64}
use Rattle.float.specs.Methods.{abs_of}
use Rattle.horner.specs.Horner.{value_slope_of}
use Rattle.horner.specs.declared.ValueSlope.{ValueSlope}

-- `if fy == 0.0 || dy == 0.0`: no step to take
unfoldable pub flat_of : Float → Float → Bool
flat_of fy dy = eq fy zero64 || eq dy zero64

-- `if nf.abs() >= fy.abs() || nf.is_nan()`
unfoldable pub no_gain_of : Float → Float → Bool
no_gain_of fy nf = le (abs_of fy) (abs_of nf) || is_nan nf

-- what a closure may give at y is what f gives there
abbrev pub Gives : {A : Type 0} → (Float → A → Type 0) → (Float → A) → Type 0
Gives post f = (y : Float) (r : _) → post y r → r ≡ f y

-- one turn by f, the value and the slope, to a place that p allows: the next place, or none where the loop breaks
unfoldable pub newton_by : (Float → ValueSlope) → (Float → Bool) → Float → Option Float
newton_by f p y =
    let here = f y in
    let next = y -ᶠ here.value /ᶠ here.slope in
    cond (flat_of here.value here.slope) none (cond (not (p next)) none (cond (no_gain_of here.value (f next).value) none (some next)))

-- one turn: the next place, or none where the loop breaks
unfoldable pub newton_next : List Float → Float → Option Float
newton_next p y =
    -- let (mut fy, mut dy) = value_slope(p, 3, y);
    let here = value_slope_of p 3 y in
    let fy = here.value in
    let dy = here.slope in
    -- let next = y - fy / dy;
    let next = y -ᶠ fy /ᶠ dy in
    -- let (nf, nd) = value_slope(p, 3, next);
    let nf = (value_slope_of p 3 next).value in
    cond (flat_of fy dy) none (cond (no_gain_of fy nf) none (some next))

-- `newton_cubic`: `for _ in 0..4`
unfoldable pub newton_cubic_of : List Float → Float → Float
newton_cubic_of p y = turns_of (newton_next p) 4 y
