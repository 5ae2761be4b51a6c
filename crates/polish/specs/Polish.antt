-- `polish` of poly.rs: Newton's method on a simple root. f holds the coefficients, ascending, d is the degree, and gap the distance to the nearest neighbour.
-- Definitions only.
use Rattle.std.specs.Prelude.{Bool, false, cond, ◌||◌, List, ℕ, Float}
use Rattle.std.proofs.Math.Option.{Option, none, some}
use Rattle.std.specs.Float.Ieee.{lt, le, eq, is_nan}
use Rattle.facts.specs.Turns.{turns_of}
use Rattle.float.specs.Rounded.{◌-ᶠ◌, ◌*ᶠ◌, ◌/ᶠ◌}
use Rattle.float.specs.Literals.{epsilon64, quarter64}
use Rattle.float.specs.Methods.{abs_of}
use Rattle.horner.specs.Horner.{value_slope_compensated_of}
use Rattle.refine.specs.Newton.{flat_of, no_gain_of}

-- `if step.abs() > 0.25 * gap || step.is_nan()`
unfoldable pub is_long_of : Float → Float → Bool
is_long_of step gap = lt (quarter64 *ᶠ gap) (abs_of step) || is_nan step

-- `if step.abs() <= f64::EPSILON * y.abs()`
unfoldable pub is_small_of : Float → Float → Bool
is_small_of step y = le (abs_of step) (epsilon64 *ᶠ abs_of y)

-- a place, and whether polishing ends there
pub record Place : Type 0 where
  pub y : Float
  pub done : Bool

-- the place after a step: polishing ends there where the step is within rounding of it
abbrev pub arrived : Float → Float → Place
arrived step next = record { y = next; done = is_small_of step next }

-- one turn: the next place, or none where the loop breaks before it
unfoldable pub polish_next : List Float → ℕ → Float → Place → Option Place
polish_next f d gap s =
    let y = s.y in
    -- let (mut fy, mut dy) = value_slope_compensated(&self.f, self.d, y);
    let here = value_slope_compensated_of f d y in
    let fy = here.value in
    let dy = here.slope in
    -- let step = fy / dy;
    let step = fy /ᶠ dy in
    -- let next = y - step;
    let next = y -ᶠ step in
    -- let (nf, nd) = value_slope_compensated(&self.f, self.d, next);
    let nf = (value_slope_compensated_of f d next).value in
    cond s.done none
    (cond (flat_of fy dy) none
    (cond (is_long_of step gap) none
    (cond (eq next y) none
    (cond (no_gain_of fy nf) none
    (some (arrived step next))))))

-- `polish`: at most n turns, `for _ in 0..4` in the Rust
unfoldable pub polish_of : ℕ → List Float → ℕ → Float → Float → Float
polish_of n f d gap y = (turns_of (polish_next f d gap) n (record { y = y; done = false })).y
