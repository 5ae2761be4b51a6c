-- The clustering band of poly.rs: `band`, `within_band` and `noise` of Scaled, in the reference build. Definitions only.
-- y is a place in the scaled variable, and one unit of x is `unit` there.
use Rattle.std.specs.Prelude.{Bool, true, false, cond, List, [], ℕ, ◌+◌, ◌-◌, eqb, pos, get_or, Float}
use Rattle.std.specs.Float.{nan}
use Rattle.std.specs.Float.Ieee.{lt, le, ne}
use Rattle.facts.specs.Count.{count_up, count_down}
use Rattle.float.specs.Rounded.{◌+ᶠ◌, ◌-ᶠ◌, ◌*ᶠ◌, ◌/ᶠ◌}
use Rattle.float.specs.Literals.{zero64, four64, epsilon64, inf64}
use Rattle.float.specs.Methods.{abs_of, is_finite_of, min_of, powi_of}
use Rattle.sqrt.specs.Root.{sqrt_of}
use Rattle.cbrt.specs.Root.{cbrt_of}
use Rattle.horner.specs.Loops.{at_place}
use Rattle.horner.specs.Taylor.{taylor_of}
use Rattle.scaled.specs.declared.Scaled.{Scaled}

-- `acc * ay + c.abs()`
unfoldable pub magnitude_step : Float → Float → Float → Float
magnitude_step ay c acc = acc *ᶠ ay +ᶠ abs_of c

-- `mag`, `.fold(0.0, |acc, &c| acc * ay + c.abs());`: the sum of the sizes of f's terms at y, from the coefficient at the degree down (a NaN where y is
-- infinite)
unfoldable pub magnitude_of : List Float → ℕ → Float → Float
magnitude_of f d y = count_down (at_place (magnitude_step (abs_of y)) f) (d + 1) zero64

-- `let budget = NOISE_FACTOR * f64::EPSILON * mag;`: what rounding may do to f at y
unfoldable pub budget_of : List Float → ℕ → Float → Float
budget_of f d y = four64 *ᶠ epsilon64 *ᶠ magnitude_of f d y

-- `match k { 2 => q.sqrt(), 3 => q.cbrt(), _ => q.sqrt().sqrt(), }`: q^(1/k) for k = 2, 3 and 4
unfoldable pub kth_root_of : ℕ → Float → Float
kth_root_of k q = cond (eqb k 2) (sqrt_of q) (cond (eqb k 3) (cbrt_of q) (sqrt_of (sqrt_of q)))

-- one turn of `noise`, `if tk != 0.0`: the smaller of r and (budget / |t_k|)^(1/k), `r = r.min(match k { .. });`
unfoldable pub radius_step : List Float → Float → ℕ → Float → Float
radius_step t budget k r =
    let tk = get_or t k nan in
    -- let q = budget / tk.abs();
    let q = budget /ᶠ abs_of tk in
    cond (ne tk zero64) (min_of r (kth_root_of k q)) r

-- `let mut r = f64::INFINITY;`, then `for (k, &tk) in t.iter().enumerate().take(d + 1).skip(2)`. It is infinite where no t_k says something.
unfoldable pub radius_of : List Float → ℕ → Float → Float
radius_of t d budget = count_up (d + 1) (radius_step t budget) (d + 1 - 2) inf64

-- `noise`, with its budget: `let t = taylor(&self.f, d, y);`, and `if r.is_finite() { r } else { 0.0 }`
unfoldable pub noise_within : List Float → ℕ → Float → Float → Float
noise_within f d y budget =
    let t = taylor_of f d y in
    let r = radius_of t d budget in
    cond (is_finite_of r) r zero64

-- `noise`, in its words the 'radius within which rounding [..] can move a multiple root at y'
unfoldable pub noise_of : Scaled → Float → Float
noise_of poly y = noise_within poly.f poly.d y (budget_of poly.f poly.d y)

-- `let base = tol * (self.unit + y.abs());`: the caller's band tol * (1 + |x|) in the scaled variable
unfoldable pub base_of : Float → Float → Float → Float
base_of unit y tol = tol *ᶠ (unit +ᶠ abs_of y)

-- `band`, `tol * (self.unit + y.abs()) + self.noise(y)`: the caller's band, and the noise
unfoldable pub band_of : Scaled → Float → Float → Float
band_of poly y tol = base_of poly.unit y tol +ᶠ noise_of poly y

-- `within_band`: half a distance is within the caller's band, `if half <= base { return true; }`, or within the band with the noise,
-- `half <= base + self.noise(y)`. The second is asked only where the crude bound is not above the budget: else it is not within.
unfoldable pub within_band_of : Scaled → Float → Float → Float → Bool
within_band_of poly half y tol =
    let base = base_of poly.unit y tol in
    -- if (half - base).powi(self.d as i32) * self.f[self.d].abs() > budget { return false; }
    let crude = powi_of (half -ᶠ base) poly.d *ᶠ abs_of (get_or poly.f poly.d nan) in
    let near = le half (base +ᶠ noise_of poly y) in
    cond (le half base) true (cond (lt (budget_of poly.f poly.d y) crude) false near)

-- `within` and `double_at` take f, d and unit by themselves, since the code has no more of a polynomial at hand; their contracts name the definitions over a
-- whole one all the same, of which this makes one out of the three. What stands for g, lg and e is never looked at: `within_band` of a poly is `within` of its
-- three (`same_within`).
abbrev pub bare : List Float → ℕ → Float → Scaled
bare f d unit = record { f = f; g = []; lg = []; d = d; e = pos 0; unit = unit }
