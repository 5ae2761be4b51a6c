-- `quartic_factor`: the monic quartic y^4 + b*y^3 + c*y^2 + d*y + e as (y^2 + al*y + be) * (y^2 + ga*y + de). Definitions only.
use Rattle.std.specs.Prelude.{Bool, cond, ◌&&◌, List, [], ◌∷◌, ℕ, get_or, Float}
use Rattle.std.specs.Float.{nan}
use Rattle.std.specs.Float.Ieee.{neg, lt}
use Rattle.facts.specs.Count.{count_up}
use Rattle.float.specs.Rounded.{◌+ᶠ◌, ◌-ᶠ◌, ◌*ᶠ◌, ◌/ᶠ◌}
use Rattle.float.specs.Literals.{zero64, tiny64, three256ths64, sixteenth64, eighth64, quarter64, three_eighths64, half64, one64, two64, four64, inf64}
use Rattle.float.specs.Methods.{abs_of, is_finite_of, copysign_of, max_of}
use Rattle.sqrt.specs.Root.{sqrt_of}
use Rattle.angle.specs.declared.Sine.{Sine}
use Rattle.refine.specs.Refine.{refine_of, refine_systems_of}
use Rattle.refine.specs.Systems.{quartic_system}
use Rattle.refine.specs.Newton.{newton_cubic_of}
use Rattle.quartic.specs.declared.QuarticFactor.{QuarticFactor}
use Rattle.quartic.specs.declared.Depressed.{Depressed}
use Rattle.cubic.specs.Cubic.{cubic_closed_form_of, places_of, count_of, over_or}

-- `let m_raw = ms[..n].iter().copied().fold(f64::NEG_INFINITY, f64::max);`: the largest root. The maximum passes a NaN over, so it is minus infinity where
-- all are NaN.
unfoldable pub largest_of : List Float → ℕ → Float
largest_of ms n = count_up n (λ i m. max_of m (get_or ms i nan)) n (neg inf64)

-- `let m = newton_cubic(&resolvent, m_raw);`: the largest real root of the resolvent m^3 + 2p*m^2 + (p^2 - 4r)*m - q^2, which is -q^2 <= 0 at 0
unfoldable pub resolvent_of : Sine → Float → Float → Float → Float
resolvent_of sine p q r =
    -- let resolvent = [-q * q, p * p - 4.0 * r, 2.0 * p, 1.0, 0.0];
    let m0 = neg q *ᶠ q in
    let m1 = p *ᶠ p -ᶠ four64 *ᶠ r in
    let m2 = two64 *ᶠ p in
    -- let (ms, n) = cubic_closed_form(resolvent[2], resolvent[1], resolvent[0]);
    let s = cubic_closed_form_of sine m2 m1 m0 in
    newton_cubic_of (m0 ∷ m1 ∷ m2 ∷ one64 ∷ zero64 ∷ []) (largest_of (places_of s) (count_of s))

-- `if m > 1e-8 * scale && m.is_finite()`: m is clear of 0, against the scale of p and r
unfoldable pub is_clear_of : Float → Float → Float → Bool
is_clear_of p r m =
    -- let scale = p.abs() + r.abs().sqrt();
    let scale = abs_of p +ᶠ sqrt_of (abs_of r) in
    lt (tiny64 *ᶠ scale) m && is_finite_of m

-- `let (u, v, w) = if m > 1e-8 * scale && m.is_finite() { .. };`: t^4 + p*t^2 + q*t + r = (t^2 + u*t + v) * (t^2 - u*t + w). By Ferrari u is √m; where m
-- is not clear the quartic counts as biquadratic (q ~ 0): v + w = p, v*w = r, and z is the one of larger size. (A p that is a NaN makes z one, whatever sign
-- it gives.)
unfoldable pub ferrari_of : Float → Float → Float → Float → Depressed
ferrari_of p q r m =
    -- let u = m.sqrt();
    let u = sqrt_of m in
    -- (u, 0.5 * (p + m - q / u), 0.5 * (p + m + q / u))
    let v = half64 *ᶠ (p +ᶠ m -ᶠ q /ᶠ u) in
    let w = half64 *ᶠ (p +ᶠ m +ᶠ q /ᶠ u) in
    -- let disc = (p * p - 4.0 * r).max(0.0);
    let disc = max_of (p *ᶠ p -ᶠ four64 *ᶠ r) zero64 in
    -- let z = 0.5 * (p + disc.sqrt().copysign(p));
    let z = half64 *ᶠ (p +ᶠ copysign_of (sqrt_of disc) p) in
    -- (0.0, z, if z != 0.0 { r / z } else { 0.0 })
    cond (is_clear_of p r m) (record { u = u; v = v; w = w }) (record { u = zero64; v = z; w = over_or r z zero64 })

-- where the search for the factors begins: with y = t + shift the quartic is t^4 + p*t^2 + q*t + r
unfoldable pub quartic_start_of : Sine → Float → Float → Float → Float → List Float
quartic_start_of sine b c d e =
    -- let shift = -0.25 * b;
    let shift = neg quarter64 *ᶠ b in
    -- let b2 = b * b;
    let b2 = b *ᶠ b in
    -- let p = c - 0.375 * b2;
    let p = c -ᶠ three_eighths64 *ᶠ b2 in
    -- let q = d - 0.5 * b * c + 0.125 * b2 * b;
    let q = d -ᶠ half64 *ᶠ b *ᶠ c +ᶠ eighth64 *ᶠ b2 *ᶠ b in
    -- let r = e - 0.25 * b * d + 0.0625 * b2 * c - 0.01171875 * b2 * b2;
    let r = e -ᶠ quarter64 *ᶠ b *ᶠ d +ᶠ sixteenth64 *ᶠ b2 *ᶠ c -ᶠ three256ths64 *ᶠ b2 *ᶠ b2 in
    let t = ferrari_of p q r (resolvent_of sine p q r) in
    let u = t.u in
    let v = t.v in
    let w = t.w in
    -- let s2 = shift * shift;
    let s2 = shift *ᶠ shift in
    -- [u - 2.0 * shift, s2 - u * shift + v, -u - 2.0 * shift, s2 + u * shift + w,]
    u -ᶠ two64 *ᶠ shift
    ∷ s2 -ᶠ u *ᶠ shift +ᶠ v
    ∷ neg u -ᶠ two64 *ᶠ shift
    ∷ s2 +ᶠ u *ᶠ shift +ᶠ w
    ∷ []

-- `quartic_factor`, which answers `[(x[0], x[1]), (x[2], x[3])]`
unfoldable pub quartic_factor_of : Sine → Float → Float → Float → Float → QuarticFactor
quartic_factor_of sine b c d e =
    let x = refine_of 4 (quartic_system b c d e) (quartic_start_of sine b c d e) in
    record { al = get_or x 0 nan; be = get_or x 1 nan; ga = get_or x 2 nan; de = get_or x 3 nan }

-- how many systems are solved for it
unfoldable pub quartic_systems_of : Sine → Float → Float → Float → Float → ℕ
quartic_systems_of sine b c d e = refine_systems_of 4 (quartic_system b c d e) (quartic_start_of sine b c d e)
