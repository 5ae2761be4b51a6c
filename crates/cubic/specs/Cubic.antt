-- `cubic_closed_form`, the real roots of the monic cubic y^3 + b*y^2 + c*y + d, and `cubic_factor`, that cubic as (y - r) * (y^2 + e*y + f). Definitions only.
use Rattle.std.specs.Prelude.{cond, ◌||◌, List, [], ◌∷◌, ℕ, ◌-◌, eqb, get_or, Float}
use Rattle.std.specs.Float.{nan}
use Rattle.std.specs.Float.Ieee.{neg, lt, le, ne}
use Rattle.facts.specs.Count.{count_up}
use Rattle.float.specs.Rounded.{◌+ᶠ◌, ◌-ᶠ◌, ◌*ᶠ◌, ◌/ᶠ◌}
use Rattle.float.specs.Literals.{zero64, half64, one64, three_halves64, two64, three64, nine64, twenty_seven64, inf64}
use Rattle.float.specs.Methods.{abs_of, copysign_of, min_of, max_of, clamp_of, total_le_of}
use Rattle.sqrt.specs.Root.{sqrt_of}
use Rattle.cbrt.specs.Root.{cbrt_of}
use Rattle.angle.specs.Third.{third_angle_of}
use Rattle.angle.specs.declared.Sine.{Sine}
use Rattle.refine.specs.Refine.{refine_of, refine_systems_of}
use Rattle.refine.specs.Systems.{cubic_system}
use Rattle.refine.specs.Newton.{newton_cubic_of}
use Rattle.cubic.specs.declared.CubicRoots.{CubicRoots}
use Rattle.cubic.specs.declared.CubicRoots.TheVariants.{One, Three}
use Rattle.cubic.specs.declared.CubicFactor.{CubicFactor}

-- `let t = if a != 0.0 { a - p / (3.0 * a) } else { 0.0 };`: Cardano's larger term a, and the other 'from their product -p/3 (no cancellation)'
abbrev pub cardano_of : Float → Float → Float
cardano_of p a = cond (ne a zero64) (a -ᶠ p /ᶠ (three64 *ᶠ a)) zero64

-- One real root, by Cardano: `([t + shift, 0.0, 0.0], 1)`. The square root takes the sign of q, so a is the term of larger size. (A NaN has no sign here;
-- a q that is one makes the sum a NaN.)
unfoldable pub one_root_of : Float → Float → Float → Float → CubicRoots
one_root_of shift p q disc =
    -- let a = -(0.5 * q + disc.max(0.0).sqrt().copysign(q)).cbrt();
    let a = neg (cbrt_of (half64 *ᶠ q +ᶠ copysign_of (sqrt_of (max_of disc zero64)) q)) in
    let t = cardano_of p a in
    One (t +ᶠ shift)

-- Three, by the trigonometric form: m * cos(θ), and m * cos(θ ∓ 2π/3) = m * (-cos(θ)/2 ± sin(θ)*√3/2), where θ is a third of the angle whose cosine is cos3.
-- A cos3 that is a NaN (0 times infinity, for a tiny p) stays one, and so do the roots.
unfoldable pub three_roots_of : Sine → Float → Float → Float → CubicRoots
three_roots_of sine shift p q =
    -- let m = 2.0 * (-p / 3.0).sqrt();
    let m = two64 *ᶠ sqrt_of (neg p /ᶠ three64) in
    -- let cos3 = (1.5 * q / p * (-3.0 / p).sqrt()).clamp(-1.0, 1.0);
    let cos3 = clamp_of (three_halves64 *ᶠ q /ᶠ p *ᶠ sqrt_of (neg three64 /ᶠ p)) (neg one64) one64 in
    -- let (sin, cos) = (cos3.acos() / 3.0).sin_cos();, the sine by the mode: the Rust's is OfRounded
    let third = third_angle_of sine cos3 in
    let sin = third.sin in
    let cos = third.cos in
    -- let (a, b) = (-0.5 * cos, 0.5 * 3f64.sqrt() * sin);
    let a = neg half64 *ᶠ cos in
    let b = half64 *ᶠ sqrt_of three64 *ᶠ sin in
    -- [m * cos + shift, m * (a + b) + shift, m * (a - b) + shift]
    Three (m *ᶠ cos +ᶠ shift ∷ m *ᶠ (a +ᶠ b) +ᶠ shift ∷ m *ᶠ (a -ᶠ b) +ᶠ shift ∷ [])

-- `if disc > 0.0 || p >= 0.0`: one root, else three, also where disc is 0. They are what the formulas give for t^3 + p*t + q, moved by shift.
unfoldable pub depressed_roots_of : Sine → Float → Float → Float → Float → CubicRoots
depressed_roots_of sine shift p q disc = cond (lt zero64 disc || le zero64 p) (one_root_of shift p q disc) (three_roots_of sine shift p q)

-- `cubic_closed_form`: with y = t + shift the cubic is t^3 + p*t + q
unfoldable pub cubic_closed_form_of : Sine → Float → Float → Float → CubicRoots
cubic_closed_form_of sine b c d =
    -- let shift = -b / 3.0;
    let shift = neg b /ᶠ three64 in
    -- let p = c - b * b / 3.0;
    let p = c -ᶠ b *ᶠ b /ᶠ three64 in
    -- let q = d + b * (2.0 * b * b - 9.0 * c) / 27.0;
    let q = d +ᶠ b *ᶠ (two64 *ᶠ b *ᶠ b -ᶠ nine64 *ᶠ c) /ᶠ twenty_seven64 in
    -- let disc = (0.5 * q) * (0.5 * q) + (p / 3.0) * (p / 3.0) * (p / 3.0);
    let disc = (half64 *ᶠ q) *ᶠ (half64 *ᶠ q) +ᶠ (p /ᶠ three64) *ᶠ (p /ᶠ three64) *ᶠ (p /ᶠ three64) in
    depressed_roots_of sine shift p q disc

-- `roots` and n of what it answers: the places up to n, and how many they are
abbrev pub places_of : CubicRoots → List Float
places_of (One r) = r ∷ []
places_of (Three roots) = roots

abbrev pub count_of : CubicRoots → ℕ
count_of (One r) = 1
count_of (Three roots) = 3

-- `let isolation = |i: usize|`, `.map(|j| (roots[i] - roots[j]).abs())` of each other j, and `.fold(f64::INFINITY, f64::min)`: how far root i is from
-- the nearest of the others, infinity where there is none. It is never a NaN: the minimum passes a NaN over.
unfoldable pub isolation_of : List Float → ℕ → ℕ → Float
isolation_of roots n i = count_up n (λ j near. cond (eqb j i) near (min_of near (abs_of (get_or roots i nan -ᶠ get_or roots j nan)))) n inf64

-- the same of a, among three with b and c: for the functions' contracts
abbrev pub isolation_among : Float → Float → Float → Float
isolation_among a b c = min_of (min_of inf64 (abs_of (a -ᶠ b))) (abs_of (a -ᶠ c))

-- `.max_by(|&i, &j| isolation(i).total_cmp(&isolation(j)))` keeps the best so far only where that is strictly more isolated than root j, so it takes
-- the last of equals
unfoldable pub better_of : List Float → ℕ → ℕ → ℕ → ℕ
better_of roots n j best = cond (total_le_of (isolation_of roots n best) (isolation_of roots n j)) j best

-- `roots[best]`, where `let best = (0..n) .. .unwrap_or(0);`: 'The most isolated real root deflates best.'
unfoldable pub most_isolated_of : List Float → ℕ → Float
most_isolated_of roots n = get_or roots (count_up n (better_of roots n) (n - 1) 0) nan

-- `if r != 0.0 { -d / r } else { c }` and the like: x / z, and `other` where z is a zero
abbrev pub over_or : Float → Float → Float → Float
over_or x z other = cond (ne z zero64) (x /ᶠ z) other

-- where the search for the factors begins: `[r, b + r, f]`
unfoldable pub cubic_start_of : Sine → Float → Float → Float → List Float
cubic_start_of sine b c d =
    -- let (roots, n) = cubic_closed_form(b, c, d);
    let s = cubic_closed_form_of sine b c d in
    -- let r = newton_cubic(&[d, c, b, 1.0, 0.0], roots[best]);
    let r = newton_cubic_of (d ∷ c ∷ b ∷ one64 ∷ zero64 ∷ []) (most_isolated_of (places_of s) (count_of s)) in
    -- let f = if r != 0.0 { -d / r } else { c };
    let f = over_or (neg d) r c in
    r ∷ b +ᶠ r ∷ f ∷ []

-- `cubic_factor`, which answers `(x[0], x[1], x[2])`
unfoldable pub cubic_factor_of : Sine → Float → Float → Float → CubicFactor
cubic_factor_of sine b c d =
    -- let x = refine([r, b + r, f], ..);
    let x = refine_of 3 (cubic_system b c d) (cubic_start_of sine b c d) in
    record { r = get_or x 0 nan; e = get_or x 1 nan; f = get_or x 2 nan }

-- how many systems are solved for it
unfoldable pub cubic_systems_of : Sine → Float → Float → Float → ℕ
cubic_systems_of sine b c d = refine_systems_of 3 (cubic_system b c d) (cubic_start_of sine b c d)
