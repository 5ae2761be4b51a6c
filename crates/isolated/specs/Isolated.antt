-- `isolated_root`: a real root of two quadratics that is far from the other three while those lie close together, a near-triple root that no pairing in
-- quadratics resolves. `peel_root`: the monic quartic y^4 + b*y^3 + c*y^2 + d*y + e as (y - r) * (y^3 + h2*y^2 + h1*y + h0), from such a root.
-- Definitions only.
use Rattle.std.specs.Prelude.{Bool, true, cond, ◌&&◌, List, [], ◌∷◌, ℕ, ◌+◌, ◌-◌, eqb, ltb, get_or, fold, Float, Option, Some, None}
use Rattle.std.specs.Float.{nan}
use Rattle.std.specs.Float.Ieee.{neg, lt, le, ne}
use Rattle.facts.specs.Count.{count_up}
use Rattle.float.specs.Rounded.{◌+ᶠ◌, ◌-ᶠ◌, ◌*ᶠ◌}
use Rattle.float.specs.Literals.{zero64, half64, sixteen64, inf64}
use Rattle.float.specs.Methods.{abs_of, copysign_of, min_of, max_of, powi_of}
use Rattle.sqrt.specs.Root.{sqrt_of}
use Rattle.horner.specs.Product.{discriminant_of}
use Rattle.refine.specs.Refine.{refine_of, refine_systems_of}
use Rattle.refine.specs.Systems.{peel_system}
use Rattle.quartic.specs.declared.QuarticFactor.{QuarticFactor}
use Rattle.isolated.specs.declared.Complex.{Complex}
use Rattle.isolated.specs.declared.Best.{Best}
use Rattle.isolated.specs.declared.Disc.{Disc}
use Rattle.isolated.specs.declared.Pairing.{Pairing}
use Rattle.isolated.specs.declared.Peeled.{Peeled}
use Rattle.cubic.specs.Cubic.{over_or}

-- `let q = -0.5 * (al + disc.sqrt().copysign(al));`: of two real roots of y^2 + al*y + be, whose discriminant is disc, the one of larger size, without
-- cancellation
unfoldable pub far_root_of : Float → Float → Float
far_root_of al disc = neg half64 *ᶠ (al +ᶠ copysign_of (sqrt_of disc) al)

-- what the code takes once where the Rust takes it for each use: a discriminant and the root of its size, and far_root_of with that root
unfoldable pub disc_of : Float → Float → Disc
disc_of al be = let disc = discriminant_of al be in record { disc = disc; root = sqrt_of (abs_of disc) }

unfoldable pub far_by : Float → Float → Float
far_by al root = neg half64 *ᶠ (al +ᶠ copysign_of root al)

abbrev pub complex : Float → Float → Complex
complex re im = record { re = re; im = im }

-- The roots of y^2 + al*y + be as (re, im). Real ones, a double one too, `if disc >= 0.0`: q, and the other from their product be.
-- Else conjugate ones, also where disc is a NaN: their im is a NaN then, so neither counts as real.
unfoldable pub root_pair_of : Float → Float → List Complex
root_pair_of al be =
    -- let disc = discriminant(al, be);
    let disc = discriminant_of al be in
    let q = far_root_of al disc in
    -- let other = if q != 0.0 { be / q } else { 0.0 };
    let other = over_or be q zero64 in
    -- let half = 0.5 * (-disc).sqrt();
    let half = half64 *ᶠ sqrt_of (neg disc) in
    -- z[2 * k] = (-0.5 * al, half);
    let re = neg half64 *ᶠ al in
    cond (le zero64 disc) (complex q zero64 ∷ complex other zero64 ∷ []) (complex re half ∷ complex re (neg half) ∷ [])

-- `let dist = |a: (f64, f64), b: (f64, f64)| (a.0 - b.0).powi(2) + (a.1 - b.1).powi(2);`: the squared distance; it is only compared
abbrev pub dist_of : Float → Float → Float → Float → Float
dist_of re im re' im' = powi_of (re -ᶠ re') 2 +ᶠ powi_of (im -ᶠ im') 2

-- `dist(z[i], z[j])`
abbrev pub dist_at : List Float → List Float → ℕ → ℕ → Float
dist_at re im i j = dist_of (get_or re i nan) (get_or im i nan) (get_or re j nan) (get_or im j nan)

-- `d2[i][j] = dist(z[i], z[j]);` for i < j, and `d2[j][i] = d2[i][j];`
abbrev pub d2_of : List Float → List Float → ℕ → ℕ → Float
d2_of re im i j = cond (ltb i j) (dist_at re im i j) (dist_at re im j i)

-- `iso = iso.min(d2[i][j]);` over the others: how far the nearest is
abbrev pub iso_of : List Float → List Float → ℕ → Float
iso_of re im i = count_up 4 (λ j iso. cond (eqb j i) iso (min_of iso (d2_of re im i j))) 4 inf64

-- `spread = spread.max(d2[j][k]);` over the pairs of others: how far two of them are apart at most
abbrev pub spread_of : List Float → List Float → ℕ → Float
spread_of re im i =
    count_up 4 (λ j spread. cond (eqb j i) spread (count_up 4 (λ k most. cond (eqb k i) most (max_of most (d2_of re im j k))) (4 - (j + 1)) spread)) 4 zero64

-- both, from the distances of root i to the others, and from theirs: for the functions' contracts
abbrev pub least_of : List Float → Float
least_of near = fold min_of inf64 near

abbrev pub greatest_of : List Float → Float
greatest_of apart = fold max_of zero64 apart

-- `best.is_none_or(|(b, _)| iso > b)`. So the first of equals stays.
abbrev pub beats : Float → Option Best → Bool
beats iso (Some b) = lt b.far iso
beats iso None = true

-- `if 16.0 * spread < iso && best.is_none_or(|(b, _)| iso > b)`: a spread under a quarter of the distance, 16 in squares, and that
unfoldable pub is_better_of : Option Best → Float → Float → Bool
is_better_of best iso spread = lt (sixteen64 *ᶠ spread) iso && beats iso best

-- `best = Some((iso, z[i].0));`, which only a real root may be: `if z[i].1 != 0.0 { continue; }`
unfoldable pub judged_of : Option Best → Float → Float → Float → Float → Option Best
judged_of best re im iso spread = cond (ne im zero64) best (cond (is_better_of best iso spread) (Some (record { far = iso; root = re })) best)

abbrev pub root_at : List Complex → ℕ → Complex
root_at z i = get_or z i (complex nan nan)

-- `let mut best: Option<(f64, f64)> = None;`, then `for i in 0..4`
unfoldable pub best_root_of : QuarticFactor → Option Best
best_root_of quads =
    -- for (k, &(al, be)) in quads.iter().enumerate() { .. }
    let first = root_pair_of quads.al quads.be in
    let second = root_pair_of quads.ga quads.de in
    let re = (root_at first 0).re ∷ (root_at first 1).re ∷ (root_at second 0).re ∷ (root_at second 1).re ∷ [] in
    let im = (root_at first 0).im ∷ (root_at first 1).im ∷ (root_at second 0).im ∷ (root_at second 1).im ∷ [] in
    count_up 4 (λ i best. judged_of best (get_or re i nan) (get_or im i nan) (iso_of re im i) (spread_of re im i)) 4 None

-- `best.map(|(_, r)| r)`
abbrev pub lone_of : Option Best → Option Float
lone_of (Some b) = Some b.root
lone_of None = None

-- `isolated_root`
unfoldable pub isolated_root_of : QuarticFactor → Option Float
isolated_root_of quads = lone_of (best_root_of quads)

-- the same, and the discriminants of the two quadratics
unfoldable pub isolated_of : QuarticFactor → Pairing
isolated_of quads = record { far = isolated_root_of quads; first = disc_of quads.al quads.be; second = disc_of quads.ga quads.de }

-- where the search of `peel_root` begins: the quotient by y - r, from the top
unfoldable pub peel_start_of : Float → Float → Float → Float → List Float
peel_start_of b c d r =
    -- let h2 = b + r;
    let h2 = b +ᶠ r in
    -- let h1 = c + r * h2;
    let h1 = c +ᶠ r *ᶠ h2 in
    -- let h0 = d + r * h1;
    let h0 = d +ᶠ r *ᶠ h1 in
    r ∷ h2 ∷ h1 ∷ h0 ∷ []

-- `peel_root`: that quotient, refined
unfoldable pub peel_root_of : Float → Float → Float → Float → Float → Peeled
peel_root_of b c d e r =
    -- let x = refine([r, h2, h1, h0], ..);
    let x = refine_of 4 (peel_system b c d e) (peel_start_of b c d r) in
    record { r = get_or x 0 nan; h2 = get_or x 1 nan; h1 = get_or x 2 nan; h0 = get_or x 3 nan }

-- how many systems are solved for it
unfoldable pub peel_systems_of : Float → Float → Float → Float → Float → ℕ
peel_systems_of b c d e r = refine_systems_of 4 (peel_system b c d e) (peel_start_of b c d r)
