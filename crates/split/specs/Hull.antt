-- The points (i, lg[i]) that magnitude_split of poly.rs keeps, in its words the 'upper hull'. Definitions only.
-- A point of the hull is kept as its index i: its other coordinate, the Rust's hull[k].1, is lg[i].
use Rattle.std.specs.Prelude.{◌≡◌, cond, List, ℕ, zero, suc, ◌+◌, ◌-◌, ◌≤◌, ◌<◌, pos, get_or, set, replicate, length, Float}
use Rattle.std.specs.Float.{nan, binary64}
use Rattle.std.specs.Float.Ieee.{le, of_int}
use Rattle.facts.specs.Count.{count_up}
use Rattle.float.specs.Rounded.{◌-ᶠ◌, ◌*ᶠ◌, ◌/ᶠ◌}
use Rattle.float.specs.Literals.{zero64}
use Rattle.float.specs.Methods.{is_finite_of}
use Rattle.split.specs.declared.Hull.{Hull}

-- `(b.0 - a.0) as f64`
abbrev pub width_of : ℕ → ℕ → Float
width_of a b = of_int binary64 (pos (b - a))

-- `let cross = (b.0 - a.0) as f64 * (p.1 - a.1) - (b.1 - a.1) * (p.0 - a.0) as f64;`, for the points with the indices a, b and i: at least 0 where b is
-- on or below the line from a to p
unfoldable pub cross_of : List Float → ℕ → ℕ → ℕ → Float
cross_of lg a b i =
    let a1 = get_or lg a nan in
    let b1 = get_or lg b nan in
    let p1 = get_or lg i nan in
    width_of a b *ᶠ (p1 -ᶠ a1) -ᶠ (b1 -ᶠ a1) *ᶠ width_of a i

-- `while h >= 2`, and `if cross >= 0.0 { h -= 1; } else { break; }`: how many of the first h points stay
unfoldable pub popped_of : List Float → List ℕ → ℕ → ℕ → ℕ
popped_of lg at i zero = zero
popped_of lg at i (suc zero) = suc zero
popped_of lg at i (suc (suc k)) = cond (le zero64 (cross_of lg (get_or at k 0) (get_or at (suc k) 0) i)) (popped_of lg at i (suc k)) (suc (suc k))

-- `hull[h] = p;` and `h += 1;`: the point i goes behind those that stay; `if !l.is_finite() { continue; }`
unfoldable pub hull_step : List Float → ℕ → Hull → Hull
hull_step lg i s =
    let h = popped_of lg s.at i s.h in
    cond (is_finite_of (get_or lg i nan)) (record { at = set s.at h i; h = h + 1 }) s

-- the hull of these points, and no point
abbrev pub hull_at : List ℕ → ℕ → Hull
hull_at at h = record { at = at; h = h }

abbrev pub no_hull : Hull
no_hull = hull_at (replicate 5 0) 0

-- the hull of the points 0 to d: `for (i, &l) in lg.iter().enumerate().take(d + 1)`
unfoldable pub hull_of : List Float → ℕ → Hull
hull_of lg d = count_up (d + 1) (hull_step lg) (d + 1) no_hull

-- `let mag = |k: usize| (hull[k].1 - hull[k + 1].1) / (hull[k + 1].0 - hull[k].0) as f64;`: the logarithm of the size of the roots of edge k
unfoldable pub mag_of : List Float → List ℕ → ℕ → Float
mag_of lg at k =
    let a = get_or at k 0 in
    let b = get_or at (k + 1) 0 in
    (get_or lg a nan -ᶠ get_or lg b nan) /ᶠ width_of a b

-- ---- what the functions say of a hull: its indices rise, and are below n
pub record Rising (n : ℕ) (s : Hull) : Type 0 where
  pub order : (k : ℕ) → k + 1 < s.h → get_or s.at k 0 < get_or s.at (k + 1) 0
  pub below : (k : ℕ) → k < s.h → get_or s.at k 0 < n
  pub count : s.h ≤ n
  pub room : length s.at ≡ 5
