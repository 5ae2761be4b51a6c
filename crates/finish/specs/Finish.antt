-- Scaled::finish of poly.rs: the candidates in order, the simple ones polished, and runs of them within the band joined. Definitions only.
use Rattle.std.specs.Prelude.{Bool, cond, List, [], ◌∷◌, map, ℕ, ◌+◌, ◌-◌, ltb, eqb, pos, length, get_or, Float}
use Rattle.std.specs.Float.{nan, binary64}
use Rattle.std.specs.Float.Ieee.{of_int}
use Rattle.facts.specs.Arrays.{from_fn}
use Rattle.facts.specs.Sort.{sorted_by}
use Rattle.float.specs.Rounded.{◌+ᶠ◌, ◌-ᶠ◌, ◌*ᶠ◌, ◌/ᶠ◌}
use Rattle.float.specs.Literals.{half64, inf64}
use Rattle.float.specs.Methods.{min_of, total_le_of}
use Rattle.scaled.specs.declared.Scaled.{Scaled}
use Rattle.roots.specs.Roots.{root, kept}
use Rattle.roots.specs.Listed.{blank}
use Rattle.roots.specs.declared.RealRoot.{RealRoot}
use Rattle.band.specs.Band.{within_band_of}
use Rattle.polish.specs.Polish.{polish_of}

-- ---- in order
-- `vals[k]`
abbrev pub value_at : List RealRoot → ℕ → Float
value_at l k = (get_or l k blank).value

-- `mult[k]`
abbrev pub multiplicity_at : List RealRoot → ℕ → ℕ
multiplicity_at l k = (get_or l k blank).multiplicity

-- `order[..n].sort_unstable_by(|&i, &j| c.value[i].total_cmp(&c.value[j]));`: 'ties stay in their earlier order'
unfoldable pub by_value : List RealRoot → List RealRoot
by_value c = sorted_by (λ a b. total_le_of a.value b.value) c

-- `let below = if k > 0 { vals[k] - vals[k - 1] } else { f64::INFINITY };`
unfoldable pub below_of : List RealRoot → ℕ → Float
below_of vals k = cond (ltb 0 k) (value_at vals k -ᶠ value_at vals (k - 1)) inf64

-- `let above = if k + 1 < n { vals[k + 1] - vals[k] } else { f64::INFINITY };`
unfoldable pub above_of : List RealRoot → ℕ → Float
above_of vals k = cond (ltb (k + 1) (length vals)) (value_at vals (k + 1) -ᶠ value_at vals k) inf64

-- a place in the order, its multiplicity, and its gap, `below.min(above)`
pub record Ordered : Type 0 where
  pub value : Float
  pub multiplicity : ℕ
  pub gap : Float

-- what stands past the end
abbrev pub nowhere : Ordered
nowhere = record { value = nan; multiplicity = 0; gap = nan }

-- at place k of the order
unfoldable pub ordered_at : List RealRoot → ℕ → Ordered
ordered_at l k = record { value = value_at l k; multiplicity = multiplicity_at l k; gap = min_of (below_of l k) (above_of l k) }

-- The ordered places. The gaps are those before any place is polished.
unfoldable pub ordered_of : List RealRoot → List Ordered
ordered_of c = from_fn (length c) (ordered_at (by_value c))

-- ---- polished
-- `if mult[k] == 1`: `value[k] = self.polish(vals[k], below.min(above));`, and any other is as it is
unfoldable pub polished_at : ℕ → Scaled → Ordered → RealRoot
polished_at n poly o = root (cond (eqb o.multiplicity 1) (polish_of n poly.f poly.d o.gap o.value) o.value) o.multiplicity

-- `for k in 0..n`: the polished places, after at most n turns each, four in the Rust
unfoldable pub polished_of : ℕ → Scaled → List Ordered → List RealRoot
polished_of n poly l = map (polished_at n poly) l

-- ---- joined
-- `self.within_band(0.5 * (value[k + 1] - y), 0.5 * (value[k + 1] + y), tol)`
unfoldable pub is_near_of : Scaled → Float → Float → Float → Bool
is_near_of poly y next tol = within_band_of poly (half64 *ᶠ (next -ᶠ y)) (half64 *ᶠ (next +ᶠ y)) tol

-- `let total = m + mult[k];` and `y = (y * m as f64 + value[k] * mult[k] as f64) / total as f64;`
unfoldable pub join_of : RealRoot → RealRoot → RealRoot
join_of a b =
    let total = a.multiplicity + b.multiplicity in
    let sum = a.value *ᶠ of_int binary64 (pos a.multiplicity) +ᶠ b.value *ᶠ of_int binary64 (pos b.multiplicity) in
    root (sum /ᶠ of_int binary64 (pos total)) total

-- `while k < n` and `while k + 1 < n` are one loop over the places here: the next place b joins the run at hand, a, or ends it, `out.push(y, m);`, and
-- then begins the next one.
unfoldable pub joined_from : Scaled → Float → List RealRoot → RealRoot → List RealRoot → List RealRoot
joined_from poly tol out a [] = kept out a
joined_from poly tol out a (b ∷ l) =
    let near = is_near_of poly a.value b.value tol in
    joined_from poly tol (cond near out (kept out a)) (cond near (join_of a b) b) l

-- all runs, the first begun by the first place: `let (mut y, mut m) = (value[k], mult[k]);`
unfoldable pub joined_of : Scaled → Float → List RealRoot → List RealRoot
joined_of poly tol [] = []
joined_of poly tol (a ∷ l) = joined_from poly tol [] a l

-- ---- all three
-- `fn finish(&self, c: Candidates, tol: f64) -> Candidates`
unfoldable pub finish_of : Scaled → List RealRoot → Float → List RealRoot
finish_of poly c tol = joined_of poly tol (polished_of 4 poly (ordered_of c))
