-- The Rust's loops in loops, each written as the two that it has: over runs within the band in `finish`, and over chains in real_roots_touching. The
-- definitions, `joined_of` and `chained`, have one loop over the places instead. A loop is allowed so many turns here; `Loops` in Demands says that as many as
-- there are places are enough, and that both ways are the same. Definitions only.
use Rattle.std.proofs.Math.Bool.{cond}
use Rattle.std.specs.Prelude.{◌&&◌, List, [], ◌∷◌, ◌++◌, eqb, pos, length, get_or}
use Rattle.std.proofs.Math.Option.{Option, none, some}
use Prim.Native.Nat.{ℕ, zero, suc, ◌+◌}
use Rattle.std.proofs.Math.Dec.{ltb}
use Rattle.std.specs.Float.Ieee.{Float, of_int, lt}
use Rattle.std.specs.Float.{binary64}
use Rattle.float.specs.Rounded.{◌+ᶠ◌, ◌-ᶠ◌, ◌*ᶠ◌, ◌/ᶠ◌}
use Rattle.float.specs.Literals.{half64}
use Rattle.float.specs.Methods.{is_finite_of}
use Rattle.scaled.specs.declared.Scaled.{Scaled}
use Rattle.roots.specs.declared.RootKind.{RootKind}
use Rattle.roots.specs.declared.RootKind.TheVariants.{Brush}
use Rattle.roots.specs.declared.RealRoot.{RealRoot}
use Rattle.roots.specs.Roots.{root, kept}
use Rattle.roots.specs.Listed.{blank}
use Rattle.band.specs.Band.{within_band_of}
use Rattle.std.specs.Prelude.{Option as RustOption, Some, None}
use Rattle.critical.specs.Critical.{extremum_of}
use Rattle.finish.specs.Finish.{value_at, multiplicity_at}
use Rattle.poly.specs.RealRoots.{unscaled_of}
use Rattle.asking.specs.Asking.{Asking, done, ◌then◌}
use Rattle.touching.specs.Touching.{touches_at}

-- ---- `finish`: value[k] and mult[k] are `value_at v k` and `multiplicity_at v k`, and n is the length of v
-- `y = (y * m as f64 + value[k] * mult[k] as f64) / total as f64;` and `m = total;`
abbrev pub mean_of : List RealRoot → RealRoot → ℕ → RealRoot
mean_of v r k =
    let y = r.value in
    let m = r.multiplicity in
    let total = m + multiplicity_at v k in
    let terms = y *ᶠ of_int binary64 (pos m) +ᶠ value_at v k *ᶠ of_int binary64 (pos (multiplicity_at v k)) in
    root (terms /ᶠ of_int binary64 (pos total)) total

module _ (poly : Scaled) (tol : Float) (v : List RealRoot) where
  -- `while k + 1 < n && self.within_band(0.5 * (value[k + 1] - y), 0.5 * (value[k + 1] + y), tol)`: where k ends, and (y, m)
  unfoldable pub run_from : ℕ → ℕ → RealRoot → ℕ × RealRoot
  run_from zero k r = (k, r)
  run_from (suc turns) k r =
      let next = value_at v (k + 1) in
      let within = within_band_of poly (half64 *ᶠ (next -ᶠ r.value)) (half64 *ᶠ (next +ᶠ r.value)) tol in
      cond (ltb (k + 1) (length v) && within) (run_from turns (k + 1) (mean_of v r (k + 1))) (k, r)

  -- `while k < n`: the inner loop from `(value[k], mult[k])` on; `out.push(y, m);`
  unfoldable pub runs_from : ℕ → ℕ → ℕ → List RealRoot → List RealRoot
  unfolding run_from
  runs_from inner zero k out = out
  runs_from inner (suc turns) k out =
      let run = run_from inner k (get_or v k blank) in
      cond (ltb k (length v)) (runs_from inner turns (run.0 + 1) (kept out run.1)) out

-- ---- real_roots_touching: items[k] is (`value_at v k`, `multiplicity_at v k`), and n is the length of v
-- the variables of the outer loop, and the chain's kind
pub record Linked : Type 0 where
  pub first : Float
  pub mult : ℕ
  pub touching : ℕ
  pub at : Float
  pub kind : RootKind

-- `u32::from(mult >= 2)`
abbrev pub is_double : ℕ → ℕ
is_double m = cond (ltb 1 m) 1 0

-- `.filter(|&y| lo < y && y < hi && touches_at(y));`
unfoldable pub filtered : Scaled → Float → Float → RustOption Float → Asking (Option Float)
unfolding ◌then◌
filtered poly lo hi None = done none
filtered poly lo hi (Some y) = cond (lt lo y && lt y hi) (touches_at poly.e y then λ reply. done (cond reply (some y) none)) (done none)

-- `mult += items[k].1;`, `touching += 1 + u32::from(items[k].1 >= 2);` and `at = y;`
abbrev pub grown : Linked → ℕ → Float → Linked
grown c m y = record { first = c.first; mult = c.mult + m; touching = c.touching + (1 + is_double m); at = y; kind = Brush }

-- `match touching { 0 => first, 1 => at, _ => 0.5 * (first + items[k].0), };`
abbrev pub chain_place_of : List RealRoot → ℕ → Linked → Float
chain_place_of v k c =
    cond (eqb c.touching 0) c.first (cond (eqb c.touching 1) c.at (half64 *ᶠ (c.first +ᶠ value_at v k)))

-- `if let Some(r) = poly.unscaled(y, mult) { out.push(r); }`
abbrev pub pushed : Scaled → List RealRoot → List RealRoot → ℕ → Linked → List RealRoot
pushed poly v out k c =
    let x = unscaled_of poly.e (chain_place_of v k c) in
    cond (is_finite_of x) (out ++ record { value = x; multiplicity = c.mult; kind = c.kind } ∷ []) out

module _ (poly : Scaled) (tol : Float) (v : List RealRoot) where
  -- `let (lo, hi) = (items[k].0, items[k + 1].0);`, and `poly.extremum(0.5 * (lo + hi), lo, hi, tol)`, filtered
  abbrev pub link_after : ℕ → Asking (Option Float)
  link_after k =
      let lo = value_at v k in
      let hi = value_at v (k + 1) in
      filtered poly lo hi (extremum_of poly (half64 *ᶠ (lo +ᶠ hi)) lo hi tol)

  -- `while k + 1 < n && items[k + 1].1 > 0`, until there is no link: where k ends, and the variables
  unfoldable pub links_from : ℕ → ℕ → Linked → Asking (ℕ × Linked)
  unfolding ◌then◌
  links_from zero k c = done (k, c)
  links_from (suc turns) k c =
      let m = multiplicity_at v (k + 1) in
      let next : Option Float → Asking (ℕ × Linked) = λ link. elim link [ none ↦ done (k, c) | some y ↦ links_from turns (k + 1) (grown c m y) ] in
      cond (ltb (k + 1) (length v) && ltb 0 m) (link_after k then next) (done (k, c))

  -- `while k < n`: a separator is passed over; else the inner loop, from the item at k on, and its contact
  unfoldable pub chains_from : ℕ → ℕ → ℕ → List RealRoot → Asking (List RealRoot)
  unfolding links_from ◌then◌
  chains_from inner zero k out = done out
  chains_from inner (suc turns) k out =
      let mult = multiplicity_at v k in
      let kind = (get_or v k blank).kind in
      let begun : Linked = record { first = value_at v k; mult = mult; touching = is_double mult; at = value_at v k; kind = kind } in
      cond (ltb k (length v))
      (cond (eqb mult 0)
      (chains_from inner turns (k + 1) out)
      (links_from inner k begun then λ r. chains_from inner turns (r.0 + 1) (pushed poly v out r.0 r.1)))
      (done out)
