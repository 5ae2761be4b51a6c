-- real_roots_touching of poly.rs, from what `finish` gave to the list, as a computation that asks: `touches(x)` of the Rust is `ask x`. Definitions only.
use Rattle.std.specs.Prelude.{Bool, true, false, ◌&&◌, List, [], ◌∷◌, ◌++◌, ℕ, ◌+◌, ltb, eqb, ℤ, Float, Option, Some, None}
use Rattle.std.proofs.Math.Bool.{cond}
use Rattle.std.specs.Float.Ieee.{lt}
use Rattle.float.specs.Rounded.{◌+ᶠ◌, ◌-ᶠ◌, ◌*ᶠ◌}
use Rattle.float.specs.Literals.{zero64, half64}
use Rattle.float.specs.Methods.{abs_of, is_finite_of, min_of}
use Rattle.scaled.specs.declared.Scaled.{Scaled}
use Rattle.roots.specs.declared.RootKind.TheVariants.{Brush, Flat}
use Rattle.roots.specs.declared.RealRoot.{RealRoot}
use Rattle.roots.specs.declared.Pair.{Pair}
use Rattle.roots.specs.Roots.{root_by}
use Rattle.critical.specs.Critical.{extremum_of}
use Rattle.finish.specs.Finish.{by_value}
use Rattle.poly.specs.RealRoots.{unscaled_of}
use Rattle.asking.specs.Asking.{Asking, done, ask, ◌then◌, each}
use Rattle.touching.specs.declared.Chain.{Chain}

-- `let touches_at = |y: f64| poly.unscaled(y, 1).is_some_and(|r| touches(r.value));`: a place that is not finite is not asked about, and does not touch
unfoldable pub touches_at : ℤ → Float → Asking Bool
touches_at e y = let x = unscaled_of e y in cond (is_finite_of x) (ask x done) (done false)

-- ---- items: `items[n] = (roots.value[k], roots.mult[k]);`, and then each pair as a double root or as a separator (multiplicity 0)
-- `if pairs.len == 2 && pairs.half[1] < pairs.half[0] { order = [1, 0]; }`: 'The narrower pair goes first'
unfoldable pub pair_order : List Pair → List Pair
pair_order [] = []
pair_order (p ∷ []) = p ∷ []
pair_order (p ∷ q ∷ []) = cond (lt q.half p.half) (q ∷ p ∷ []) (p ∷ q ∷ [])
pair_order (p ∷ q ∷ r ∷ l) = p ∷ q ∷ r ∷ l

-- `.fold(pairs.half[k], |r, it| r.min(0.5 * (it.0 - m).abs()));`, from r on
unfoldable pub reach_of : Float → Float → List RealRoot → Float
reach_of m r [] = r
reach_of m r (it ∷ l) = reach_of m (min_of r (half64 *ᶠ abs_of (it.value -ᶠ m))) l

-- `(it.0 - y).abs() > tol * (poly.unit + y.abs())`, of which b is the right side
abbrev pub apart_by : Float → Float → RealRoot → Bool
apart_by b y it = lt b (abs_of (it.value -ᶠ y))

-- `.all(|it| (it.0 - y).abs() > tol * (poly.unit + y.abs()))`
unfoldable pub all_apart : Float → Float → List RealRoot → Bool
all_apart b y [] = true
all_apart b y (it ∷ l) = apart_by b y it && all_apart b y l

-- `(y, if touches_at(y) { 2 } else { 0 })`: the item of a pair, a double root where the reply is yes, and else a separator
abbrev pub pair_item : Float → Bool → RealRoot
pair_item y reply = root_by reply y (cond reply 2 0)

module _ (poly : Scaled) (tol : Float) where
  -- `tol * (poly.unit + y.abs())`: an item this near to y takes its place
  abbrev pub apart_of : Float → Float
  apart_of y = tol *ᶠ (poly.unit +ᶠ abs_of y)

  -- `let Some(y) = poly.extremum(m, m - reach, m + reach, tol) else { continue; };`
  -- `items[n] = ..;` where no item is near
  unfoldable pub pair_at : List RealRoot → Option Float → Asking (List RealRoot)
  unfolding ◌then◌
  pair_at its None = done its
  pair_at its (Some y) = cond (all_apart (apart_of y) y its) (touches_at poly.e y then λ reply. done (its ++ pair_item y reply ∷ [])) (done its)

  -- `for &k in &order[..pairs.len]`: a turn, for the pair p
  unfoldable pub pair_turn : List RealRoot → Pair → Asking (List RealRoot)
  pair_turn its p =
      -- let m = pairs.centre[k];
      let m = p.centre in
      -- let reach = items[..n].iter().fold(pairs.half[k], |r, it| r.min(0.5 * (it.0 - m).abs()));
      let reach = reach_of m p.half its in
      pair_at its (extremum_of poly m (m -ᶠ reach) (m +ᶠ reach) tol)

-- `if pairs.len > 0 { items.sort_unstable_by(|a, b| a.0.total_cmp(&b.0)); }`, where 'ties stay in their earlier order'
unfoldable pub ordered : List Pair → List RealRoot → List RealRoot
ordered [] its = its
ordered (p ∷ ps) its = by_value its

-- ---- chains of items linked by a touching critical point between them
-- `while k < n` over the chains and `while k + 1 < n && items[k + 1].1 > 0` along one are one loop over the items here, with the chain at hand and the list
-- so far. mult = 0: no chain.
abbrev pub no_chain : Chain
no_chain = record { first = zero64; last = zero64; at = zero64; touching = 0; mult = 0; kind = Flat }

-- `u32::from(mult >= 2)`
abbrev pub double_of : ℕ → ℕ
double_of m = cond (ltb 1 m) 1 0

-- `let (first, mut mult) = items[k];` and `let (mut touching, mut at) = (u32::from(mult >= 2), first);`: the chain of one item, and of its kind
abbrev pub opened_by : RealRoot → Chain
opened_by it =
    record {
      first = it.value;
      last = it.value;
      at = it.value;
      touching = double_of it.multiplicity;
      mult = it.multiplicity;
      kind = it.kind;
    }

-- `mult += items[k].1;`, `touching += 1 + u32::from(items[k].1 >= 2);` and `at = y;`: the chain with one more item, linked at y by a yes: a brush
abbrev pub extended_by : Chain → RealRoot → Float → Chain
extended_by c it y =
    record {
      first = c.first;
      last = it.value;
      at = y;
      touching = c.touching + (1 + double_of it.multiplicity);
      mult = c.mult + it.multiplicity;
      kind = Brush;
    }

-- `let y = match touching { 0 => first, 1 => at, _ => 0.5 * (first + items[k].0), };`
unfoldable pub contact_of : Chain → Float
contact_of c =
    cond (eqb c.touching 0) c.first
    (cond (eqb c.touching 1) c.at (half64 *ᶠ (c.first +ᶠ c.last)))

-- `if let Some(r) = poly.unscaled(y, mult) { out.push(r); }`
unfoldable pub emitted : ℤ → List RealRoot → Chain → List RealRoot
emitted e out c =
    let y = contact_of c in
    let x = unscaled_of e y in
    cond (eqb c.mult 0) out (cond (is_finite_of x) (out ++ record { value = x; multiplicity = c.mult; kind = c.kind } ∷ []) out)

-- `let Some(y) = link else { break; };`: the chain ends, and the item begins one
abbrev pub parted : ℤ → List RealRoot → Chain → RealRoot → Chain × List RealRoot
parted e out c it = (opened_by it, emitted e out c)

-- `.filter(|&y| lo < y && y < hi && touches_at(y));` of the critical point sought between the chain and the item
unfoldable pub link_at : ℤ → List RealRoot → Chain → RealRoot → Option Float → Asking (Chain × List RealRoot)
unfolding ◌then◌
link_at e out c it None = done (parted e out c it)
link_at e out c it (Some y) =
    let lo = c.last in
    let hi = it.value in
    cond (lt lo y && lt y hi)
    (touches_at e y then λ reply. done (cond reply (extended_by c it y, out) (parted e out c it)))
    (done (parted e out c it))

module _ (poly : Scaled) (tol : Float) where
  -- the next item: `if mult == 0 { k += 1; continue; }`, a separator, ends the chain; another begins one, or is linked to it, or ends it and begins one
  unfoldable pub item_turn : Chain × List RealRoot → RealRoot → Asking (Chain × List RealRoot)
  item_turn s it =
      let c = s.0 in
      let out = s.1 in
      -- let (lo, hi) = (items[k].0, items[k + 1].0);
      let lo = c.last in
      let hi = it.value in
      -- let link = poly.extremum(0.5 * (lo + hi), lo, hi, tol) .. ;
      let link = extremum_of poly (half64 *ᶠ (lo +ᶠ hi)) lo hi tol in
      cond (eqb it.multiplicity 0) (done (no_chain, emitted poly.e out c))
      (cond (eqb c.mult 0) (done (opened_by it, out)) (link_at poly.e out c it link))

  -- the loop over the items, whose last chain ends with the last of them
  unfoldable pub chained : List RealRoot → Asking (List RealRoot)
  unfolding ◌then◌ each
  chained its = each item_turn (no_chain, []) its then λ s. done (emitted poly.e s.1 s.0)

  -- `real_roots_touching`, of the finished roots and the pairs
  unfoldable pub touching : List RealRoot → List Pair → Asking (List RealRoot)
  unfolding ◌then◌ each
  touching roots pairs = each (pair_turn poly tol) roots (pair_order pairs) then λ its. chained (ordered pairs its)
