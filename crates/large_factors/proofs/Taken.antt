-- The large factors, taken from the units in the order of their sizes: each is taken, or ends the search.
use mathlib.Core.Path.{◌≡◌, ap, ◌∙◌, sym}
use mathlib.Core.Bool.{cond, Bool, true, false}
use mathlib.Core.List.{List, map}
use Prim.Native.Nat.{ℕ, ◌+◌, ◌≤◌, ◌<◌}
use native.Mathlib.Nat.{min-le_left}
use native.Mathlib.Omega.{arith}
use lib.Seq.{get_or-take, length-take-le}
use lib.ListN.{length, get_or, take, drop, length-map, length-take, drop_of_length-le}
use lib.Ieee.{Float, nan, binary64, mul}
use Rattle.facts.specs.Sort.{sorted_by}
use Rattle.float.specs.Literals.{epsilon64}
use Rattle.float.specs.Methods.{total_le_of}
use Rattle.order.specs.Order.{falling_of}
use Rattle.order.proofs.Laws.{read_sorted, read_cons}
use Rattle.factors.specs.declared.Factors.{Factors}
use Rattle.factors.specs.Factors.{no_factors, degree_of}
use Rattle.large_factors.specs.declared.Unit.{Unit}
use Rattle.large_factors.specs.declared.Units.{Units}
use Rattle.large_factors.specs.Large.{unit_of, factor_units_of, no_smaller, ends_of, with_unit, large_from, large_of, no_units, all_added, in_order}
use Rattle.large_factors.proofs.Added.{added_list, added_room, units_degrees, units_count}
use Rattle.large_factors.proofs.Sizes.{none_sized, with_sized}

abbrev pub unit_at : List Unit → ℕ → Unit
unit_at at i = get_or at i (unit_of nan nan nan)

-- what the array of the units' sizes gives at each place
abbrev pub SizesOf : List Float → List Unit → Type 0
SizesOf sizes at = (i : ℕ) → i < 4 → get_or sizes i nan ≡ (unit_at at i).m

module _ (f : Factors) (D : degree_of f ≤ 4) (u : Units) (E : u ≡ all_added no_units (factor_units_of f)) where
  pub units_fit : u.n ≤ 4
  units_fit = omega (arith, added_room (factor_units_of f) u E, units_degrees f)

  listed : take u.n u.at ≡ factor_units_of f
  listed = ap (λ (x : Units). take x.n x.at) E ∙ added_list no_units (factor_units_of f) (omega (arith, units_count f))

  -- the units by falling size
  sorted : (sizes : List Float) → SizesOf sizes u.at → length u.at ≡ 4
      → in_order u.at (falling_of sizes u.n) u.n ≡ sorted_by no_smaller (factor_units_of f)
  unfolding in_order falling_of
  sorted sizes S L =
      read_sorted (λ a b. total_le_of b a) (λ (x : Unit). x.m) sizes u.at (unit_of nan nan nan) u.n
      (omega (arith, L, units_fit)) (λ i h. S i (omega (arith, units_fit)))
      ∙ ap (sorted_by no_smaller) listed

  pub large_is : (sizes : List Float) → SizesOf sizes u.at → (order : List ℕ) (want : ℕ) (threshold : Float) (r : Factors) → length u.at ≡ 4
      → order ≡ falling_of sizes u.n
      → r ≡ large_from want (mul binary64 threshold epsilon64) no_factors (in_order u.at order u.n) → r ≡ large_of f want threshold
  unfolding large_of
  large_is sizes S order want threshold r L O R =
      R ∙ ap (large_from want (mul binary64 threshold epsilon64) no_factors) (ap (λ (l : List ℕ). in_order u.at l u.n) O ∙ sorted sizes S L)

-- ---- the search, from no factors on
pub take_none : (want : ℕ) (least : Float) (l : List Unit) (large : Factors) → large ≡ no_factors
    → large_from want least large l ≡ large_from want least no_factors l
take_none want least l large e = ap (λ (f : Factors). large_from want least f l) e

-- ---- the search: a unit is taken, or ends it; and its end
module _ (at : List Unit) (order : List ℕ) (n i want : ℕ) (least : Float) (large : Factors) where
  abbrev next : Unit
  next = unit_at at (get_or order i 0)

  pub take_one : length order ≡ 4 → n ≤ 4 → i < n
      → large_from want least large (drop i (in_order at order n))
      ≡ cond (ends_of next (degree_of large) want least) large (large_from want least (with_unit large next) (drop (i + 1) (in_order at order n)))
  unfolding large_from in_order
  take_one L N h = ap (large_from want least large) (read_cons (unit_at at) order n i (omega arith) h)

  pub take_all : n ≤ i → large_from want least large (drop i (in_order at order n)) ≡ large
  unfolding large_from in_order
  take_all h =
      let few = length-map (take n order) (unit_at at) ∙ length-take n order in
      ap (large_from want least large) (drop_of_length-le (map (unit_at at) (take n order)) {i = i} (omega (arith, few, min-le_left n (length order))))

-- by what the test of a unit found
module _ (at : List Unit) (order : List ℕ) (n : ℕ) (N : n ≤ 4) (i : ℕ) (want : ℕ) (least : Float)
    (large : Factors) (degree : ℕ)
    (D : degree ≡ degree_of large) (t : Bool)
    (X : t ≡ ends_of (unit_at at (get_or order i 0)) degree want least) (L : length order ≡ 4) (h : i < n) where
  test : ends_of (unit_at at (get_or order i 0)) (degree_of large) want least ≡ t
  test = ap (λ (k : ℕ). ends_of (unit_at at (get_or order i 0)) k want least) (sym D) ∙ sym X

  pub take_ends : t ≡ true → large ≡ large_from want least large (drop i (in_order at order n))
  take_ends T = sym (take_one at order n i want least large L N h ∙ rw (test ∙ T))

  pub take_more : (more : Factors) → t ≡ false
      → more ≡ with_unit large (unit_at at (get_or order i 0))
      → large_from want least more (drop (i + 1) (in_order at order n))
      ≡ large_from want least large (drop i (in_order at order n))
  take_more more T M = sym (take_one at order n i want least large L N h ∙ rw (test ∙ T, M))

-- What the functions' proofs rest on.
pub ruleset taken = (get_or-take, length-take-le, none_sized, with_sized, take_one, take_all)
