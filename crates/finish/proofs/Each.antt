-- The polished places, one by one: how many they are, which each is, and what their
-- multiplicities add up to.
use mathlib.Core.Path.{◌≡◌, refl, sym, ap, ◌∙◌}
use mathlib.Core.List.{List, [], ◌∷◌}
use Prim.Native.Nat.{ℕ, zero, suc, ◌+◌, ◌^◌, ◌≤◌, ◌<◌}
use native.Mathlib.Omega.{arith}
use lib.ListN.{length, get_or}
use lib.Ieee.{Float}
use Rattle.facts.specs.Arrays.{fill_from, from_fn}
use Rattle.facts.proofs.Sort.{sum_sorted}
use Rattle.float.specs.Methods.{total_le_of}
use Rattle.scaled.specs.declared.Scaled.{Scaled}
use Rattle.roots.specs.Roots.{list_of, roots_of, no_roots, kept_in}
use Rattle.roots.specs.Listed.{blank, multiplicities}
use Rattle.roots.specs.declared.RealRoot.{RealRoot}
use Rattle.roots.specs.declared.Roots.{Roots}
use Rattle.roots.proofs.Laws.{length_list}
use Rattle.finish.specs.Finish.{by_value, ordered_at, polished_at, polished_of, joined_of, finish_of}
use Rattle.finish.specs.Places.{places_polished}
use Rattle.finish.specs.Run.{next_run, Joining}
use Rattle.finish.specs.declared.Run.{Run}
use Rattle.finish.proofs.Places.{map_filled, polished_in}
use Rattle.finish.proofs.Runs.{runs_are, joined_none, joins_both, joins_next, joins_last}
use Rattle.finish.proofs.Laws.{sum_placed, placed_list}

filled_length : {A : Type 0} (f : ℕ → A) (i k : ℕ) → length (fill_from i k f) ≡ k
filled_length f i zero = refl
filled_length f i (suc k) = ap suc (filled_length f (i + 1) k)

filled_read : {A : Type 0} (f : ℕ → A) (d : A) (i k j : ℕ) → j < k → get_or (fill_from i k f) j d ≡ f (i + j)
filled_read f d i zero j h = absurd (omega (arith, h))
filled_read f d i (suc k) zero h = let e : i ≡ i + 0 = omega arith in ap f e
filled_read f d i (suc k) (suc j) h =
    let e : i + 1 + j ≡ i + suc j = omega arith in filled_read f d (i + 1) k j (omega (arith, h)) ∙ ap f e

module _ (poly : Scaled) (o : Roots) where
  filled : places_polished poly o ≡ fill_from 0 o.len (polished_in poly o)
  unfolding polished_of
  filled = map_filled (polished_at 4 poly) (ordered_at (list_of o)) 0 o.len

  pub polished_length : length (places_polished poly o) ≡ o.len
  polished_length = ap length filled ∙ filled_length (polished_in poly o) 0 o.len

  pub polished_read : (k : ℕ) → k < o.len → get_or (places_polished poly o) k blank ≡ polished_in poly o k
  polished_read k h =
      let e : 0 + k ≡ k = omega arith in
      ap (λ (l : List RealRoot). get_or l k blank) filled
      ∙ filled_read (polished_in poly o) blank 0 o.len k h
      ∙ ap (polished_in poly o) e

  pub polished_sum : length o.root ≡ 4 → o.len ≤ 4 → multiplicities (places_polished poly o) ≡ multiplicities (list_of o)
  unfolding polished_of
  polished_sum four few = sum_placed 4 poly (list_of o) 0 o.len (omega (arith, length_list o (four, few)))

-- the first place of some begins the first run
first_joins : (poly : Scaled) (tol : Float) (l : List RealRoot) (a : RealRoot) {none : Roots} → 0 < length l → multiplicities l < 2 ^ 32
    → a ≡ get_or l 0 blank → none ≡ no_roots → Joining poly tol (roots_of (joined_of poly tol l)) l 1 (record { out = none; at = a })
unfolding joined_of
first_joins poly tol [] a h bound e z = absurd (omega (arith, h))
first_joins poly tol (b ∷ rest) a h bound e z = record { gives = rw (z, e) (runs_are poly tol [] b rest); adds = rw e bound }

-- ---- the loop over the places, each polished when its turn comes
module _ (poly : Scaled) (tol : Float) (o : Roots) where
  abbrev all : List RealRoot
  all = places_polished poly o

  abbrev whole : Roots
  whole = roots_of (joined_of poly tol all)

  pub none_joined : {none : Roots} → o.len ≡ 0 → none ≡ no_roots → none ≡ whole
  none_joined n z = z ∙ joined_none poly tol all (polished_length poly o ∙ n)

  pub place_joined : (a : RealRoot) {none : Roots} → length o.root ≡ 4 → o.len ≤ 4 → 0 < o.len → multiplicities (list_of o) < 2 ^ 32
      → a ≡ polished_in poly o 0 → none ≡ no_roots → Joining poly tol whole all 1 (record { out = none; at = a })
  place_joined a four few h bound e z =
      first_joins poly tol all a (omega (arith, polished_length poly o, h)) (rw (polished_sum poly o four few) bound)
      (e ∙ sym (polished_read poly o 0 h)) z

  module _ (k : ℕ) (run : Run) (w : Joining poly tol whole all k run) where
    pub both_joined : (b : RealRoot) → k < o.len → b ≡ polished_in poly o k → run.at.multiplicity + b.multiplicity < 2 ^ 32
    both_joined b h e =
        let is : b ≡ get_or all k blank = e ∙ sym (polished_read poly o k h) in
        rw is (joins_both poly tol whole all k run (omega (arith, polished_length poly o, h)) w)

    pub more_joined : (b : RealRoot) {r : Run} → k < o.len → b ≡ polished_in poly o k → r ≡ next_run poly run b tol
        → Joining poly tol whole all (k + 1) r
    more_joined b h e n =
        let is : b ≡ get_or all k blank = e ∙ sym (polished_read poly o k h) in
        joins_next poly tol whole all k run (omega (arith, polished_length poly o, h)) w (n ∙ ap (λ (x : RealRoot). next_run poly run x tol) is)

    pub all_joined : {r : Roots} → o.len ≤ k → r ≡ kept_in run.out run.at → r ≡ whole
    all_joined h e = e ∙ joins_last poly tol whole all k run (omega (arith, polished_length poly o, h)) w

-- ---- in order they add up to the same, and finish is that loop
pub ordered_sum : (l : List RealRoot) → multiplicities (by_value l) ≡ multiplicities l
unfolding by_value
ordered_sum l = sum_sorted (λ a b. total_le_of a.value b.value) (λ (r : RealRoot). r.multiplicity) l

pub all_finished : (poly : Scaled) (tol : Float) (c o : Roots) → length c.root ≡ 4 → c.len ≤ 4 → list_of o ≡ by_value (list_of c) → o.len ≡ c.len
    → roots_of (joined_of poly tol (places_polished poly o)) ≡ roots_of (finish_of poly (list_of c) tol)
unfolding finish_of
all_finished poly tol c o four few e n =
    ap (λ (l : List RealRoot). roots_of (joined_of poly tol l))
    ((λ i. polished_of 4 poly (from_fn (n i) (ordered_at (e i)))) ∙ placed_list poly c four few)
