-- The places of an array of four by their numbers: in order and polished. Each law is of any place k.
use mathlib.Core.Path.{◌≡◌, refl, sym, ap, ap₂, ◌∙◌}
use mathlib.Core.Bool.{Bool, true, false, cond}
use mathlib.Core.List.{List, [], ◌∷◌, map}
use Prim.Native.Nat.{ℕ, zero, suc, ◌+◌, ◌-◌, ◌≤◌, ◌<◌}
use native.Mathlib.Omega.{arith}
use borrow.Author.Tests.{lt-ltb, le-ltb}
use lib.Dec.{ltb}
use lib.ListN.{length, get_or, take, set}
use lib.Seq.{get_or-take}
use lib.Ieee.{Float, nan, binary64, sub}
use Rattle.facts.specs.Arrays.{fill_from, from_fn}
use Rattle.facts.specs.Cond.{if_taken, if_left}
use Rattle.facts.specs.Lists.{length_mapped, of_four}
use Rattle.float.specs.Literals.{inf64}
use Rattle.float.specs.Methods.{min_of, total_le_of}
use Rattle.order.specs.Order.{order_of}
use Rattle.order.proofs.Laws.{read_numbers, length_order, read_sorted}
use Rattle.scaled.specs.declared.Scaled.{Scaled}
use Rattle.roots.specs.Roots.{list_of}
use Rattle.roots.specs.Listed.{blank}
use Rattle.roots.proofs.Laws.{length_list}
use Rattle.roots.specs.declared.RealRoot.{RealRoot}
use Rattle.roots.specs.declared.Roots.{Roots}
use Rattle.finish.specs.Finish.{value_at, by_value, below_of, above_of, ordered_at, polished_at, polished_of}
use Rattle.finish.specs.Places.{place_of, place_polished}

-- ---- arrays by a rule
pub map_filled : {A B : Type 0} (h : A → B) (f : ℕ → A) (i k : ℕ) → map h (fill_from i k f) ≡ fill_from i k (λ j. h (f j))
map_filled h f i zero = refl
map_filled {A} {B} h f i (suc k) = ap (λ (m : List B). h (f i) ∷ m) (map_filled h f (i + 1) k)

-- the first n of an array made by a rule that is f there
pub taken_made : {A : Type 0} (rule f : ℕ → A) (n m i : ℕ) → n ≤ m → ((j : ℕ) → j < i + n → rule j ≡ f j) → take n (fill_from i m rule) ≡ fill_from i n f
taken_made rule f zero m i h e = refl
taken_made rule f (suc n) zero i h e = absurd (omega arith)
taken_made {A} rule f (suc n) (suc m) i h e =
    ap₂ (λ (a : A) (l : List A). a ∷ l) (e i (omega arith)) (taken_made rule f n m (i + 1) (omega arith) (λ j l. e j (omega arith)))

-- ---- in order: the places, read in the order of their values
-- what the array of the places' values gives at each place
abbrev pub ValuesOf : List Float → List RealRoot → Type 0
ValuesOf values l = (i : ℕ) → i < 4 → get_or values i nan ≡ value_at l i

pub values_made : (l : List RealRoot) {values : List Float} → values ≡ from_fn 4 (value_at l) → ValuesOf values l
values_made l e zero h = ap (λ (v : List Float). get_or v 0 nan) e
values_made l e (suc zero) h = ap (λ (v : List Float). get_or v 1 nan) e
values_made l e (suc (suc zero)) h = ap (λ (v : List Float). get_or v 2 nan) e
values_made l e (suc (suc (suc zero))) h = ap (λ (v : List Float). get_or v 3 nan) e
values_made l e (suc (suc (suc (suc i)))) h = absurd (omega (arith, h))

-- place k of those read in this order
abbrev pub read_at : List RealRoot → List ℕ → ℕ → RealRoot
read_at l at k = get_or l (get_or at k 0) blank

read_in_order : (l : List RealRoot) (at : List ℕ) (n : ℕ) → n ≤ length at → from_fn n (read_at l at) ≡ map (λ (i : ℕ). get_or l i blank) (take n at)
read_in_order l at n h =
    sym (map_filled (λ (i : ℕ). get_or l i blank) (λ (k : ℕ). get_or at k 0) 0 n)
    ∙ ap (map (λ (i : ℕ). get_or l i blank)) (sym (map_filled (λ (k : ℕ). get_or at k 0) (λ (j : ℕ). j) 0 n) ∙ read_numbers at 0 0 n (omega (arith, h)))

pub ordered_is : (c : Roots) (values : List Float) (at : List ℕ) (l : List RealRoot) → c.len ≤ 4 → length c.root ≡ 4 → ValuesOf values c.root
    → at ≡ order_of total_le_of values c.len → l ≡ from_fn 4 (read_at c.root at) → take c.len l ≡ by_value (list_of c)
unfolding by_value
ordered_is c values at l h four V O L =
    let long : length at ≡ 4 = ap length O ∙ length_order total_le_of values c.len h in
    ap (take c.len) L
    ∙ taken_made (read_at c.root at) (read_at c.root at) c.len 4 0 h (λ j k. refl)
    ∙ read_in_order c.root at c.len (omega (arith, long))
    ∙ ap (λ (o : List ℕ). map (λ (i : ℕ). get_or c.root i blank) (take c.len o)) O
    ∙ read_sorted total_le_of (λ (r : RealRoot). r.value) values c.root blank c.len (omega (arith, four)) (λ i k. V i (omega (arith, k)))

-- ---- polished: the gaps, from the first n of an array
difference : {a b x y : Float} → x ≡ a → y ≡ b → sub binary64 a b ≡ sub binary64 x y
difference e f = rw (e, f)

module _ (l : List RealRoot) (n : ℕ) where
  value_kept : (k : ℕ) → k < n → value_at (take n l) k ≡ value_at l k
  value_kept k h = ap (λ (r : RealRoot). r.value) (get_or-take n l k blank h)

  module _ (k : ℕ) (h : k < n) where
    pub below_first : k ≤ 0 → inf64 ≡ below_of (take n l) k
    unfolding below_of
    below_first z = if_left _ _ (le-ltb 0 k z) refl

    pub below_next : 0 < k → sub binary64 (value_at l k) (value_at l (k - 1)) ≡ below_of (take n l) k
    unfolding below_of
    below_next z = if_taken _ _ (lt-ltb 0 k z) (difference (value_kept k h) (value_kept (k - 1) (omega arith)))

    module _ (full : length (take n l) ≡ n) where
      pub above_last : n ≤ k + 1 → inf64 ≡ above_of (take n l) k
      unfolding above_of
      above_last z = if_left _ _ (ap (ltb (k + 1)) full ∙ le-ltb (k + 1) n z) refl

      pub above_next : k + 1 < n → sub binary64 (value_at l (k + 1)) (value_at l k) ≡ above_of (take n l) k
      unfolding above_of
      above_next z = if_taken _ _ (ap (ltb (k + 1)) full ∙ lt-ltb (k + 1) n z) (difference (value_kept (k + 1) z) (value_kept k h))

-- ---- polished: place k, and all of them
module _ (poly : Scaled) (o : Roots) where
  abbrev pub polished_in : ℕ → RealRoot
  polished_in k = polished_at 4 poly (ordered_at (list_of o) k)

  pub polished_is : (k : ℕ) {p : RealRoot} {gap : Float} → k < o.len → gap ≡ min_of (below_of (list_of o) k) (above_of (list_of o) k)
      → p ≡ polished_at 4 poly (place_of (get_or o.root k blank) gap) → p ≡ polished_in k
  unfolding ordered_at polished_at
  polished_is k h g e = e ∙ rw (get_or-take o.len o.root k blank h, g)

module _ (poly : Scaled) (o : Roots) where
  pub none_polished : o.len ≡ 0
      → list_of o ≡ polished_of 4 poly (from_fn o.len (ordered_at (list_of o)))
  unfolding polished_of
  none_polished e = rw e

pub all_polished : (poly : Scaled) (o : Roots) {l : List RealRoot} → o.len ≤ 4 → l ≡ from_fn 4 (place_polished poly o)
    → take o.len l ≡ polished_of 4 poly (from_fn o.len (ordered_at (list_of o)))
unfolding polished_of
all_polished poly o h e =
    ap (take o.len) e
    ∙ taken_made (place_polished poly o) (polished_in poly o) o.len 4 0 h (λ j l. rw (lt-ltb j o.len (omega arith)))
    ∙ sym (map_filled (polished_at 4 poly) (ordered_at (list_of o)) 0 o.len)

-- ---- polished place by place, in an array of four
module _ (poly : Scaled) (o : Roots) where
  -- place j, where the first k are polished
  abbrev half_polished : ℕ → ℕ → RealRoot
  half_polished k j = cond (ltb j k) (place_polished poly o j) (get_or o.root j blank)

  abbrev pub polished_up_to : ℕ → List RealRoot
  polished_up_to k = half_polished k 0 ∷ half_polished k 1 ∷ half_polished k 2 ∷ half_polished k 3 ∷ []

  pub polished_none : length o.root ≡ 4 → o.root ≡ polished_up_to 0
  polished_none four = of_four (λ (l : List RealRoot). l ≡ get_or l 0 blank ∷ get_or l 1 blank ∷ get_or l 2 blank ∷ get_or l 3 blank ∷ [])
      (λ a b c d. refl) o.root four

  pub polished_next : (k : ℕ) (x : RealRoot) → k < 4 → x ≡ place_polished poly o k → set (polished_up_to k) k x ≡ polished_up_to (k + 1)
  polished_next zero x h e = ap (λ (y : RealRoot). y ∷ half_polished 1 1 ∷ half_polished 1 2 ∷ half_polished 1 3 ∷ []) e
  polished_next (suc zero) x h e = ap (λ (y : RealRoot). half_polished 2 0 ∷ y ∷ half_polished 2 2 ∷ half_polished 2 3 ∷ []) e
  polished_next (suc (suc zero)) x h e = ap (λ (y : RealRoot). half_polished 3 0 ∷ half_polished 3 1 ∷ y ∷ half_polished 3 3 ∷ []) e
  polished_next (suc (suc (suc zero))) x h e = ap (λ (y : RealRoot). half_polished 4 0 ∷ half_polished 4 1 ∷ half_polished 4 2 ∷ y ∷ []) e
  polished_next (suc (suc (suc (suc k)))) x h e = absurd (omega (arith, h))

  -- a place that does not count is as it is
  half_is : (j : ℕ) → half_polished o.len j ≡ place_polished poly o j
  unfolding place_polished
  half_is j = go (ltb j o.len)
    where
      go : (b : Bool) → cond b (cond b (polished_at 4 poly (ordered_at (list_of o) j)) (get_or o.root j blank)) (get_or o.root j blank)
          ≡ cond b (polished_at 4 poly (ordered_at (list_of o) j)) (get_or o.root j blank)
      go true = refl
      go false = refl

  pub polished_all : (k : ℕ) {l : List RealRoot} → o.len ≤ 4 → k ≡ o.len → l ≡ polished_up_to k
      → take o.len l ≡ polished_of 4 poly (from_fn o.len (ordered_at (list_of o)))
  polished_all k h n e =
      all_polished poly o h
      (e ∙ rw n (λ i. half_is 0 i ∷ half_is 1 i ∷ half_is 2 i ∷ half_is 3 i ∷ []))

-- What the functions' proofs rest on.
pub ruleset gaps = (length_mapped, length_list, below_first, below_next, above_last, above_next)
