-- The order of at most four keys, as numbers of places: the sorts of factorize and finish in poly.rs; ties stay in their earlier order. Definitions only.
use Rattle.std.specs.Prelude.{◌≡◌, Bool, cond, List, ◌++◌, ℕ, ◌-◌, ◌<◌, ltb, eqb, leb, take, get_or, Float}
use Rattle.std.specs.List.{prefix_len}
use Rattle.std.specs.Float.{nan}
use Rattle.facts.specs.Arrays.{fill_from}
use Rattle.facts.specs.Sort.{sorted_by}
use Rattle.float.specs.Methods.{total_le_of}

-- k numbers from i on
abbrev pub numbers_from : ℕ → ℕ → List ℕ
numbers_from i k = fill_from i k (λ j. j)

module _ (before : Float → Float → Bool) (key : List Float) where
  -- place i goes before place j, or is level with it
  abbrev pub keys_before : ℕ → ℕ → Bool
  keys_before i j = before (get_or key i nan) (get_or key j nan)

  -- the numbers 0..n in the order of their keys, and those from n on where they are
  unfoldable pub order_of : ℕ → List ℕ
  order_of n = sorted_by keys_before (numbers_from 0 n) ++ numbers_from n (4 - n)

-- `units[..nu].sort_unstable_by(|a, b| b.0.total_cmp(&a.0));`, where ties stay in their earlier order; NaN is first
unfoldable pub falling_of : List Float → ℕ → List ℕ
falling_of key n = order_of (λ a b. total_le_of b a) key n

-- ---- what the functions say of each other
-- what a test may give at a and b is what f gives there
abbrev pub Tells : (Float → Float → Bool → Type 0) → (Float → Float → Bool) → Type 0
Tells post f = (a b : Float) (r : _) → post a b r → r ≡ f a b

-- where i goes among the first i numbers: behind those that stand before it, up to the first that does not
unfoldable pub insertion_of : (Float → Float → Bool) → List Float → List ℕ → ℕ → ℕ
insertion_of before key at i = prefix_len (λ j. keys_before before key j i) (take i at)

-- entry k, once i is put in at p and those from there on have gone one further
unfoldable pub entry_of : List ℕ → ℕ → ℕ → ℕ → ℕ
entry_of at i p k = cond (ltb k p) (get_or at k 0) (cond (eqb k p) i (cond (leb k i) (get_or at (k - 1) 0) (get_or at k 0)))

-- each is the number of one of four places
abbrev pub Places : List ℕ → Type 0
Places at = (k : ℕ) → get_or at k 0 < 4
