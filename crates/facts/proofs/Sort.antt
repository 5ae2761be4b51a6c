-- The laws of a stable sort: what it keeps, that it goes by what the test says of the items, and places sorted by their keys.
use Rattle.std.specs.Prelude.{◌≡◌, Bool}
use Rattle.std.proofs.Math.Path.{refl, ap}
use Rattle.std.proofs.Common.{◌∙◌}
use Rattle.std.proofs.Math.Bool.{true, false, cond}
use mathlib.Core.List.{List, [], ◌∷◌, map}
use Prim.Native.Nat.{ℕ, suc, ◌+◌}
use native.Mathlib.Omega.{arith}
use Rattle.std.proofs.Math.ListN.{length}
use Rattle.facts.specs.Cond.{either_way}
use Rattle.facts.specs.Lists.{sum_of, AllOf}
use Rattle.facts.specs.Sort.{inserted_by, inserted_all, sorted_by}

-- ---- what it keeps
module _ {A : Type 0} (before : A → A → Bool) where
  length_inserted : (x : A) (l : List A) → length (inserted_by before x l) ≡ suc (length l)
  unfolding inserted_by
  length_inserted x [] = refl
  length_inserted x (y ∷ l) = either_way (λ (m : List A). length m ≡ suc (suc (length l))) (before y x) (ap suc (length_inserted x l)) refl

  length_all : (s l : List A) → length (inserted_all before s l) ≡ length s + length l
  unfolding inserted_all
  length_all s [] = omega arith
  length_all s (x ∷ l) = omega (arith, length_all (inserted_by before x s) l, length_inserted x s)

  pub length_sorted : (l : List A) → length (sorted_by before l) ≡ length l
  unfolding sorted_by
  length_sorted l = length_all [] l ∙ omega arith

  sum_inserted : (size : A → ℕ) (x : A) (l : List A) → sum_of size (inserted_by before x l) ≡ size x + sum_of size l
  unfolding inserted_by
  sum_inserted size x [] = refl
  sum_inserted size x (y ∷ l) =
      either_way (λ (m : List A). sum_of size m ≡ size x + (size y + sum_of size l)) (before y x) (omega (arith, sum_inserted size x l)) (omega arith)

  sum_all : (size : A → ℕ) (s l : List A) → sum_of size (inserted_all before s l) ≡ sum_of size s + sum_of size l
  unfolding inserted_all
  sum_all size s [] = omega arith
  sum_all size s (x ∷ l) = omega (arith, sum_all size (inserted_by before x s) l, sum_inserted size x s)

  pub sum_sorted : (size : A → ℕ) (l : List A) → sum_of size (sorted_by before l) ≡ sum_of size l
  unfolding sorted_by
  sum_sorted size l = sum_all size [] l ∙ omega arith

  pub all_inserted : (P : A → Type 0) (x : A) (l : List A) → P x → AllOf P l → AllOf P (inserted_by before x l)
  unfolding inserted_by
  all_inserted P x [] p h = (p, tt)
  all_inserted P x (y ∷ l) p h = either_way (AllOf P) (before y x) (h.0, all_inserted P x l p h.1) (p, h)

  all_all : (P : A → Type 0) (s l : List A) → AllOf P s → AllOf P l → AllOf P (inserted_all before s l)
  unfolding inserted_all
  all_all P s [] g h = g
  all_all P s (x ∷ l) g h = all_all P (inserted_by before x s) l (all_inserted P x s h.0 g) h.1

  pub all_sorted : (P : A → Type 0) (l : List A) → AllOf P l → AllOf P (sorted_by before l)
  unfolding sorted_by
  all_sorted P l h = all_all P [] l tt h

-- ---- it goes by what the test says of the items
module _ {A : Type 0} (P : A → Type 0) (f g : A → A → Bool) (same : (x y : A) → P x → P y → f x y ≡ g x y) where
  inserted_same : (x : A) (l : List A) → P x → AllOf P l → inserted_by f x l ≡ inserted_by g x l
  unfolding inserted_by
  inserted_same x [] p h = refl
  inserted_same x (y ∷ l) p h = rw (same y x h.0 p, inserted_same x l p h.1)

  all_same : (s l : List A) → AllOf P s → AllOf P l → inserted_all f s l ≡ inserted_all g s l
  unfolding inserted_all
  all_same s [] a b = refl
  all_same s (x ∷ l) a b =
      ap (λ (m : List A). inserted_all f m l) (inserted_same x s b.0 a) ∙ all_same (inserted_by g x s) l (all_inserted g P x s b.0 a) b.1

  pub sorted_same : (l : List A) → AllOf P l → sorted_by f l ≡ sorted_by g l
  unfolding sorted_by
  sorted_same l h = all_same [] l tt h

-- ---- places in the order of their keys, and then what is there
module _ {A B : Type 0} (before : B → B → Bool) (read : A → B) where
  abbrev by_key : A → A → Bool
  by_key i j = before (read i) (read j)

  map_inserted : (x : A) (l : List A) → map read (inserted_by by_key x l) ≡ inserted_by before (read x) (map read l)
  unfolding inserted_by
  map_inserted x [] = refl
  map_inserted x (y ∷ l) = go (by_key y x) (inserted_by by_key x l) (inserted_by before (read x) (map read l)) (map_inserted x l)
    where
      go : (b : Bool) (m : List A) (n : List B) → map read m ≡ n → map read (cond b (y ∷ m) (x ∷ y ∷ l)) ≡ cond b (read y ∷ n) (read x ∷ read y ∷ map read l)
      go true m n i = ap (λ (t : List B). read y ∷ t) i
      go false m n i = refl

  map_all : (s l : List A) → map read (inserted_all by_key s l) ≡ inserted_all before (map read s) (map read l)
  unfolding inserted_all
  map_all s [] = refl
  map_all s (x ∷ l) = map_all (inserted_by by_key x s) l ∙ ap (λ (m : List B). inserted_all before m (map read l)) (map_inserted x s)

  pub map_sorted : (l : List A) → map read (sorted_by (λ i j. before (read i) (read j)) l) ≡ sorted_by before (map read l)
  unfolding sorted_by
  map_sorted l = map_all [] l
