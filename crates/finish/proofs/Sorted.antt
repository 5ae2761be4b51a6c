-- The places in the order of their values by insertion: one root put in its place, and k places and then one more; and k places polished.
use mathlib.Core.Path.{◌≡◌, refl, sym, ap, ◌∙◌}
use mathlib.Core.Bool.{Bool, true, false}
use mathlib.Core.List.{List, [], ◌∷◌, ◌++◌, map}
use Prim.Native.Nat.{ℕ, zero, suc, ◌+◌, ◌≤◌, ◌<◌}
use native.Mathlib.Numerals.{add-one}
use native.Mathlib.Omega.{arith}
use lib.ListN.{length, get_or, take, drop, drop_of_length-le}
use lib.Seq.{take-suc, length-take-le}
use Rattle.facts.specs.Arrays.{fill_from, from_fn}
use Rattle.facts.specs.Cond.{either_way}
use Rattle.facts.specs.Lists.{drop_next}
use Rattle.facts.specs.Sort.{inserted_by, inserted_all, sorted_by}
use Rattle.facts.proofs.Sort.{length_sorted}
use Rattle.float.specs.Methods.{total_le_of}
use Rattle.roots.specs.Roots.{list_of}
use Rattle.roots.specs.Listed.{blank, Fits}
use Rattle.roots.specs.declared.RealRoot.{RealRoot}
use Rattle.roots.specs.declared.Roots.{Roots}
use Rattle.finish.specs.Finish.{by_value, ordered_at, polished_at, polished_of}
use Rattle.scaled.specs.declared.Scaled.{Scaled}

-- x put behind those of l that stand before it, ties among them
abbrev pub inserted : RealRoot → List RealRoot → List RealRoot
inserted x l = inserted_by (λ a b. total_le_of a.value b.value) x l

-- ---- a list, read place by place
read_left : (l : List RealRoot) (i k : ℕ) → i + k ≡ length l
    → fill_from i k (λ j. get_or l j blank) ≡ drop i l
read_left l i zero e = sym (drop_of_length-le l {i = i} (omega arith))
read_left l i (suc k) e =
    ap (λ (m : List RealRoot). get_or l i blank ∷ m) (read_left l (i + 1) k (omega arith))
    ∙ sym (drop_next l i blank (omega arith))

-- the first n places of an array
abbrev pub places_of : ℕ → List RealRoot → List RealRoot
places_of n l = from_fn n (λ k. get_or l k blank)

read_all : (l : List RealRoot) (n : ℕ) → length l ≡ n → places_of n l ≡ l
read_all l n e = read_left l 0 n (omega arith)

-- ---- in order: one root put in its place
length_inserted : (x : RealRoot) (l : List RealRoot) → length (inserted x l) ≡ suc (length l)
unfolding inserted_by
length_inserted x [] = refl
length_inserted x (y ∷ l) =
    either_way (λ (m : List RealRoot). length m ≡ suc (suc (length l))) (total_le_of y.value x.value) (ap suc (length_inserted x l)) refl

module _ (a x : RealRoot) (l : List RealRoot) where
  pub put_before : total_le_of a.value x.value ≡ false → x ∷ a ∷ l ≡ inserted x (a ∷ l)
  unfolding inserted_by
  put_before t = simp t

  -- behind the first, where rest has x put among the others
  pub put_behind : (rest : List RealRoot) → total_le_of a.value x.value ≡ true → rest ≡ inserted x l
      → a ∷ places_of (suc (length l)) rest ≡ inserted x (a ∷ l)
  unfolding inserted_by
  put_behind rest t e =
      simp t (ap (λ (m : List RealRoot). a ∷ m) (read_all rest (suc (length l)) (ap length e ∙ length_inserted x l) ∙ e))

-- ---- in order: k places, and then one more
sorted_snoc : {A : Type 0} (before : A → A → Bool) (s l : List A) (x : A)
    → inserted_all before s (l ++ x ∷ []) ≡ inserted_by before x (inserted_all before s l)
unfolding inserted_all
sorted_snoc before s [] x = refl
sorted_snoc before s (y ∷ l) x = sorted_snoc before (inserted_by before y s) l x

module _ (l : List RealRoot) where
  -- s has the first k places in order
  abbrev Sorted : ℕ → List RealRoot → Type 0
  Sorted k s = s ≡ by_value (take k l)

  length_of_sorted : (k : ℕ) (s : List RealRoot) → k ≤ length l → Sorted k s → length s ≡ k
  unfolding by_value
  length_of_sorted k s h e = ap length e ∙ length_sorted _ (take k l) ∙ length-take-le k l h

  -- one place more, and the first by itself
  pub next_sorted : (k : ℕ) {s t : List RealRoot} → k < length l → Sorted k s
      → t ≡ inserted (get_or l k blank) (places_of k s) → Sorted (k + 1) t
  unfolding by_value sorted_by
  next_sorted k {s} h e f =
      f
      ∙ ap (inserted (get_or l k blank)) (read_all s k (length_of_sorted k s (omega arith) e) ∙ e)
      ∙ sym (sorted_snoc _ [] (take k l) (get_or l k blank))
      ∙ ap by_value (sym (take-suc l k blank h) ∙ ap (λ (j : ℕ). take j l) (sym (add-one k)))

  pub first_sorted : 0 < length l → Sorted 1 (get_or l 0 blank ∷ [])
  unfolding by_value sorted_by inserted_all inserted_by
  first_sorted h = next_sorted 0 {s = []} h refl refl

-- all places that count
pub few_sorted : (l : List RealRoot) → length l < 2 → l ≡ by_value l
unfolding by_value sorted_by inserted_all inserted_by
few_sorted [] h = refl
few_sorted (a ∷ []) h = refl
few_sorted (a ∷ b ∷ l) h = absurd (omega arith)

pub places_sorted : (c : Roots) (k : ℕ) {s : List RealRoot} → Fits c → c.len ≡ k
    → Sorted c.root k s → (places_of k s ≡ by_value (list_of c)) × (k ≡ c.len)
places_sorted c k {s} f n e =
    let four = f.0 in
    let most = f.1 in
    (read_all s k (length_of_sorted c.root k s (omega arith) e) ∙ e ∙ ap (λ (j : ℕ). by_value (take j c.root)) (sym n), sym n)

-- ---- polished: all of them
map_filled : {A B : Type 0} (h : A → B) (f : ℕ → A) (i k : ℕ)
    → map h (fill_from i k f) ≡ fill_from i k (λ j. h (f j))
map_filled h f i zero = refl
map_filled {A} {B} h f i (suc k) = ap (λ (m : List B). h (f i) ∷ m) (map_filled h f (i + 1) k)

module _ (poly : Scaled) (o : Roots) where
  abbrev polished_in : ℕ → RealRoot
  polished_in k = polished_at 4 poly (ordered_at (list_of o) k)

  pub all_polished : (k : ℕ) {l : List RealRoot} → o.len ≡ k → l ≡ from_fn k polished_in
      → (l ≡ polished_of 4 poly (from_fn o.len (ordered_at (list_of o)))) × (k ≡ o.len)
  unfolding polished_of
  all_polished k n e = (
    e ∙ sym (map_filled (polished_at 4 poly) (ordered_at (list_of o)) 0 k) ∙ ap (λ (j : ℕ). polished_of 4 poly (from_fn j (ordered_at (list_of o)))) (sym n),
    sym n,
  )
