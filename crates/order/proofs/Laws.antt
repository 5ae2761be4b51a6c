-- The order of at most four keys: how it is made, one number after the other, and what is read through it: the sort of what is there.
use mathlib.Core.Path.{◌≡◌, refl, sym, ap, subst, ◌∙◌}
use mathlib.Core.Bool.{Bool, true, false, cond}
use mathlib.Core.List.{List, [], ◌∷◌, ◌++◌, map}
use Prim.Native.Nat.{ℕ, zero, suc, ◌+◌, ◌-◌, ◌≤◌, ◌<◌}
use native.Mathlib.Numerals.{add-one, one-add}
use native.Mathlib.Nat.{min-le_left}
use native.Mathlib.Omega.{arith}
use borrow.Rule.Slice.PartMut.{put_mid}
use lib.Dec.{ltb, eqb, leb}
use lib.ListN.{length, take, drop, get_or, length-append, length-map, length-take, get_or-map}
use lib.Seq.{take_at, drop-append-add, drop-cons, get_or-take, length-take-le}
use lib.Ieee.{Float, nan}
use Rattle.std.specs.List.{prefix_len}
use Rattle.std.proofs.lemmas.List.{get_or_default, get_or-drop}
use Rattle.std.proofs.lemmas.List.Sums.{prefix_len-le-length}
use Rattle.facts.specs.Lists.{AllOf, all_append, all_at, of_four}
use Rattle.facts.specs.Sort.{inserted_by, inserted_all, sorted_by}
use Rattle.facts.proofs.Sort.{length_sorted, all_sorted, sorted_same, map_sorted}
use Rattle.order.specs.Order.{numbers_from, keys_before, order_of, insertion_of, entry_of, Places}

-- ---- where i goes
-- a list read at a place of it
pub low_places : (at : List ℕ) (i k x : ℕ) → Places at → k < length (take i at) → x ≡ get_or (take i at) k x → x < 4
low_places at i k x P h e =
    let low : k < i = omega (arith, h, length-take i at, min-le_left i (length at)) in
    subst (λ (y : ℕ). y < 4) (sym (get_or-take i at k 0 low) ∙ get_or_default (take i at) k 0 x h ∙ sym e) (P k)

pub insertion_low : (before : Float → Float → Bool) (key : List Float) (at : List ℕ) (i : ℕ) → insertion_of before key at i ≤ i
unfolding insertion_of
insertion_low before key at i =
    omega (arith, prefix_len-le-length (λ j. keys_before before key j i) (take i at), length-take i at, min-le_left i (length at))

-- x inserted stands behind those before it
pub inserted_at : (before : ℕ → ℕ → Bool) (x : ℕ) (l : List ℕ)
    → take (prefix_len (λ y. before y x) l) l ++ x ∷ drop (prefix_len (λ y. before y x) l) l ≡ inserted_by before x l
unfolding inserted_by
inserted_at before x [] = refl
inserted_at before x (y ∷ l) = go (before y x) (prefix_len (λ z. before z x) l) (inserted_at before x l)
  where
    go : (b : Bool) (p : ℕ) → take p l ++ x ∷ drop p l ≡ inserted_by before x l
        → take (cond b (1 + p) 0) (y ∷ l) ++ x ∷ drop (cond b (1 + p) 0) (y ∷ l) ≡ cond b (y ∷ inserted_by before x l) (x ∷ y ∷ l)
    go true p e = rw (one-add p) (ap (λ (m : List ℕ). y ∷ m) e)
    go false p e = refl

-- i turned to place p from behind the first i: what a part of an array holds then
abbrev pub turned : List ℕ → List ℕ
turned m = drop (length m - 1) m ++ take (length m - 1) m

abbrev pub turned_in : List ℕ → ℕ → ℕ → List ℕ
turned_in at i p = put_mid p (i + 1 - p) at (turned (take (i + 1 - p) (drop p at)))

abbrev TurnedIn : ℕ → ℕ → List ℕ → Type 0
TurnedIn i p at = get_or at i 0 ≡ i → turned_in at i p ≡ (take p (take i at) ++ i ∷ drop p (take i at)) ++ drop (i + 1) at

turned_of : (i p : ℕ) → i < 4 → p ≤ i → (a b c d : ℕ) → TurnedIn i p (a ∷ b ∷ c ∷ d ∷ [])
turned_of zero zero h l a b c d e = ap (λ (x : ℕ). x ∷ b ∷ c ∷ d ∷ []) e
turned_of zero (suc p) h l a b c d e = absurd (omega (arith, l))
turned_of (suc zero) zero h l a b c d e = ap (λ (x : ℕ). x ∷ a ∷ c ∷ d ∷ []) e
turned_of (suc zero) (suc zero) h l a b c d e = ap (λ (x : ℕ). a ∷ x ∷ c ∷ d ∷ []) e
turned_of (suc zero) (suc (suc p)) h l a b c d e = absurd (omega (arith, l))
turned_of (suc (suc zero)) zero h l a b c d e = ap (λ (x : ℕ). x ∷ a ∷ b ∷ d ∷ []) e
turned_of (suc (suc zero)) (suc zero) h l a b c d e = ap (λ (x : ℕ). a ∷ x ∷ b ∷ d ∷ []) e
turned_of (suc (suc zero)) (suc (suc zero)) h l a b c d e = ap (λ (x : ℕ). a ∷ b ∷ x ∷ d ∷ []) e
turned_of (suc (suc zero)) (suc (suc (suc p))) h l a b c d e = absurd (omega (arith, l))
turned_of (suc (suc (suc zero))) zero h l a b c d e = ap (λ (x : ℕ). x ∷ a ∷ b ∷ c ∷ []) e
turned_of (suc (suc (suc zero))) (suc zero) h l a b c d e = ap (λ (x : ℕ). a ∷ x ∷ b ∷ c ∷ []) e
turned_of (suc (suc (suc zero))) (suc (suc zero)) h l a b c d e = ap (λ (x : ℕ). a ∷ b ∷ x ∷ c ∷ []) e
turned_of (suc (suc (suc zero))) (suc (suc (suc zero))) h l a b c d e = ap (λ (x : ℕ). a ∷ b ∷ c ∷ x ∷ []) e
turned_of (suc (suc (suc zero))) (suc (suc (suc (suc p)))) h l a b c d e = absurd (omega (arith, l))
turned_of (suc (suc (suc (suc i)))) p h l a b c d e = absurd (omega (arith, h))

pub turned_is : (at : List ℕ) (i p : ℕ) → length at ≡ 4 → i < 4 → p ≤ i → TurnedIn i p at
turned_is at i p four h l = of_four (TurnedIn i p) (turned_of i p h l) at four

-- what is turned is one of four places still
turned_low : (i p : ℕ) → i < 4 → p ≤ i → (a b c d : ℕ) → Places (a ∷ b ∷ c ∷ d ∷ []) → AllOf (λ (j : ℕ). j < 4) (turned_in (a ∷ b ∷ c ∷ d ∷ []) i p)
turned_low zero zero h l a b c d P = (P 0, (P 1, (P 2, (P 3, tt))))
turned_low zero (suc p) h l a b c d P = absurd (omega (arith, l))
turned_low (suc zero) zero h l a b c d P = (P 1, (P 0, (P 2, (P 3, tt))))
turned_low (suc zero) (suc zero) h l a b c d P = (P 0, (P 1, (P 2, (P 3, tt))))
turned_low (suc zero) (suc (suc p)) h l a b c d P = absurd (omega (arith, l))
turned_low (suc (suc zero)) zero h l a b c d P = (P 2, (P 0, (P 1, (P 3, tt))))
turned_low (suc (suc zero)) (suc zero) h l a b c d P = (P 0, (P 2, (P 1, (P 3, tt))))
turned_low (suc (suc zero)) (suc (suc zero)) h l a b c d P = (P 0, (P 1, (P 2, (P 3, tt))))
turned_low (suc (suc zero)) (suc (suc (suc p))) h l a b c d P = absurd (omega (arith, l))
turned_low (suc (suc (suc zero))) zero h l a b c d P = (P 3, (P 0, (P 1, (P 2, tt))))
turned_low (suc (suc (suc zero))) (suc zero) h l a b c d P = (P 0, (P 3, (P 1, (P 2, tt))))
turned_low (suc (suc (suc zero))) (suc (suc zero)) h l a b c d P = (P 0, (P 1, (P 3, (P 2, tt))))
turned_low (suc (suc (suc zero))) (suc (suc (suc zero))) h l a b c d P = (P 0, (P 1, (P 2, (P 3, tt))))
turned_low (suc (suc (suc zero))) (suc (suc (suc (suc p)))) h l a b c d P = absurd (omega (arith, l))
turned_low (suc (suc (suc (suc i)))) p h l a b c d P = absurd (omega (arith, h))

pub turned_places : (at part : List ℕ) (i p : ℕ) → length at ≡ 4 → Places at → i < 4 → p ≤ i
    → part ≡ turned (take (i + 1 - p) (drop p at)) → Places (put_mid p (i + 1 - p) at part)
turned_places at part i p four P h l e =
    λ k. all_at (λ (j : ℕ). j < 4) (put_mid p (i + 1 - p) at part) 0 k (λ out. omega arith)
    (subst (λ (m : List ℕ). AllOf (λ (j : ℕ). j < 4) (put_mid p (i + 1 - p) at m)) (sym e)
    (of_four (λ (m : List ℕ). Places m → AllOf (λ (j : ℕ). j < 4) (turned_in m i p)) (turned_low i p h l) at four P))

pub length_numbers : (i k : ℕ) → length (numbers_from i k) ≡ k
length_numbers i zero = refl
length_numbers i (suc k) = ap suc (length_numbers (i + 1) k)

pub all_numbers : (n i k : ℕ) → i + k ≤ n → AllOf (λ (j : ℕ). j < n) (numbers_from i k)
all_numbers n i zero h = tt
all_numbers n i (suc k) h = (omega arith, all_numbers n (i + 1) k (omega arith))

module _ (before : Float → Float → Bool) (key : List Float) where
  abbrev pub sorted_numbers : ℕ → List ℕ
  sorted_numbers n = sorted_by (keys_before before key) (numbers_from 0 n)

  length_sorted_numbers : (n : ℕ) → length (sorted_numbers n) ≡ n
  length_sorted_numbers n = length_sorted (keys_before before key) (numbers_from 0 n) ∙ length_numbers 0 n

  -- the first n are sorted
  pub take_order : (n : ℕ) → take n (order_of before key n) ≡ sorted_numbers n
  unfolding order_of
  take_order n = take_at (sorted_numbers n) (numbers_from n (4 - n)) n (length_sorted_numbers n)

  -- those behind the first n are where they are
  drop_order : (n k : ℕ) → drop (n + k) (order_of before key n) ≡ drop k (numbers_from n (4 - n))
  unfolding order_of
  drop_order n k =
      ap (λ (m : ℕ). drop (m + k) (order_of before key n)) (sym (length_sorted_numbers n)) ∙ drop-append-add (sorted_numbers n) (numbers_from n (4 - n)) k

  sorted_next : (i : ℕ) → i < 4 → inserted_by (keys_before before key) i (sorted_numbers i) ≡ sorted_numbers (i + 1)
  unfolding sorted_by inserted_all
  sorted_next zero h = refl
  sorted_next (suc zero) h = refl
  sorted_next (suc (suc zero)) h = refl
  sorted_next (suc (suc (suc zero))) h = refl
  sorted_next (suc (suc (suc (suc i)))) h = absurd (omega (arith, h))

  -- i is where it is
  order_next : (i : ℕ) → i < 4 → get_or (order_of before key i) i 0 ≡ i
  order_next i h =
      let left : 4 - i ≡ suc (4 - (i + 1)) = omega arith in
      sym (get_or-drop (i + 0) (order_of before key i) 0 0 ∙ ap (λ (k : ℕ). get_or (order_of before key i) k 0) (omega arith))
      ∙ rw (drop_order i 0, left) refl

  pub length_order : (n : ℕ) → n ≤ 4 → length (order_of before key n) ≡ 4
  unfolding order_of
  length_order n h =
      omega (arith, length-append (sorted_numbers n) (numbers_from n (4 - n)), length_sorted_numbers n, length_numbers n (4 - n))

  -- at the start no number is sorted, and each turn sorts one more
  pub order_none : order_of before key 0 ≡ 0 ∷ 1 ∷ 2 ∷ 3 ∷ []
  unfolding order_of sorted_by inserted_all
  order_none = refl

  inserted_turn : (at : List ℕ) (i p : ℕ) → i < 4 → at ≡ order_of before key i → p ≡ insertion_of before key at i
      → (take p (take i at) ++ i ∷ drop p (take i at)) ++ drop (i + 1) at ≡ order_of before key (i + 1)
  unfolding order_of insertion_of
  inserted_turn at i p h o e =
      let left : 4 - i ≡ suc (4 - (i + 1)) = omega arith in
      rw (e, inserted_at (keys_before before key) i (take i at), o, take_order i, drop_order i 1, left, sorted_next i h) refl

  pub order_turn : (at part : List ℕ) (i p : ℕ) → at ≡ order_of before key i → i < 4 → p ≡ insertion_of before key at i
      → part ≡ turned (take (i + 1 - p) (drop p at)) → put_mid p (i + 1 - p) at part ≡ order_of before key (i + 1)
  order_turn at part i p o h e t =
      let low : p ≤ i = omega (arith, e, insertion_low before key at i) in
      let here : get_or at i 0 ≡ i = rw o (order_next i h) in
      let four : length at ≡ 4 = rw o (length_order i (omega arith)) in
      ap (put_mid p (i + 1 - p) at) t ∙ turned_is at i p four h low here ∙ inserted_turn at i p h o e

  -- a turn as the definition has it: i inserted among the first i
  pub order_inserted : (i : ℕ) → i < 4
      → inserted_by (keys_before before key) i (take i (order_of before key i)) ++ drop (i + 1) (order_of before key i) ≡ order_of before key (i + 1)
  unfolding order_of
  order_inserted i h =
      let left : 4 - i ≡ suc (4 - (i + 1)) = omega arith in
      rw (take_order i, drop_order i 1, left, sorted_next i h)

  -- each entry is one of four
  pub order_places : (n : ℕ) → n ≤ 4 → Places (order_of before key n)
  unfolding order_of
  order_places n h =
      λ k. all_at (λ (j : ℕ). j < 4) (order_of before key n) 0 k (λ out. omega arith)
      (all_append (λ (j : ℕ). j < 4) (sorted_numbers n) (numbers_from n (4 - n))
      (all_sorted (keys_before before key) (λ (j : ℕ). j < 4) (numbers_from 0 n) (all_numbers 4 0 n (omega arith)))
      (all_numbers 4 n (4 - n) (omega arith)))

-- ---- i put in, entry by entry
abbrev pub entries_of : List ℕ → ℕ → ℕ → List ℕ
entries_of at i p = entry_of at i p 0 ∷ entry_of at i p 1 ∷ entry_of at i p 2 ∷ entry_of at i p 3 ∷ []

-- i put in at its place among the first i is i inserted: by i, and by which of them stand before it
module _ (before : Float → Float → Bool) (key : List Float) where
  -- (what is said of an array)
  abbrev Inserts : ℕ → List ℕ → Type 0
  Inserts i at = entries_of at i (insertion_of before key at i) ≡ inserted_by (keys_before before key) i (take i at) ++ drop (i + 1) at

  inserted_of : (i : ℕ) → i < 4 → (a b c d : ℕ) → Inserts i (a ∷ b ∷ c ∷ d ∷ [])
  unfolding insertion_of entry_of inserted_by
  inserted_of zero h a b c d = refl
  inserted_of (suc zero) h a b c d = go (keys_before before key a 1)
    where
      go : (x : Bool) → entries_of (a ∷ b ∷ c ∷ d ∷ []) 1 (cond x (1 + 0) 0) ≡ cond x (a ∷ 1 ∷ []) (1 ∷ a ∷ []) ++ c ∷ d ∷ []
      go true = refl
      go false = refl
  inserted_of (suc (suc zero)) h a b c d = go (keys_before before key a 2) (keys_before before key b 2)
    where
      go : (x y : Bool) → entries_of (a ∷ b ∷ c ∷ d ∷ []) 2 (cond x (1 + cond y (1 + 0) 0) 0)
          ≡ cond x (a ∷ cond y (b ∷ 2 ∷ []) (2 ∷ b ∷ [])) (2 ∷ a ∷ b ∷ []) ++ d ∷ []
      go true true = refl
      go true false = refl
      go false y = refl
  inserted_of (suc (suc (suc zero))) h a b c d = go (keys_before before key a 3) (keys_before before key b 3) (keys_before before key c 3)
    where
      go : (x y z : Bool) → entries_of (a ∷ b ∷ c ∷ d ∷ []) 3 (cond x (1 + cond y (1 + cond z (1 + 0) 0) 0) 0)
          ≡ cond x (a ∷ cond y (b ∷ cond z (c ∷ 3 ∷ []) (3 ∷ c ∷ [])) (3 ∷ b ∷ c ∷ [])) (3 ∷ a ∷ b ∷ c ∷ []) ++ []
      go true true true = refl
      go true true false = refl
      go true false z = refl
      go false y z = refl
  inserted_of (suc (suc (suc (suc i)))) h a b c d = absurd (omega (arith, h))

  pub inserted_entries : (at : List ℕ) (i : ℕ) → length at ≡ 4 → i < 4
      → entries_of at i (insertion_of before key at i) ≡ inserted_by (keys_before before key) i (take i at) ++ drop (i + 1) at
  inserted_entries at i e h = of_four (Inserts i) (inserted_of i h) at e

  pub entries_turn : (at next : List ℕ) (i p : ℕ) → at ≡ order_of before key i → i < 4 → p ≡ insertion_of before key at i
      → next ≡ entries_of at i p → next ≡ order_of before key (i + 1)
  entries_turn at next i p o h e n =
      let four : length at ≡ 4 = rw o (length_order before key i (omega arith)) in
      let turned : entries_of at i p ≡ inserted_by (keys_before before key) i (take i at) ++ drop (i + 1) at = rw e (inserted_entries at i four h) in
      n ∙ turned ∙ rw o (order_inserted before key i h)

-- an entry is one of four places still
pub entry_low : (at : List ℕ) (i p k : ℕ) → Places at → i < 4 → entry_of at i p k < 4
unfolding entry_of
entry_low at i p k P h = go (ltb k p) (eqb k p) (leb k i)
  where
    go : (a b c : Bool) → cond a (get_or at k 0) (cond b i (cond c (get_or at (k - 1) 0) (get_or at k 0))) < 4
    go true b c = P k
    go false true c = h
    go false false true = P (k - 1)
    go false false false = P k

pub entries_places : (at next : List ℕ) (i p : ℕ) → Places at → i < 4 → next ≡ entries_of at i p → Places next
entries_places at next i p P h n =
    λ k. all_at (λ (j : ℕ). j < 4) next 0 k (λ out. omega arith)
    (subst (AllOf (λ (j : ℕ). j < 4)) (sym n) (entry_low at i p 0 P h, (entry_low at i p 1 P h, (entry_low at i p 2 P h, (entry_low at i p 3 P h, tt)))))

-- What the proof of a sort by turns rests on.
pub ruleset orders = (order_none, order_turn, turned_places)

-- ---- reading through the order
module _ {A : Type 0} (a : List A) (d : A) where
  pub read_numbers : (i k : ℕ) → i + k ≤ length a → map (λ (j : ℕ). get_or a j d) (numbers_from i k) ≡ take k (drop i a)
  read_numbers i zero h = refl
  read_numbers i (suc k) h = rw (drop-cons a i d (omega arith), sym (add-one i)) (ap (λ (l : List A). get_or a i d ∷ l) (read_numbers (i + 1) k (omega arith)))

-- the first n of an array, read in the order of their keys, are the first n sorted by key
pub read_sorted : {A : Type 0} (before : Float → Float → Bool) (key : A → Float) (keys : List Float) (a : List A) (d : A) (n : ℕ) → n ≤ length a
    → ((i : ℕ) → i < n → get_or keys i nan ≡ key (get_or a i d))
    → map (λ (i : ℕ). get_or a i d) (take n (order_of before keys n)) ≡ sorted_by (λ x y. before (key x) (key y)) (take n a)
read_sorted {A} before key keys a d n h k =
    ap (map (λ (i : ℕ). get_or a i d)) (take_order before keys n ∙ sorted_same (λ (j : ℕ). j < n) (keys_before before keys) read same (numbers_from 0 n) all)
    ∙ map_sorted (λ (x y : A). before (key x) (key y)) (λ (i : ℕ). get_or a i d) (numbers_from 0 n)
    ∙ ap (sorted_by (λ (x y : A). before (key x) (key y))) (read_numbers a d 0 n (omega arith))
  where
    read : ℕ → ℕ → Bool
    read i j = before (key (get_or a i d)) (key (get_or a j d))

    all : AllOf (λ (j : ℕ). j < n) (numbers_from 0 n)
    all = all_numbers n 0 n (omega arith)

    same : (x y : ℕ) → x < n → y < n → keys_before before keys x y ≡ read x y
    same x y p q = rw (k x p, k y q)

-- ---- a turn of a loop that reads so
module _ {A : Type 0} (f : ℕ → A) where
  pub read_cons : (at : List ℕ) (n k : ℕ) → n ≤ length at → k < n → drop k (map f (take n at)) ≡ f (get_or at k 0) ∷ drop (k + 1) (map f (take n at))
  read_cons at n k h t =
      let e = length-map (take n at) f ∙ length-take-le n at h in
      rw (add-one k, drop-cons (map f (take n at)) k (f 0) (omega (arith, e)), get_or-map f (take n at) k 0, get_or-take n at k 0 t)
