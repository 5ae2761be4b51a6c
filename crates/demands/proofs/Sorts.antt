-- A stable sort by a total order: places are put in one after the other, each larger than those before it, and stand rightly at every turn.
use mathlib.Core.Path.{◌≡◌, refl, sym, ap, ap₂, ◌∙◌, subst}
use mathlib.Core.Logic.{◌⊎◌, ⊎_elim}
use mathlib.Core.Bool.{Bool, true, false, cond, true≢false}
use mathlib.Core.List.{List, [], ◌∷◌, map}
use Prim.Native.Nat.{ℕ, zero, suc, ◌+◌, ◌≤◌, ◌<◌}
use native.Mathlib.Omega.{arith}
use lib.ListN.{length, take, get_or, length-map}
use lib.Seq.{take-length, get_or-take, length-take-le}
use lib.Ieee.{Float, nan}
use Rattle.facts.specs.Lists.{AllOf, all_at}
use Rattle.facts.specs.Sort.{inserted_by, inserted_all, sorted_by}
use Rattle.facts.proofs.Sort.{length_sorted, all_inserted, all_sorted, map_sorted}
use Rattle.order.specs.Order.{numbers_from, order_of}
use Rattle.order.proofs.Laws.{length_numbers, all_numbers, read_numbers, take_order}
use Rattle.demands.specs.Demands.{Sorted}

all_weaker : {A : Type 0} (P Q : A → Type 0) → ((x : A) → P x → Q x) → (l : List A) → AllOf P l → AllOf Q l
all_weaker P Q f [] h = tt
all_weaker P Q f (x ∷ l) h = (f x h.0, all_weaker P Q f l h.1)

map_at : {A B : Type 0} (f : A → B) (l : List A) (k : ℕ) (d : A) (c : B) → k < length l → get_or (map f l) k c ≡ f (get_or l k d)
map_at f [] k d c h = absurd (omega (arith, h))
map_at f (x ∷ l) zero d c h = refl
map_at f (x ∷ l) (suc k) d c h = map_at f l k d c (omega arith)

module _ {A : Type 0} (before : A → A → Bool) (either : (x y : A) → (before x y ≡ true) ⊎ (before y x ≡ true))
    (onward : (x y z : A) → before x y ≡ true → before y z ≡ true → before x z ≡ true) (l : List A) (none : A) where
  abbrev read : ℕ → A
  read i = get_or l i none

  abbrev by_key : ℕ → ℕ → Bool
  by_key i j = before (read i) (read j)

  -- i stands rightly before j
  abbrev Right : ℕ → ℕ → Type 0
  Right i j = (by_key i j ≡ true) × (by_key j i ≡ true → i < j)

  abbrev AllRight : List ℕ → Type 0
  AllRight [] = Unit {0}
  AllRight (i ∷ p) = AllOf (Right i) p × AllRight p

  -- x goes before y and so before all that y stands before
  ahead : (x y : ℕ) → by_key y x ≡ false → (z : ℕ) → Right y z → Right x z
  ahead x y e z r = (
    onward (read x) (read y) (read z) (⊎_elim (λ t. t) (λ t. absurd (true≢false (sym t ∙ e))) (either (read x) (read y))) r.0,
    λ t. absurd (true≢false (sym (onward (read y) (read z) (read x) r.0 t) ∙ e)),
  )

  itself : (x : ℕ) → by_key x x ≡ true
  itself x = ⊎_elim (λ t. t) (λ t. t) (either (read x) (read x))

  right_inserted : (x : ℕ) (p : List ℕ) → AllOf (λ i. i < x) p → AllRight p → AllRight (inserted_by by_key x p)
  unfolding inserted_by
  right_inserted x [] h g = (tt, tt)
  right_inserted x (y ∷ p) h g = go (by_key y x) refl (right_inserted x p h.1 g.1)
    where
      go : (b : Bool) → by_key y x ≡ b → AllRight (inserted_by by_key x p) → AllRight (cond b (y ∷ inserted_by by_key x p) (x ∷ y ∷ p))
      go true e r = (all_inserted by_key (Right y) x p (e, λ t. h.0) g.0, r)
      go false e r =
          let first : Right x y = (⊎_elim (λ t. t) (λ t. absurd (true≢false (sym t ∙ e))) (either (read x) (read y)), λ t. absurd (true≢false (sym t ∙ e))) in
          ((first, all_weaker (Right y) (Right x) (ahead x y e) p g.0), g)

  right_all : (k i : ℕ) (p : List ℕ) → AllOf (λ j. j < i) p → AllRight p → AllRight (inserted_all by_key p (numbers_from i k))
  unfolding inserted_all
  right_all zero i p h g = g
  right_all (suc k) i p h g =
      right_all k (i + 1) (inserted_by by_key i p)
      (all_inserted by_key (λ j. j < i + 1) i p (omega arith) (all_weaker (λ j. j < i) (λ j. j < i + 1) (λ j t. omega (arith, t)) p h))
      (right_inserted i p h g)

  right_at : (p : List ℕ) → AllRight p → (i j : ℕ) → i < j → j < length p → Right (get_or p i 0) (get_or p j 0)
  right_at [] g i j h t = absurd (omega (arith, t))
  right_at (a ∷ p) g i zero h t = absurd (omega (arith, h))
  right_at (a ∷ p) g zero (suc j) h t = all_at (Right a) p 0 j (λ out. absurd (omega (arith, out, t))) g.0
  right_at (a ∷ p) g (suc i) (suc j) h t = right_at p g.1 i j (omega arith) (omega arith)

  -- the places of the first n, sorted
  module _ (n : ℕ) (fits : n ≤ length l) where
    abbrev places : List ℕ
    places = sorted_by by_key (numbers_from 0 n)

    long : length places ≡ n
    long = length_sorted by_key (numbers_from 0 n) ∙ length_numbers 0 n

    right : (i j : ℕ) → i < j → j < n → Right (get_or places i 0) (get_or places j 0)
    unfolding sorted_by
    right i j h t = right_at places (right_all n 0 [] tt tt) i j h (omega (arith, long))

    inside : (k : ℕ) → k < n → get_or places k 0 < n
    inside k h =
        all_at (λ j. j < n) places 0 k (λ out. absurd (omega (arith, out, long, h)))
        (all_sorted by_key (λ j. j < n) (numbers_from 0 n) (all_numbers n 0 n (omega arith)))

    pub sorted_by_places : (place : ℕ → ℕ) → ((k : ℕ) → k < n → place k ≡ get_or places k 0) → Sorted before none place (take n l) (map read places)
    sorted_by_places place is =
        let taken = length-take-le n l fits in
        let item : (k : ℕ) → k < n → get_or (map read places) k none ≡ read (get_or places k 0) = λ k h. map_at read places k 0 none (omega (arith, long)) in
        record {
          long = length-map places read ∙ long ∙ sym taken;
          from = λ k h.
              let m : k < n = omega (arith, taken) in (
                rw (is k m) (omega (arith, inside k m, taken)),
                item k m ∙ sym (get_or-take n l (get_or places k 0) none (inside k m)) ∙ ap (λ (i : ℕ). get_or (take n l) i none) (sym (is k m)),
              );
          once = λ i j h t e.
              let m : j < n = omega (arith, taken) in
              let q : get_or places i 0 ≡ get_or places j 0 = sym (is i (omega arith)) ∙ e ∙ is j m in
              let r = (right i j h m).1 (subst (λ (a : ℕ). by_key (get_or places j 0) a ≡ true) (sym q) (itself (get_or places j 0))) in
              omega (arith, q, r);
          rises = λ i j h t. let m : j < n = omega (arith, taken) in ap₂ before (item i (omega arith)) (item j m) ∙ (right i j h m).0;
          ties = λ i j h t e.
              let m : j < n = omega (arith, taken) in
              let r = (right i j h m).1 (sym (ap₂ before (item j m) (item i (omega arith))) ∙ e) in
              rw (is i (omega arith), is j m) r;
        }

  -- a whole list
  pub sorted_whole : (place : ℕ → ℕ) × Sorted before none place l (sorted_by before l)
  sorted_whole =
      let n = length l in
      let p = places n (omega arith) in (
        λ k. get_or p k 0,
        subst (λ (m : List A). Sorted before none (λ k. get_or p k 0) m (sorted_by before m)) (take-length l)
            (subst (Sorted before none (λ k. get_or p k 0) (take n l))
            (map_sorted before read (numbers_from 0 n) ∙ ap (sorted_by before) (read_numbers l none 0 n (omega arith)))
            (sorted_by_places n (omega arith) (λ k. get_or p k 0) (λ k h. refl))),
      )

-- the first n keys, by an order of their places
pub sorted_keys : (before : Float → Float → Bool) (either : (x y : Float) → (before x y ≡ true) ⊎ (before y x ≡ true))
    (onward : (x y z : Float) → before x y ≡ true → before y z ≡ true → before x z ≡ true) (key : List Float) (n : ℕ) → n ≤ length key
    → let at = order_of before key n in Sorted before nan (λ k. get_or at k 0) (take n key) (map (λ i. get_or key i nan) (take n at))
sorted_keys before either onward key n h =
    let at = order_of before key n in
    let is = take_order before key n in
    subst (λ (p : List ℕ). Sorted before nan (λ k. get_or at k 0) (take n key) (map (λ i. get_or key i nan) p)) (sym is)
    (sorted_by_places before either onward key nan n h (λ k. get_or at k 0) (λ k t. sym (get_or-take n at k 0 t) ∙ ap (λ (p : List ℕ). get_or p k 0) is))
