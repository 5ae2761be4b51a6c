-- Whatever the replies: how many questions are asked, and what the finished list is.
use mathlib.Core.Path.{◌≡◌, refl}
use mathlib.Core.Bool.{Bool, true, false, cond, ◌&&◌}
use mathlib.Core.List.{List, [], ◌∷◌, ◌++◌}
use Prim.Native.Nat.{ℕ, zero, suc, ◌+◌, ◌*◌, ◌-◌, ◌≤◌}
use native.Mathlib.Omega.{arith}
use lib.Dec.{eqb}
use lib.IntN.{ℤ}
use lib.ListN.{length}
use lib.Ieee.{Float, binary64, add, sub, mul, lt}
use borrow.Author.Tests.{eqb-true, eqb-false}
use Rattle.facts.specs.Lists.{length_snoc, sum_snoc, all_snoc}
use Rattle.float.specs.Literals.{half64}
use Rattle.float.specs.Methods.{is_finite_of}
use Rattle.scaled.specs.declared.Scaled.{Scaled}
use Rattle.roots.specs.declared.RealRoot.{RealRoot}
use Rattle.roots.specs.declared.Pair.{Pair}
use Rattle.roots.specs.Listed.{multiplicities, Listed}
use Rattle.std.specs.Prelude.{Option, Some, None}
use Rattle.critical.specs.Critical.{extremum_of}
use Rattle.poly.specs.RealRoots.{unscaled_of}
use Rattle.asking.specs.Asking.{Asking, done, ask, ◌then◌, each}
use Rattle.asking.specs.Within.{EndsWithin}
use Rattle.asking.proofs.Within.{weaken, either_within, then_within, each_within}
use Rattle.touching.specs.declared.Chain.{Chain}
use Rattle.touching.specs.Touching.{touches_at, pair_order, reach_of, all_apart, apart_of, pair_item, pair_at, pair_turn, ordered, no_chain}
use Rattle.touching.specs.Touching.{opened_by, extended_by, contact_of, emitted, parted, link_at, item_turn, chained, touching}
use Rattle.touching.proofs.Lists.{length_by_value, multiplicities_by_value, length_pair_order}

length_ordered : (ps : List Pair) (its : List RealRoot) → length (ordered ps its) ≡ length its
unfolding ordered
length_ordered [] its = refl
length_ordered (p ∷ ps) its = length_by_value its

sum_ordered : (ps : List Pair) (its : List RealRoot) → multiplicities (ordered ps its) ≡ multiplicities its
unfolding ordered
sum_ordered [] its = refl
sum_ordered (p ∷ ps) its = multiplicities_by_value its

-- finite places, of multiplicity at least 1, that add to at most d
abbrev pub ListedIn : ℕ → List RealRoot → Type 0
ListedIn d l = Listed l × (multiplicities l ≤ d)

touches_within : (Q : ℕ → Bool → Type 0) (e : ℤ) (n : ℕ) (y : Float) → ((r : Bool) → Q n r) → Q (suc n) false → EndsWithin (suc n) (touches_at e y) Q
unfolding touches_at
touches_within Q e n y replied unasked = either_within Q (suc n) (is_finite_of (unscaled_of e y)) (ask (unscaled_of e y) done) (done false) replied unasked

-- a chain's root is added, or nothing is
emitted_keeps : (e : ℤ) (out : List RealRoot) (c : Chain) (d : ℕ) → ListedIn d out → ListedIn (d + c.mult) (emitted e out c)
unfolding emitted
emitted_keeps e out c d a = go (eqb c.mult 0) (is_finite_of x) refl refl
  where
    x : Float
    x = unscaled_of e (contact_of c)

    of_chain : RealRoot
    of_chain = record { value = x; multiplicity = c.mult; kind = c.kind }

    kept : ListedIn (d + c.mult) out
    kept = let s = a.1 in (a.0, omega arith)

    go : (b f : Bool) → eqb c.mult 0 ≡ b → is_finite_of x ≡ f → ListedIn (d + c.mult) (cond b out (cond f (out ++ of_chain ∷ []) out))
    go true f z h = kept
    go false false z h = kept
    go false true z h =
        let s = a.1 in
        let some = eqb-false c.mult 0 z in (
          all_snoc _ out of_chain a.0 (h, omega (arith, some)),
          omega (arith, sum_snoc (λ (r : RealRoot). r.multiplicity) out of_chain, s),
        )

module _ (poly : Scaled) (tol : Float) where
  -- while pairs are left: the items will be at most k, k - 1 questions are kept for their links, and a pair may add 2
  abbrev PairsLeft : ℕ → ℕ → ℕ → List RealRoot → List Pair → Type 0
  PairsLeft k d n its ps = (length its + length ps ≤ k) × (length ps + (k - 1) ≤ n) × (multiplicities its + 2 * length ps ≤ d)

  pair_within : (k d n : ℕ) (its : List RealRoot) (p : Pair) (ps : List Pair) → PairsLeft k d n its (p ∷ ps)
      → EndsWithin n (pair_turn poly tol its p) (λ m s. PairsLeft k d m s ps)
  unfolding pair_turn pair_at
  pair_within k d zero its p ps i = absurd (no i.1)
    where
      no : suc (length ps) + (k - 1) ≤ 0 → ⊥
      no h = omega arith
  pair_within k d (suc n) its p ps i =
      go (extremum_of poly p.centre (sub binary64 p.centre (reach_of p.centre p.half its))
      (add binary64 p.centre (reach_of p.centre p.half its)) tol)
    where
      Q : ℕ → List RealRoot → Type 0
      Q m s = PairsLeft k d m s ps

      same : Q (suc n) its
      same = (omega arith, omega arith, omega arith)

      more : (m : ℕ) (x : RealRoot) → n ≤ m → x.multiplicity ≤ 2 → Q m (its ++ x ∷ [])
      more m x h t =
          let a = length_snoc its x in
          let b = sum_snoc (λ (r : RealRoot). r.multiplicity) its x in
          (omega arith, omega arith, omega arith)

      go : (f : Option Float) → EndsWithin (suc n) (pair_at poly tol its f) Q
      go None = same
      go (Some y) =
          let then-add : Bool → Asking (List RealRoot) = λ r. done (its ++ pair_item y r ∷ []) in
          either_within Q (suc n) (all_apart (apart_of poly tol y) y its) (touches_at poly.e y then then-add) (done its)
          (then_within Q (suc n) (touches_at poly.e y) then-add
          (touches_within (λ m r. EndsWithin m (then-add r) Q) poly.e n y
          (elim [ true ↦ more n (pair_item y true) (omega arith) (omega arith) | false ↦ more n (pair_item y false) (omega arith) (omega arith) ])
          (more (suc n) (pair_item y false) (omega arith) (omega arith))))
          same

  -- while items are left: a link is asked about only where a chain is at hand, and what is left may add to the list
  abbrev ItemsLeft : ℕ → ℕ → Chain × List RealRoot → List RealRoot → Type 0
  ItemsLeft d n s its = (length its ≤ n + (1 - s.0.mult)) × Listed s.1 × (s.0.mult + (multiplicities its + multiplicities s.1) ≤ d)

  item_within : (d n : ℕ) (s : Chain × List RealRoot) (it : RealRoot) (its : List RealRoot) → ItemsLeft d n s (it ∷ its)
      → EndsWithin n (item_turn poly tol s it) (λ m s'. ItemsLeft d m s' its)
  unfolding item_turn link_at
  item_within d n (c, out) it its i = go (eqb it.multiplicity 0) (eqb c.mult 0) refl refl
    where
      Q : ℕ → Chain × List RealRoot → Type 0
      Q m s = ItemsLeft d m s its

      list : ListedIn (multiplicities out + c.mult) (emitted poly.e out c)
      list = emitted_keeps poly.e out c (multiplicities out) (i.1, omega arith)

      ends : Q n (no_chain, emitted poly.e out c)
      ends = let less = list.1 in (omega (arith, i.0), list.0, omega arith)

      parts : (n : ℕ) → length its ≤ n → Q n (parted poly.e out c it)
      parts n h = let less = list.1 in (omega arith, list.0, omega arith)

      grows : (n : ℕ) → length its ≤ n → (y : Float) → Q n (extended_by c it y, out)
      grows n h y = (omega arith, i.1, omega arith)

      linked : (n : ℕ) → suc (length its) ≤ n → (f : Option Float) → EndsWithin n (link_at poly.e out c it f) Q
      linked zero h f = absurd (no h)
        where
          no : suc (length its) ≤ 0 → ⊥
          no h = omega arith
      linked (suc n) h None = parts (suc n) (omega arith)
      linked (suc n) h (Some y) =
          let then-link : Bool → Asking (Chain × List RealRoot) = λ r. done (cond r (extended_by c it y, out) (parted poly.e out c it)) in
          either_within Q (suc n) (lt c.last y && lt y it.value) (touches_at poly.e y then then-link) (done (parted poly.e out c it))
          (then_within Q (suc n) (touches_at poly.e y) then-link
          (touches_within (λ m r. EndsWithin m (then-link r) Q) poly.e n y
          (elim [ true ↦ grows n (omega arith) y | false ↦ parts n (omega arith) ]) (parts (suc n) (omega arith))))
          (parts (suc n) (omega arith))

      between : Option Float
      between = extremum_of poly (mul binary64 half64 (add binary64 c.last it.value)) c.last it.value tol

      go : (b e : Bool) → eqb it.multiplicity 0 ≡ b → eqb c.mult 0 ≡ e
          → EndsWithin n (cond b (done (no_chain, emitted poly.e out c)) (cond e (done (opened_by it, out)) (link_at poly.e out c it between))) Q
      go true e h z = ends
      go false true h z =
          let none = eqb-true c.mult 0 z in
          let some = eqb-false it.multiplicity 0 h in
          (omega (arith, i.0, none, some), i.1, omega arith)
      go false false h z = let some = eqb-false c.mult 0 z in linked n (omega (arith, i.0, some)) between

  chained_within : (d n : ℕ) (its : List RealRoot) → length its ≤ n + 1 → multiplicities its ≤ d → EndsWithin n (chained poly tol its) (λ m l. ListedIn d l)
  unfolding chained
  chained_within d n its h s =
      let close : Chain × List RealRoot → Asking (List RealRoot) = λ u. done (emitted poly.e u.1 u.0) in
      then_within (λ m l. ListedIn d l) n (each (item_turn poly tol) (no_chain, []) its) close
      (weaken (λ m u. ItemsLeft d m u []) (λ m u. EndsWithin m (close u) (λ m' l. ListedIn d l)) n (each (item_turn poly tol) (no_chain, []) its) finish
      (each_within (item_turn poly tol) (ItemsLeft d) (item_within d) its n (no_chain, []) (h, tt, omega arith)))
    where
      finish : (m : ℕ) (u : Chain × List RealRoot) → ItemsLeft d m u [] → ListedIn d (emitted poly.e u.1 u.0)
      finish m (c, out) i = let l = emitted_keeps poly.e out c (multiplicities out) (i.1, omega arith) in let t = l.1 in (l.0, omega arith)

  -- R roots and P pairs: at most R + 2 P - 1 questions, 0 where there are none; and the list adds to at most the roots and two for each pair
  pub touching_within : (roots : List RealRoot) (pairs : List Pair)
      → EndsWithin ((length roots + 2 * length pairs) - 1) (touching poly tol roots pairs) (λ m l. ListedIn (multiplicities roots + 2 * length pairs) l)
  unfolding touching
  touching_within roots pairs =
      let next : List RealRoot → Asking (List RealRoot) = λ its. chained poly tol (ordered pairs its) in
      let same = length_pair_order pairs in
      then_within (λ m l. ListedIn d l) n (each (pair_turn poly tol) roots (pair_order pairs)) next
      (weaken (λ m s. PairsLeft k d m s []) (λ m s. EndsWithin m (next s) (λ m' l. ListedIn d l)) n (each (pair_turn poly tol) roots (pair_order pairs)) after
      (each_within (pair_turn poly tol) (PairsLeft k d) (pair_within k d) (pair_order pairs) n roots (omega arith, omega arith, omega arith)))
    where
      n : ℕ
      n = (length roots + 2 * length pairs) - 1

      k : ℕ
      k = length roots + length pairs

      d : ℕ
      d = multiplicities roots + 2 * length pairs

      after : (m : ℕ) (s : List RealRoot) → PairsLeft k d m s [] → EndsWithin m (chained poly tol (ordered pairs s)) (λ m' l. ListedIn d l)
      after m s i =
          let a = length_ordered pairs s in
          let b = sum_ordered pairs s in
          chained_within d m (ordered pairs s) (omega arith) (omega arith)
