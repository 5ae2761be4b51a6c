-- A walk with kinds is the walk of `Formed` with kinds put on: each place has the kind of its multiplicity and of whether a yes is among its questions.
use mathlib.Core.Path.{◌≡◌, refl, sym, ap, ◌∙◌}
use mathlib.Core.Bool.{Bool, true, false, cond, ◌&&◌, ◌||◌}
use mathlib.Core.List.{List, [], ◌∷◌, ◌++◌, map}
use Prim.Native.Nat.{ℕ, ◌+◌, ◌≤◌}
use native.Mathlib.Omega.{arith}
use lib.Dec.{eqb}
use lib.Ieee.{Float, lt}
use borrow.Author.Tests.{eqb-false, ne_eqb}
use Rattle.facts.specs.Lists.{AllOf}
use Rattle.facts.proofs.Sort.{map_sorted}
use Rattle.float.specs.Methods.{is_finite_of, total_le_of}
use Rattle.float.specs.Rounded.{◌+ᶠ◌, ◌-ᶠ◌, ◌*ᶠ◌}
use Rattle.float.specs.Literals.{half64}
use Rattle.scaled.specs.declared.Scaled.{Scaled}
use Rattle.roots.specs.declared.RealRoot.{RealRoot}
use Rattle.roots.specs.declared.RootKind.{RootKind}
use Rattle.roots.specs.declared.RootKind.TheVariants.{Brush}
use Rattle.roots.specs.declared.Pair.{Pair}
use Rattle.roots.specs.Roots.{kind_of, root_by, root}
use Rattle.std.specs.Prelude.{Option, Some, None}
use Rattle.critical.specs.Critical.{extremum_of}
use Rattle.poly.specs.RealRoots.{unscaled_of}
use Rattle.finish.specs.Finish.{by_value}
use Rattle.asking.specs.Asking.{Asking, done, ask, ◌then◌, each}
use Rattle.touching.specs.declared.Chain.{Chain}
use Rattle.touching.specs.Touching.{touches_at, pair_order, reach_of, all_apart, apart_of, pair_item, pair_at, pair_turn, ordered}
use Rattle.touching.specs.Touching.{no_chain, opened_by, extended_by, contact_of, emitted, parted, link_at, item_turn, chained, touching}
use Rattle.demands.proofs.Loops.{then_assoc}
use Rattle.demands.specs.Formed.{Formed, unasked, item_of, Joined, nothing_joined, begun_by, linked_to, contact_by, ended_with}
use Rattle.demands.specs.Formed.{touches_by, paired_by, pairs_by, parted_by, linked_by, joined_by, chains_by, sorted_items, formed_by, listed_by}

-- ---- read by the replies in their order: how many questions were asked, and the end
module _ {A : Type 0} (reply : ℕ → Bool) where
  unfoldable pub numbered : ℕ → Asking A → ℕ × A
  numbered n (done a) = (n, a)
  numbered n (ask x k) = numbered (n + 1) (k (reply n))

numbered_then : {A B : Type 0} (reply : ℕ → Bool) (n : ℕ) (t : Asking A) (k : A → Asking B) (m : ℕ) (a : A) → numbered reply n t ≡ (m, a)
    → numbered reply n (t then k) ≡ numbered reply m (k a)
unfolding numbered ◌then◌
numbered_then reply n (done b) k m a e = ap (λ (s : ℕ × _). numbered reply s.0 (k s.1)) e
numbered_then reply n (ask x g) k m a e = numbered_then reply (n + 1) (g (reply n)) k m a e

pub or_true : (b : Bool) → (b || true) ≡ true
or_true true = refl
or_true false = refl

module _ (reply : ℕ → Bool) where
  -- ---- kinds
  abbrev pub some_yes : List ℕ → Bool
  some_yes [] = false
  some_yes (i ∷ l) = reply i || some_yes l

  abbrev pub kinded : Formed → RealRoot
  kinded f = root_by (some_yes f.questions) f.value f.multiplicity

  abbrev chain_of : Joined → Chain
  chain_of c =
      record { first = c.first; last = c.last; at = c.at; touching = c.touching; mult = c.mult; kind = kind_of c.mult (some_yes c.questions) }

  yes_last : (l : List ℕ) (i : ℕ) → reply i ≡ true → some_yes (l ++ i ∷ []) ≡ true
  yes_last [] i e = simp e
  yes_last (j ∷ l) i e = rw (yes_last l i e) (or_true (reply j))

  brush_so : (m : ℕ) (b : Bool) → (m ≡ 1 → ⊥) → b ≡ true → Brush ≡ kind_of m b
  unfolding kind_of
  brush_so m b n e = rw (ne_eqb m 1 n, e)

  -- ---- pairs
  reach_same : (m : Float) (l : List Formed) (r : Float) → reach_of m r (map kinded l) ≡ reach_of m r (map item_of l)
  unfolding reach_of
  reach_same m [] r = refl
  reach_same m (f ∷ l) r = reach_same m l _

  apart_same : (b y : Float) (l : List Formed) → all_apart b y (map kinded l) ≡ all_apart b y (map item_of l)
  unfolding all_apart
  apart_same b y [] = refl
  apart_same b y (f ∷ l) = rw (apart_same b y l)

  yes_alone : (b : Bool) (n : ℕ) → (b ≡ true → reply n ≡ true) → some_yes (cond b (n ∷ []) []) ≡ b
  yes_alone true n h = simp (h refl)
  yes_alone false n h = refl

  map_snoc : (l : List Formed) (f : Formed) → map kinded (l ++ f ∷ []) ≡ map kinded l ++ kinded f ∷ []
  map_snoc [] f = refl
  map_snoc (g ∷ l) f = ap (λ (m : List RealRoot). kinded g ∷ m) (map_snoc l f)

  module _ (poly : Scaled) (tol : Float) where
    abbrev touched : ℕ → Float → Bool × ℕ
    touched n y = touches_by reply poly tol n y

    -- the reply and the number of questions then, where the place is finite in x or not
    abbrev pub heard : ℕ → Bool → Bool × ℕ
    heard n finite = cond finite (reply n, n + 1) (false, n)

    touches_so : (n : ℕ) (y : Float) → numbered reply n (touches_at poly.e y) ≡ ((touched n y).1, (touched n y).0)
    unfolding numbered touches_at touches_by
    touches_so n y = go (is_finite_of (unscaled_of poly.e y))
      where
        go : (b : Bool) → numbered reply n (cond b (ask (unscaled_of poly.e y) done) (done false)) ≡ ((heard n b).1, (heard n b).0)
        go true = refl
        go false = refl

    yes_replied : (n : ℕ) (y : Float) → (touched n y).0 ≡ true → reply n ≡ true
    unfolding touches_by
    yes_replied n y = go (is_finite_of (unscaled_of poly.e y))
      where
        go : (b : Bool) → (heard n b).0 ≡ true → reply n ≡ true
        go true e = e
        go false e = cc

    pair_so : (n : ℕ) (its : List Formed) (f : Option Float)
        → let s = paired_by reply poly tol (n, its) f in numbered reply n (pair_at poly tol (map kinded its) f) ≡ (s.0, map kinded s.1)
    unfolding paired_by pair_at numbered
    pair_so n its None = refl
    pair_so n its (Some y) = rw (apart_same (apart_of poly tol y) y its) (go (all_apart (apart_of poly tol y) y (map item_of its)))
      where
        it : Formed
        it = record { value = y; multiplicity = cond (touched n y).0 2 0; questions = cond (touched n y).0 (n ∷ []) [] }

        made : pair_item y (touched n y).0 ≡ kinded it
        made = ap (λ (b : Bool). root_by b y (cond (touched n y).0 2 0)) (sym (yes_alone (touched n y).0 n (yes_replied n y)))

        after : Bool → Asking (List RealRoot)
        after r = done (map kinded its ++ pair_item y r ∷ [])

        go : (b : Bool) → let s : ℕ × List Formed = cond b ((touched n y).1, its ++ it ∷ []) (n, its) in
            numbered reply n (cond b (touches_at poly.e y then after) (done (map kinded its))) ≡ (s.0, map kinded s.1)
        go true =
            numbered_then reply n (touches_at poly.e y) after (touched n y).1 (touched n y).0 (touches_so n y)
            ∙ ap (λ (l : List RealRoot). ((touched n y).1, l))
            (ap (λ (r : RealRoot). map kinded its ++ r ∷ []) made ∙ sym (map_snoc its it))
        go false = refl

    -- the pair's place is sought within this of its centre
    abbrev pub sought_by : List Formed → Pair → Option Float
    sought_by its p =
        let m = p.centre in
        let reach = reach_of m p.half (map item_of its) in
        extremum_of poly m (m -ᶠ reach) (m +ᶠ reach) tol

    turn_so : (n : ℕ) (its : List Formed) (p : Pair) → let s = paired_by reply poly tol (n, its) (sought_by its p) in
        numbered reply n (pair_turn poly tol (map kinded its) p) ≡ (s.0, map kinded s.1)
    unfolding pair_turn
    turn_so n its p = rw (reach_same p.centre its p.half) (pair_so n its (sought_by its p))

    pairs_so : (ps : List Pair) (n : ℕ) (its : List Formed)
        → let s = pairs_by reply poly tol (n, its) ps in numbered reply n (each (pair_turn poly tol) (map kinded its) ps) ≡ (s.0, map kinded s.1)
    unfolding pairs_by each numbered
    pairs_so [] n its = refl
    pairs_so (p ∷ ps) n its =
        let s = paired_by reply poly tol (n, its) (sought_by its p) in
        numbered_then reply n (pair_turn poly tol (map kinded its) p) (λ l. each (pair_turn poly tol) l ps) s.0 (map kinded s.1) (turn_so n its p)
        ∙ pairs_so ps s.0 s.1

    -- ---- chains
    abbrev shown_of : List Formed → List RealRoot
    shown_of out = map kinded (listed_by poly.e out)

    abbrev state_of : Joined × List Formed → Chain × List RealRoot
    state_of s = (chain_of s.0, shown_of s.1)

    listed_lost : (out : List Formed) (f : Formed) → is_finite_of (unscaled_of poly.e f.value) ≡ false
        → listed_by poly.e (out ++ f ∷ []) ≡ listed_by poly.e out
    unfolding listed_by
    listed_lost [] f e = simp e
    listed_lost (g ∷ out) f e = rw (listed_lost out f e)

    listed_more : (out : List Formed) (f : Formed) → is_finite_of (unscaled_of poly.e f.value) ≡ true
        → shown_of (out ++ f ∷ []) ≡ shown_of out ++ root_by (some_yes f.questions) (unscaled_of poly.e f.value) f.multiplicity ∷ []
    unfolding listed_by
    listed_more [] f e = simp e
    listed_more (g ∷ out) f e = go (is_finite_of (unscaled_of poly.e g.value)) (listed_more out f e)
      where
        at : Formed → Formed
        at f = record { value = unscaled_of poly.e f.value; multiplicity = f.multiplicity; questions = f.questions }

        go : (b : Bool) → shown_of (out ++ f ∷ []) ≡ shown_of out ++ kinded (at f) ∷ []
            → map kinded (cond b (at g ∷ listed_by poly.e (out ++ f ∷ [])) (listed_by poly.e (out ++ f ∷ [])))
            ≡ map kinded (cond b (at g ∷ listed_by poly.e out) (listed_by poly.e out)) ++ kinded (at f) ∷ []
        go true h = ap (λ (l : List RealRoot). kinded (at g) ∷ l) h
        go false h = h

    emitted_so : (out : List Formed) (c : Joined) → emitted poly.e (shown_of out) (chain_of c) ≡ shown_of (ended_with out c)
    unfolding emitted ended_with contact_of contact_by
    emitted_so out c = go (eqb c.mult 0) (is_finite_of (unscaled_of poly.e (contact_by c))) refl
      where
        f : Formed
        f = record { value = contact_by c; multiplicity = c.mult; questions = c.questions }

        go : (z b : Bool) → is_finite_of (unscaled_of poly.e (contact_by c)) ≡ b
            → cond z (shown_of out) (cond b (shown_of out ++ root_by (some_yes c.questions) (unscaled_of poly.e (contact_by c)) c.mult ∷ []) (shown_of out))
            ≡ shown_of (cond z out (out ++ f ∷ []))
        go true b e = refl
        go false true e = sym (listed_more out f e)
        go false false e = sym (ap (map kinded) (listed_lost out f e))

    linked_so : (c : Joined) (it : Formed) (n : ℕ) (y : Float) → reply n ≡ true → (c.mult ≡ 0 → ⊥) → (it.multiplicity ≡ 0 → ⊥)
        → extended_by (chain_of c) (kinded it) y ≡ chain_of (linked_to c it n y)
    linked_so c it n y e some more =
        let s = linked_to c it n y in
        ap (λ (k : RootKind). record { first = s.first; last = s.last; at = y; touching = s.touching; mult = s.mult; kind = k })
        (brush_so s.mult (some_yes s.questions) (λ one. absurd (omega (arith, some, more, one))) (yes_last (c.questions ++ it.questions) n e))

    abbrev as_shown : ℕ × (Joined × List Formed) → ℕ × (Chain × List RealRoot)
    as_shown s = (s.0, state_of s.1)

    parted_so : (n : ℕ) (c : Joined) (out : List Formed) (it : Formed)
        → numbered reply n (done (parted poly.e (shown_of out) (chain_of c) (kinded it))) ≡ as_shown (parted_by reply poly tol n c out it)
    unfolding numbered
    parted_so n c out it = λ i. (n, (chain_of (begun_by it), emitted_so out c i))

    link_so : (n : ℕ) (c : Joined) (out : List Formed) (it : Formed) (f : Option Float) → (c.mult ≡ 0 → ⊥) → (it.multiplicity ≡ 0 → ⊥)
        → numbered reply n (link_at poly.e (shown_of out) (chain_of c) (kinded it) f) ≡ as_shown (linked_by reply poly tol n c out it f)
    unfolding link_at linked_by numbered
    link_so n c out it None some more = parted_so n c out it
    link_so n c out it (Some y) some more = go (lt c.last y && lt y it.value)
      where
        after : Bool → Asking (Chain × List RealRoot)
        after r = done (cond r (extended_by (chain_of c) (kinded it) y, shown_of out) (parted poly.e (shown_of out) (chain_of c) (kinded it)))

        by_reply : (m : ℕ) (r : Bool) → (r ≡ true → reply n ≡ true)
            → numbered reply m (after r) ≡ as_shown (cond r (m, (linked_to c it n y, out)) (parted_by reply poly tol m c out it))
        by_reply m true h = λ i. (m, (linked_so c it n y (h refl) some more i, shown_of out))
        by_reply m false h = parted_so m c out it

        go : (b : Bool) → numbered reply n (cond b (touches_at poly.e y then after) (done (parted poly.e (shown_of out) (chain_of c) (kinded it))))
            ≡ as_shown (cond b (cond (touched n y).0 ((touched n y).1, (linked_to c it n y, out)) (parted_by reply poly tol (touched n y).1 c out it))
            (parted_by reply poly tol n c out it))
        go true =
            numbered_then reply n (touches_at poly.e y) after (touched n y).1 (touched n y).0 (touches_so n y)
            ∙ by_reply (touched n y).1 (touched n y).0 (yes_replied n y)
        go false = parted_so n c out it

    item_so : (n : ℕ) (c : Joined) (out : List Formed) (it : Formed)
        → numbered reply n (item_turn poly tol (chain_of c, shown_of out) (kinded it)) ≡ as_shown (joined_by reply poly tol n c out it)
    unfolding item_turn joined_by numbered kind_of
    item_so n c out it = go (eqb it.multiplicity 0) (eqb c.mult 0) refl refl
      where
        between : Option Float
        between = extremum_of poly (half64 *ᶠ (c.last +ᶠ it.value)) c.last it.value tol

        go : (z w : Bool) → eqb it.multiplicity 0 ≡ z → eqb c.mult 0 ≡ w
            → numbered reply n (cond z (done (no_chain, emitted poly.e (shown_of out) (chain_of c)))
            (cond w (done (opened_by (kinded it), shown_of out)) (link_at poly.e (shown_of out) (chain_of c) (kinded it) between)))
            ≡ as_shown (cond z (n, (nothing_joined, ended_with out c)) (cond w (n, (begun_by it, out)) (linked_by reply poly tol n c out it between)))
        go true w e g = λ i. (n, (no_chain, emitted_so out c i))
        go false true e g = refl
        go false false e g = link_so n c out it between (eqb-false c.mult 0 g) (eqb-false it.multiplicity 0 e)

    chains_so : (its : List Formed) (n : ℕ) (c : Joined) (out : List Formed)
        → let s = chains_by reply poly tol (n, (c, out)) its in
        numbered reply n (each (item_turn poly tol) (chain_of c, shown_of out) (map kinded its) then λ s. done (emitted poly.e s.1 s.0))
        ≡ (s.0, shown_of s.1)
    unfolding chains_by each ◌then◌ numbered
    chains_so [] n c out = ap (λ (l : List RealRoot). (n, l)) (emitted_so out c)
    chains_so (it ∷ its) n c out =
        let s = joined_by reply poly tol n c out it in
        let on : Chain × List RealRoot → Asking (Chain × List RealRoot) = λ u. each (item_turn poly tol) u (map kinded its) in
        let end : Chain × List RealRoot → Asking (List RealRoot) = λ u. done (emitted poly.e u.1 u.0) in
        let turn = item_turn poly tol (chain_of c, shown_of out) (kinded it) in
        ap (numbered reply n) (then_assoc turn on end)
        ∙ numbered_then reply n turn (λ u. on u then end) s.0 (state_of s.1) (item_so n c out it)
        ∙ chains_so its s.0 s.1.0 s.1.1

    sorted_so : (ps : List Pair) (its : List Formed) → ordered ps (map kinded its) ≡ map kinded (sorted_items ps its)
    unfolding ordered by_value sorted_items
    sorted_so [] its = refl
    sorted_so (p ∷ ps) its = sym (map_sorted (λ (a b : RealRoot). total_le_of a.value b.value) kinded its)

    -- ---- all of it, from roots that no reply helped to form
    plain_so : (roots : List RealRoot) → AllOf (λ (r : RealRoot). r ≡ root r.value r.multiplicity) roots → roots ≡ map kinded (map unasked roots)
    plain_so [] plain = refl
    plain_so (r ∷ l) plain = λ i. plain.0 i ∷ plain_so l plain.1 i

    pub formed_so : (roots : List RealRoot) (pairs : List Pair) → AllOf (λ (r : RealRoot). r ≡ root r.value r.multiplicity) roots
        → let s = formed_by reply poly tol roots pairs in numbered reply 0 (touching poly tol roots pairs) ≡ (s.0, shown_of s.1)
    unfolding formed_by touching chained listed_by kind_of
    formed_so roots pairs plain =
        let s = pairs_by reply poly tol (0, map unasked roots) (pair_order pairs) in
        ap (λ (l : List RealRoot). numbered reply 0 (touching poly tol l pairs)) (plain_so roots plain)
        ∙ numbered_then reply 0 (each (pair_turn poly tol) (map kinded (map unasked roots)) (pair_order pairs)) (λ its. chained poly tol (ordered pairs its))
        s.0 (map kinded s.1) (pairs_so (pair_order pairs) 0 (map unasked roots))
        ∙ ap (λ (l : List RealRoot). numbered reply s.0 (chained poly tol l)) (sorted_so pairs s.1)
        ∙ chains_so (sorted_items pairs s.1) s.0 nothing_joined []
