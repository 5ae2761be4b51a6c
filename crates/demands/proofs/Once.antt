-- Each question that is replied yes helps to form one chain, once, and no other question helps to form any.
use mathlib.Core.Path.{◌≡◌, refl, sym, ap, ◌∙◌}
use mathlib.Core.Bool.{Bool, true, false, cond, ◌&&◌}
use mathlib.Core.List.{List, [], ◌∷◌, ◌++◌, map}
use Prim.Native.Nat.{ℕ, ◌+◌, ◌≤◌}
use native.Mathlib.Omega.{arith}
use borrow.Author.Tests.{ltb-true, ltb-false, lt-ltb, le-ltb, eqb-true, eqb-false}
use lib.Dec.{ltb, eqb}
use lib.Ieee.{Float, lt}
use Rattle.facts.specs.Lists.{AllOf, sum_snoc, all_snoc}
use Rattle.facts.proofs.Sort.{sum_sorted, all_sorted}
use Rattle.float.specs.Rounded.{◌+ᶠ◌, ◌*ᶠ◌}
use Rattle.float.specs.Literals.{half64}
use Rattle.float.specs.Methods.{is_finite_of, total_le_of}
use Rattle.scaled.specs.declared.Scaled.{Scaled}
use Rattle.roots.specs.declared.RealRoot.{RealRoot}
use Rattle.roots.specs.declared.Pair.{Pair}
use Rattle.std.specs.Prelude.{Option, Some, None}
use Rattle.critical.specs.Critical.{extremum_of}
use Rattle.poly.specs.RealRoots.{unscaled_of}
use Rattle.touching.specs.Touching.{pair_order, all_apart, apart_of}
use Rattle.demands.specs.Formed.{Formed, times_in, times_of, unasked, item_of, sorted_items, Joined, nothing_joined, begun_by, linked_to, contact_by}
use Rattle.demands.specs.Formed.{ended_with, touches_by, paired_by, pairs_by, parted_by, linked_by, joined_by, chains_by, formed_by}
use Rattle.demands.proofs.Formed.{heard, sought_by}

times_append : (i : ℕ) (l m : List ℕ) → times_in i (l ++ m) ≡ times_in i l + times_in i m
times_append i [] m = omega arith
times_append i (j ∷ l) m = let h = times_append i l m in omega arith

-- what no question can have helped to form: one that counts once or not at all
abbrev Fair : Formed → Type 0
Fair f = f.multiplicity ≤ 1 → f.questions ≡ []

module _ (reply : ℕ → Bool) (i : ℕ) where
  -- 1 where question i is one of the first n and replied yes
  abbrev pub yes_to : ℕ → ℕ
  yes_to n = cond (ltb i n && reply i) 1 0

  nothing : (b : Bool) → cond b 0 (0 + 0) ≡ 0 + 0
  nothing true = refl
  nothing false = refl

  yes_next : (n : ℕ) → yes_to (n + 1) ≡ yes_to n + cond (reply n) (times_in i (n ∷ [])) 0
  yes_next n = go (ltb i n) (eqb i n) refl refl
    where
      go : (b e : Bool) → ltb i n ≡ b → eqb i n ≡ e
          → cond (ltb i (n + 1) && reply i) 1 0 ≡ cond (b && reply i) 1 0 + cond (reply n) (cond e 1 0 + 0) 0
      go true true b e = absurd (omega (arith, ltb-true i n b, eqb-true i n e))
      go true false b e =
          let t = ltb-true i n b in
          rw (lt-ltb i (n + 1) (omega arith)) (let z = nothing (reply n) in omega arith)
      go false true b e =
          let same = eqb-true i n e in
          rw (lt-ltb i (n + 1) (omega arith), same) (both (reply n))
        where
          both : (r : Bool) → cond r 1 0 ≡ 0 + cond r 1 0
          both true = refl
          both false = refl
      go false false b e =
          let t = ltb-false i n b in
          let d = eqb-false i n e in
          rw (le-ltb i (n + 1) (omega (arith, d))) (let z = nothing (reply n) in omega arith)

  module _ (poly : Scaled) (tol : Float) where
    abbrev touched : ℕ → Float → Bool × ℕ
    touched n y = touches_by reply poly tol n y

    touched_once : (n : ℕ) (y : Float) → yes_to (touched n y).1 ≡ yes_to n + times_in i (cond (touched n y).0 (n ∷ []) [])
    unfolding touches_by
    touched_once n y = go (is_finite_of (unscaled_of poly.e y))
      where
        among : (r : Bool) → cond r (times_in i (n ∷ [])) 0 ≡ times_in i (cond r (n ∷ []) [])
        among true = refl
        among false = refl

        go : (b : Bool) → yes_to (heard reply poly tol n b).1 ≡ yes_to n + times_in i (cond (heard reply poly tol n b).0 (n ∷ []) [])
        go true = let a = among (reply n) in let b = yes_next n in omega arith
        go false = omega arith

    -- ---- what counts once or not at all has no question
    fair_unasked : (roots : List RealRoot) → AllOf Fair (map unasked roots)
    fair_unasked [] = tt
    fair_unasked (r ∷ l) = ((λ h. refl), fair_unasked l)

    fair_pair : (s : ℕ × List Formed) (f : Option Float) → AllOf Fair s.1 → AllOf Fair (paired_by reply poly tol s f).1
    unfolding paired_by
    fair_pair s None fair = fair
    fair_pair s (Some y) fair = go (all_apart (apart_of poly tol y) y (map item_of s.1)) (touched s.0 y).0
      where
        it : Bool → Formed
        it r = record { value = y; multiplicity = cond r 2 0; questions = cond r (s.0 ∷ []) [] }

        fair_it : (r : Bool) → Fair (it r)
        fair_it true h = absurd (omega (arith, h))
        fair_it false h = refl

        go : (b r : Bool) → let u : ℕ × List Formed = cond b ((touched s.0 y).1, s.1 ++ it r ∷ []) s in AllOf Fair u.1
        go true r = all_snoc Fair s.1 (it r) fair (fair_it r)
        go false r = fair

    fair_pairs : (ps : List Pair) (s : ℕ × List Formed) → AllOf Fair s.1 → AllOf Fair (pairs_by reply poly tol s ps).1
    unfolding pairs_by
    fair_pairs [] s fair = fair
    fair_pairs (p ∷ ps) s fair = fair_pairs ps (paired_by reply poly tol s (sought_by reply poly tol s.1 p)) (fair_pair s (sought_by reply poly tol s.1 p) fair)

    fair_sorted : (ps : List Pair) (its : List Formed) → AllOf Fair its → AllOf Fair (sorted_items ps its)
    unfolding sorted_items
    fair_sorted [] its fair = fair
    fair_sorted (p ∷ ps) its fair = all_sorted (λ (a b : Formed). total_le_of a.value b.value) Fair its fair

    -- ---- pairs
    pair_once : (s : ℕ × List Formed) (f : Option Float) → times_of i s.1 ≡ yes_to s.0
        → times_of i (paired_by reply poly tol s f).1 ≡ yes_to (paired_by reply poly tol s f).0
    unfolding paired_by
    pair_once s None h = h
    pair_once s (Some y) h = go (all_apart (apart_of poly tol y) y (map item_of s.1))
      where
        t : Bool × ℕ
        t = touched s.0 y

        it : Formed
        it = record { value = y; multiplicity = cond t.0 2 0; questions = cond t.0 (s.0 ∷ []) [] }

        go : (b : Bool) → let u : ℕ × List Formed = cond b (t.1, s.1 ++ it ∷ []) s in times_of i u.1 ≡ yes_to u.0
        go true =
            let more = sum_snoc (λ (f : Formed). times_in i f.questions) s.1 it in
            let next = touched_once s.0 y in
            omega arith
        go false = h

    pairs_once : (ps : List Pair) (s : ℕ × List Formed) → times_of i s.1 ≡ yes_to s.0
        → times_of i (pairs_by reply poly tol s ps).1 ≡ yes_to (pairs_by reply poly tol s ps).0
    unfolding pairs_by
    pairs_once [] s h = h
    pairs_once (p ∷ ps) s h = pairs_once ps (paired_by reply poly tol s (sought p)) (pair_once s (sought p) h)
      where
        sought : Pair → Option Float
        sought p = sought_by reply poly tol s.1 p

    -- ---- chains: a chain of no multiplicity has no question
    abbrev Whole : Joined → Type 0
    Whole c = c.mult ≡ 0 → c.questions ≡ []

    abbrev Counted : ℕ × (Joined × List Formed) → List Formed → Type 0
    Counted s its = (times_of i s.1.1 + (times_in i s.1.0.questions + times_of i its) ≡ yes_to s.0) × Whole s.1.0

    ended_once : (out : List Formed) (c : Joined) → Whole c → times_of i (ended_with out c) ≡ times_of i out + times_in i c.questions
    unfolding ended_with
    ended_once out c whole = go (eqb c.mult 0) refl
      where
        f : Formed
        f = record { value = contact_by c; multiplicity = c.mult; questions = c.questions }

        go : (z : Bool) → eqb c.mult 0 ≡ z → times_of i (cond z out (out ++ f ∷ [])) ≡ times_of i out + times_in i c.questions
        go true e = rw (whole (eqb-true c.mult 0 e)) (omega arith)
        go false e = sum_snoc (λ (f : Formed). times_in i f.questions) out f

    parted_once : (n : ℕ) (c : Joined) (out : List Formed) (it : Formed) (its : List Formed) → (it.multiplicity ≡ 0 → ⊥) → Counted (n, (c, out)) (it ∷ its)
        → Counted (parted_by reply poly tol n c out it) its
    parted_once n c out it its some h =
        let sum = h.0 in
        let end = ended_once out c h.1 in
        (omega arith, λ z. absurd (some z))

    -- the same with the questions of another number, where they have the same yes
    counted_at : (n m : ℕ) (c : Joined) (out : List Formed) (its : List Formed) → yes_to m ≡ yes_to n → Counted (n, (c, out)) its → Counted (m, (c, out)) its
    counted_at n m c out its e h = (h.0 ∙ sym e, h.1)

    link_once : (n : ℕ) (c : Joined) (out : List Formed) (it : Formed) (its : List Formed) (f : Option Float) → (it.multiplicity ≡ 0 → ⊥) → (c.mult ≡ 0 → ⊥)
        → Counted (n, (c, out)) (it ∷ its) → Counted (linked_by reply poly tol n c out it f) its
    unfolding linked_by
    link_once n c out it its None some at-hand h = parted_once n c out it its some h
    link_once n c out it its (Some y) some at-hand h = go (lt c.last y && lt y it.value) (touched n y).0 (touched_once n y)
      where
        m : ℕ
        m = (touched n y).1

        go : (b r : Bool) → yes_to m ≡ yes_to n + times_in i (cond r (n ∷ []) [])
            → Counted (cond b (cond r (m, (linked_to c it n y, out)) (parted_by reply poly tol m c out it)) (parted_by reply poly tol n c out it)) its
        go true true e =
            let sum = h.0 in
            let q = times_append i (c.questions ++ it.questions) (n ∷ []) in
            let p = times_append i c.questions it.questions in
            (omega arith, λ z. absurd (at-hand (omega (arith, z))))
        go true false e = parted_once m c out it its some (counted_at n m c out (it ∷ its) (omega arith) h)
        go false r e = parted_once n c out it its some h

    item_once : (n : ℕ) (c : Joined) (out : List Formed) (it : Formed) (its : List Formed) → Fair it → Counted (n, (c, out)) (it ∷ its)
        → Counted (joined_by reply poly tol n c out it) its
    unfolding joined_by
    item_once n c out it its fair h = go (eqb it.multiplicity 0) (eqb c.mult 0) refl refl
      where
        between : Option Float
        between = extremum_of poly (half64 *ᶠ (c.last +ᶠ it.value)) c.last it.value tol

        go : (z w : Bool) → eqb it.multiplicity 0 ≡ z → eqb c.mult 0 ≡ w
            → Counted (cond z (n, (nothing_joined, ended_with out c)) (cond w (n, (begun_by it, out)) (linked_by reply poly tol n c out it between))) its
        go true w e g =
            let none = fair (omega (arith, eqb-true it.multiplicity 0 e)) in
            let sum = h.0 in
            let end = ended_once out c h.1 in
            let zero : times_in i it.questions ≡ 0 = ap (times_in i) none in
            (omega arith, λ z. refl)
        go false true e g =
            let sum = h.0 in
            let zero : times_in i c.questions ≡ 0 = ap (times_in i) (h.1 (eqb-true c.mult 0 g)) in
            (omega arith, λ z. absurd (eqb-false it.multiplicity 0 e z))
        go false false e g = link_once n c out it its between (eqb-false it.multiplicity 0 e) (eqb-false c.mult 0 g) h

    chains_once : (its : List Formed) (s : ℕ × (Joined × List Formed)) → AllOf Fair its → Counted s its
        → times_of i (chains_by reply poly tol s its).1 ≡ yes_to (chains_by reply poly tol s its).0
    unfolding chains_by
    chains_once [] s fair h = let end = ended_once s.1.1 s.1.0 h.1 in let sum = h.0 in omega arith
    chains_once (it ∷ its) s fair h =
        chains_once its (joined_by reply poly tol s.0 s.1.0 s.1.1 it) fair.1 (item_once s.0 s.1.0 s.1.1 it its fair.0 h)

    -- ---- all of it
    unasked_none : (roots : List RealRoot) → times_of i (map unasked roots) ≡ 0
    unasked_none [] = refl
    unasked_none (r ∷ l) = let h = unasked_none l in omega arith

    sorted_once : (ps : List Pair) (its : List Formed) → times_of i (sorted_items ps its) ≡ times_of i its
    unfolding sorted_items
    sorted_once [] its = refl
    sorted_once (p ∷ ps) its = sum_sorted (λ (a b : Formed). total_le_of a.value b.value) (λ (f : Formed). times_in i f.questions) its

    pub formed_once : (roots : List RealRoot) (pairs : List Pair) → let s = formed_by reply poly tol roots pairs in times_of i s.1 ≡ yes_to s.0
    unfolding formed_by
    formed_once roots pairs =
        let start : times_of i (map unasked roots) ≡ yes_to 0 = unasked_none roots ∙ rw (le-ltb i 0 (omega arith)) in
        let s = pairs_by reply poly tol (0, map unasked roots) (pair_order pairs) in
        let fair-items = fair_pairs (pair_order pairs) (0, map unasked roots) (fair_unasked roots) in
        let fair = fair_sorted pairs s.1 fair-items in
        let before = sorted_once pairs s.1 ∙ pairs_once (pair_order pairs) (0, map unasked roots) start in
        chains_once (sorted_items pairs s.1) (s.0, (nothing_joined, [])) fair (omega arith, λ z. refl)
