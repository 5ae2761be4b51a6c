-- The Rust's two loops are the one of the definitions: the inner loop goes on with the run or chain at hand, and the outer one where it ends.
use mathlib.Core.Path.{◌≡◌, refl, sym, ap, ◌∙◌}
use mathlib.Core.Bool.{Bool, true, false, cond, ◌&&◌}
use mathlib.Core.List.{List, [], ◌∷◌}
use mathlib.Core.Option.{Option, none, some}
use Prim.Native.Nat.{ℕ, zero, suc, ◌+◌, ◌≤◌, ◌<◌}
use native.Mathlib.Omega.{arith}
use borrow.Author.Tests.{ltb-true, ltb-false, eqb-true, eqb-false, eq-eqb, ne_eqb}
use lib.Dec.{ltb, eqb}
use lib.ListN.{length, drop, get_or, drop_of_length-le}
use lib.Ieee.{Float, binary64, add, mul, lt}
use Rattle.facts.specs.Lists.{drop_next}
use Rattle.float.specs.Literals.{half64}
use Rattle.scaled.specs.declared.Scaled.{Scaled}
use Rattle.roots.specs.declared.RealRoot.{RealRoot}
use Rattle.roots.specs.Roots.{kept}
use Rattle.roots.specs.Listed.{blank}
use Rattle.std.specs.Prelude.{Option as RustOption, Some, None}
use Rattle.critical.specs.Critical.{extremum_of}
use Rattle.finish.specs.Finish.{value_at, multiplicity_at, is_near_of, join_of, joined_from, joined_of}
use Rattle.asking.specs.Asking.{Asking, done, ask, ◌then◌, each}
use Rattle.touching.specs.declared.Chain.{Chain}
use Rattle.touching.specs.Touching.{touches_at, no_chain, opened_by, extended_by, contact_of, emitted, parted, link_at, item_turn, chained}
use Rattle.demands.specs.Loops.{run_from, runs_from, Linked, is_double, filtered, link_after, grown, links_from, pushed, chains_from}

-- ---- runs
module _ (poly : Scaled) (tol : Float) (v : List RealRoot) (inner : ℕ) where
  -- the one loop from the list l on, where no run is at hand
  abbrev go_on : List RealRoot → List RealRoot → List RealRoot
  go_on out [] = out
  go_on out (b ∷ l) = joined_from poly tol out b l

  abbrev Outer : ℕ → ℕ → Type 0
  Outer f k = (j : ℕ) (out : List RealRoot) → k ≤ j → go_on out (drop (j + 1) v) ≡ runs_from poly tol v inner f (j + 1) out

  joined_next : (out : List RealRoot) (r b : RealRoot) (l : List RealRoot) (w : Bool) → is_near_of poly r.value b.value tol ≡ w
      → joined_from poly tol out r (b ∷ l) ≡ joined_from poly tol (cond w out (kept out r)) (cond w (join_of r b) b) l
  unfolding joined_from
  joined_next out r b l w e = ap (λ (w : Bool). joined_from poly tol (cond w out (kept out r)) (cond w (join_of r b) b) l) e

  run_ends : (f k : ℕ) (r : RealRoot) (out : List RealRoot) → length v ≤ k + 1 → Outer f k
      → joined_from poly tol out r (drop (k + 1) v) ≡ runs_from poly tol v inner f (k + 1) (kept out r)
  unfolding joined_from
  run_ends f k r out h H =
      let e = drop_of_length-le v {i = k + 1} h in
      ap (joined_from poly tol out r) e ∙ sym (ap (go_on (kept out r)) e) ∙ H k (kept out r) (omega arith)

  run_so : (f turns k : ℕ) (r : RealRoot) (out : List RealRoot) → length v ≤ k + 1 + turns → Outer f k
      → joined_from poly tol out r (drop (k + 1) v) ≡ (let run = run_from poly tol v turns k r in runs_from poly tol v inner f (run.0 + 1) (kept out run.1))
  unfolding run_from is_near_of join_of
  run_so f zero k r out h H = run_ends f k r out (omega arith) H
  run_so f (suc turns) k r out h H =
      go (ltb (k + 1) (length v)) (is_near_of poly r.value (value_at v (k + 1)) tol) refl refl
      (run_so f turns (k + 1) (join_of r (get_or v (k + 1) blank)) out (omega arith) (λ j o l. H j o (omega arith)))
    where
      b : RealRoot
      b = get_or v (k + 1) blank

      rest : ℕ × RealRoot
      rest = run_from poly tol v turns (k + 1) (join_of r b)

      next : ltb (k + 1) (length v) ≡ true → drop (k + 1) v ≡ b ∷ drop (k + 1 + 1) v
      next e = drop_next v (k + 1) blank (ltb-true (k + 1) (length v) e)

      go : (t w : Bool) → ltb (k + 1) (length v) ≡ t → is_near_of poly r.value (value_at v (k + 1)) tol ≡ w
          → joined_from poly tol out (join_of r b) (drop (k + 1 + 1) v) ≡ runs_from poly tol v inner f (rest.0 + 1) (kept out rest.1)
          → joined_from poly tol out r (drop (k + 1) v) ≡ (let run = cond (t && w) rest (k, r) in runs_from poly tol v inner f (run.0 + 1) (kept out run.1))
      go false w e n on = run_ends f k r out (ltb-false (k + 1) (length v) e) H
      go true true e n on = ap (joined_from poly tol out r) (next e) ∙ joined_next out r b (drop (k + 1 + 1) v) true n ∙ on
      go true false e n on =
          ap (joined_from poly tol out r) (next e) ∙ joined_next out r b (drop (k + 1 + 1) v) false n
          ∙ sym (ap (go_on (kept out r)) (next e)) ∙ H k (kept out r) (omega arith)

  runs_so : (f k : ℕ) (out : List RealRoot) → length v ≤ inner → length v ≤ k + f → go_on out (drop k v) ≡ runs_from poly tol v inner f k out
  unfolding runs_from
  runs_so zero k out m h = ap (go_on out) (drop_of_length-le v {i = k} (omega arith))
  runs_so (suc f) k out m h = go (ltb k (length v)) refl (λ j o l. runs_so f (j + 1) o m (omega arith))
    where
      run : ℕ × RealRoot
      run = run_from poly tol v inner k (get_or v k blank)

      go : (t : Bool) → ltb k (length v) ≡ t → Outer f k → go_on out (drop k v) ≡ cond t (runs_from poly tol v inner f (run.0 + 1) (kept out run.1)) out
      go true e H = ap (go_on out) (drop_next v k blank (ltb-true k (length v) e)) ∙ run_so f inner k (get_or v k blank) out (omega arith) H
      go false e H = ap (go_on out) (drop_of_length-le v {i = k} (ltb-false k (length v) e))

pub runs : (poly : Scaled) (tol : Float) (v : List RealRoot) (turns : ℕ) → length v ≤ turns → runs_from poly tol v turns turns 0 [] ≡ joined_of poly tol v
unfolding joined_of
runs poly tol v turns h = sym (runs_so poly tol v turns turns 0 [] h (omega arith)) ∙ begun v
  where
    begun : (l : List RealRoot) → go_on poly tol v turns [] l ≡ joined_of poly tol l
    begun [] = refl
    begun (a ∷ l) = refl

-- ---- computations that ask
module _ {A B : Type 0} where
  then_same : (t : Asking A) (k l : A → Asking B) → ((a : A) → k a ≡ l a) → t then k ≡ t then l
  unfolding ◌then◌
  then_same (done a) k l h = h a
  then_same (ask x f) k l h = λ i. ask x (λ r. then_same (f r) k l h i)

pub then_assoc : {A B C : Type 0} (t : Asking A) (k : A → Asking B) (l : B → Asking C) → (t then k) then l ≡ t then (λ a. k a then l)
unfolding ◌then◌
then_assoc (done a) k l = refl
then_assoc (ask x f) k l = λ i. ask x (λ r. then_assoc (f r) k l i)

-- ---- chains
module _ (poly : Scaled) (tol : Float) where
  -- the one loop from the list l on, with the chain c at hand
  abbrev along : Chain → List RealRoot → List RealRoot → Asking (List RealRoot)
  along c out l = each (item_turn poly tol) (c, out) l then λ s. done (emitted poly.e s.1 s.0)

  no_chain_emitted : (out : List RealRoot) → emitted poly.e out no_chain ≡ out
  unfolding emitted
  no_chain_emitted out = refl

  along_end : (c : Chain) (out : List RealRoot) → along c out [] ≡ done (emitted poly.e out c)
  unfolding each ◌then◌
  along_end c out = refl

  along_separator : (c : Chain) (out : List RealRoot) (it : RealRoot) (l : List RealRoot) → it.multiplicity ≡ 0
      → along c out (it ∷ l) ≡ along no_chain (emitted poly.e out c) l
  unfolding each ◌then◌ item_turn
  along_separator c out it l e = rw (eq-eqb it.multiplicity 0 e)

  along_opened : (out : List RealRoot) (it : RealRoot) (l : List RealRoot) → (it.multiplicity ≡ 0 → ⊥)
      → along no_chain out (it ∷ l) ≡ along (opened_by it) out l
  unfolding each ◌then◌ item_turn
  along_opened out it l n = rw (ne_eqb it.multiplicity 0 n)

  -- a link, or none
  abbrev between : Float → Float → RustOption Float
  between lo hi = extremum_of poly (mul binary64 half64 (add binary64 lo hi)) lo hi tol

  module _ (c : Chain) (out : List RealRoot) (it : RealRoot) (l : List RealRoot) where
    abbrev after_link : Option Float → Asking (List RealRoot)
    after_link none = along (opened_by it) (emitted poly.e out c) l
    after_link (some y) = along (extended_by c it y) out l

    link_so : (p : RustOption Float) → ((link_at poly.e out c it p then λ s. each (item_turn poly tol) s l) then λ s. done (emitted poly.e s.1 s.0))
        ≡ (filtered poly c.last it.value p then after_link)
    unfolding link_at filtered ◌then◌
    link_so None = refl
    link_so (Some y) = go (lt c.last y && lt y it.value) (touches_at poly.e y)
      where
        through : (t : Asking Bool)
            → (((t then λ reply. done (cond reply (extended_by c it y, out) (parted poly.e out c it))) then λ s. each (item_turn poly tol) s l)
            then λ s. done (emitted poly.e s.1 s.0))
            ≡ ((t then λ reply. done (cond reply (some y) none)) then after_link)
        through (done true) = refl
        through (done false) = refl
        through (ask x f) = λ i. ask x (λ r. through (f r) i)

        go : (b : Bool) (t : Asking Bool)
            → ((cond b (t then λ reply. done (cond reply (extended_by c it y, out) (parted poly.e out c it))) (done (parted poly.e out c it))
            then λ s. each (item_turn poly tol) s l) then λ s. done (emitted poly.e s.1 s.0))
            ≡ (cond b (t then λ reply. done (cond reply (some y) none)) (done none) then after_link)
        go true t = through t
        go false t = refl

    along_linked : (it.multiplicity ≡ 0 → ⊥) → (c.mult ≡ 0 → ⊥)
        → along c out (it ∷ l) ≡ (filtered poly c.last it.value (between c.last it.value) then after_link)
    unfolding each item_turn
    along_linked n m = rw (ne_eqb it.multiplicity 0 n, ne_eqb c.mult 0 m) (link_so (between c.last it.value))

module _ (poly : Scaled) (tol : Float) (v : List RealRoot) (inner : ℕ) where
  -- the chain of the definitions that the variables are, where k is the last item's place
  abbrev chain_at : ℕ → Linked → Chain
  chain_at k c = record { first = c.first; last = value_at v k; at = c.at; touching = c.touching; mult = c.mult; kind = c.kind }

  emitted_so : (out : List RealRoot) (k : ℕ) (c : Linked) → (c.mult ≡ 0 → ⊥) → emitted poly.e out (chain_at k c) ≡ pushed poly v out k c
  unfolding emitted contact_of
  emitted_so out k c n = rw (ne_eqb c.mult 0 n)

  abbrev Chains : ℕ → ℕ → Type 0
  Chains f k = (j : ℕ) (out : List RealRoot) → k ≤ j → along poly tol no_chain out (drop (j + 1) v) ≡ chains_from poly tol v inner f (j + 1) out

  abbrev after : ℕ → List RealRoot → ℕ × Linked → Asking (List RealRoot)
  after f out r = chains_from poly tol v inner f (r.0 + 1) (pushed poly v out r.0 r.1)

  module _ (f k : ℕ) (c : Linked) (out : List RealRoot) (n : c.mult ≡ 0 → ⊥) (H : Chains f k) where
    -- the chain ends with the list
    ends : length v ≤ k + 1 → along poly tol (chain_at k c) out (drop (k + 1) v) ≡ after f out (k, c)
    ends h =
        let e = drop_of_length-le v {i = k + 1} h in
        ap (along poly tol (chain_at k c) out) e ∙ along_end poly tol (chain_at k c) out ∙ ap done (emitted_so out k c n)
        ∙ sym (ap done (no_chain_emitted poly tol (pushed poly v out k c))) ∙ sym (along_end poly tol no_chain (pushed poly v out k c))
        ∙ sym (ap (along poly tol no_chain (pushed poly v out k c)) e) ∙ H k (pushed poly v out k c) (omega arith)

    module _ (h : k + 1 < length v) where
      abbrev it : RealRoot
      it = get_or v (k + 1) blank

      abbrev l : List RealRoot
      l = drop (k + 1 + 1) v

      next : drop (k + 1) v ≡ it ∷ l
      next = drop_next v (k + 1) blank h

      -- or with a separator
      parts : it.multiplicity ≡ 0 → along poly tol (chain_at k c) out (drop (k + 1) v) ≡ after f out (k, c)
      parts z =
          let p = pushed poly v out k c in
          ap (along poly tol (chain_at k c) out) next ∙ along_separator poly tol (chain_at k c) out it l z
          ∙ ap (λ (o : List RealRoot). along poly tol no_chain o l) (emitted_so out k c n ∙ sym (no_chain_emitted poly tol p))
          ∙ sym (along_separator poly tol no_chain p it l z) ∙ sym (ap (along poly tol no_chain p) next) ∙ H k p (omega arith)

      -- or where there is no link
      breaks : (it.multiplicity ≡ 0 → ⊥) → along poly tol (opened_by it) (emitted poly.e out (chain_at k c)) l ≡ after f out (k, c)
      breaks z =
          let p = pushed poly v out k c in
          ap (λ (o : List RealRoot). along poly tol (opened_by it) o l) (emitted_so out k c n)
          ∙ sym (along_opened poly tol p it l z) ∙ sym (ap (along poly tol no_chain p) next) ∙ H k p (omega arith)

  links_so : (f turns k : ℕ) (c : Linked) (out : List RealRoot) → (c.mult ≡ 0 → ⊥) → length v ≤ k + 1 + turns → Chains f k
      → along poly tol (chain_at k c) out (drop (k + 1) v) ≡ (links_from poly tol v turns k c then after f out)
  unfolding links_from ◌then◌
  links_so f zero k c out n h H = ends f k c out n H (omega arith)
  links_so f (suc turns) k c out n h H =
      go (ltb (k + 1) (length v)) (ltb 0 m) refl refl
      (λ y. links_so f turns (k + 1) (grown c m y) out (more y) (omega arith) (λ j o l. H j o (omega arith)))
    where
      m : ℕ
      m = multiplicity_at v (k + 1)

      step : Option Float → Asking (ℕ × Linked)
      step link = elim link [ none ↦ done (k, c) | some y ↦ links_from poly tol v turns (k + 1) (grown c m y) ]

      more : (y : Float) → (grown c m y).mult ≡ 0 → ⊥
      more y e = n (omega (arith, e))

      On : Type 0
      On = (y : Float)
          → along poly tol (chain_at (k + 1) (grown c m y)) out (drop (k + 1 + 1) v) ≡ (links_from poly tol v turns (k + 1) (grown c m y) then after f out)

      go : (t w : Bool) → ltb (k + 1) (length v) ≡ t → ltb 0 m ≡ w → On
          → along poly tol (chain_at k c) out (drop (k + 1) v) ≡ (cond (t && w) (link_after poly tol v k then step) (done (k, c)) then after f out)
      go false w e z on = ends f k c out n H (ltb-false (k + 1) (length v) e)
      go true false e z on = parts f k c out n H (ltb-true (k + 1) (length v) e) (omega (arith, ltb-false 0 m z))
      go true true e z on =
          let g = ltb-true (k + 1) (length v) e in
          let some-there : m ≡ 0 → ⊥ = λ q. omega (arith, q, ltb-true 0 m z) in
          ap (along poly tol (chain_at k c) out) (next f k c out n H g)
          ∙ along_linked poly tol (chain_at k c) out (get_or v (k + 1) blank) (drop (k + 1 + 1) v) some-there n
          ∙ then_same (link_after poly tol v k) _ (λ o. step o then after f out) (each_way g some-there)
          ∙ sym (then_assoc (link_after poly tol v k) step (after f out))
        where
          each_way : k + 1 < length v → (m ≡ 0 → ⊥) → (o : Option Float)
              → after_link poly tol (chain_at k c) out (get_or v (k + 1) blank) (drop (k + 1 + 1) v) o ≡ (step o then after f out)
          each_way g s none = breaks f k c out n H g s
          each_way g s (some y) = on y

  nothing_left : (k : ℕ) (out : List RealRoot) → length v ≤ k → along poly tol no_chain out (drop k v) ≡ done out
  nothing_left k out g =
      ap (along poly tol no_chain out) (drop_of_length-le v {i = k} g) ∙ along_end poly tol no_chain out ∙ ap done (no_chain_emitted poly tol out)

  chains_so : (f k : ℕ) (out : List RealRoot) → length v ≤ inner → length v ≤ k + f
      → along poly tol no_chain out (drop k v) ≡ chains_from poly tol v inner f k out
  unfolding chains_from
  chains_so zero k out i h = nothing_left k out (omega arith)
  chains_so (suc f) k out i h = go (ltb k (length v)) (eqb m 0) refl refl (λ j o l. chains_so f (j + 1) o i (omega arith))
    where
      m : ℕ
      m = multiplicity_at v k

      it : RealRoot
      it = get_or v k blank

      begun : Linked
      begun = record { first = value_at v k; mult = m; touching = is_double m; at = value_at v k; kind = it.kind }

      next : ltb k (length v) ≡ true → drop k v ≡ it ∷ drop (k + 1) v
      next e = drop_next v k blank (ltb-true k (length v) e)

      go : (t z : Bool) → ltb k (length v) ≡ t → eqb m 0 ≡ z → Chains f k
          → along poly tol no_chain out (drop k v)
          ≡ cond t (cond z (chains_from poly tol v inner f (k + 1) out) (links_from poly tol v inner k begun then after f out)) (done out)
      go false z e q H = nothing_left k out (ltb-false k (length v) e)
      go true true e q H =
          ap (along poly tol no_chain out) (next e) ∙ along_separator poly tol no_chain out it (drop (k + 1) v) (eqb-true m 0 q)
          ∙ ap (λ (o : List RealRoot). along poly tol no_chain o (drop (k + 1) v)) (no_chain_emitted poly tol out) ∙ H k out (omega arith)
      go true false e q H =
          ap (along poly tol no_chain out) (next e) ∙ along_opened poly tol out it (drop (k + 1) v) (eqb-false m 0 q)
          ∙ links_so f inner k begun out (eqb-false m 0 q) (omega arith) H

pub chains : (poly : Scaled) (tol : Float) (its : List RealRoot) (turns : ℕ) → length its ≤ turns
    → chains_from poly tol its turns turns 0 [] ≡ chained poly tol its
unfolding chained
chains poly tol its turns h = sym (chains_so poly tol its turns turns 0 [] h (omega arith))
