-- One step of a walk with the replies at hand, for each way that code takes through it.
use mathlib.Core.Path.{◌≡◌, refl, sym, ap, ◌∙◌}
use mathlib.Core.Bool.{Bool, true, false, cond, ◌&&◌}
use mathlib.Core.List.{List, [], ◌∷◌, ◌++◌}
use Prim.Native.Nat.{ℕ, zero, suc, ◌+◌, ◌-◌, ◌≤◌, ◌<◌}
use native.Mathlib.Omega.{arith}
use borrow.Author.Tests.{eq-eqb, ne_eqb}
use lib.Dec.{ltb}
use lib.IntN.{ℤ}
use lib.ListN.{length, take, drop, get_or}
use lib.Ieee.{Float, binary64, add, sub, mul, lt}
use Rattle.facts.specs.Lists.{sum_snoc, drop_next}
use Rattle.float.specs.Literals.{half64}
use Rattle.float.specs.Methods.{abs_of, is_finite_of, min_of}
use Rattle.scaled.specs.declared.Scaled.{Scaled}
use Rattle.roots.specs.declared.RealRoot.{RealRoot}
use Rattle.roots.specs.declared.Roots.{Roots}
use Rattle.roots.specs.declared.Pair.{Pair}
use Rattle.roots.specs.declared.Pairs.{Pairs}
use Rattle.roots.specs.Roots.{list_of, pair_list_of, pushed_of}
use Rattle.roots.specs.Listed.{multiplicities, Fits, PairsFit, blank_pair, blank}
use Rattle.roots.proofs.Laws.{roots_cons, roots_nil}
use Rattle.std.specs.Prelude.{Option, Some, None, fold}
use Rattle.std.specs.List.{list_all}
use Rattle.std.specs.Prelude.{IsErr, IfOk, Result, Ok, Err}
use Rattle.std.specs.Result.{IsErrAnd}
use Rattle.std.proofs.Common.{drop_of_length-le}
use Rattle.critical.specs.Critical.{extremum_of}
use Rattle.finish.specs.Finish.{by_value}
use Rattle.poly.specs.RealRoots.{unscaled_of}
use Rattle.asking.specs.Asking.{Asking, done, Stage, asks, ended, walked, each, onward}
use Rattle.asking.proofs.Laws.{asked_then, ended_then, walked_then, each_end, each_turn}
use Rattle.touching.specs.declared.Replies.{Replies}
use Rattle.touching.specs.declared.Question.{Question}
use Rattle.touching.specs.declared.Walk.{Walk}
use Rattle.touching.specs.declared.Links.{Links}
use Rattle.touching.specs.declared.Chain.{Chain}
use Rattle.touching.specs.Touching.{touches_at, pair_order, reach_of, apart_by, all_apart, apart_of, pair_item, pair_at, pair_turn, ordered, no_chain}
use Rattle.touching.specs.Touching.{double_of, opened_by, extended_by, contact_of, emitted, parted, link_at, item_turn, chained, touching}
use Rattle.touching.specs.Walk.{walk_at, links_at, chain_of, at_hand, counts, Tidy, PairAdds}
use Rattle.touching.proofs.Lists.{tidy_more, reply_cons, reply_nil, pushed_more, pairs_none, pairs_some, pairs_one, pairs_two, multiplicities_by_value}

-- ---- stages
module _ {A : Type 0} where
  pub ended_done : (a : A) (rs : List Bool) → ended a rs ≡ walked rs (done a)
  unfolding walked
  ended_done a rs = refl

-- a question goes on through `?`
pub walk_err : (rs : Replies) (st : Stage (List RealRoot)) (P : Walk → Type 0) (q : Question) (r : Result Walk Question)
    → IsErr r × IsErrAnd r (λ e. e ≡ q) → asks q.place ≡ st → (walk_at rs r ≡ st) × IfOk r P
walk_err rs st P q (Ok w) h e = absurd h.1
walk_err rs st P q (Err f) h e = (ap (λ (g : Question). asks g.place) h.1 ∙ e, tt)

pub links_err : (rs : Replies) (st : Stage (Chain × List RealRoot)) (P : Links → Type 0) (q : Question) (r : Result Links Question)
    → IsErr r × IsErrAnd r (λ e. e ≡ q) → asks q.place ≡ st → (links_at rs r ≡ st) × IfOk r P
links_err rs st P q (Ok w) h e = absurd h.1
links_err rs st P q (Err f) h e = (ap (λ (g : Question). asks g.place) h.1 ∙ e, tt)

-- ---- a loop over a list, each turn of which may ask
module _ {S X : Type 0} (f : S → X → Asking S) (l : List X) (d : X) (k : ℕ) (rs : List Bool) (s : S) where
  pub each_asks : (x : Float) → k < length l → asks x ≡ walked rs (f s (get_or l k d)) → asks x ≡ walked rs (each f s (drop k l))
  unfolding each
  each_asks x h e = rw (drop_next l k d h) (asked_then rs (f s (get_or l k d)) (λ s'. each f s' (drop (k + 1) l)) x e)

  pub each_goes : (s' : S) (left : List Bool) → k < length l → ended s' left ≡ walked rs (f s (get_or l k d))
      → walked left (each f s' (drop (k + 1) l)) ≡ walked rs (each f s (drop k l))
  unfolding each
  each_goes s' left h e = rw (drop_next l k d h) (ended_then rs (f s (get_or l k d)) (λ s'. each f s' (drop (k + 1) l)) s' left e)

  pub each_ends : length l ≤ k → ended s rs ≡ walked rs (each f s (drop k l))
  unfolding each walked
  each_ends h = rw (drop_of_length-le l {i = k} h)

-- ---- touches_at
module _ (e : ℤ) (rs : List Bool) (y x : Float) where
  pub touch_none : x ≡ unscaled_of e y → is_finite_of x ≡ false → ended false rs ≡ walked rs (touches_at e y)
  unfolding touches_at walked
  touch_none h f = simp (sym h, f)

  pub touch_reply : (l : List Bool) (r : Bool) → x ≡ unscaled_of e y → is_finite_of x ≡ true → rs ≡ r ∷ l → ended r l ≡ walked rs (touches_at e y)
  unfolding touches_at walked
  touch_reply l r h f d = rw d (simp (sym h, f))

  pub touch_ask : x ≡ unscaled_of e y → is_finite_of x ≡ true → rs ≡ [] → asks x ≡ walked rs (touches_at e y)
  unfolding touches_at walked
  touch_ask h f d = rw d (simp (sym h, f))

-- ---- reach and all_apart, as std's fold and all
pub apart_all : (b y : Float) (l : List RealRoot) → all_apart b y l ≡ list_all (apart_by b y) l
unfolding all_apart
apart_all b y [] = refl
apart_all b y (it ∷ l) = ap (λ (t : Bool). apart_by b y it && t) (apart_all b y l)

pub reach_fold : (m r : Float) (l : List RealRoot)
    → reach_of m r l ≡ fold (λ (r : Float) (it : RealRoot). min_of r (mul binary64 half64 (abs_of (sub binary64 it.value m)))) r l
unfolding reach_of
reach_fold m r [] = refl
reach_fold m r (it ∷ l) = reach_fold m (min_of r (mul binary64 half64 (abs_of (sub binary64 it.value m)))) l

-- the same of an array, place by place
module _ (s : Roots) (k : ℕ) (fit : Fits s) where
  pub reach_turn : (m r : Float) → k < s.len
      → reach_of m r (drop k (list_of s))
      ≡ reach_of m (min_of r (mul binary64 half64 (abs_of (sub binary64 (get_or s.root k blank).value m))))
      (drop (k + 1) (list_of s))
  unfolding reach_of
  reach_turn m r h = ap (λ (l : List RealRoot). reach_of m r l) (roots_cons s k fit h)

  pub reach_end : (m r : Float) → s.len ≤ k → reach_of m r (drop k (list_of s)) ≡ r
  unfolding reach_of
  reach_end m r h = ap (λ (l : List RealRoot). reach_of m r l) (roots_nil s k fit h)

  pub apart_stop : (b y : Float) → k < s.len → apart_by b y (get_or s.root k blank) ≡ false
      → all_apart b y (drop k (list_of s)) ≡ false
  unfolding all_apart
  apart_stop b y h e = ap (λ (l : List RealRoot). all_apart b y l) (roots_cons s k fit h) ∙ simp e

  pub apart_go : (b y : Float) → k < s.len → apart_by b y (get_or s.root k blank) ≡ true
      → all_apart b y (drop k (list_of s)) ≡ all_apart b y (drop (k + 1) (list_of s))
  unfolding all_apart
  apart_go b y h e = ap (λ (l : List RealRoot). all_apart b y l) (roots_cons s k fit h) ∙ simp e

  pub apart_end : (b y : Float) → s.len ≤ k → all_apart b y (drop k (list_of s)) ≡ true
  unfolding all_apart
  apart_end b y h = ap (λ (l : List RealRoot). all_apart b y l) (roots_nil s k fit h)

-- ---- pair_at and pair_turn
module _ (poly : Scaled) (tol : Float) (rs : List Bool) (its : List RealRoot) where
  pub pair_near : (y : Float) → all_apart (apart_of poly tol y) y its ≡ false → ended its rs ≡ walked rs (pair_at poly tol its (Some y))
  unfolding pair_at walked
  pair_near y e = simp e

  abbrev added : Float → Bool → Asking (List RealRoot)
  added y r = done (its ++ pair_item y r ∷ [])

  pub pair_asked : (y x : Float) → all_apart (apart_of poly tol y) y its ≡ true → asks x ≡ walked rs (touches_at poly.e y)
      → asks x ≡ walked rs (pair_at poly tol its (Some y))
  unfolding pair_at
  pair_asked y x e h = rw e (asked_then rs (touches_at poly.e y) (added y) x h)

  pub pair_heard : (y : Float) (r : Bool) (left : List Bool) → all_apart (apart_of poly tol y) y its ≡ true → ended r left ≡ walked rs (touches_at poly.e y)
      → ended (its ++ pair_item y r ∷ []) left ≡ walked rs (pair_at poly tol its (Some y))
  unfolding pair_at
  pair_heard y r left e h = rw e (ended_done (its ++ pair_item y r ∷ []) left ∙ ended_then rs (touches_at poly.e y) (added y) r left h)

  pub pair_far : (y : Float) (s : Stage Bool) → all_apart (apart_of poly tol y) y its ≡ true
      → s ≡ walked rs (touches_at poly.e y)
      → onward s (λ r. done (its ++ pair_item y r ∷ [])) ≡ walked rs (pair_at poly tol its (Some y))
  unfolding pair_at
  pair_far y s e h =
      rw (e, h) (sym (walked_then rs (touches_at poly.e y) (λ r. done (its ++ pair_item y r ∷ []))))

  pub pair_nowhere : ended its rs ≡ walked rs (pair_at poly tol its None)
  unfolding pair_at walked
  pair_nowhere = refl

  pub pair_step : (p : Pair) (reach : Float) (f : Option Float) → reach ≡ reach_of p.centre p.half its
      → f ≡ extremum_of poly p.centre (sub binary64 p.centre reach) (add binary64 p.centre reach) tol
      → walked rs (pair_at poly tol its f) ≡ walked rs (pair_turn poly tol its p)
  unfolding pair_turn
  pair_step p reach f e h = rw (h, e)

  pub pair_passed : (p : Pair) (reach : Float) → reach ≡ reach_of p.centre p.half its
      → None ≡ extremum_of poly p.centre (sub binary64 p.centre reach) (add binary64 p.centre reach) tol → ended its rs ≡ walked rs (pair_turn poly tol its p)
  pair_passed p reach e h = pair_nowhere ∙ pair_step p reach None e h

at_most_two : (b : Bool) → cond b 2 0 ≤ 2
at_most_two true = omega arith
at_most_two false = omega arith

-- a reply adds an item
pair_grown : (s : Roots) (y : Float) (reply : Bool) → Fits s → s.len < 4
    → (list_of (pushed_of s (pair_item y reply)) ≡ list_of s ++ pair_item y reply ∷ []) × PairAdds s (pushed_of s (pair_item y reply))
pair_grown s y reply fits room =
    let r = pair_item y reply in
    let grown = pushed_more s r fits room in
    let sum : multiplicities (list_of (pushed_of s r)) ≡ multiplicities (list_of s) + r.multiplicity = ap multiplicities grown.0
    ∙ sum_snoc (λ (r : RealRoot). r.multiplicity) (list_of s) r in
    let two : r.multiplicity ≤ 2 = at_most_two reply in
    (grown.0, (grown.1, omega (arith, grown.2), omega arith))

pub pair_added : (poly : Scaled) (tol : Float) (s s' : Roots) (y : Float) (r : RealRoot) (reply : Bool)
    (rs left : List Bool) → Fits s → s.len < 4 → s' ≡ pushed_of s r → r ≡ pair_item y reply
    → all_apart (apart_of poly tol y) y (list_of s) ≡ true
    → ended reply left ≡ walked rs (touches_at poly.e y)
    → (ended (list_of s') left ≡ walked rs (pair_at poly tol (list_of s) (Some y))) × PairAdds s s'
pair_added poly tol s s' y r reply rs left fits room e er far heard =
    let is : s' ≡ pushed_of s (pair_item y reply) = e ∙ ap (λ (x : RealRoot). pushed_of s x) er in
    let grown = pair_grown s y reply fits room in
    rw is (
      ap (λ (l : List RealRoot). ended l left) grown.0
          ∙ pair_heard poly tol rs (list_of s) y reply left far heard,
      grown.1,
    )

pub pair_more : (poly : Scaled) (tol : Float) (rs left : List Bool) (s : Roots) (y : Float) (reply : Bool) → Fits s → s.len < 4
    → all_apart (apart_of poly tol y) y (list_of s) ≡ true → ended reply left ≡ walked rs (touches_at poly.e y)
    → ended (list_of (pushed_of s (pair_item y reply))) left ≡ walked rs (pair_at poly tol (list_of s) (Some y))
pair_more poly tol rs left s y reply fits room far h =
    (pair_added poly tol s (pushed_of s (pair_item y reply)) y (pair_item y reply) reply rs left fits room refl refl
    far h).0

pub pair_adds : (s : Roots) (y : Float) (reply : Bool) → Fits s → s.len < 4 → PairAdds s (pushed_of s (pair_item y reply))
pair_adds s y reply fits room = (pair_grown s y reply fits room).1

-- ---- pairs: in their order
pub order_short : (q : Pair) (ps : Pairs) → PairsFit ps → (ps.len ≡ 2 → ⊥)
    → take ps.len (get_or ps.pair 0 blank_pair ∷ q ∷ []) ≡ pair_order (pair_list_of ps)
unfolding pair_order
order_short q ps fit h = go ps.len refl
  where
    go : (n : ℕ) → ps.len ≡ n → take ps.len (get_or ps.pair 0 blank_pair ∷ q ∷ []) ≡ pair_order (pair_list_of ps)
    go zero e = rw (pairs_none ps e, e)
    go (suc zero) e = rw (pairs_one ps fit e, e)
    go (suc (suc n)) e = absurd (h (omega (arith, fit.1, e)))

pub order_kept : (ps : Pairs) → PairsFit ps → ps.len ≡ 2 → lt (get_or ps.pair 1 blank_pair).half (get_or ps.pair 0 blank_pair).half ≡ false
    → take ps.len (get_or ps.pair 0 blank_pair ∷ get_or ps.pair 1 blank_pair ∷ []) ≡ pair_order (pair_list_of ps)
unfolding pair_order
order_kept ps fit e h = rw (pairs_two ps fit (omega arith) (omega arith), h, e)

pub order_turned : (ps : Pairs) → PairsFit ps → ps.len ≡ 2 → lt (get_or ps.pair 1 blank_pair).half (get_or ps.pair 0 blank_pair).half ≡ true
    → take ps.len (get_or ps.pair 1 blank_pair ∷ get_or ps.pair 0 blank_pair ∷ []) ≡ pair_order (pair_list_of ps)
unfolding pair_order
order_turned ps fit e h = rw (pairs_two ps fit (omega arith) (omega arith), h, e)

-- ---- a chain
pub double_most : (m : ℕ) → double_of m ≤ 1
double_most m = go (ltb 1 m)
  where
    go : (b : Bool) → cond b 1 0 ≤ 1
    go true = omega arith
    go false = omega arith

-- a chain at hand counts; where there is none, its multiplicity is 0
pub at_hand_is : (o : Option Chain) (c : Chain) → o ≡ Some c → (chain_of o ≡ c) × (at_hand o ≡ 1)
at_hand_is o c e = (ap chain_of e, ap at_hand e)

pub none_at_hand : (o : Option Chain) → o ≡ None → (chain_of o ≡ no_chain) × (at_hand o ≡ 0)
none_at_hand o e = (ap chain_of e, ap at_hand e)

pub counts_most : (o : Option Chain) → counts o ≤ at_hand o
counts_most None = omega arith
counts_most (Some c) = omega arith

-- ---- emit
counts_is : (o : Option Chain) (c : Chain) → o ≡ Some c → (chain_of o ≡ c) × (counts o ≡ 1 - (1 - c.mult))
counts_is o c e = (ap chain_of e, ap counts e)

module _ (e : ℤ) (out : List RealRoot) (c : Chain) where
  pub emit_none : c.mult ≡ 0 → out ≡ emitted e out c
  unfolding emitted
  emit_none z = simp (eq-eqb _ _ z)

  pub emit_lost : (y x : Float) → (c.mult ≡ 0 → ⊥) → y ≡ contact_of c → x ≡ unscaled_of e y → is_finite_of x ≡ false → out ≡ emitted e out c
  unfolding emitted
  emit_lost y x n h g f = simp (ne_eqb _ _ n, sym h, sym g, f)

  pub emit_root : (y x : Float) → (c.mult ≡ 0 → ⊥) → y ≡ contact_of c → x ≡ unscaled_of e y → is_finite_of x ≡ true
      → out ++ record { value = x; multiplicity = c.mult; kind = c.kind } ∷ [] ≡ emitted e out c
  unfolding emitted
  emit_root y x n h g f = simp (ne_eqb _ _ n, sym h, sym g, f)

pub emit_more : (e : ℤ) (s s' : Roots) (o : Option Chain) (c : Chain) (y x : Float) → Tidy s → s.len + counts o ≤ 4 → o ≡ Some c → (c.mult ≡ 0 → ⊥)
    → y ≡ contact_of c → x ≡ unscaled_of e y → is_finite_of x ≡ true → s' ≡ pushed_of s (record { value = x; multiplicity = c.mult; kind = c.kind })
    → (list_of s' ≡ emitted e (list_of s) (chain_of o)) × Tidy s' × (s'.len ≤ s.len + counts o)
emit_more e s s' o c y x t room i some h g f is =
    let hand = counts_is o c i in
    let more = tidy_more s (record { value = x; multiplicity = c.mult; kind = c.kind }) t (omega (arith, room, hand.1, some)) in
    rw is (more.0 ∙ emit_root e (list_of s) c y x some h g f ∙ sym (ap (emitted e (list_of s)) hand.0), more.1, omega (arith, hand.1, some, more.2))

-- ---- link_at
module _ (e : ℤ) (rs : List Bool) (out : List RealRoot) (c : Chain) (it : RealRoot) where
  abbrev link_by : Float → Bool → Asking (Chain × List RealRoot)
  link_by y r = done (cond r (extended_by c it y, out) (parted e out c it))

  pub link_nowhere : ended (parted e out c it) rs ≡ walked rs (link_at e out c it None)
  unfolding link_at walked
  link_nowhere = refl

  pub link_outside : (y : Float) → (lt c.last y && lt y it.value) ≡ false → ended (parted e out c it) rs ≡ walked rs (link_at e out c it (Some y))
  unfolding link_at walked
  link_outside y t = rw t

  module _ (y : Float) (inside : (lt c.last y && lt y it.value) ≡ true) where
    pub link_asks : (x : Float) → asks x ≡ walked rs (touches_at e y) → asks x ≡ walked rs (link_at e out c it (Some y))
    unfolding link_at
    link_asks x h = rw inside (asked_then rs (touches_at e y) (link_by y) x h)

    pub link_asked : (rp : Replies) (P : Links → Type 0) (q : Question) (r : Result Links Question) → IsErr r × IsErrAnd r (λ e. e ≡ q)
        → asks q.place ≡ walked rs (touches_at e y) → (links_at rp r ≡ walked rs (link_at e out c it (Some y))) × IfOk r P
    link_asked rp P q r h t = links_err rp _ P q r h (link_asks q.place t)

    link_heard : (r : Bool) (left : List Bool) → ended r left ≡ walked rs (touches_at e y)
        → ended (cond r (extended_by c it y, out) (parted e out c it)) left ≡ walked rs (link_at e out c it (Some y))
    unfolding link_at
    link_heard r left h =
        rw inside (ended_done (cond r (extended_by c it y, out) (parted e out c it)) left ∙ ended_then rs (touches_at e y) (link_by y) r left h)

    pub link_yes : (r : Bool) (left : List Bool) → ended r left ≡ walked rs (touches_at e y) → r ≡ true
        → ended (extended_by c it y, out) left ≡ walked rs (link_at e out c it (Some y))
    link_yes r left h u = ap (λ (v : Bool). ended (cond v (extended_by c it y, out) (parted e out c it)) left) (sym u) ∙ link_heard r left h

    pub link_no : (r : Bool) (left : List Bool) → ended r left ≡ walked rs (touches_at e y) → r ≡ false
        → ended (parted e out c it) left ≡ walked rs (link_at e out c it (Some y))
    link_no r left h u = ap (λ (v : Bool). ended (cond v (extended_by c it y, out) (parted e out c it)) left) (sym u) ∙ link_heard r left h

-- ---- item_turn
module _ (poly : Scaled) (tol : Float) (rs : List Bool) (out : List RealRoot) (c : Chain) (it : RealRoot) where
  pub item_separator : (out' : List RealRoot) → it.multiplicity ≡ 0 → out' ≡ emitted poly.e out c
      → ended (no_chain, out') rs ≡ walked rs (item_turn poly tol (c, out) it)
  unfolding item_turn walked
  item_separator out' z h = simp (eq-eqb _ _ z, h)

  pub item_first : (it.multiplicity ≡ 0 → ⊥) → c.mult ≡ 0 → ended (parted poly.e out c it) rs ≡ walked rs (item_turn poly tol (c, out) it)
  unfolding item_turn walked
  item_first n z = ap (λ (l : List RealRoot). ended (opened_by it, l) rs) (sym (emit_none poly.e out c z)) ∙ simp (ne_eqb _ _ n, eq-eqb _ _ z)

  pub item_link : (f : Option Float) → (it.multiplicity ≡ 0 → ⊥) → (c.mult ≡ 0 → ⊥)
      → f ≡ extremum_of poly (mul binary64 half64 (add binary64 c.last it.value)) c.last it.value tol
      → walked rs (link_at poly.e out c it f) ≡ walked rs (item_turn poly tol (c, out) it)
  unfolding item_turn
  item_link f n m g = rw g (simp (ne_eqb _ _ n, ne_eqb _ _ m))

  pub item_parted : (it.multiplicity ≡ 0 → ⊥) → (c.mult ≡ 0 → ⊥)
      → None ≡ extremum_of poly (mul binary64 half64 (add binary64 c.last it.value)) c.last it.value tol
      → ended (parted poly.e out c it) rs ≡ walked rs (item_turn poly tol (c, out) it)
  item_parted n m g = link_nowhere poly.e rs out c it ∙ item_link None n m g

-- ---- chains
module _ (f : Chain × List RealRoot → RealRoot → Asking (Chain × List RealRoot)) (s : Roots)
    (k : ℕ) (fit : Fits s) where
  pub chains_turn : (st st' : Stage (Chain × List RealRoot)) → k < s.len
      → st' ≡ onward st (λ u. f u (get_or s.root k blank))
      → onward st' (λ u. each f u (drop (k + 1) (list_of s)))
      ≡ onward st (λ u. each f u (drop k (list_of s)))
  chains_turn st st' h e =
      ap (λ (v : Stage (Chain × List RealRoot)). onward v (λ u. each f u (drop (k + 1) (list_of s)))) e
      ∙ sym (each_turn f st (get_or s.root k blank) (drop (k + 1) (list_of s)))
      ∙ ap (λ (l : List RealRoot). onward st (λ u. each f u l)) (sym (roots_cons s k fit h))

  pub chains_end : (st : Stage (Chain × List RealRoot)) → s.len ≤ k
      → onward st (λ u. each f u (drop k (list_of s))) ≡ st
  chains_end st h =
      ap (λ (l : List RealRoot). onward st (λ u. each f u l)) (roots_nil s k fit h) ∙ each_end f st

-- ---- chained, and the whole
module _ (poly : Scaled) (tol : Float) (rs : List Bool) where
  abbrev closed : Chain × List RealRoot → Asking (List RealRoot)
  closed v = done (emitted poly.e v.1 v.0)

  pub chained_asks : (its : List RealRoot) (x : Float) → asks x ≡ walked rs (each (item_turn poly tol) (no_chain, []) its)
      → asks x ≡ walked rs (chained poly tol its)
  unfolding chained
  chained_asks its x h = asked_then rs (each (item_turn poly tol) (no_chain, []) its) closed x h

  pub chained_ends : (its : List RealRoot) (c : Chain) (out : List RealRoot) (left : List Bool)
      → ended (c, out) left ≡ walked rs (each (item_turn poly tol) (no_chain, []) its) → ended (emitted poly.e out c) left ≡ walked rs (chained poly tol its)
  unfolding chained
  chained_ends its c out left h =
      ended_done (emitted poly.e out c) left ∙ ended_then rs (each (item_turn poly tol) (no_chain, []) its) closed (c, out) left h

  module _ (roots : List RealRoot) (pairs : List Pair) where
    abbrev onto : List RealRoot → Asking (List RealRoot)
    onto l = chained poly tol (ordered pairs l)

    pub touching_asks : (x : Float) → asks x ≡ walked rs (each (pair_turn poly tol) roots (pair_order pairs))
        → asks x ≡ walked rs (touching poly tol roots pairs)
    unfolding touching
    touching_asks x h = asked_then rs (each (pair_turn poly tol) roots (pair_order pairs)) onto x h

    pub touching_goes : (its its' : List RealRoot) (left : List Bool) → its' ≡ ordered pairs its
        → ended its left ≡ walked rs (each (pair_turn poly tol) roots (pair_order pairs))
        → walked left (chained poly tol its') ≡ walked rs (touching poly tol roots pairs)
    unfolding touching
    touching_goes its its' left e h = rw e (ended_then rs (each (pair_turn poly tol) roots (pair_order pairs)) onto its left h)

  module _ (roots : List RealRoot) (ps : Pairs) (its : List RealRoot) (left : List Bool)
      (h : ended its left ≡ walked rs (each (pair_turn poly tol) roots (pair_order (pair_list_of ps)))) where
    pub touching_plain : ps.len ≡ 0 → walked left (chained poly tol its) ≡ walked rs (touching poly tol roots (pair_list_of ps))
    unfolding ordered
    touching_plain z = touching_goes roots (pair_list_of ps) its its left (rw (pairs_none ps z)) h

    pub touching_ordered : PairsFit ps → (ps.len ≡ 0 → ⊥)
        → walked left (chained poly tol (by_value its)) ≡ walked rs (touching poly tol roots (pair_list_of ps))
    unfolding ordered
    touching_ordered fit some = touching_goes roots (pair_list_of ps) its (by_value its) left (rw (pairs_some ps fit some)) h

pub sum_next : (l : List RealRoot) (d : RealRoot) (k : ℕ) → k < length l → multiplicities (drop k l)
    ≡ (get_or l k d).multiplicity + multiplicities (drop (k + 1) l)
sum_next l d k h = ap multiplicities (drop_next l k d h)

pub sum_turn : (s : Roots) (k : ℕ) → Fits s → k < s.len → multiplicities (drop k (list_of s))
    ≡ (get_or s.root k blank).multiplicity + multiplicities (drop (k + 1) (list_of s))
sum_turn s k f h = ap multiplicities (roots_cons s k f h)

-- ---- the laws that each function's proof takes
pub ruleset touches = (reply_cons, reply_nil, touch_none, touch_reply, touch_ask)

pub ruleset pairs_at = (walk_err, pair_near, pair_asked, pair_more, pair_adds)

pub ruleset pair_turns = (pair_passed, pair_step)

pub ruleset orders = (order_short, order_kept, order_turned)

pub ruleset emits = (at_hand_is, none_at_hand, emit_none, emit_lost)

pub ruleset parts = (counts_most, double_most)

pub ruleset links = (at_hand_is, double_most, links_err, link_outside, link_asked, link_yes, link_no)

pub ruleset turns = (at_hand_is, none_at_hand, counts_most, link_nowhere, item_separator, item_first, item_link, item_parted)

pub ruleset touchings = (walk_err, touching_asks, touching_plain, touching_ordered, multiplicities_by_value)
