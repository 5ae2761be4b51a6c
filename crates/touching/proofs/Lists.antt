-- Roots, pairs and replies in arrays with a count: one root more where there is room, what is left of the replies, and how many pairs there are.
use mathlib.Core.Path.{◌≡◌, refl, sym, ap, ◌∙◌}
use mathlib.Core.Bool.{false}
use mathlib.Core.List.{List, [], ◌∷◌, ◌++◌}
use Prim.Native.Nat.{ℕ, ◌+◌, ◌≤◌, ◌<◌}
use native.Mathlib.Omega.{arith}
use Rattle.std.proofs.Common.{length-take-le}
use borrow.Author.Tests.{lt-ltb}
use lib.ListN.{length, take, drop, get_or}
use lib.Ieee.{lt}
use Rattle.facts.specs.Cond.{either_way}
use Rattle.facts.specs.Lists.{length_snoc, left_cons, left_nil}
use Rattle.facts.proofs.Sort.{length_sorted, sum_sorted}
use Rattle.float.specs.Methods.{total_le_of}
use Rattle.roots.specs.declared.RealRoot.{RealRoot}
use Rattle.roots.specs.declared.Roots.{Roots}
use Rattle.roots.specs.declared.Pair.{Pair}
use Rattle.roots.specs.declared.Pairs.{Pairs}
use Rattle.roots.specs.Roots.{list_of, roots_of, held, pair_list_of, pushed_of}
use Rattle.roots.specs.Listed.{multiplicities, Fits, PairsFit, blank_pair}
use Rattle.roots.proofs.Laws.{length_list, pushed_fits, pushed_list, list_roots, pushed_roots, pairs_cons, pairs_nil}
use Rattle.finish.specs.Finish.{by_value}
use Rattle.touching.specs.declared.Replies.{Replies}
use Rattle.touching.specs.Touching.{pair_order}
use Rattle.touching.specs.Walk.{left_of, RepliesFit, Tidy}

-- ---- replies
pub reply_cons : (s : Replies) (k : ℕ) → RepliesFit s → k < s.count → left_of s k ≡ get_or s.reply k false ∷ left_of s (k + 1)
reply_cons s k f h = left_cons s.reply s.count k false (omega (arith, f.0, f.1)) h

pub reply_nil : (s : Replies) (k : ℕ) → RepliesFit s → s.count ≤ k → left_of s k ≡ []
reply_nil s k f h = left_nil s.reply s.count k (omega (arith, f.0, f.1)) h

-- ---- none, one or two pairs
pub pairs_none : (s : Pairs) → s.len ≡ 0 → pair_list_of s ≡ []
pairs_none s e = ap (λ (n : ℕ). take n s.pair) e

pub pairs_some : (s : Pairs) → PairsFit s → (s.len ≡ 0 → ⊥) → pair_list_of s ≡ get_or s.pair 0 blank_pair ∷ drop 1 (pair_list_of s)
pairs_some s f n = pairs_cons s 0 f (omega (arith, n))

pub pairs_one : (s : Pairs) → PairsFit s → s.len ≡ 1 → pair_list_of s ≡ get_or s.pair 0 blank_pair ∷ []
pairs_one s f e = pairs_cons s 0 f (omega (arith, e)) ∙ ap (λ (t : List Pair). get_or s.pair 0 blank_pair ∷ t) (pairs_nil s 1 f (omega (arith, e)))

pub pairs_two : (s : Pairs) → PairsFit s → (s.len ≡ 0 → ⊥) → (s.len ≡ 1 → ⊥) → pair_list_of s ≡ get_or s.pair 0 blank_pair ∷ get_or s.pair 1 blank_pair ∷ []
pairs_two s f n m =
    pairs_some s f n
    ∙ ap (λ (t : List Pair). get_or s.pair 0 blank_pair ∷ t)
    (pairs_cons s 1 f (omega (arith, n, m)) ∙ ap (λ (t : List Pair). get_or s.pair 1 blank_pair ∷ t) (pairs_nil s 2 f f.1))

pub multiplicities_by_value : (l : List RealRoot) → multiplicities (by_value l) ≡ multiplicities l
unfolding by_value
multiplicities_by_value l = sum_sorted (λ (a b : RealRoot). total_le_of a.value b.value) (λ (r : RealRoot). r.multiplicity) l

pub length_by_value : (l : List RealRoot) → length (by_value l) ≡ length l
unfolding by_value
length_by_value l = length_sorted (λ (a b : RealRoot). total_le_of a.value b.value) l

pub length_pair_order : (ps : List Pair) → length (pair_order ps) ≡ length ps
unfolding pair_order
length_pair_order [] = refl
length_pair_order (p ∷ []) = refl
length_pair_order (p ∷ q ∷ []) = either_way (λ (l : List Pair). length l ≡ 2) (lt q.half p.half) refl refl
length_pair_order (p ∷ q ∷ r ∷ l) = refl

pub length_order : (ps : Pairs) → PairsFit ps → length (pair_order (pair_list_of ps)) ≡ ps.len
length_order ps fit = length_pair_order (pair_list_of ps) ∙ length-take-le ps.len ps.pair (omega (arith, fit.0, fit.1))

-- ---- one root more, where there is room
held_more : (l : List RealRoot) (r : RealRoot) → length l < 4 → held l r ≡ l ++ r ∷ []
unfolding held
held_more l r h = simp (lt-ltb (length l) 4 h)

pub pushed_more : (s : Roots) (r : RealRoot) → Fits s → s.len < 4 → (list_of (pushed_of s r) ≡ list_of s ++ r ∷ []) × Fits (pushed_of s r)
    × ((pushed_of s r).len ≡ s.len + 1)
pushed_more s r f h =
    let fits = pushed_fits s r f in
    let list = pushed_list s r f ∙ held_more (list_of s) r (omega (arith, length_list s f, h)) in
    (list, fits, sym (length_list (pushed_of s r) fits) ∙ ap length list ∙ length_snoc (list_of s) r ∙ ap (λ (n : ℕ). n + 1) (length_list s f))

-- ---- the same where zeros follow the list
-- an array made of a list of at most four has that list, and zeros after it
pub tidy_of : (s : Roots) (l : List RealRoot) → s ≡ roots_of l → length l ≤ 4 → (list_of s ≡ l) × Tidy s
tidy_of s l e h =
    let list : list_of s ≡ l = ap (λ (t : Roots). list_of t) e ∙ list_roots l in
    let len : s.len ≡ length l = ap (λ (t : Roots). t.len) e in
    (list, (e ∙ ap roots_of (sym list), omega arith))

pub tidy_more : (s : Roots) (r : RealRoot) → Tidy s → s.len < 4 → (list_of (pushed_of s r) ≡ list_of s ++ r ∷ []) × Tidy (pushed_of s r)
    × ((pushed_of s r).len ≡ s.len + 1)
tidy_more s r t h =
    let len : s.len ≡ length (list_of s) = ap (λ (u : Roots). u.len) t.0 in
    let longer = length_snoc (list_of s) r in
    let whole : pushed_of s r ≡ roots_of (list_of s ++ r ∷ []) =
    ap (λ (u : Roots). pushed_of u r) t.0 ∙ pushed_roots (list_of s) r ∙ ap roots_of (held_more (list_of s) r (omega (arith, len, h))) in
    let made = tidy_of (pushed_of s r) (list_of s ++ r ∷ []) whole (omega (arith, longer, len, h)) in
    (made.0, made.1, ap (λ (u : Roots). u.len) whole ∙ longer ∙ ap (λ (n : ℕ). n + 1) (sym len))
