-- Roots and pairs in arrays with a count stand for lists: a push on the one side is a push on the other, and a loop over the array reads the list.
use mathlib.Core.Path.{◌≡◌, refl, sym, ap, ◌∙◌}
use mathlib.Core.Bool.{Bool, true, false, cond, ◌&&◌}
use mathlib.Core.List.{List, [], ◌∷◌, ◌++◌}
use Prim.Native.Nat.{ℕ, zero, suc, ◌+◌, ◌≤◌, ◌<◌}
use native.Mathlib.Omega.{arith}
use borrow.Author.Tests.{ltb-true, lt-ltb, le-ltb}
use lib.Dec.{ltb, eqb}
use lib.ListN.{length, drop, get_or, set, length-set}
use lib.Seq.{length-take-le, take-append_seam}
use Rattle.facts.specs.Arrays.{from_fn}
use Rattle.facts.specs.Cond.{either_way}
use Rattle.facts.specs.Lists.{length_mapped, of_four, length_snoc, left_cons, left_nil, take_pushed, length_padded, padded_push}
use Rattle.float.specs.Methods.{is_finite_of}
use Rattle.roots.specs.declared.RealRoot.{RealRoot}
use Rattle.roots.specs.declared.Roots.{Roots}
use Rattle.roots.specs.declared.Pair.{Pair}
use Rattle.roots.specs.declared.Pairs.{Pairs}
use Rattle.roots.specs.Roots.{no_root, list_of, roots_of, held, kept, pushed_of, kept_in, no_pair, pair_list_of, pairs_of, paired, paired_in}
use Rattle.roots.specs.Listed.{Fits, PairsFit, blank, blank_pair}

-- ---- a loop over the roots
pub roots_cons : (s : Roots) (k : ℕ) → Fits s → k < s.len → drop k (list_of s) ≡ get_or s.root k blank ∷ drop (k + 1) (list_of s)
roots_cons s k f h = let e = f.0 in let l = f.1 in left_cons s.root s.len k blank (omega arith) h

pub roots_nil : (s : Roots) (k : ℕ) → Fits s → s.len ≤ k → drop k (list_of s) ≡ []
roots_nil s k f h = let e = f.0 in let l = f.1 in left_nil s.root s.len k (omega arith) h

pub length_list : (s : Roots) → Fits s → length (list_of s) ≡ s.len
length_list s f = let e = f.0 in let l = f.1 in length-take-le s.len s.root (omega arith)

-- ---- one root more
-- Each place of four by its number, as the code has it: r at place k, and the others as they are.
abbrev four_with : {A : Type 0} (l : List A) (d : A) (k : ℕ) (r : A) → List A
four_with l d k r = from_fn 4 (λ j. cond (eqb j k) r (get_or l j d))

four_set : {A : Type 0} (l : List A) (d : A) (k : ℕ) (r : A) → length l ≡ 4 → k < 4 → four_with l d k r ≡ set l k r
four_set {A} l d k r four h = of_four (λ (l : List A). four_with l d k r ≡ set l k r) (go k h) l four
  where
    go : (k : ℕ) → k < 4 → (a b c e : A) → four_with (a ∷ b ∷ c ∷ e ∷ []) d k r ≡ set (a ∷ b ∷ c ∷ e ∷ []) k r
    go zero h a b c e = refl
    go (suc zero) h a b c e = refl
    go (suc (suc zero)) h a b c e = refl
    go (suc (suc (suc zero))) h a b c e = refl
    go (suc (suc (suc (suc k)))) h a b c e = absurd (omega arith)

module _ (s : Roots) (r : RealRoot) where
  pub pushed_at : (k : ℕ) → length s.root ≡ 4 → k < 4 → s.len ≡ k → record { root = four_with s.root blank k r; len = k + 1 } ≡ pushed_of s r
  unfolding pushed_of
  pushed_at k four h e = rw (e, lt-ltb k 4 h) (ap (λ (l : List RealRoot). record { root = l; len = k + 1 }) (four_set s.root blank k r four h))

  -- each place, as the search finds it for the code
  pub pushed_first : length s.root ≡ 4 → s.len ≡ 0
      → record { root = r ∷ get_or s.root 1 blank ∷ get_or s.root 2 blank ∷ get_or s.root 3 blank ∷ []; len = 1 } ≡ pushed_of s r
  pushed_first four e = pushed_at 0 four (omega arith) e

  pub pushed_second : length s.root ≡ 4 → s.len ≡ 1
      → record { root = get_or s.root 0 blank ∷ r ∷ get_or s.root 2 blank ∷ get_or s.root 3 blank ∷ []; len = 2 } ≡ pushed_of s r
  pushed_second four e = pushed_at 1 four (omega arith) e

  pub pushed_third : length s.root ≡ 4 → s.len ≡ 2
      → record { root = get_or s.root 0 blank ∷ get_or s.root 1 blank ∷ r ∷ get_or s.root 3 blank ∷ []; len = 3 } ≡ pushed_of s r
  pushed_third four e = pushed_at 2 four (omega arith) e

  pub pushed_last : length s.root ≡ 4 → s.len ≡ 3
      → record { root = get_or s.root 0 blank ∷ get_or s.root 1 blank ∷ get_or s.root 2 blank ∷ r ∷ []; len = 4 } ≡ pushed_of s r
  pushed_last four e = pushed_at 3 four (omega arith) e

  pub pushed_not : 4 ≤ s.len → s ≡ pushed_of s r
  unfolding pushed_of
  pushed_not h = rw (le-ltb s.len 4 h)

pub ruleset pushes = (length_mapped, pushed_first, pushed_second, pushed_third, pushed_last, pushed_not)

pub pushed_fits : (s : Roots) (r : RealRoot) → Fits s → Fits (pushed_of s r)
unfolding pushed_of
pushed_fits s r f = go (ltb s.len 4) refl
  where
    go : (b : Bool) → ltb s.len 4 ≡ b → Fits (cond b (record { root = set s.root s.len r; len = s.len + 1 }) s)
    go true t = let h = ltb-true s.len 4 t in (length-set s.root s.len r ∙ f.0, omega arith)
    go false t = f

pub pushed_list : (s : Roots) (r : RealRoot) → Fits s → list_of (pushed_of s r) ≡ held (list_of s) r
unfolding pushed_of held
pushed_list s r f = go (ltb s.len 4) refl ∙ ap (λ (k : ℕ). cond (ltb k 4) (list_of s ++ r ∷ []) (list_of s)) (sym (length_list s f))
  where
    go : (b : Bool) → ltb s.len 4 ≡ b
        → list_of (cond b (record { root = set s.root s.len r; len = s.len + 1 }) s) ≡ cond b (list_of s ++ r ∷ []) (list_of s)
    go true t = let h = ltb-true s.len 4 t in let e = f.0 in take_pushed s.root s.len r (omega arith)
    go false t = refl

pub kept_fits : (s : Roots) (r : RealRoot) → Fits s → Fits (kept_in s r)
unfolding kept_in
kept_fits s r f = either_way Fits (is_finite_of r.value) (pushed_fits s r f) f

-- ---- a list in an array
pub list_roots : (l : List RealRoot) → list_of (roots_of l) ≡ l
list_roots l = take-append_seam l _

pub roots_fit : (l : List RealRoot) → length l ≤ 4 → Fits (roots_of l)
roots_fit l h = (length_padded 4 no_root l h, h)

pub pushed_roots : (l : List RealRoot) (r : RealRoot) → pushed_of (roots_of l) r ≡ roots_of (held l r)
unfolding pushed_of held
pushed_roots l r = go (ltb (length l) 4) refl
  where
    go : (b : Bool) → ltb (length l) 4 ≡ b
        → cond b (record { root = set (roots_of l).root (length l) r; len = length l + 1 }) (roots_of l) ≡ roots_of (cond b (l ++ r ∷ []) l)
    go true t = λ i. record { root = padded_push 4 no_root l r (ltb-true (length l) 4 t) i; len = sym (length_snoc l r) i }
    go false t = refl

pub kept_roots : (l : List RealRoot) (r : RealRoot) → kept_in (roots_of l) r ≡ roots_of (kept l r)
unfolding kept_in kept
kept_roots l r = go (is_finite_of r.value)
  where
    go : (b : Bool) → cond b (pushed_of (roots_of l) r) (roots_of l) ≡ roots_of (cond b (held l r) l)
    go true = pushed_roots l r
    go false = refl

-- ---- pairs, likewise
pub pairs_cons : (s : Pairs) (k : ℕ) → PairsFit s → k < s.len → drop k (pair_list_of s) ≡ get_or s.pair k blank_pair ∷ drop (k + 1) (pair_list_of s)
pairs_cons s k f h = let e = f.0 in let l = f.1 in left_cons s.pair s.len k blank_pair (omega arith) h

pub pairs_nil : (s : Pairs) (k : ℕ) → PairsFit s → s.len ≤ k → drop k (pair_list_of s) ≡ []
pairs_nil s k f h = let e = f.0 in let l = f.1 in left_nil s.pair s.len k (omega arith) h

pub length_pair_list : (s : Pairs) → PairsFit s → length (pair_list_of s) ≡ s.len
length_pair_list s f = let e = f.0 in let l = f.1 in length-take-le s.len s.pair (omega arith)

-- by the places, as the code has it
abbrev two_with : List Pair → ℕ → Pair → List Pair
two_with l k p = from_fn 2 (λ j. cond (eqb j k) p (get_or l j blank_pair))

two_set : (l : List Pair) (k : ℕ) (p : Pair) → length l ≡ 2 → k < 2 → two_with l k p ≡ set l k p
two_set (a ∷ b ∷ []) zero p e h = refl
two_set (a ∷ b ∷ []) (suc zero) p e h = refl
two_set (a ∷ b ∷ []) (suc (suc k)) p e h = absurd (omega arith)
two_set [] k p e h = absurd (omega (arith, e))
two_set (a ∷ []) k p e h = absurd (omega (arith, e))
two_set (a ∷ b ∷ x ∷ l) k p e h = absurd (omega (arith, e))

module _ (s : Pairs) (p : Pair) (finite : is_finite_of p.centre ≡ true) where
  pub paired_at : (k : ℕ) → length s.pair ≡ 2 → k < 2 → s.len ≡ k → record { pair = two_with s.pair k p; len = k + 1 } ≡ paired_in s p
  unfolding paired_in
  paired_at k two h e = rw (finite, e, lt-ltb k 2 h) (ap (λ (l : List Pair). record { pair = l; len = k + 1 }) (two_set s.pair k p two h))

  pub paired_first : length s.pair ≡ 2 → s.len ≡ 0 → record { pair = p ∷ get_or s.pair 1 blank_pair ∷ []; len = 1 } ≡ paired_in s p
  paired_first two e = paired_at 0 two (omega arith) e

  pub paired_second : length s.pair ≡ 2 → s.len ≡ 1 → record { pair = get_or s.pair 0 blank_pair ∷ p ∷ []; len = 2 } ≡ paired_in s p
  paired_second two e = paired_at 1 two (omega arith) e

  pub paired_not : 2 ≤ s.len → s ≡ paired_in s p
  unfolding paired_in
  paired_not h = rw (finite, le-ltb s.len 2 h)

pub paired_none : (s : Pairs) (p : Pair) → is_finite_of p.centre ≡ false → s ≡ paired_in s p
unfolding paired_in
paired_none s p f = rw f

pub ruleset pairings = (length_mapped, paired_first, paired_second, paired_not, paired_none)

pub paired_fits : (s : Pairs) (p : Pair) → PairsFit s → PairsFit (paired_in s p)
unfolding paired_in
paired_fits s p f = go (is_finite_of p.centre) (ltb s.len 2) refl
  where
    go : (c b : Bool) → ltb s.len 2 ≡ b → PairsFit (cond (c && b) (record { pair = set s.pair s.len p; len = s.len + 1 }) s)
    go true true t = let h = ltb-true s.len 2 t in (length-set s.pair s.len p ∙ f.0, omega arith)
    go true false t = f
    go false b t = f

pub list_pairs : (l : List Pair) → pair_list_of (pairs_of l) ≡ l
list_pairs l = take-append_seam l _

pub pairs_fit : (l : List Pair) → length l ≤ 2 → PairsFit (pairs_of l)
pairs_fit l h = (length_padded 2 no_pair l h, h)

pub paired_pairs : (l : List Pair) (p : Pair) → paired_in (pairs_of l) p ≡ pairs_of (paired l p)
unfolding paired_in paired
paired_pairs l p = go (is_finite_of p.centre) (ltb (length l) 2) refl
  where
    go : (c b : Bool) → ltb (length l) 2 ≡ b
        → cond (c && b) (record { pair = set (pairs_of l).pair (length l) p; len = length l + 1 }) (pairs_of l) ≡ pairs_of (cond (c && b) (l ++ p ∷ []) l)
    go true true t = λ i. record { pair = padded_push 2 no_pair l p (ltb-true (length l) 2 t) i; len = sym (length_snoc l p) i }
    go true false t = refl
    go false b t = refl
