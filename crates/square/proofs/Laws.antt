-- One column of elimination by what its test found, and the end of the columns, at any size: the shared facts of the sizes.
use mathlib.Core.Path.{◌≡◌, refl, ap, sym, ◌∙◌, subst}
use mathlib.Core.Bool.{Bool, true, false, cond, false≢true}
use mathlib.Core.List.{List, [], ◌∷◌}
use Rattle.std.specs.Prelude.{swap, None, Some}
use Rattle.std.specs.List.{fold}
use Prim.Native.Nat.{ℕ, suc, ◌+◌, ◌-◌, ◌≤◌, ◌<◌}
use native.Mathlib.Omega.{arith}
use native.Mathlib.Nat.{sub-zero, zero-add}
use borrow.Author.Tests.{eqb-true, eq-eqb}
use lib.Dec.{eqb}
use lib.ListN.{length, get_or, set, length-set}
use lib.Seq.{get_or-set_same, get_or-set_other}
use lib.Ieee.{Float, nan, lt, le}
use Rattle.std.proofs.lemmas.List.{get_or_default, length-replicate}
use Rattle.facts.specs.Cond.{either_way}
use Rattle.facts.specs.Count.{up_turn, up_end, down_turn, down_end}
use Rattle.float.specs.Rounded.{◌-ᶠ◌, ◌*ᶠ◌}
use Rattle.float.specs.Methods.{abs_of}
use Rattle.square.specs.Square.{size_sum_of, scale_of, least_pivot_of, larger_of, pivot_of, Lines, lines, swapped, swap_pivot_of, lose_of}
use Rattle.square.specs.Square.{remainder_step, remainder_of, substitute_step, substitute_of, reduce_step, reduce_of, solve_from, solve_square_of}

pub larger_below : (n i : ℕ) (a : Float) (j : ℕ) (b : Float) → i < n → j < n → larger_of i a j b < n
unfolding larger_of
larger_below n i a j b h k = either_way (λ (r : ℕ). r < n) (lt (abs_of b) (abs_of a)) h k

module _ {A : Type 0} (d : A) where
  pub swapped_is : (l : List A) (i j : ℕ) → i < length l → j < length l → swap l i j ≡ swapped d i j l
  swapped_is [] i j h k = absurd (omega arith)
  swapped_is (e ∷ ys) i j h k = rw (get_or_default (e ∷ ys) j e d k, get_or_default (e ∷ ys) i e d h)

pub swap_is : {n col pivot : ℕ} (m : List (List Float)) (b : List Float) {t : List (List Float)} {u : List Float} → length m ≡ n → length b ≡ n → col < n
    → pivot < n → pivot ≡ pivot_of n m col → t ≡ swap m col pivot → u ≡ swap b col pivot → lines t u ≡ swap_pivot_of n col (lines m b)
unfolding swap_pivot_of
swap_is {col = col} {pivot = pivot} m b M B inside below e f g =
    rw (sym e, f, g, swapped_is [] m col pivot (omega arith) (omega arith), swapped_is nan b col pivot (omega arith) (omega arith))

-- the same of the definition's exchange
pub swapped_lines : (n col pivot : ℕ) (m : List (List Float)) (b : List Float)
    → pivot ≡ pivot_of n m col → lines (swapped [] col pivot m) (swapped nan col pivot b) ≡ swap_pivot_of n col (lines m b)
unfolding swap_pivot_of
swapped_lines n col pivot m b e = rw e

-- the row that comes up stands in row col then
pub up_row : (n : ℕ) (m : List (List Float)) (col pivot : ℕ) → length m ≡ n → col < n → get_or (swapped [] col pivot m) col [] ≡ get_or m pivot []
up_row n m col pivot L l = go (eqb col pivot) refl
  where
    h : col < length m
    h = subst (λ (k : ℕ). col < k) (sym L) l

    go : (b : Bool) → eqb col pivot ≡ b → get_or (swapped [] col pivot m) col [] ≡ get_or m pivot []
    go true e =
        let inside = subst (λ (k : ℕ). col < k) (sym (length-set m col (get_or m col []))) h in
        let same = get_or-set_same (set m col (get_or m col [])) col (get_or m col []) [] inside in
        subst (λ (j : ℕ). get_or (swapped [] col j m) col [] ≡ get_or m j []) (eqb-true col pivot e) same
    go false e =
        get_or-set_other (set m col (get_or m pivot [])) pivot col (get_or m col []) [] (λ s. false≢true (sym e ∙ eq-eqb col pivot s))
        ∙ get_or-set_same m col (get_or m pivot []) [] h

-- t is the system with the pivot's row p up, and size that of the pivot
module _ (n : ℕ) (least : Float) (col : ℕ) (s t : Lines) (p : List Float) (size : Float) (inside : col < n) (up : t ≡ swap_pivot_of n col s)
    (P : get_or t.m col [] ≡ p) (sized : size ≡ abs_of (get_or p col nan)) where
  column : solve_from n least (n - col) s ≡ cond (le size least) None (solve_from n least (n - (col + 1)) (reduce_of n col p t))
  unfolding solve_from
  column =
      let e : n - col ≡ suc (n - (col + 1)) = omega arith in
      let g : n - suc (n - (col + 1)) ≡ col = omega arith in
      let rest = solve_from n least (n - (col + 1)) in
      let row : ℕ → List Float = λ i. get_or (swap_pivot_of n i s).m i [] in
      ap (λ (k : ℕ). solve_from n least k s) e
      ∙ ap (λ (i : ℕ). cond (le (abs_of (get_or (row i) i nan)) least) None (rest (reduce_of n i (row i) (swap_pivot_of n i s)))) g
      ∙ rw (sized, sym P, up)

  pub solve_stop : le size least ≡ true → solve_from n least (n - col) s ≡ None
  solve_stop t = column ∙ rw t

  pub solve_go : (u : Lines) → le size least ≡ false → u ≡ reduce_of n col p t → solve_from n least (n - col) s ≡ solve_from n least (n - (col + 1)) u
  solve_go u f e = column ∙ rw (f, e)

pub solve_end : (n : ℕ) (least : Float) (col : ℕ) (s : Lines) → n ≤ col → solve_from n least (n - col) s ≡ Some (substitute_of n s)
unfolding solve_from
solve_end n least col s h = let e : n - col ≡ 0 = omega arith in ap (λ (k : ℕ). solve_from n least k s) e

-- what the row's entries from a place on, with the unknowns there, take from acc: as a fold over the pairs
pub remainder_folded : {P : Type 0} (entry unknown : P → Float) (row x : List Float) (from : ℕ) (acc : Float) (pairs : List P)
    → length pairs ≡ length row - from
    → ((d : P) (k : ℕ) → k < length pairs → entry (get_or pairs k d) ≡ get_or row (k + from) nan)
    → ((d : P) (k : ℕ) → k < length pairs → unknown (get_or pairs k d) ≡ get_or x (k + from) nan)
    → fold (λ a p. a -ᶠ entry p *ᶠ unknown p) acc pairs ≡ remainder_of row x from acc
unfolding remainder_of
remainder_folded entry unknown row x from acc [] l e u = sym (up_end (length row) (remainder_step row x) from acc (omega (arith, l)))
remainder_folded entry unknown row x from acc (p ∷ pairs) l e u =
    let next : (k : ℕ) → suc k + from ≡ k + (from + 1) = λ k. omega arith in
    remainder_folded entry unknown row x (from + 1) (acc -ᶠ entry p *ᶠ unknown p) pairs (omega (arith, l))
    (λ d k h. e d (suc k) (omega (arith, h)) ∙ ap (λ (j : ℕ). get_or row j nan) (next k))
    (λ d k h. u d (suc k) (omega (arith, h)) ∙ ap (λ (j : ℕ). get_or x j nan) (next k))
    ∙ rw (e p 0 (omega arith), u p 0 (omega arith), zero-add from) (sym (up_turn (length row) (remainder_step row x) from acc (omega (arith, l))))

-- What the functions' proofs rest on: the laws, and the definitions.
pub ruleset laws = (sub-zero, length-set, length-replicate, up_turn, up_end, down_turn, down_end, larger_below, swap_is, solve_stop, solve_go, solve_end)

unfoldable pub definitions : ℕ
unfolding size_sum_of scale_of least_pivot_of larger_of pivot_of lose_of remainder_of substitute_step substitute_of reduce_step reduce_of solve_square_of
definitions = 0
