-- What the multiplicities of the polished places add up to; and the two steps, in order and polished, together.
use mathlib.Core.Path.{◌≡◌, sym, ap, ◌∙◌}
use mathlib.Core.Bool.{Bool}
use mathlib.Core.List.{List, map}
use Prim.Native.Nat.{ℕ, zero, suc, ◌+◌, ◌≤◌, ◌<◌}
use native.Mathlib.Numerals.{add-one}
use native.Mathlib.Omega.{arith}
use lib.ListN.{length, drop, drop_of_length-le}
use lib.Seq.{drop-cons}
use Rattle.facts.specs.Arrays.{fill_from, from_fn}
use Rattle.facts.specs.Lists.{length_mapped}
use Rattle.facts.specs.Sort.{sorted_by}
use Rattle.facts.proofs.Sort.{length_sorted, sum_sorted}
use Rattle.float.specs.Methods.{total_le_of}
use Rattle.scaled.specs.declared.Scaled.{Scaled}
use Rattle.roots.specs.Roots.{list_of}
use Rattle.roots.specs.Listed.{blank, multiplicities}
use Rattle.roots.specs.declared.Roots.{Roots}
use Rattle.roots.proofs.Laws.{length_list}
use Rattle.roots.specs.declared.RealRoot.{RealRoot}
use Rattle.finish.specs.Finish.{multiplicity_at, by_value, ordered_at, ordered_of, polished_at, polished_of}

-- ---- their multiplicities are the candidates'
pub sum_placed : (n : ℕ) (poly : Scaled) (l : List RealRoot) (i k : ℕ) → i + k ≡ length l
    → multiplicities (map (polished_at n poly) (fill_from i k (ordered_at l))) ≡ multiplicities (drop i l)
unfolding polished_at ordered_at
sum_placed n poly l i zero e = sym (ap multiplicities (drop_of_length-le l {i = i} (omega arith)))
sum_placed n poly l i (suc k) e =
    ap (λ (s : ℕ). multiplicity_at l i + s) (sum_placed n poly l (i + 1) k (omega arith) ∙ ap (λ (j : ℕ). multiplicities (drop j l)) (add-one i))
    ∙ sym (ap multiplicities (drop-cons l i blank (omega arith)))

pub sum_polished : (n : ℕ) (poly : Scaled) (c : List RealRoot) → multiplicities (polished_of n poly (ordered_of c)) ≡ multiplicities c
unfolding polished_of ordered_of by_value
sum_polished n poly c =
    let before : RealRoot → RealRoot → Bool = λ a b. total_le_of a.value b.value in
    sum_placed n poly (sorted_by before c) 0 (length c) (omega (arith, length_sorted before c)) ∙ sum_sorted before (λ (r : RealRoot). r.multiplicity) c

-- ---- the two steps together
module _ (poly : Scaled) (c : Roots) (f : length c.root ≡ 4) (few : c.len ≤ 4) where
  pub placed_list : polished_of 4 poly (from_fn c.len (ordered_at (by_value (list_of c)))) ≡ polished_of 4 poly (ordered_of (list_of c))
  unfolding ordered_of
  placed_list = ap (λ (k : ℕ). polished_of 4 poly (from_fn k (ordered_at (by_value (list_of c))))) (sym (length_list c (f, few)))

  pub placed_sum : multiplicities (polished_of 4 poly (from_fn c.len (ordered_at (by_value (list_of c))))) ≡ multiplicities (list_of c)
  placed_sum = ap multiplicities placed_list ∙ sum_polished 4 poly (list_of c)

pub placed_bound : (poly : Scaled) (c : Roots) (p : List RealRoot) (most : ℕ)
    → p ≡ polished_of 4 poly (ordered_of (list_of c))
    → multiplicities (list_of c) < most → multiplicities p < most
placed_bound poly c p most e h = rw (e, sum_polished 4 poly (list_of c)) h

-- The two steps, for `using`.
pub ruleset placed = (length_mapped, placed_list, placed_sum)
