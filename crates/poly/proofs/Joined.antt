-- Finishing keeps the sum of the multiplicities: ordered and polished places have those of the candidates, a run's are added, and a push drops at most a root.
-- And the factors add up to the degree.
use mathlib.Core.Bool.{Bool, true, false, cond}
use mathlib.Core.List.{List, [], ◌∷◌, map}
use Prim.Native.Nat.{ℕ, zero, suc, ◌+◌, ◌≤◌}
use native.Mathlib.Nat.{le_of_eq}
use native.Mathlib.Omega.{arith}
use lib.ListN.{length}
use lib.Ieee.{Float}
use Rattle.facts.specs.Arrays.{fill_from}
use Rattle.facts.specs.Lists.{all_at}
use Rattle.facts.proofs.Sort.{length_sorted, all_sorted}
use Rattle.float.specs.Methods.{total_le_of}
use Rattle.angle.specs.declared.Sine.{Sine}
use Rattle.scaled.specs.declared.Scaled.{Scaled}
use Rattle.factors.specs.Factors.{degree_of}
use Rattle.factorize.specs.Factorize.{factorize_of}
use Rattle.factorize.proofs.Degree.{degrees_add}
use Rattle.roots.specs.declared.RealRoot.{RealRoot}
use Rattle.roots.specs.Roots.{kept}
use Rattle.roots.specs.Listed.{multiplicities, Counted, Within, blank}
use Rattle.roots.proofs.Sums.{within_none, within_more, within_kept}
use Rattle.finish.specs.Finish.{by_value, ordered_at, ordered_of, polished_at, polished_of, is_near_of, join_of, joined_from, joined_of, finish_of}
use Rattle.finish.proofs.Laws.{sum_polished}

-- ---- each place counts
counted_placed : (n : ℕ) (poly : Scaled) (l : List RealRoot) → Counted l → (i k : ℕ) → i + k ≤ length l
    → Counted (map (polished_at n poly) (fill_from i k (ordered_at l)))
unfolding polished_at ordered_at
counted_placed n poly l h i zero t = tt
counted_placed n poly l h i (suc k) t =
    (all_at (λ (r : RealRoot). 1 ≤ r.multiplicity) l blank i (λ out. absurd (omega (arith, out, t))) h, counted_placed n poly l h (i + 1) k (omega arith))

counted_polished : (n : ℕ) (poly : Scaled) (c : List RealRoot) → Counted c → Counted (polished_of n poly (ordered_of c))
unfolding polished_of ordered_of by_value
counted_polished n poly c h =
    let before : RealRoot → RealRoot → Bool = λ a b. total_le_of a.value b.value in
    counted_placed n poly (by_value c) (all_sorted before (λ (r : RealRoot). 1 ≤ r.multiplicity) c h) 0 (length c) (omega (arith, length_sorted before c))

-- ---- runs
module _ (poly : Scaled) (tol : Float) where
  runs_within : (d : ℕ) (out : List RealRoot) (a : RealRoot) (l : List RealRoot) → Within d out → 1 ≤ a.multiplicity → Counted l
      → Within (d + (a.multiplicity + multiplicities l)) (joined_from poly tol out a l)
  unfolding joined_from join_of
  runs_within d out a [] w p c = within_more (d + a.multiplicity) (d + (a.multiplicity + 0)) (kept out a) (omega arith) (within_kept d out a w p)
  runs_within d out a (b ∷ l) w p c =
      go (is_near_of poly a.value b.value tol) (runs_within d out (join_of a b) l w (let q = c.0 in omega arith) c.1)
      (runs_within (d + a.multiplicity) (kept out a) b l (within_kept d out a w p) c.0 c.1)
    where
      go : (near : Bool) → Within (d + (a.multiplicity + b.multiplicity + multiplicities l)) (joined_from poly tol out (join_of a b) l)
          → Within (d + a.multiplicity + (b.multiplicity + multiplicities l)) (joined_from poly tol (kept out a) b l)
          → Within (d + (a.multiplicity + (b.multiplicity + multiplicities l)))
          (joined_from poly tol (cond near out (kept out a)) (cond near (join_of a b) b) l)
      go true u v = within_more (d + (a.multiplicity + b.multiplicity + multiplicities l)) _ _ (omega arith) u
      go false u v = within_more (d + a.multiplicity + (b.multiplicity + multiplicities l)) _ _ (omega arith) v

  joined_within : (l : List RealRoot) → Counted l → Within (multiplicities l) (joined_of poly tol l)
  unfolding joined_of
  joined_within [] c = within_none
  joined_within (a ∷ l) c = within_more (0 + (a.multiplicity + multiplicities l)) _ _ (omega arith) (runs_within 0 [] a l within_none c.0 c.1)

  -- Scaled::finish
  pub finish_within : (c : List RealRoot) → Counted c → Within (multiplicities c) (finish_of poly c tol)
  unfolding finish_of
  finish_within c h =
      let l = polished_of 4 poly (ordered_of c) in
      within_more (multiplicities l) (multiplicities c) (joined_of poly tol l) (omega (arith, sum_polished 4 poly c))
      (joined_within l (counted_polished 4 poly c h))

pub degree_fits : (sine : Sine) (poly : Scaled) → poly.d ≤ 4 → degree_of (factorize_of sine poly 0) ≤ poly.d
unfolding factorize_of
degree_fits sine poly h = le_of_eq (degrees_add sine 3 poly h)
