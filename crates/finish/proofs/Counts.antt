-- At most four roots are finished, whatever the candidates are.
use mathlib.Core.List.{List, [], ◌∷◌}
use Prim.Native.Nat.{◌≤◌}
use native.Mathlib.Omega.{arith}
use lib.ListN.{length}
use lib.Ieee.{Float}
use Rattle.facts.specs.Cond.{either_way}
use Rattle.scaled.specs.declared.Scaled.{Scaled}
use Rattle.roots.specs.declared.RealRoot.{RealRoot}
use Rattle.roots.proofs.Sums.{length_kept}
use Rattle.finish.specs.Finish.{is_near_of, joined_from, joined_of, polished_of, ordered_of, finish_of}

joined_counts : (poly : Scaled) (tol : Float) (l out : List RealRoot) (a : RealRoot) → length out ≤ 4 → length (joined_from poly tol out a l) ≤ 4
unfolding joined_from
joined_counts poly tol [] out a h = length_kept out a h
joined_counts poly tol (b ∷ l) out a h =
    joined_counts poly tol l _ _ (either_way (λ (m : List RealRoot). length m ≤ 4) (is_near_of poly a.value b.value tol) h (length_kept out a h))

pub finish_counts : (poly : Scaled) (c : List RealRoot) (tol : Float) → length (finish_of poly c tol) ≤ 4
unfolding finish_of joined_of
finish_counts poly c tol = go (polished_of 4 poly (ordered_of c))
  where
    go : (l : List RealRoot) → length (joined_of poly tol l) ≤ 4
    go [] = omega arith
    go (a ∷ l) = joined_counts poly tol l [] a (omega arith)
