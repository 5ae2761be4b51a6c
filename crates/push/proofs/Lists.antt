-- `push_quadratic` on lists in arrays: what the arrays hold is what the definition on lists gives; and a quadratic factor adds at most 2.
use mathlib.Core.Path.{◌≡◌, ap, ◌∙◌}
use mathlib.Core.List.{List}
use Prim.Native.Nat.{ℕ, ◌+◌}
use native.Mathlib.Omega.{arith}
use lib.Ieee.{Float}
use Rattle.scaled.specs.declared.Scaled.{Scaled}
use Rattle.roots.specs.declared.RealRoot.{RealRoot}
use Rattle.roots.specs.declared.Roots.{Roots}
use Rattle.roots.specs.declared.Pair.{Pair}
use Rattle.roots.specs.declared.Pairs.{Pairs}
use Rattle.roots.specs.Roots.{root, roots_of, kept, kept_in, pairs_of}
use Rattle.roots.specs.Listed.{Shared}
use Rattle.roots.proofs.Laws.{kept_roots, paired_pairs}
use Rattle.roots.proofs.Sums.{shared_more, shared_kept, shared_paired}
use Rattle.push.specs.Quadratic.{Factor, double, apart, complex, quadratic_roots_of, push_factor, push_quadratic_of, found_of, push_factor_in}
use Rattle.push.specs.Quadratic.{push_quadratic_in}

push_factor_is : (out : List RealRoot) (pairs : List Pair) (f : Factor) → push_factor_in (found_of (out, pairs)) f ≡ found_of (push_factor (out, pairs) f)
unfolding push_factor push_factor_in
push_factor_is out pairs (double y) = ap (λ (s : Roots). record { roots = s; pairs = pairs_of pairs }) (kept_roots out (root y 2))
push_factor_is out pairs (apart y z) =
    ap (λ (s : Roots). record { roots = s; pairs = pairs_of pairs })
    (ap (λ (s : Roots). kept_in s (root z 1)) (kept_roots out (root y 1)) ∙ kept_roots (kept out (root y 1)) (root z 1))
push_factor_is out pairs (complex p) = ap (λ (s : Pairs). record { roots = roots_of out; pairs = s }) (paired_pairs pairs p)

pub push_lists : (poly : Scaled) (al be tol : Float) (out : List RealRoot) (pairs : List Pair)
    → push_quadratic_in poly al be tol (roots_of out) (pairs_of pairs) ≡ found_of (push_quadratic_of poly al be tol out pairs)
unfolding push_quadratic_in push_quadratic_of
push_lists poly al be tol out pairs = push_factor_is out pairs (quadratic_roots_of poly al be tol)

-- the multiplicities, with two for each pair
factor_adds : (d : ℕ) (out : List RealRoot) (pairs : List Pair) (f : Factor) → Shared d out pairs
    → Shared (d + 2) (push_factor (out, pairs) f).0 (push_factor (out, pairs) f).1
unfolding push_factor
factor_adds d out pairs (double y) h = shared_kept d out pairs (root y 2) h (omega arith)
factor_adds d out pairs (apart y z) h =
    shared_more (d + 1 + 1) (d + 2) (kept (kept out (root y 1)) (root z 1)) pairs (omega arith)
    (shared_kept (d + 1) (kept out (root y 1)) pairs (root z 1) (shared_kept d out pairs (root y 1) h (omega arith)) (omega arith))
factor_adds d out pairs (complex p) h = shared_paired d out pairs p h

pub quadratic_adds : (poly : Scaled) (al be tol : Float) (d : ℕ) (out : List RealRoot) (pairs : List Pair) → Shared d out pairs
    → Shared (d + 2) (push_quadratic_of poly al be tol out pairs).0 (push_quadratic_of poly al be tol out pairs).1
unfolding push_quadratic_of
quadratic_adds poly al be tol d out pairs h = factor_adds d out pairs (quadratic_roots_of poly al be tol) h
