-- A walk over the pairs in their order: none, one, two in either order.
use mathlib.Core.Path.{◌≡◌, refl, sym}
use mathlib.Core.Bool.{Bool, true, false}
use mathlib.Core.List.{List, [], ◌∷◌}
use Prim.Native.Nat.{◌≤◌}
use lib.ListN.{length, get_or}
use lib.Ieee.{Float, lt}
use Rattle.scaled.specs.declared.Scaled.{Scaled}
use Rattle.roots.specs.declared.RealRoot.{RealRoot}
use Rattle.roots.specs.declared.Pair.{Pair}
use Rattle.roots.specs.declared.Pairs.{Pairs}
use Rattle.roots.specs.Roots.{pair_list_of}
use Rattle.roots.specs.Listed.{blank_pair}
use Rattle.asking.specs.Asking.{Asking, Stage, ended, walked, onward, each}
use Rattle.asking.proofs.Laws.{each_one, each_two}
use Rattle.touching.specs.Touching.{pair_order, pair_turn}
use Rattle.touching.proofs.Lists.{pairs_two}

module _ (f : List RealRoot → Pair → Asking (List RealRoot)) (s : List RealRoot) (rs : List Bool)
    (ps : List Pair) where
  pub order_none : ps ≡ [] → ended s rs ≡ walked rs (each f s (pair_order ps))
  unfolding each pair_order walked
  order_none e = rw e

  pub order_one : (p : Pair) (st : Stage (List RealRoot)) → ps ≡ p ∷ []
      → st ≡ onward (ended s rs) (λ its. f its p) → st ≡ walked rs (each f s (pair_order ps))
  unfolding pair_order onward
  order_one p st e h = rw e (each_one f (ended s rs) st p h)

  pub order_kept : (p q : Pair) (st st' : Stage (List RealRoot)) → ps ≡ p ∷ q ∷ []
      → lt q.half p.half ≡ false
      → st ≡ onward (ended s rs) (λ its. f its p) → st' ≡ onward st (λ its. f its q)
      → st' ≡ walked rs (each f s (pair_order ps))
  unfolding pair_order onward
  order_kept p q st st' e t h g = rw (e, t) (each_two f (ended s rs) st st' p q h g)

  pub order_turned : (p q : Pair) (st st' : Stage (List RealRoot)) → ps ≡ p ∷ q ∷ []
      → lt q.half p.half ≡ true
      → st ≡ onward (ended s rs) (λ its. f its q) → st' ≡ onward st (λ its. f its p)
      → st' ≡ walked rs (each f s (pair_order ps))
  unfolding pair_order onward
  order_turned p q st st' e t h g = rw (e, t) (each_two f (ended s rs) st st' q p h g)

-- two by the arrays, for `grind`
pub pairs_kept : (poly : Scaled) (tol : Float) (its : List RealRoot) (rs : List Bool) (ps : Pairs)
    → length ps.pair ≡ 2 → ps.len ≤ 2 → (ps.len ≡ 0 → ⊥)
    → (ps.len ≡ 1 → ⊥)
    → lt (get_or ps.pair 1 blank_pair).half (get_or ps.pair 0 blank_pair).half ≡ false
    → walked rs (each (pair_turn poly tol) its (pair_order (pair_list_of ps)))
    ≡ onward (onward (ended its rs) (λ (l : List RealRoot). pair_turn poly tol l (get_or ps.pair 0 blank_pair)))
    (λ (l : List RealRoot). pair_turn poly tol l (get_or ps.pair 1 blank_pair))
pairs_kept poly tol its rs ps two few n m h =
    sym (order_kept (pair_turn poly tol) its rs (pair_list_of ps) _ _ _ _ (pairs_two ps (two, few) n m) h refl refl)

pub pairs_turned : (poly : Scaled) (tol : Float) (its : List RealRoot) (rs : List Bool) (ps : Pairs) → length ps.pair ≡ 2 → ps.len ≤ 2 → (ps.len ≡ 0 → ⊥)
    → (ps.len ≡ 1 → ⊥)
    → lt (get_or ps.pair 1 blank_pair).half (get_or ps.pair 0 blank_pair).half ≡ true
    → walked rs (each (pair_turn poly tol) its (pair_order (pair_list_of ps)))
    ≡ onward (onward (ended its rs) (λ (l : List RealRoot). pair_turn poly tol l (get_or ps.pair 1 blank_pair)))
    (λ (l : List RealRoot). pair_turn poly tol l (get_or ps.pair 0 blank_pair))
pairs_turned poly tol its rs ps two few n m h =
    sym (order_turned (pair_turn poly tol) its rs (pair_list_of ps) _ _ _ _ (pairs_two ps (two, few) n m) h refl refl)
