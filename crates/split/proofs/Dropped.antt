-- Points dropped from a hull one by one, with counts as code has them.
use mathlib.Core.Path.{◌≡◌, refl, ap, ◌∙◌}
use mathlib.Core.Bool.{true, false, cond}
use mathlib.Core.List.{List}
use Prim.Native.Nat.{ℕ, zero, suc, ◌-◌, ◌≤◌, ◌<◌}
use native.Mathlib.Omega.{arith}
use native.Mathlib.Nat.{le_refl}
use lib.ListN.{get_or}
use lib.Ieee.{Float, le}
use Rattle.facts.specs.Cond.{either_way}
use Rattle.float.specs.Literals.{zero64}
use Rattle.split.specs.Hull.{cross_of, popped_of}

module _ (lg : List Float) (at : List ℕ) (i : ℕ) where
  abbrev cross_at : ℕ → Float
  cross_at k = cross_of lg (get_or at (k - 2) 0) (get_or at (k - 1) 0) i

  module _ (k : ℕ) (l : 2 ≤ k) where
    two : k ≡ suc (suc (k - 2))
    two = omega arith

    step : popped_of lg at i k ≡ cond (le zero64 (cross_at k)) (popped_of lg at i (k - 1)) k
    unfolding popped_of
    step =
        let one : suc (k - 2) ≡ k - 1 = omega arith in
        ap (λ (n : ℕ). popped_of lg at i n) two
        ∙ ap (λ (n : ℕ). cond (le zero64 (cross_of lg (get_or at (k - 2) 0) (get_or at n 0) i)) (popped_of lg at i n) (suc n)) one
        ∙ (let e : suc (k - 1) ≡ k = omega arith in ap (λ (n : ℕ). cond (le zero64 (cross_at k)) (popped_of lg at i (k - 1)) n) e)

    pub pop_go : le zero64 (cross_at k) ≡ true → popped_of lg at i k ≡ popped_of lg at i (k - 1)
    pop_go e = rw (step, e)

    pub pop_stop : le zero64 (cross_at k) ≡ false → k ≡ popped_of lg at i k
    pop_stop e = rw (step, e)

  pub pop_end : (k : ℕ) → k < 2 → k ≡ popped_of lg at i k
  unfolding popped_of
  pop_end zero l = refl
  pop_end (suc zero) l = refl
  pop_end (suc (suc k)) l = absurd (none k l)
    where
      none : (k : ℕ) → suc (suc k) < 2 → ⊥
      none k l = omega arith

  pub popped_le : (k : ℕ) → popped_of lg at i k ≤ k
  unfolding popped_of
  popped_le zero = le_refl 0
  popped_le (suc zero) = le_refl 1
  popped_le (suc (suc k)) =
      either_way (λ (n : ℕ). n ≤ suc (suc k)) (le zero64 (cross_of lg (get_or at k 0) (get_or at (suc k) 0) i))
      (omega (arith, popped_le (suc k))) (le_refl (suc (suc k)))
