-- The indices of a hull rise, whatever the logarithms are: a turn keeps that, and so it holds of the whole hull.
use mathlib.Core.Path.{◌≡◌, refl, sym, ◌∙◌, subst}
use mathlib.Core.Bool.{true, false}
use mathlib.Core.List.{List}
use mathlib.Core.Logic.{⊎_elim}
use Prim.Native.Nat.{ℕ, zero, suc, ◌+◌, ◌-◌, ◌≤◌, ◌<◌}
use native.Mathlib.Omega.{arith}
use native.Mathlib.Nat.{le_refl, lt_irrefl, sub-zero}
use lib.ListN.{get_or, set, length-set}
use lib.Seq.{get_or-set_same, get_or-set_other}
use lib.Ieee.{Float, nan}
use Rattle.algebra.specs.NatOrder.{le_or_lt}
use Rattle.facts.specs.Count.{count_up, up_turn, up_end}
use Rattle.facts.specs.Cond.{either_way}
use Rattle.float.specs.Methods.{is_finite_of}
use Rattle.split.specs.declared.Hull.{Hull}
use Rattle.split.specs.Hull.{popped_of, hull_step, no_hull, hull_of, Rising}
use Rattle.split.proofs.Dropped.{pop_go, pop_stop, pop_end, popped_le}

-- ---- two points one after the other
pub neighbours : (n : ℕ) (s : Hull) → Rising n s → (k : ℕ) → k + 1 < s.h → (get_or s.at k 0 ≤ get_or s.at (k + 1) 0) × (get_or s.at (k + 1) 0 < n)
neighbours n s R k l = (omega (arith, R.order k l), R.below (k + 1) l)

pub last_two : (n : ℕ) (s : Hull) → Rising n s → (k : ℕ) → 2 ≤ k → k ≤ s.h → (get_or s.at (k - 2) 0 ≤ get_or s.at (k - 1) 0) × (get_or s.at (k - 1) 0 < n)
last_two n s R k l h =
    subst (λ (j : ℕ). (get_or s.at (k - 2) 0 ≤ get_or s.at j 0) × (get_or s.at j 0 < n)) (let e : k - 2 + 1 ≡ k - 1 = omega arith in e)
    (neighbours n s R (k - 2) (omega arith))

-- ---- the point i goes behind the first h
module _ (i h : ℕ) (s : Hull) (R : Rising i s) (H : h ≤ s.h) (I : i ≤ 4) where
  abbrev at : List ℕ
  at = s.at

  before : (k : ℕ) → k < h → get_or (set at h i) k 0 ≡ get_or at k 0
  before k l = get_or-set_other at h k i 0 (λ e. lt_irrefl k (subst (λ (n : ℕ). k < n) (sym e) l))

  there : get_or (set at h i) h 0 ≡ i
  there = get_or-set_same at h i 0 (subst (λ (n : ℕ). h < n) (sym R.room) (omega (arith, R.count)))

  put : Rising (i + 1) (record { at = set at h i; h = h + 1 })
  put = record {
    order = λ k l. ⊎_elim (λ m. inside k m) (λ m. last k l m) (le_or_lt (suc (k + 1)) h);
    below = λ k l. ⊎_elim (λ m. within k m) (λ m. top k l m) (le_or_lt (suc k) h);
    count = omega (arith, R.count);
    room = length-set at h i ∙ R.room;
  }
    where
      inside : (k : ℕ) → k + 1 < h → get_or (set at h i) k 0 < get_or (set at h i) (k + 1) 0
      inside k m = rw (before k (omega arith), before (k + 1) m) (R.order k (omega arith))

      last : (k : ℕ) → k + 1 < h + 1 → h < suc (k + 1) → get_or (set at h i) k 0 < get_or (set at h i) (k + 1) 0
      last k l m = let e : k + 1 ≡ h = omega arith in rw (before k (omega arith), e, there) (R.below k (omega arith))

      within : (k : ℕ) → k < h → get_or (set at h i) k 0 < i + 1
      within k m = rw (before k m) (omega (arith, R.below k (omega arith)))

      top : (k : ℕ) → k < h + 1 → h < suc k → get_or (set at h i) k 0 < i + 1
      top k l m = let e : k ≡ h = omega arith in rw (e, there) (omega arith)

pub step_rising : (lg : List Float) (i : ℕ) (s r : Hull) → i ≤ 4 → r ≡ hull_step lg i s → Rising i s → Rising (i + 1) r
unfolding hull_step
step_rising lg i s r l e R =
    subst (Rising (i + 1)) (sym e)
    (either_way (Rising (i + 1)) (is_finite_of (get_or lg i nan)) (put i (popped_of lg s.at i s.h) s R (popped_le lg s.at i s.h) l)
    (record { order = R.order; below = λ k m. omega (arith, R.below k m); count = omega (arith, R.count); room = R.room }))

pub none_rising : Rising 0 no_hull
none_rising = record { order = λ k l. absurd (none k l); below = λ k l. absurd (none' k l); count = le_refl 0; room = refl }
  where
    none : (k : ℕ) → k + 1 < 0 → ⊥
    none k l = omega arith

    none' : (k : ℕ) → k < 0 → ⊥
    none' k l = omega arith

-- the whole hull: k turns are left
pub hull_rising : (lg : List Float) (d : ℕ) → d ≤ 4 → Rising (d + 1) (hull_of lg d)
unfolding hull_of count_up
hull_rising lg d D = go (d + 1) no_hull (subst (λ (i : ℕ). Rising i no_hull) (let e : 0 ≡ d + 1 - (d + 1) = omega arith in e) none_rising) (le_refl (d + 1))
  where
    go : (k : ℕ) (s : Hull) → Rising (d + 1 - k) s → k ≤ d + 1 → Rising (d + 1) (count_up (d + 1) (hull_step lg) k s)
    go zero s R l = subst (λ (i : ℕ). Rising i s) (sub-zero (d + 1)) R
    go (suc k) s R l =
        go k (hull_step lg (d + 1 - suc k) s)
        (subst (λ (i : ℕ). Rising i (hull_step lg (d + 1 - suc k) s)) (let e : d + 1 - suc k + 1 ≡ d + 1 - k = omega arith in e)
        (step_rising lg (d + 1 - suc k) s _ (omega arith) refl R))
        (omega arith)

-- ---- the two ways of a turn
module _ (lg : List Float) (i : ℕ) (s : Hull) where
  pub step_in : is_finite_of (get_or lg i nan) ≡ true
      → hull_step lg i s ≡ record { at = set s.at (popped_of lg s.at i s.h) i; h = popped_of lg s.at i s.h + 1 }
  unfolding hull_step
  step_in f = rw f

  pub step_out : is_finite_of (get_or lg i nan) ≡ false → hull_step lg i s ≡ s
  unfolding hull_step
  step_out f = rw f

  pub turn_rising : i ≤ 4 → Rising i s → Rising (i + 1) (hull_step lg i s)
  turn_rising l R = step_rising lg i s (hull_step lg i s) l refl R

-- ---- a turn of the loop: what is left after it gives the whole
pub turned : (lg : List Float) (d i : ℕ) (s r : Hull) → i < d + 1 → d ≤ 4 → r ≡ hull_step lg i s → Rising i s
    → count_up (d + 1) (hull_step lg) (d + 1 - i) s ≡ hull_of lg d
    → Rising (i + 1) r × (count_up (d + 1) (hull_step lg) (d + 1 - (i + 1)) r ≡ hull_of lg d)
turned lg d i s r l D e R h = (step_rising lg i s r (omega arith) e R, rw e (sym (up_turn (d + 1) (hull_step lg) i s l) ∙ h))

-- What the proofs of the hull's functions rest on.
pub ruleset dropped = (pop_go, pop_stop, pop_end, last_two)

pub ruleset hulls = (up_turn, up_end, none_rising, step_in, step_out, turn_rising)
