-- The gaps from the topmost down, with counts as code has them.
use mathlib.Core.Path.{◌≡◌, refl, sym, ap, ◌∙◌, subst}
use mathlib.Core.Bool.{true, false, cond}
use mathlib.Core.List.{List}
use mathlib.Core.Logic.{⊎_elim}
use Prim.Native.Nat.{ℕ, zero, suc, ◌+◌, ◌-◌, ◌≤◌, ◌<◌}
use native.Mathlib.Omega.{arith}
use Rattle.std.specs.Prelude.{Option, Some, None}
use lib.ListN.{get_or}
use lib.Ieee.{Float, binary64, add, mul, sub, lt}
use Rattle.algebra.specs.NatOrder.{le_or_lt}
use Rattle.facts.specs.Cond.{either_way}
use Rattle.float.specs.Literals.{half64, eight64}
use Rattle.split.specs.declared.Hull.{Hull}
use Rattle.split.specs.declared.Gap.{Gap}
use Rattle.split.specs.Hull.{mag_of, hull_of, Rising}
use Rattle.split.specs.Gap.{exp2_of, Inside, split_from, magnitude_split_of}
use Rattle.split.proofs.Rises.{neighbours, hull_rising}

-- ---- k edges are left
module _ (lg : List Float) (at : List ℕ) (k : ℕ) (P : 0 < k) (lo hi : Float) (L : lo ≡ mag_of lg at (k - 1)) (H : hi ≡ mag_of lg at (k - 1 + 1)) where
  step : split_from lg at k
      ≡ cond (lt eight64 (sub binary64 hi lo))
      (Some (record { small = get_or at (k - 1 + 1) 0; threshold = exp2_of (mul binary64 half64 (add binary64 lo hi)) }))
      (split_from lg at (k - 1))
  unfolding split_from
  step = let e : k ≡ suc (k - 1) = omega arith in ap (λ (n : ℕ). split_from lg at n) e ∙ rw (L, H)

  pub gap_found : lt eight64 (sub binary64 hi lo) ≡ true
      → split_from lg at k ≡ Some (record { small = get_or at (k - 1 + 1) 0; threshold = exp2_of (mul binary64 half64 (add binary64 lo hi)) })
  gap_found q = rw (step, q)

  pub gap_next : lt eight64 (sub binary64 hi lo) ≡ false → split_from lg at k ≡ split_from lg at (k - 1)
  gap_next q = rw (step, q)

pub gap_end : (lg : List Float) (at : List ℕ) (h : ℕ) → h ≤ 2 → None ≡ split_from lg at (h - 2)
unfolding split_from
gap_end lg at h l = let e : 0 ≡ h - 2 = omega arith in ap (λ (n : ℕ). split_from lg at n) e

pub no_edge : (lg : List Float) (at : List ℕ) (k : ℕ) → k ≤ 0 → None ≡ split_from lg at k
unfolding split_from
no_edge lg at k l = let e : 0 ≡ k = omega arith in ap (λ (n : ℕ). split_from lg at n) e

-- ---- the search begins with all edges but the last, of a hull that rises
pub seek_start : (lg : List Float) (d : ℕ) (s : Hull) → s ≡ hull_of lg d → split_from lg s.at (s.h - 2) ≡ magnitude_split_of lg d
unfolding magnitude_split_of
seek_start lg d s e = rw e

pub seek_rising : (lg : List Float) (d : ℕ) (s : Hull) → d ≤ 4 → s ≡ hull_of lg d → Rising 5 s
seek_rising lg d s l e =
    let R = rw (← e) at (hull_rising lg d l) in
    record { order = R.order; below = λ k m. omega (arith, R.below k m); count = omega (arith, R.count); room = R.room }

-- ---- the search by its points: what the first k hold is the whole answer
pub record Seeking (lg : List Float) (d : ℕ) (at : List ℕ) (k : ℕ) : Type 0 where
  pub rising : Rising (d + 1) (record { at = at; h = k })
  pub is : split_from lg at (k - 2) ≡ magnitude_split_of lg d

pub seek_first : (lg : List Float) (d : ℕ) (s : Hull) → d ≤ 4 → s ≡ hull_of lg d → Seeking lg d s.at s.h
unfolding magnitude_split_of
seek_first lg d s l e = subst (λ (t : Hull). Seeking lg d t.at t.h) (sym e) (record { rising = hull_rising lg d l; is = refl })

-- what `mag` asks of an edge among them
pub seek_edge : (lg : List Float) (d : ℕ) (at : List ℕ) (k : ℕ) → Seeking lg d at k → d ≤ 4 → (j : ℕ) → j + 1 < k → (j < 4)
    × ((get_or at j 0 ≤ get_or at (j + 1) 0) × (get_or at (j + 1) 0 ≤ 4))
seek_edge lg d at k S D j l =
    let R = S.rising in
    let n = neighbours (d + 1) (record { at = at; h = k }) R j l in
    (omega (arith, R.count), (n.0, omega (arith, n.1)))

pub seek_next : (lg : List Float) (d : ℕ) (at : List ℕ) (k : ℕ) → Seeking lg d at k → 2 < k
    → split_from lg at (k - 2) ≡ split_from lg at (k - 1 - 2) → Seeking lg d at (k - 1)
seek_next lg d at k S l e =
    let R = S.rising in
    record {
      rising = record { order = λ j m. R.order j (omega arith); below = λ j m. R.below j (omega arith); count = omega (arith, R.count); room = R.room };
      is = sym e ∙ S.is;
    }

-- ---- some roots lie below the gap, and not all
module _ (lg : List Float) (at : List ℕ) (d h : ℕ) (R : Rising (d + 1) (record { at = at; h = h })) where
  from_inside : (k : ℕ) → k + 1 < h → Inside d (split_from lg at k)
  unfolding split_from
  from_inside zero l = tt
  from_inside (suc k) l =
      let low = R.order k (omega arith) in
      let high = R.order (k + 1) (omega arith) in
      let last = R.below (k + 1 + 1) (omega arith) in
      either_way (Inside d) (lt eight64 (sub binary64 (mag_of lg at (k + 1)) (mag_of lg at k))) (omega arith, omega arith) (from_inside k (omega arith))

pub split_inside : (lg : List Float) (d : ℕ) → d ≤ 4 → Inside d (magnitude_split_of lg d)
unfolding magnitude_split_of
split_inside lg d D = ⊎_elim (λ l. some l) (λ l. none l) (le_or_lt 2 (hull_of lg d).h)
  where
    some : 2 ≤ (hull_of lg d).h → Inside d (split_from lg (hull_of lg d).at ((hull_of lg d).h - 2))
    some l = from_inside lg (hull_of lg d).at d (hull_of lg d).h (hull_rising lg d D) ((hull_of lg d).h - 2) (omega arith)

    none : (hull_of lg d).h < 2 → Inside d (split_from lg (hull_of lg d).at ((hull_of lg d).h - 2))
    none l = subst (Inside d) (gap_end lg (hull_of lg d).at (hull_of lg d).h (omega arith)) tt

-- so it is within any degree from d on
pub inside_up : (d n : ℕ) (s : Option Gap) → Inside d s → d ≤ n → Inside n s
inside_up d n (Some gap) h l = (h.0, omega (arith, h.1))
inside_up d n None h l = tt

-- What the search's proof rests on.
pub ruleset gaps = (seek_start, seek_rising, gap_found, gap_next, no_edge)
