-- How many systems are solved at most: none for degree 2 and below, 8 for a cubic, 32 for a quartic, 24 of them at its own scale.
use mathlib.Core.Path.{◌≡◌, refl}
use mathlib.Core.Bool.{Bool, true, false, cond, true≢false}
use mathlib.Core.List.{List}
use Prim.Native.Nat.{ℕ, zero, suc, ◌+◌, ◌-◌, ◌≤◌, ◌<◌}
use native.Mathlib.Nat.{le_refl, le_trans}
use native.Mathlib.Omega.{arith}
use borrow.Author.Tests.{le-leb}
use Rattle.std.specs.Prelude.{Option, Some, None}
use lib.Dec.{leb, eqb}
use lib.Ieee.{Float}
use Rattle.angle.specs.declared.Sine.{Sine}
use Rattle.refine.specs.Systems.{cubic_system, quartic_system, peel_system}
use Rattle.refine.proofs.Most.{refine_most}
use Rattle.cubic.specs.Cubic.{cubic_start_of, cubic_systems_of}
use Rattle.quartic.specs.Quartic.{quartic_start_of, quartic_factor_of, quartic_systems_of}
use Rattle.isolated.specs.Isolated.{isolated_root_of, peel_start_of, peel_root_of, peel_systems_of}
use Rattle.scaled.specs.declared.Scaled.{Scaled}
use Rattle.factorize.specs.Factorize.{out_of, Second, second_of, paired_systems_of, quartic_factors_systems_of, out_systems_of, systems_from}
use Rattle.factorize.specs.Factorize.{factorize_systems_of, systems_most}
use Rattle.factorize.proofs.Degree.{Parted, parted}

-- ---- one refining each
pub peel_most : (b c d e r : Float) → peel_systems_of b c d e r ≤ 8
unfolding peel_systems_of
peel_most b c d e r = refine_most 4 (peel_system b c d e) (peel_start_of b c d r)

module _ (sine : Sine) where
  pub cubic_most : (b c d : Float) → cubic_systems_of sine b c d ≤ 8
  unfolding cubic_systems_of
  cubic_most b c d = refine_most 3 (cubic_system b c d) (cubic_start_of sine b c d)

  pub quartic_most : (b c d e : Float) → quartic_systems_of sine b c d e ≤ 8
  unfolding quartic_systems_of
  quartic_most b c d e = refine_most 4 (quartic_system b c d e) (quartic_start_of sine b c d e)

  -- ---- at one scale
  paired_most : (b c d e : Float) (far : Option Float) → paired_systems_of sine b c d e far ≤ 16
  unfolding paired_systems_of
  paired_most b c d e (Some r) =
      let p = peel_root_of b c d e r in
      omega (arith, peel_most b c d e r, cubic_most p.h2 p.h1 p.h0)
  paired_most b c d e None = omega arith

  quartic_factors_most : (b c d e : Float) → quartic_factors_systems_of sine b c d e ≤ 24
  unfolding quartic_factors_systems_of
  quartic_factors_most b c d e =
      omega (arith, quartic_most b c d e, paired_most b c d e (isolated_root_of (quartic_factor_of sine b c d e)))

-- the most at one scale
unfoldable pub scale_most : ℕ → ℕ
scale_most d = cond (leb d 2) 0 (cond (eqb d 3) 8 24)

by_degree : (low three : Bool) {a b c d : ℕ} → a ≤ c → b ≤ d → cond low 0 (cond three a b) ≤ cond low 0 (cond three c d)
by_degree true three A B = le_refl 0
by_degree false true A B = A
by_degree false false A B = B

at_most : (low three : Bool) {a b most : ℕ} → a ≤ most → b ≤ most → cond low 0 (cond three a b) ≤ most
at_most true three A B = omega arith
at_most false true A B = A
at_most false false A B = B

out_most : (sine : Sine) (g : List Float) (d : ℕ) → out_systems_of sine g d ≤ scale_most d
unfolding out_systems_of scale_most
out_most sine g d = by_degree (leb d 2) (eqb d 3) (cubic_most sine _ _ _) (quartic_factors_most sine _ _ _ _)

pub out_few : (sine : Sine) (g : List Float) (d : ℕ) → out_systems_of sine g d ≤ 24
unfolding scale_most
out_few sine g d = le_trans (out_most sine g d) (at_most (leb d 2) (eqb d 3) (omega arith) (le_refl 24))

-- ---- with a second scaling, whose degree is lower
scale_within : (d : ℕ) → scale_most d ≤ systems_most d
unfolding scale_most systems_most
scale_within d = by_degree (leb d 2) (eqb d 3) (le_refl 8) (omega arith)

below_quartic : (d : ℕ) → d ≤ 3 → systems_most d ≤ 8
unfolding systems_most
below_quartic zero D = omega arith
below_quartic (suc zero) D = omega arith
below_quartic (suc (suc zero)) D = omega arith
below_quartic (suc (suc (suc zero))) D = le_refl 8
below_quartic (suc (suc (suc (suc d)))) D = absurd (omega (arith, D))

both_within : (d sub : ℕ) → sub < d → d ≤ 4 → leb d 2 ≡ false → scale_most d + systems_most sub ≤ systems_most d
unfolding scale_most systems_most
both_within zero sub S D h = absurd (true≢false h)
both_within (suc zero) sub S D h = absurd (true≢false h)
both_within (suc (suc zero)) sub S D h = absurd (true≢false h)
both_within (suc (suc (suc zero))) sub S D h = rw (le-leb sub 2 (omega (arith, S))) (le_refl 8)
both_within (suc (suc (suc (suc zero)))) sub S D h = omega (arith, below_quartic sub (omega (arith, S)))
both_within (suc (suc (suc (suc (suc d))))) sub S D h = absurd (omega (arith, D))

-- ---- at every depth
systems_at_most : (sine : Sine) (left : ℕ) (sc : Scaled) → sc.d ≤ 4 → systems_from sine left sc ≤ systems_most sc.d
unfolding systems_from
systems_at_most sine zero sc D = le_trans (out_most sine sc.g sc.d) (scale_within sc.d)
systems_at_most sine (suc left) sc D =
    go (leb sc.d 2) refl (second_of sc (out_of sine sc.g sc.d)) (parted sc (out_of sine sc.g sc.d) D) (λ sub h. systems_at_most sine left sub h)
  where
    once : out_systems_of sine sc.g sc.d ≤ systems_most sc.d
    once = le_trans (out_most sine sc.g sc.d) (scale_within sc.d)

    again : (second : Second) → Parted sc.d second → leb sc.d 2 ≡ false → systems_from sine left second.sub ≤ systems_most second.sub.d
        → (f : Bool) → second.found ≡ f → out_systems_of sine sc.g sc.d + cond f (systems_from sine left second.sub) 0 ≤ systems_most sc.d
    again second P l i true h = omega (arith, out_most sine sc.g sc.d, i, both_within sc.d second.sub.d (P.less h) D l)
    again second P l i false h = omega (arith, once)

    go : (low : Bool) → leb sc.d 2 ≡ low → (second : Second) → Parted sc.d second
        → ((sub : Scaled) → sub.d ≤ 4 → systems_from sine left sub ≤ systems_most sub.d)
        → out_systems_of sine sc.g sc.d + cond low 0 (cond second.found (systems_from sine left second.sub) 0) ≤ systems_most sc.d
    go true l second P ih = omega (arith, once)
    go false l second P ih = again second P l (ih second.sub (omega (arith, D, P.most))) second.found refl

module _ (sine : Sine) (sc : Scaled) where
  pub factorize_most : (depth : ℕ) → sc.d ≤ 4 → factorize_systems_of sine sc depth ≤ systems_most sc.d
  unfolding factorize_systems_of
  factorize_most depth D = systems_at_most sine (3 - depth) sc D

pub systems_few : (sine : Sine) (sc : Scaled) (depth : ℕ) → sc.d ≤ 4 → factorize_systems_of sine sc depth ≤ 32
unfolding systems_most
systems_few sine sc depth D = le_trans (factorize_most sine sc depth D) (at_most (leb sc.d 2) (eqb sc.d 3) (omega arith) (le_refl 32))

-- What the proof of `parted` rests on: the sum fits.
pub ruleset bounds = (out_few, systems_few)
