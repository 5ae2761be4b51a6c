-- Twice an exponent, as the machine computes it, and the two loops of `merged` one after the other.
use mathlib.Core.Path.{◌≡◌, sym, ap, ◌∙◌, subst}
use Prim.Native.Nat.{◌^◌, ◌≤◌}
use native.Mathlib.Omega.{arith}
use lib.IntN.{ℤ, pos, ◌*ℤ◌, nat_abs}
use mir.Syntax.{w32}
use mir.Val.{SFits, to_z, of_z}
use mir.Facts.{to_z-of_z}
use Rattle.algebra.specs.IntOrder.{nat_abs_mul}
use Rattle.facts.specs.Count.{count_up, up_turn, up_end}
use lib.Seq.{get_or-take}
use Rattle.scaled.proofs.Signed.{small_fits}
use Rattle.factors.specs.declared.Factors.{Factors}
use Rattle.quotient.specs.Quotient.{back_lin, back_quad, merged_of}

pub doubled_fits : (e : ℤ) → SFits w32 e → nat_abs e ≤ 2 ^ 13 → SFits w32 (to_z w32 2 *ℤ to_z w32 (of_z w32 e))
doubled_fits e f h = subst (λ (z : ℤ). SFits w32 (pos 2 *ℤ z)) (sym (to_z-of_z f)) (small_fits (pos 2 *ℤ e) (omega (arith, nat_abs_mul (pos 2) e)))

pub doubled : (e : ℤ) → SFits w32 e → nat_abs e ≤ 2 ^ 13
    → to_z w32 (of_z w32 (to_z w32 2 *ℤ to_z w32 (of_z w32 e))) ≡ pos 2 *ℤ to_z w32 (of_z w32 e)
doubled e f h = to_z-of_z (doubled_fits e f h)

module _ (large inner : Factors) (e z : ℤ) (Z : z ≡ e) (l m : Factors) where
  pub merged_is : l ≡ count_up inner.nlin (back_lin inner z) inner.nlin large
      → m ≡ count_up inner.nquad (back_quad inner z) inner.nquad l → m ≡ merged_of large inner e
  unfolding merged_of
  merged_is L M = rw (sym Z) (M ∙ ap (count_up inner.nquad (back_quad inner z) inner.nquad) L)

-- What the functions' proofs rest on.
pub ruleset loops = (up_turn, up_end, get_or-take)

pub ruleset merging = (loops, doubled_fits, doubled, merged_is)
