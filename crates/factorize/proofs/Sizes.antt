-- What each call in factorize asks of the counts, degrees and exponents that earlier calls gave.
use mathlib.Core.Path.{◌≡◌, refl, sym, subst}
use mathlib.Core.List.{List}
use Prim.Native.Nat.{ℕ, ◌-◌, ◌^◌, ◌≤◌, ◌<◌}
use native.Mathlib.Omega.{arith}
use Rattle.std.specs.Prelude.{Some}
use lib.IntN.{ℤ, nat_abs}
use lib.Ieee.{Float}
use mir.Syntax.{w32}
use mir.Val.{to_z, of_z}
use mir.Facts.{to_z-of_z}
use Rattle.angle.specs.declared.Sine.{Sine}
use Rattle.scaled.specs.declared.Scaled.{Scaled}
use Rattle.scaled.specs.Scaled.{scaled_of}
use Rattle.scaled.proofs.Best.{exponent_bounded}
use Rattle.scaled.proofs.Signed.{small_fits}
use Rattle.split.specs.declared.Gap.{Gap}
use Rattle.split.specs.Gap.{Inside, magnitude_split_of}
use Rattle.split.proofs.Gaps.{split_inside}
use Rattle.factors.specs.declared.Factors.{Factors}
use Rattle.factors.specs.Factors.{degree_of, Sized}
use Rattle.large_factors.specs.Large.{large_of}
use Rattle.large_factors.proofs.Sizes.{large_sized}
use Rattle.factorize.specs.Factorize.{out_of, factorize_of}
use Rattle.factorize.specs.Discs.{rooted_of}
use Rattle.factorize.proofs.Degree.{out_degree, degrees_add}

pub handed_on : (f : Factors) → (rooted_of f).f ≡ f
unfolding rooted_of
handed_on f = refl

pub out_fits : (sine : Sine) (g : List Float) (d : ℕ) → d ≤ 4 → degree_of (out_of sine g d) ≤ 4
out_fits sine g d D = omega (arith, out_degree sine g d D)

pub gap_inside : (lg : List Float) (d : ℕ) (part : Gap) → magnitude_split_of lg d ≡ Some part → d ≤ 4 → part.small < d
gap_inside lg d part e D = (subst (Inside d) e (split_inside lg d D)).1

module _ (f : Factors) (want : ℕ) (threshold : Float) where
  pub few_lins : (large_of f want threshold).nlin ≤ 4
  few_lins = (large_sized f want threshold).0

  pub few_quads : (large_of f want threshold).nquad ≤ 2
  few_quads = (large_sized f want threshold).1

pub sized : (f : Factors) (want : ℕ) (threshold : Float) (large : Factors)
    → large ≡ large_of f want threshold → Sized large
sized f want threshold large e = subst Sized (sym e) (large_sized f want threshold)

module _ (s : List Float) (small : ℕ) where
  pub sub_degree : (scaled_of s small).d ≡ small
  unfolding scaled_of
  sub_degree = refl

  exponent_small : nat_abs (scaled_of s small).e ≤ 2 ^ 13
  unfolding scaled_of
  exponent_small = exponent_bounded s small

  -- also as the machine reads it
  pub exponent_read : to_z w32 (of_z w32 (scaled_of s small).e) ≡ (scaled_of s small).e
  exponent_read = to_z-of_z (small_fits (scaled_of s small).e (omega (arith, exponent_small)))

  pub sub_exponent : nat_abs (to_z w32 (of_z w32 (scaled_of s small).e)) ≤ 2 ^ 13
  sub_exponent = subst (λ (z : ℤ). nat_abs z ≤ 2 ^ 13) (sym exponent_read) exponent_small

module _ (sine : Sine) (sub : Scaled) (depth : ℕ) (D : sub.d ≤ 4) where
  inner_degree : degree_of (factorize_of sine sub depth) ≡ sub.d
  unfolding factorize_of
  inner_degree = degrees_add sine (3 - depth) sub D

  pub inner_lins : (factorize_of sine sub depth).nlin ≤ 4
  inner_lins = omega (arith, inner_degree)

  pub inner_quads : (factorize_of sine sub depth).nquad ≤ 2
  inner_quads = omega (arith, inner_degree)

pub inner_sized : (sine : Sine) (sub : Scaled) (depth : ℕ) (inner : Factors)
    → inner ≡ factorize_of sine sub depth → sub.d ≤ 4 → Sized inner
inner_sized sine sub depth inner e D =
    subst Sized (sym e) (inner_lins sine sub depth D, inner_quads sine sub depth D)

-- What the function's proof rests on.
pub ruleset sizes = (handed_on, out_fits, gap_inside, few_lins, few_quads, sub_degree, exponent_read, sub_exponent, inner_lins, inner_quads)
