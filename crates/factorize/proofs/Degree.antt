-- The degrees of the factors add to that of the polynomial, at every depth: nlin + 2 nquad is d.
use mathlib.Core.Path.{◌≡◌, refl, ◌∙◌}
use mathlib.Core.Bool.{Bool, true, false, cond, false≢true}
use mathlib.Core.List.{List}
use Prim.Native.Nat.{ℕ, zero, suc, ◌-◌, ◌≤◌, ◌<◌}
use native.Mathlib.Nat.{le_refl}
use native.Mathlib.Omega.{arith}
use borrow.Author.Tests.{eqb-true}
use Rattle.std.specs.Prelude.{Option, Some, None}
use lib.Dec.{leb, eqb}
use lib.Ieee.{Float}
use Rattle.facts.specs.Cond.{first_holds}
use Rattle.angle.specs.declared.Sine.{Sine}
use Rattle.quartic.specs.declared.QuarticFactor.{QuarticFactor}
use Rattle.quartic.specs.Quartic.{quartic_factor_of}
use Rattle.isolated.specs.Isolated.{isolated_root_of}
use Rattle.scaled.specs.declared.Scaled.{Scaled}
use Rattle.scaled.specs.Scaled.{scaled_of}
use Rattle.split.specs.declared.Gap.{Gap}
use Rattle.split.specs.Gap.{Inside, magnitude_split_of}
use Rattle.split.proofs.Gaps.{split_inside}
use Rattle.factors.specs.declared.Factors.{Factors}
use Rattle.factors.specs.Factors.{push_lin_of, push_quad_of, degree_of}
use Rattle.large_factors.specs.Large.{large_of}
use Rattle.quotient.specs.Quotient.{product_of, quotient_of, usable_of, merged_of}
use Rattle.quotient.proofs.Counts.{merged_degree}
use Rattle.factorize.specs.Factorize.{cubic_factors_of, paired_of, quartic_factors_of, out_of, Second, second_at, second_of, factors_from}

-- ---- at one scale
cubic_degree : (sine : Sine) (b c d : Float) → degree_of (cubic_factors_of sine b c d) ≡ 3
unfolding cubic_factors_of push_lin_of push_quad_of
cubic_degree sine b c d = refl

paired_degree : (sine : Sine) (b c d e : Float) (quads : QuarticFactor) (far : Option Float) → degree_of (paired_of sine b c d e quads far) ≡ 4
unfolding paired_of push_lin_of push_quad_of
paired_degree sine b c d e quads (Some r) = refl
paired_degree sine b c d e quads None = refl

quartic_degree : (sine : Sine) (b c d e : Float) → degree_of (quartic_factors_of sine b c d e) ≡ 4
unfolding quartic_factors_of
quartic_degree sine b c d e = paired_degree sine b c d e (quartic_factor_of sine b c d e) (isolated_root_of (quartic_factor_of sine b c d e))

pub out_degree : (sine : Sine) (g : List Float) (d : ℕ) → d ≤ 4 → degree_of (out_of sine g d) ≡ d
unfolding out_of push_lin_of push_quad_of
out_degree sine g zero D = refl
out_degree sine g (suc zero) D = refl
out_degree sine g (suc (suc zero)) D = refl
out_degree sine g (suc (suc (suc zero))) D = cubic_degree sine _ _ _
out_degree sine g (suc (suc (suc (suc zero)))) D = quartic_degree sine _ _ _ _
out_degree sine g (suc (suc (suc (suc (suc d))))) D = absurd (omega (arith, D))

-- ---- a second scaling: its polynomial has the degree that the large factors leave
pub record Parted (d : ℕ) (second : Second) : Type 0 where
  pub most : second.sub.d ≤ d
  pub less : second.found ≡ true → second.sub.d < d
  pub rest : second.found ≡ true → degree_of second.large ≡ d - second.sub.d

parted_at : (sc : Scaled) (out : Factors) (gap : Option Gap) → Inside sc.d gap → Parted sc.d (second_at sc out gap)
unfolding scaled_of
parted_at sc out (Some gap) I =
    let large = large_of out (sc.d - gap.small) gap.threshold in
    let fine = usable_of (quotient_of sc.g (product_of large) gap.small) gap.small in
    record {
      most = omega (arith, I.1);
      less = λ h. I.1;
      rest = λ h. eqb-true (degree_of large) (sc.d - gap.small) (first_holds (eqb (degree_of large) (sc.d - gap.small)) fine h);
    }
parted_at sc out None I = record { most = le_refl sc.d; less = λ h. absurd (false≢true h); rest = λ h. absurd (false≢true h) }

pub parted : (sc : Scaled) (out : Factors) → sc.d ≤ 4 → Parted sc.d (second_of sc out)
unfolding second_of
parted sc out D = parted_at sc out (magnitude_split_of sc.lg sc.d) (split_inside sc.lg sc.d D)

-- ---- at every depth
pub degrees_add : (sine : Sine) (left : ℕ) (sc : Scaled) → sc.d ≤ 4 → degree_of (factors_from sine left sc) ≡ sc.d
unfolding factors_from
degrees_add sine zero sc D = out_degree sine sc.g sc.d D
degrees_add sine (suc left) sc D =
    go (leb sc.d 2) (second_of sc (out_of sine sc.g sc.d)) (parted sc (out_of sine sc.g sc.d) D) (λ sub h. degrees_add sine left sub h)
  where
    merge : (second : Second) → Parted sc.d second → second.found ≡ true → degree_of (factors_from sine left second.sub) ≡ second.sub.d
        → degree_of (merged_of second.large (factors_from sine left second.sub) second.sub.e) ≡ sc.d
    merge second P h i =
        merged_degree second.large (factors_from sine left second.sub) second.sub.e (omega (arith, i, P.most, P.rest h))
        ∙ omega (arith, i, P.most, P.rest h)

    either : (second : Second) → Parted sc.d second → degree_of (factors_from sine left second.sub) ≡ second.sub.d → (f : Bool) → second.found ≡ f
        → degree_of (cond f (merged_of second.large (factors_from sine left second.sub) second.sub.e) (out_of sine sc.g sc.d)) ≡ sc.d
    either second P i true h = merge second P h i
    either second P i false h = out_degree sine sc.g sc.d D

    go : (low : Bool) (second : Second) → Parted sc.d second → ((sub : Scaled) → sub.d ≤ 4 → degree_of (factors_from sine left sub) ≡ sub.d)
        → degree_of (cond low (out_of sine sc.g sc.d) (cond second.found
        (merged_of second.large (factors_from sine left second.sub) second.sub.e) (out_of sine sc.g sc.d))) ≡ sc.d
    go true second P ih = out_degree sine sc.g sc.d D
    go false second P ih = either second P (ih second.sub (omega (arith, P.most))) second.found refl
