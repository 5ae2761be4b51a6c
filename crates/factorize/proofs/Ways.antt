-- The ways through factorize, over plain values, with the depth as code has it.
use mathlib.Core.Path.{◌≡◌, sym, ap, ◌∙◌}
use mathlib.Core.Bool.{true, false}
use mathlib.Core.List.{List}
use Prim.Native.Nat.{ℕ, suc, ◌+◌, ◌-◌, ◌≤◌, ◌<◌}
use native.Mathlib.Nat.{add-zero}
use native.Mathlib.Omega.{arith}
use borrow.Author.Tests.{le-leb, lt-leb, eq-eqb, ne_eqb}
use Rattle.std.specs.Prelude.{Option, Some, None}
use lib.Ieee.{Float}
use Rattle.angle.specs.declared.Sine.{Sine}
use Rattle.quartic.specs.declared.QuarticFactor.{QuarticFactor}
use Rattle.cubic.specs.Cubic.{cubic_factor_of, cubic_systems_of}
use Rattle.quartic.specs.Quartic.{quartic_factor_of, quartic_systems_of}
use Rattle.isolated.specs.Isolated.{isolated_root_of, peel_root_of, peel_systems_of}
use Rattle.scaled.specs.declared.Scaled.{Scaled}
use Rattle.scaled.specs.Scaled.{scaled_of}
use Rattle.split.specs.declared.Gap.{Gap}
use Rattle.split.specs.Gap.{magnitude_split_of}
use Rattle.factors.specs.declared.Factors.{Factors}
use Rattle.factors.specs.Factors.{no_factors, push_lin_of, push_quad_of, degree_of}
use Rattle.large_factors.specs.Large.{large_of}
use Rattle.quotient.specs.Quotient.{product_of, quotient_of, usable_of, merged_of}
use Rattle.factorize.proofs.Discs.{is_far, in_two}
use Rattle.factorize.proofs.Most.{cubic_most, quartic_most, peel_most}
use Rattle.factorize.specs.Factorize.{paired_of, quartic_factors_of, out_of, second_of, factors_from, factorize_of}
use Rattle.factorize.specs.Factorize.{paired_systems_of, quartic_factors_systems_of, out_systems_of, systems_from, factorize_systems_of}

-- ---- a quartic
module _ (sine : Sine) (b c d e : Float) (quads : QuarticFactor) (far : Option Float) (Q : quads ≡ quartic_factor_of sine b c d e)
    (I : far ≡ isolated_root_of quads) where
  pub peeled : (r : Float) → far ≡ Some r → quartic_factors_of sine b c d e
      ≡ (let p = peel_root_of b c d e r in let k = cubic_factor_of sine p.h2 p.h1 p.h0 in push_quad_of (push_lin_of (push_lin_of no_factors p.r) k.r) k.e k.f)
  unfolding quartic_factors_of paired_of
  peeled r A = rw (sym Q, sym I ∙ A)

  pub in_pairs : (n m f : Factors) → far ≡ None → n ≡ no_factors → m ≡ push_quad_of n quads.al quads.be → f ≡ push_quad_of m quads.ga quads.de
      → f ≡ quartic_factors_of sine b c d e
  unfolding quartic_factors_of paired_of
  in_pairs n m f A N M F = rw (sym Q, sym I ∙ A) (rw (F, M, N))

  pub peeled_systems : (r : Float) → far ≡ Some r → quartic_factors_systems_of sine b c d e
      ≡ (let p = peel_root_of b c d e r in quartic_systems_of sine b c d e + (peel_systems_of b c d e r + cubic_systems_of sine p.h2 p.h1 p.h0))
  unfolding quartic_factors_systems_of paired_systems_of
  peeled_systems r A = rw (sym Q, sym I ∙ A)

  pub paired_systems : far ≡ None → quartic_factors_systems_of sine b c d e ≡ quartic_systems_of sine b c d e
  unfolding quartic_factors_systems_of paired_systems_of
  paired_systems A = rw (sym Q, sym I ∙ A) (add-zero (quartic_systems_of sine b c d e))

-- ---- one level of factorize
module _ (sine : Sine) (sc : Scaled) (depth : ℕ) where
  abbrev out : Factors
  out = out_of sine sc.g sc.d

  abbrev systems : ℕ
  systems = out_systems_of sine sc.g sc.d

  pub at_depth_three : 3 ≤ depth → factorize_of sine sc depth ≡ out
  unfolding factorize_of factors_from
  at_depth_three h = let e : 3 - depth ≡ 0 = omega arith in ap (λ (k : ℕ). factors_from sine k sc) e

  pub systems_at_depth_three : 3 ≤ depth → factorize_systems_of sine sc depth ≡ systems
  unfolding factorize_systems_of systems_from
  systems_at_depth_three h = let e : 3 - depth ≡ 0 = omega arith in ap (λ (k : ℕ). systems_from sine k sc) e

  module _ (h : depth < 3) where
    left_is : factorize_of sine sc depth ≡ factors_from sine (suc (3 - (depth + 1))) sc
    unfolding factorize_of
    left_is = let e : 3 - depth ≡ suc (3 - (depth + 1)) = omega arith in ap (λ (k : ℕ). factors_from sine k sc) e

    systems_left : factorize_systems_of sine sc depth ≡ systems_from sine (suc (3 - (depth + 1))) sc
    unfolding factorize_systems_of
    systems_left = let e : 3 - depth ≡ suc (3 - (depth + 1)) = omega arith in ap (λ (k : ℕ). systems_from sine k sc) e

    pub at_degree_two : sc.d ≤ 2 → factorize_of sine sc depth ≡ out
    unfolding factors_from
    at_degree_two l = rw (left_is, le-leb sc.d 2 l)

    pub systems_at_degree_two : sc.d ≤ 2 → factorize_systems_of sine sc depth ≡ systems
    unfolding systems_from
    systems_at_degree_two l = rw (systems_left, le-leb sc.d 2 l) (add-zero systems)

    module _ (l : 2 < sc.d) where
      unsplit : (second_of sc out).found ≡ false → factorize_of sine sc depth ≡ out
      unfolding factors_from
      unsplit f = rw (left_is, lt-leb sc.d 2 l, f)

      systems_unsplit : (second_of sc out).found ≡ false → factorize_systems_of sine sc depth ≡ systems
      unfolding systems_from
      systems_unsplit f = rw (systems_left, lt-leb sc.d 2 l, f) (add-zero systems)

      pub without_gap : magnitude_split_of sc.lg sc.d ≡ None → factorize_of sine sc depth ≡ out
      unfolding second_of
      without_gap f = unsplit (rw f)

      pub systems_without_gap : magnitude_split_of sc.lg sc.d ≡ None → factorize_systems_of sine sc depth ≡ systems
      unfolding second_of
      systems_without_gap f = systems_unsplit (rw f)

      module _ (part : Gap) (f : magnitude_split_of sc.lg sc.d ≡ Some part) where
        abbrev large : Factors
        large = large_of out (sc.d - part.small) part.threshold

        abbrev small : List Float
        small = quotient_of sc.g (product_of large) part.small

        pub other_degree : (degree_of large ≡ sc.d - part.small → ⊥) → factorize_of sine sc depth ≡ out
        unfolding second_of
        other_degree q = unsplit (rw (f, ne_eqb (degree_of large) (sc.d - part.small) q))

        pub systems_other_degree : (degree_of large ≡ sc.d - part.small → ⊥) → factorize_systems_of sine sc depth ≡ systems
        unfolding second_of
        systems_other_degree q = systems_unsplit (rw (f, ne_eqb (degree_of large) (sc.d - part.small) q))

        module _ (q : degree_of large ≡ sc.d - part.small) where
          pub unusable : usable_of small part.small ≡ false → factorize_of sine sc depth ≡ out
          unfolding second_of
          unusable k = unsplit (rw (f, eq-eqb (degree_of large) (sc.d - part.small) q, k))

          pub systems_unusable : usable_of small part.small ≡ false → factorize_systems_of sine sc depth ≡ systems
          unfolding second_of
          systems_unusable k = systems_unsplit (rw (f, eq-eqb (degree_of large) (sc.d - part.small) q, k))

          pub split_up : usable_of small part.small ≡ true
              → factorize_of sine sc depth ≡ merged_of large (factorize_of sine (scaled_of small part.small) (depth + 1)) (scaled_of small part.small).e
          unfolding second_of factors_from factorize_of
          split_up k = rw (left_is, lt-leb sc.d 2 l, f, eq-eqb (degree_of large) (sc.d - part.small) q, k)

          pub systems_split_up : usable_of small part.small ≡ true
              → factorize_systems_of sine sc depth ≡ systems + factorize_systems_of sine (scaled_of small part.small) (depth + 1)
          unfolding second_of systems_from factorize_systems_of
          systems_split_up k = rw (systems_left, lt-leb sc.d 2 l, f, eq-eqb (degree_of large) (sc.d - part.small) q, k)

-- What the functions' proofs rest on.
pub ruleset quartics = (peeled, in_pairs, is_far, in_two, peeled_systems, paired_systems, quartic_most, peel_most, cubic_most)

pub ruleset ways = (at_depth_three, at_degree_two, without_gap, other_degree, unusable, split_up)

pub ruleset counts = (systems_at_depth_three, systems_at_degree_two, systems_without_gap, systems_other_degree, systems_unusable, systems_split_up)
