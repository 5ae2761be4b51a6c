-- Worked values: what factorize of poly.rs gives in the reference build, computed from the definitions.
use mathlib.Core.Path.{◌≡◌, refl}
use mathlib.Core.List.{[], ◌∷◌, flat_map}
use Prim.Native.Nat.{ℕ}
use lib.IntN.{pos}
use lib.Ieee.{Float, binary64, of_bits, of_int, size}
use Rattle.facts.specs.Sort.{inserted_by, inserted_all, sorted_by}
use Rattle.float.specs.Literals.{zero64}
use Rattle.float.specs.Floor.{floor_of}
use Rattle.ldexp.specs.Scale.{chain, times_power_of, ldexp_of}
use Rattle.nearest.specs.Greatest.{greatest}
use Rattle.decode.specs.Exponent.{exponent_of}
use Rattle.angle.specs.declared.Sine.TheVariants.{OfRounded}
use Rattle.isolated.proofs.Vectors.{computes as factors-compute}
use Rattle.scaled.specs.declared.Scaled.{Scaled}
use Rattle.scaled.specs.Exponent.{held_at, held_below, too_small, scale_exponent_of}
use Rattle.scaled.specs.Scaled.{top_of, shift_of, coefficient_of, coefficients_of, monic_at, monic_of, scaled_of}
use Rattle.split.specs.Hull.{cross_of, popped_of, hull_step, hull_of, mag_of}
use Rattle.split.specs.Gap.{exp2_of, split_from, magnitude_split_of}
use Rattle.factors.specs.Factors.{quad_of, push_lin_of, push_quad_of}
use Rattle.large_factors.specs.Large.{quad_units_of, factor_units_of, ends_of, with_unit, large_from, large_of}
use Rattle.quotient.specs.Quotient.{product_term_of, next_at, mul_of, product_of, acc_of, quotient_of, usable_of, merged_of}
use Rattle.factorize.specs.Factorize.{cubic_factors_of, paired_of, quartic_factors_of, out_of, second_of, factors_from, factorize_of}
use Rattle.factorize.specs.Factorize.{paired_systems_of, quartic_factors_systems_of, out_systems_of, systems_from, factorize_systems_of}

-- what has to unfold for the definitions to compute: a fact says `unfolding computes`
unfoldable pub computes : ℕ
unfolding factors-compute flat_map of_int size inserted_by inserted_all sorted_by floor_of chain times_power_of ldexp_of greatest exponent_of held_at
    held_below too_small scale_exponent_of top_of shift_of coefficient_of coefficients_of monic_at monic_of scaled_of cross_of popped_of hull_step hull_of
    mag_of exp2_of split_from magnitude_split_of push_lin_of push_quad_of quad_units_of factor_units_of ends_of with_unit large_from large_of product_term_of
    next_at mul_of product_of acc_of quotient_of usable_of merged_of cubic_factors_of paired_of quartic_factors_of out_of second_of factors_from factorize_of
    paired_systems_of quartic_factors_systems_of out_systems_of systems_from factorize_systems_of
computes = 0

abbrev bits : ℕ → Float
bits n = of_bits binary64 n

abbrev none : Float
none = zero64

-- (x - 1)(x - 1/2)(x - 2^-12) with x = 2y, scaled
abbrev cubic : Scaled
cubic = record {
  f = bits 0xbef0_0000_0000_0000 ∷ bits 0x3fc0_0300_0000_0000 ∷ bits 0xbfe8_0100_0000_0000 ∷ bits 0x3ff0_0000_0000_0000 ∷ none ∷ [];
  g = bits 0xbef0_0000_0000_0000 ∷ bits 0x3fc0_0300_0000_0000 ∷ bits 0xbfe8_0100_0000_0000 ∷ bits 0x3ff0_0000_0000_0000 ∷ none ∷ [];
  lg = bits 0xc030_0000_0000_0000 ∷ bits 0xc008_0000_0000_0000 ∷ bits 0xbfda_c000_0000_0000 ∷ none ∷ bits 0xfff0_0000_0000_0000 ∷ [];
  d = 3;
  e = pos 1;
  unit = bits 0x3fe0_0000_0000_0000;
}

-- the gap parts the last root from the others, and a second scaling gives it alone
cubic_split : factorize_of OfRounded cubic 0 ≡ record {
  lin = bits 0x3fe0_0000_0000_0000 ∷ bits 0x3fd0_0000_0000_0000 ∷ bits 0x3f20_0000_0000_0000
      ∷ none ∷ [];
  nlin = 3;
  quad = quad_of none none ∷ quad_of none none ∷ [];
  nquad = 0;
}
unfolding computes
cubic_split = refl

-- not at depth 3
cubic_whole : factorize_of OfRounded cubic 3 ≡ record {
  lin = bits 0x3fe0_0000_0000_0000 ∷ none ∷ none ∷ none ∷ [];
  nlin = 1;
  quad = quad_of (bits 0xbfd0_0200_0000_0000) (bits 0x3f00_0000_0000_0000) ∷ quad_of none none ∷ [];
  nquad = 1;
}
unfolding computes
cubic_whole = refl

-- one root of about 2^-13 beside another and a pair
abbrev quartic : Scaled
quartic = record {
  f = bits 0x3ed0_0000_0000_0000 ∷ bits 0xbfa0_0500_0000_0000 ∷ bits 0x3fd4_0100_0000_0000 ∷ bits 0xbfe0_0100_0000_0000 ∷ bits 0x3ff0_0000_0000_0000 ∷ [];
  g = bits 0x3ed0_0000_0000_0000 ∷ bits 0xbfa0_0500_0000_0000 ∷ bits 0x3fd4_0100_0000_0000 ∷ bits 0xbfe0_0100_0000_0000 ∷ bits 0x3ff0_0000_0000_0000 ∷ [];
  lg = bits 0xc032_0000_0000_0000 ∷ bits 0xc014_0000_0000_0000 ∷ bits 0xbffa_e000_0000_0000 ∷ bits 0xbff0_0000_0000_0000 ∷ none ∷ [];
  d = 4;
  e = pos 1;
  unit = bits 0x3fe0_0000_0000_0000;
}

-- a quadratic is split at the gap, a pair stays
quartic_split : factorize_of OfRounded quartic 0 ≡ record {
  lin = bits 0x3fbd_e06e_44bf_2997 ∷ bits 0x3f20_0000_0000_0000 ∷ none ∷ none ∷ [];
  nlin = 2;
  quad = quad_of (bits 0xbfd8_87e4_6ed0_359a) (bits 0x3fd1_2319_a696_e214) ∷ quad_of none none ∷ [];
  nquad = 1;
}
unfolding computes
quartic_split = refl

-- y^4 - y^3 - 2^-12*y^2 + 2^-36: a root near 1, which is peeled off, and three of about 2^-12
abbrev far : Scaled
far = record {
  f = bits 0x3db0_0000_0000_0000 ∷ none ∷ bits 0xbf30_0000_0000_0000 ∷ bits 0xbff0_0000_0000_0000 ∷ bits 0x3ff0_0000_0000_0000 ∷ [];
  g = bits 0x3db0_0000_0000_0000 ∷ none ∷ bits 0xbf30_0000_0000_0000 ∷ bits 0xbff0_0000_0000_0000 ∷ bits 0x3ff0_0000_0000_0000 ∷ [];
  lg = bits 0xc042_0000_0000_0000 ∷ bits 0xfff0_0000_0000_0000 ∷ bits 0xc028_0000_0000_0000 ∷ none ∷ none ∷ [];
  d = 4;
  e = pos 0;
  unit = bits 0x3ff0_0000_0000_0000;
}

-- the systems that are solved at its own scale: 4 for the two quadratics, 1 for the peeled root, 1 for the cubic that is left
far_whole_systems : factorize_systems_of OfRounded far 3 ≡ 6
unfolding computes
far_whole_systems = refl

-- and with a second scaling, which solves one more for the three small roots and drops the cubic that was left
far_split_systems : factorize_systems_of OfRounded far 2 ≡ 7
unfolding computes
far_split_systems = refl
