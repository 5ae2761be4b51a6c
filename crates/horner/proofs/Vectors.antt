-- Worked values: what the functions of poly.rs give, compiled without fma, computed from the definitions.
use mathlib.Core.Path.{◌≡◌, refl}
use mathlib.Core.List.{List, [], ◌∷◌}
use Prim.Native.Nat.{ℕ}
use lib.Ieee.{Float, nan, binary64, add, sub, mul, of_bits, of_int}
use Rattle.facts.specs.Count.{count_up, count_down}
use Rattle.horner.specs.Loops.{down_to}
use Rattle.horner.specs.Product.{split_high, product_error, two_prod_of, discriminant_of}
use Rattle.horner.specs.Horner.{horner_step, value_slope_of, sum_error, compensated_step, compensated_of, value_slope_compensated_of}
use Rattle.horner.specs.Taylor.{derivs_step, derivs12_of, taylor_step, sweep_of, taylor_of}

-- what has to unfold for the definitions to compute: a fact says `unfolding computes`
unfoldable pub computes : ℕ
unfolding add sub mul of_bits of_int count_up count_down down_to split_high product_error two_prod_of discriminant_of horner_step value_slope_of sum_error
    compensated_step compensated_of value_slope_compensated_of derivs_step derivs12_of taylor_step sweep_of taylor_of
computes = 0

abbrev bits : ℕ → Float
bits n = of_bits binary64 n

-- 0.1 * 0.3
product : two_prod_of (bits 0x3fb9_9999_9999_999a) (bits 0x3fd3_3333_3333_3333) ≡ record { prod = bits 0x3f9e_b851_eb85_1eb8; err = bits 0x3c3e_b851_eb85_1eb8 }
unfolding computes
product = refl

-- 2^1000 * 1: splitting goes beyond the largest double
product_large : two_prod_of (bits 0x7e70_0000_0000_0000) (bits 0x3ff0_0000_0000_0000) ≡ record { prod = bits 0x7e70_0000_0000_0000; err = nan }
unfolding computes
product_large = refl

-- al = 1 + 2^-27 and be = al * al / 4, rounded: 2^-54, where al * al - 4 * be rounds to 0
discriminant_tight : discriminant_of (bits 0x3ff0_0000_0200_0000) (bits 0x3fd0_0000_0400_0000) ≡ bits 0x3c90_0000_0000_0000
unfolding computes
discriminant_tight = refl

-- 2 - 3 x + x^2 at 1.01: the compensated value is the nearest double
abbrev quadratic : List Float
quadratic = bits 0x4000_0000_0000_0000 ∷ bits 0xc008_0000_0000_0000 ∷ bits 0x3ff0_0000_0000_0000 ∷ bits 0x0000_0000_0000_0000 ∷ bits 0x0000_0000_0000_0000 ∷ []

quadratic_plain : value_slope_of quadratic 2 (bits 0x3ff0_28f5_c28f_5c29) ≡ record { value = bits 0xbf84_4673_81d7_dc00; slope = bits 0xbfef_5c28_f5c2_8f5c }
unfolding computes
quadratic_plain = refl

quadratic_compensated : value_slope_compensated_of quadratic 2 (bits 0x3ff0_28f5_c28f_5c29)
    ≡ record { value = bits 0xbf84_4673_81d7_dbfa; slope = bits 0xbfef_5c28_f5c2_8f5c }
unfolding computes
quadratic_compensated = refl

-- (1 - x)^4 at 1.001: the plain value has 15 right bits, and the compensated one is the nearest double
abbrev quartic : List Float
quartic = bits 0x3ff0_0000_0000_0000 ∷ bits 0xc010_0000_0000_0000 ∷ bits 0x4018_0000_0000_0000 ∷ bits 0xc010_0000_0000_0000 ∷ bits 0x3ff0_0000_0000_0000 ∷ []

quartic_plain : value_slope_of quartic 4 (bits 0x3ff0_0418_9374_bc6a) ≡ record { value = bits 0x3d71_9780_0000_0000; slope = bits 0x3e31_2e0b_f000_0000 }
unfolding computes
quartic_plain = refl

quartic_compensated : value_slope_compensated_of quartic 4 (bits 0x3ff0_0418_9374_bc6a)
    ≡ record { value = bits 0x3d71_9799_812d_e18c; slope = bits 0x3e31_2e0b_f000_0000 }
unfolding computes
quartic_compensated = refl

quartic_derivs : derivs12_of quartic 4 (bits 0x3ff0_0418_9374_bc6a) ≡ record { d1 = bits 0x3e31_2e0c_0000_0000; d2 = bits 0x3ee9_2a73_7110_0000 }
unfolding computes
quartic_derivs = refl

quartic_taylor : taylor_of quartic 4 (bits 0x3ff0_0418_9374_bc6a) ≡ bits 0x3d71_9780_0000_0000 ∷ bits 0x3e31_2e0b_f000_0000
    ∷ bits 0x3ed9_2a73_7114_0000 ∷ bits 0x3f70_624d_d2f1_a800 ∷ bits 0x3ff0_0000_0000_0000 ∷ []
unfolding computes
quartic_taylor = refl
