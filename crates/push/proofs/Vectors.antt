-- Worked values: what the functions of poly.rs give in the reference build, computed from the definitions.
use mathlib.Core.Path.{◌≡◌, refl}
use mathlib.Core.Bool.{true, false}
use mathlib.Core.List.{List, [], ◌∷◌}
use Prim.Native.Nat.{ℕ}
use lib.IntN.{pos}
use lib.Ieee.{Float, nan, binary64, of_bits}
use Rattle.float.specs.Literals.{zero64, half64, one64}
use Rattle.isolated.proofs.Vectors.{computes as factors}
use Rattle.scaled.specs.declared.Scaled.{Scaled}
use Rattle.band.specs.Band.{magnitude_step, magnitude_of, budget_of, kth_root_of, radius_step, radius_of, noise_within, noise_of, base_of, band_of}
use Rattle.band.specs.Band.{within_band_of}
use Rattle.critical.specs.Critical.{is_between_of, critical_next, critical_point_of, extremum_of}
use Rattle.roots.specs.Roots.{root, pair, held, kept, paired}
use Rattle.push.specs.Quadratic.{double, quadratic_roots_of, push_factor, push_quadratic_of}
use Rattle.std.specs.Prelude.{Some, None}

-- what has to unfold for the definitions to compute: a fact says `unfolding computes`
unfoldable pub computes : ℕ
unfolding factors magnitude_step magnitude_of budget_of kth_root_of radius_step radius_of noise_within noise_of base_of band_of within_band_of
    is_between_of critical_next critical_point_of extremum_of held kept paired quadratic_roots_of push_factor push_quadratic_of
computes = 0

abbrev bits : ℕ → Float
bits n = of_bits binary64 n

-- a polynomial by what these functions read of it
abbrev polynomial : List Float → ℕ → Float → Scaled
polynomial f d unit = record { f = f; g = f; lg = f; d = d; e = pos 0; unit = unit }

-- 1/2 + y, 1 - 1.9y + 1.1y^2 and 0.3 - 1.1y + 0.7y^2 + 0.9y^3 + 1.3y^4
abbrev line : Scaled
line = polynomial (half64 ∷ one64 ∷ zero64 ∷ zero64 ∷ zero64 ∷ []) 1 half64

abbrev parabola : Scaled
parabola = polynomial (one64 ∷ bits 0xbffe_6666_6666_6666 ∷ bits 0x3ff1_9999_9999_999a ∷ zero64 ∷ zero64 ∷ []) 2 one64

abbrev quartic : Scaled
quartic =
    polynomial (bits 0x3fd3_3333_3333_3333 ∷ bits 0xbff1_9999_9999_999a ∷ bits 0x3fe6_6666_6666_6666 ∷ bits 0x3fec_cccc_cccc_cccd
    ∷ bits 0x3ff4_cccc_cccc_cccd ∷ []) 4 half64

-- a line has no noise: the radius is infinite
noise_line : noise_of line (bits 0x3fd3_3333_3333_3333) ≡ zero64
unfolding computes
noise_line = refl

noise_quartic : noise_of quartic (bits 0x3fd3_3333_3333_3333) ≡ bits 0x3e52_5b13_2660_9112
unfolding computes
noise_quartic = refl

band_quartic : band_of quartic (bits 0x3fd3_3333_3333_3333) (bits 0x3e11_2e0b_e826_d695) ≡ bits 0x3e53_36fa_252f_4f00
unfolding computes
band_quartic = refl

-- half a distance that is exactly the noise: within, unless the crude bound says no
within_noise : within_band_of parabola (bits 0x3e60_b7ea_26f1_ea15) (bits 0x3fb9_9999_9999_999a) zero64 ≡ true
unfolding computes
within_noise = refl

beyond_crude : within_band_of parabola (bits 0x3e60_ddb7_d7bd_2d4f) (bits 0x3fbc_28f5_c28f_5c29) zero64 ≡ false
unfolding computes
beyond_crude = refl

critical : critical_point_of quartic (bits 0x3fd3_3333_3333_3333) (bits 0xbff0_0000_0000_0000) one64 ≡ bits 0x3fd7_14d2_3795_1922
unfolding computes
critical = refl

extremum_there : extremum_of quartic (bits 0x3fd3_3333_3333_3333) (bits 0xbff0_0000_0000_0000) one64 (bits 0x3e11_2e0b_e826_d695)
    ≡ Some (bits 0x3fd7_14d2_3795_1922)
unfolding computes
extremum_there = refl

extremum_outside : extremum_of quartic (bits 0x3fd3_3333_3333_3333) (bits 0x3fd0_0000_0000_0000) (bits 0x3fd3_d70a_3d70_a3d7) (bits 0x3e11_2e0b_e826_d695)
    ≡ None
unfolding computes
extremum_outside = refl

-- y^2 - 2y + 1 of 1 - 2.0000001y + y^2: a double root, at the critical point
quadratic_double : quadratic_roots_of (polynomial (one64 ∷ bits 0xc000_0000_0d6b_f94d ∷ one64 ∷ zero64 ∷ zero64 ∷ []) 2 one64)
    (bits 0xc000_0000_0000_0000) one64 (bits 0x3eb0_c6f7_a0b5_ed8d) ≡ double (bits 0x3ff0_0000_0d6b_f94d)
unfolding computes
quadratic_double = refl

quadratic_apart : push_quadratic_of parabola (bits 0xc000_0000_0000_0000) half64 (bits 0x3e11_2e0b_e826_d695) [] []
    ≡ (root (bits 0x3ffb_504f_333f_9de6) 1 ∷ root (bits 0x3fd2_bec3_3301_8867) 1 ∷ [], [])
unfolding computes
quadratic_apart = refl

quadratic_complex : push_quadratic_of parabola (bits 0xc000_0000_0000_0000) (bits 0x3ff8_0000_0000_0000) (bits 0x3e11_2e0b_e826_d695) [] []
    ≡ ([], pair one64 (bits 0x3fe6_a09e_667f_3bcd) ∷ [])
unfolding computes
quadratic_complex = refl

-- 1e200 and 1e-200: a discriminant that is a NaN
quadratic_nan : push_quadratic_of parabola (bits 0x6974_e718_d7d7_625a) (bits 0x1668_7e92_154e_f7ac) (bits 0x3e11_2e0b_e826_d695) [] []
    ≡ ([], pair (bits 0xe964_e718_d7d7_625a) nan ∷ [])
unfolding computes
quadratic_nan = refl

-- an infinite middle is no pair
quadratic_infinite : push_quadratic_of parabola (bits 0x7ff0_0000_0000_0000) one64 (bits 0x3e11_2e0b_e826_d695) [] [] ≡ ([], [])
unfolding computes
quadratic_infinite = refl
