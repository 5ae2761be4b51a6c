-- Worked values: what the functions of poly.rs give in the reference build, computed from the definitions.
use mathlib.Core.Path.{◌≡◌, refl}
use Prim.Native.Nat.{ℕ}
use Rattle.angle.specs.declared.Sine.TheVariants.{OfRounded}
use Rattle.cubic.proofs.Vectors.{bits, computes as cubics}
use Rattle.quartic.specs.Quartic.{largest_of, resolvent_of, is_clear_of, ferrari_of, quartic_start_of, quartic_factor_of, quartic_systems_of}

-- what has to unfold for the definitions to compute: a fact says `unfolding computes`
unfoldable pub computes : ℕ
unfolding cubics largest_of resolvent_of is_clear_of ferrari_of quartic_start_of quartic_factor_of quartic_systems_of
computes = 0

quartic_ferrari : quartic_factor_of OfRounded (bits 0x3fe0_0000_0000_0000) (bits 0xbff4_0000_0000_0000) (bits 0x3fd3_3333_3333_3333)
    (bits 0x3fb9_9999_9999_999a) ≡ record {
      al = bits 0x3ffa_5be7_832b_b422;
      be = bits 0x3fd1_4961_dbf0_0bc7;
      ga = bits 0xbff2_5be7_832b_b422;
      de = bits 0x3fd7_b1d0_6118_7534;
    }
unfolding computes
quartic_ferrari = refl

quartic_biquadratic : quartic_factor_of OfRounded (bits 0x0000_0000_0000_0000) (bits 0x4000_0000_0000_0000) (bits 0x0000_0000_0000_0000)
    (bits 0x3fe8_0000_0000_0000) ≡ record {
      al = bits 0x0000_0000_0000_0000;
      be = bits 0x3ff8_0000_0000_0000;
      ga = bits 0x0000_0000_0000_0000;
      de = bits 0x3fe0_0000_0000_0000;
    }
unfolding computes
quartic_biquadratic = refl

-- the systems that are solved

quartic_two_systems : quartic_systems_of OfRounded (bits 0x3fe0_0000_0000_0000) (bits 0xbff4_0000_0000_0000) (bits 0x3fd3_3333_3333_3333)
    (bits 0x3fb9_9999_9999_999a) ≡ 2
unfolding computes
quartic_two_systems = refl

-- y^4 - 2*y^3 + 2^-66: the one call finds no step
quartic_no_step : quartic_systems_of OfRounded (bits 0xc000_0000_0000_0000) (bits 0x0000_0000_0000_0000) (bits 0x0000_0000_0000_0000)
    (bits 0x3bd0_0000_0000_0000) ≡ 1
unfolding computes
quartic_no_step = refl

-- y^4 - 2*y^3 - 1.25*y^2: each turn halves the way to the double root, and the loop's limit ends them
quartic_most_systems : quartic_systems_of OfRounded (bits 0xc000_0000_0000_0000) (bits 0xbff4_0000_0000_0000) (bits 0x0000_0000_0000_0000)
    (bits 0x0000_0000_0000_0000) ≡ 8
unfolding computes
quartic_most_systems = refl
