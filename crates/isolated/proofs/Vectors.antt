-- Worked values: what the functions of poly.rs give in the reference build, computed from the definitions.
use mathlib.Core.Path.{◌≡◌, refl}
use Prim.Native.Nat.{ℕ}
use Rattle.float.specs.Methods.{powi_of}
use Rattle.cubic.proofs.Vectors.{bits}
use Rattle.quartic.proofs.Vectors.{computes as quartics}
use Rattle.std.specs.Prelude.{Some, None}
use Rattle.isolated.specs.Isolated.{far_root_of, root_pair_of, is_better_of, judged_of, best_root_of, isolated_root_of}
use Rattle.isolated.specs.Isolated.{peel_start_of, peel_root_of, peel_systems_of}

-- what has to unfold for the definitions to compute: a fact says `unfolding computes`
unfoldable pub computes : ℕ
unfolding quartics powi_of far_root_of root_pair_of is_better_of judged_of best_root_of isolated_root_of peel_start_of peel_root_of peel_systems_of
computes = 0

isolated : isolated_root_of (record {
  al = bits 0xc000_0000_0000_0000;
  be = bits 0x3ff0_0000_0000_0000;
  ga = bits 0x0000_0000_0000_0000;
  de = bits 0xbff0_0000_0000_0000;
}) ≡ Some (bits 0xbff0_0000_0000_0000)
unfolding computes
isolated = refl

none_isolated : isolated_root_of (record {
  al = bits 0x3fe0_0000_0000_0000;
  be = bits 0x3ff0_0000_0000_0000;
  ga = bits 0x3fd0_0000_0000_0000;
  de = bits 0xbff0_0000_0000_0000;
}) ≡ None
unfolding computes
none_isolated = refl

isolated_first_of_equals : isolated_root_of (record {
  al = bits 0x3ff0_0000_0000_0000;
  be = bits 0xfff0_0000_0000_0000;
  ga = bits 0xbff0_0000_0000_0000;
  de = bits 0xfff0_0000_0000_0000;
}) ≡ Some (bits 0xfff0_0000_0000_0000)
unfolding computes
isolated_first_of_equals = refl

peeled : peel_root_of (bits 0x3fe0_0000_0000_0000) (bits 0xbff4_0000_0000_0000) (bits 0x3fd3_3333_3333_3333) (bits 0x3fb9_9999_9999_999a)
    (bits 0x3fe6_6666_6666_6666) ≡ record {
      r = bits 0x3fe1_160d_df1d_1160;
      h2 = bits 0x3ff0_8b06_ef8e_88b0;
      h1 = bits 0xbfe7_3760_862a_0d11;
      h0 = bits 0xbfc1_e416_ae45_2880;
    }
unfolding computes
peeled = refl

peeled_systems : peel_systems_of (bits 0x3fe0_0000_0000_0000) (bits 0xbff4_0000_0000_0000) (bits 0x3fd3_3333_3333_3333) (bits 0x3fb9_9999_9999_999a)
    (bits 0x3fe6_6666_6666_6666) ≡ 2
unfolding computes
peeled_systems = refl
