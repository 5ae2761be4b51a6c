-- Worked values: what the functions of poly.rs give in the reference build, computed from the definitions.
use mathlib.Core.Path.{◌≡◌, refl}
use mathlib.Core.List.{[], ◌∷◌}
use mathlib.Core.Option.{Option-elim}
use Prim.Native.Nat.{ℕ}
use lib.Ieee.{Float, binary64, add, sub, mul, div, neg, lt, le, eq, ne, is_nan, of_bits}
use Rattle.facts.specs.Count.{count_up, count_down}
use Rattle.facts.specs.Turns.{turns_of}
use Rattle.float.specs.Methods.{abs_of, is_finite_of, is_sign_negative_of, with_sign, copysign_of, min_of, max_of, clamp_of, total_le_of}
use Rattle.sqrt.specs.Root.{sqrt_of}
use Rattle.cbrt.specs.Root.{cbrt_of}
use Rattle.angle.specs.Third.{third_angle_of}
use Rattle.angle.specs.declared.Sine.TheVariants.{OfRounded}
use Rattle.horner.proofs.Vectors.{computes as evaluates}
use Rattle.square.specs.Square.{size_sum_of, scale_of, least_pivot_of, larger_of, pivot_of, swap_pivot_of, lose_of}
use Rattle.square.specs.Square.{reduce_step, reduce_of, remainder_of, substitute_step, substitute_of, solve_from, solve_square_of}
use Rattle.refine.specs.Refine.{over_of, weighted_of, norm_of, is_settled_of, weigh_row_of, weigh_rows_of, advanced_of, trial_of, no_less_of, kept_of}
use Rattle.refine.specs.Refine.{next_of, refine_of, turn_systems_of, turns_systems_of, refine_systems_of}
use Rattle.refine.specs.Newton.{flat_of, no_gain_of, newton_next, newton_cubic_of}
use Rattle.cubic.specs.declared.CubicRoots.TheVariants.{Three}
use Rattle.cubic.specs.Cubic.{one_root_of, three_roots_of, depressed_roots_of, cubic_closed_form_of, isolation_of, better_of, most_isolated_of}
use Rattle.cubic.specs.Cubic.{cubic_start_of, cubic_factor_of, cubic_systems_of}

-- what has to unfold for the definitions to compute: a fact says `unfolding computes`
unfoldable pub computes : ℕ
unfolding evaluates Option-elim add sub mul div neg lt le eq ne is_nan of_bits count_up count_down turns_of abs_of is_finite_of is_sign_negative_of
    with_sign copysign_of min_of max_of clamp_of total_le_of sqrt_of cbrt_of third_angle_of size_sum_of scale_of least_pivot_of larger_of pivot_of swap_pivot_of
    lose_of reduce_step reduce_of remainder_of substitute_step substitute_of solve_from solve_square_of over_of weighted_of norm_of is_settled_of
    weigh_row_of weigh_rows_of advanced_of trial_of no_less_of kept_of next_of refine_of turn_systems_of turns_systems_of refine_systems_of flat_of no_gain_of
    newton_next newton_cubic_of one_root_of three_roots_of depressed_roots_of cubic_closed_form_of isolation_of better_of most_isolated_of cubic_start_of
    cubic_factor_of cubic_systems_of
computes = 0

abbrev pub bits : ℕ → Float
bits n = of_bits binary64 n

-- three roots, by the trigonometric form

closed_three : cubic_closed_form_of OfRounded (bits 0x0000_0000_0000_0000) (bits 0xbff0_0000_0000_0000) (bits 0x3fd0_0000_0000_0000)
    ≡ Three (bits 0x3fea_cd56_0719_a8f9 ∷ bits 0x3fd1_4109_05e2_e03b ∷ bits 0xbff1_b6ed_4505_8c8b ∷ [])
unfolding computes
closed_three = refl

cubic_one_root : cubic_factor_of OfRounded (bits 0x3fe0_0000_0000_0000) (bits 0xbfd0_0000_0000_0000) (bits 0x3fe8_0000_0000_0000)
    ≡ record { r = bits 0xbff3_6e37_f9a8_c67d; e = bits 0xbfe6_dc6f_f351_8cfa; f = bits 0x3fe3_c340_6d12_30e6 }
unfolding computes
cubic_one_root = refl

cubic_last_of_equals : cubic_factor_of OfRounded (bits 0xbff8_0000_0000_0000) (bits 0x3fe6_0000_0000_0000) (bits 0xbfb8_0000_0000_0000)
    ≡ record { r = bits 0x3fd0_0000_0000_0000; e = bits 0xbff4_0000_0000_0000; f = bits 0x3fd8_0000_0000_0000 }
unfolding computes
cubic_last_of_equals = refl

cubic_double_root : cubic_factor_of OfRounded (bits 0xbff4_0000_0000_0000) (bits 0x3fe0_0000_0000_0000) (bits 0xbfb0_0000_0000_0000)
    ≡ record { r = bits 0x3fd0_0000_0000_0001; e = bits 0xbff0_0000_0000_0000; f = bits 0x3fcf_ffff_ffff_fffe }
unfolding computes
cubic_double_root = refl

-- the systems that are solved: none where the search begins at the rounding floor
cubic_no_systems : cubic_systems_of OfRounded (bits 0x3fe0_0000_0000_0000) (bits 0xbfd0_0000_0000_0000) (bits 0x3fe8_0000_0000_0000) ≡ 0
unfolding computes
cubic_no_systems = refl

-- the last call's step comes no nearer, and counts too
cubic_three_systems : cubic_systems_of OfRounded (bits 0xbfe8_0000_0000_0000) (bits 0x0000_0000_0000_0000) (bits 0xbfe0_0000_0000_0000) ≡ 3
unfolding computes
cubic_three_systems = refl
