-- The definitions that the values go through. A fact that names a group on its `unfolding` line may compute these.
use mathlib.Core.List.{flat_map}
use Prim.Native.Nat.{ℕ}
use lib.Ieee.{sub, mul, div, le, ne, of_int, is_nan, of_bits, neg}
use Rattle.facts.specs.Count.{count_up, count_down}
use Rattle.facts.specs.Turns.{turns_of}
use Rattle.facts.specs.Sort.{sorted_by, inserted_all, inserted_by}
use Rattle.float.specs.Methods.{is_finite_of, abs_of, copysign_of, min_of, max_of, total_le_of, powi_of}
use Rattle.float.specs.Floor.{floor_of}
use Rattle.ldexp.specs.Scale.{ldexp_of}
use Rattle.decode.specs.Exponent.{exponent_of}
use Rattle.log2.specs.Log.{log2_grid_of}
use Rattle.sqrt.specs.Root.{sqrt_of}
use Rattle.cbrt.specs.Root.{cbrt_of}
use Rattle.horner.specs.Loops.{down_to}
use Rattle.horner.specs.Product.{split_high, product_error, two_prod_of, discriminant_of}
use Rattle.horner.specs.Horner.{horner_step, value_slope_of, sum_error, compensated_step, compensated_of, value_slope_compensated_of}
use Rattle.horner.specs.Taylor.{derivs_step, derivs12_of}
use Rattle.square.specs.Square.{size_sum_of, scale_of, least_pivot_of, larger_of, pivot_of, swap_pivot_of, lose_of}
use Rattle.square.specs.Square.{reduce_step, reduce_of, remainder_of, substitute_step, substitute_of, solve_from, solve_square_of}
use Rattle.refine.specs.Refine.{over_of, weighted_of, norm_of, is_settled_of, weigh_row_of, weigh_rows_of, advanced_of, trial_of, no_less_of, kept_of}
use Rattle.refine.specs.Refine.{next_of, refine_of}
use Rattle.refine.specs.Newton.{flat_of, no_gain_of, newton_next, newton_cubic_of}
use Rattle.cubic.specs.Cubic.{one_root_of, depressed_roots_of, cubic_closed_form_of, isolation_of, better_of, most_isolated_of, cubic_start_of, cubic_factor_of}
use Rattle.isolated.specs.Isolated.{far_root_of, root_pair_of, is_better_of, judged_of, best_root_of, isolated_root_of, peel_start_of, peel_root_of}
use Rattle.quartic.specs.Quartic.{largest_of, resolvent_of, is_clear_of, ferrari_of, quartic_start_of, quartic_factor_of}
use Rattle.scaled.specs.Exponent.{scale_exponent_of}
use Rattle.scaled.specs.Scaled.{top_of, shift_of, coefficient_of, coefficients_of, monic_at, monic_of, sizes_of, log_size_of, log_sizes_of, scaled_of}
use Rattle.split.specs.Hull.{cross_of, popped_of, hull_step, hull_of, mag_of}
use Rattle.split.specs.Gap.{exp2_of, split_from, magnitude_split_of}
use Rattle.factors.specs.Factors.{push_lin_of, push_quad_of}
use Rattle.large_factors.specs.Large.{quad_units_of, factor_units_of, ends_of, with_unit, large_from, large_of}
use Rattle.quotient.specs.Quotient.{product_term_of, next_at, mul_of, product_of, acc_of, quotient_of, usable_of, merged_of}
use Rattle.factorize.specs.Factorize.{paired_of, quartic_factors_of, out_of, second_of, factors_from, factorize_of}
use Rattle.roots.specs.Roots.{kind_of, held, kept, paired}
use Rattle.band.specs.Band.{magnitude_step, magnitude_of, budget_of, base_of, within_band_of}
use Rattle.critical.specs.Critical.{critical_next, critical_point_of, extremum_of}
use Rattle.push.specs.Quadratic.{quadratic_roots_of, push_factor, push_quadratic_of}
use Rattle.polish.specs.Polish.{is_long_of, is_small_of, polish_next, polish_of}
use Rattle.poly.specs.Solve.{zero_roots_of, candidates_of}
use Rattle.finish.specs.Finish.{by_value}
use Rattle.asking.specs.Asking.{answered, ◌then◌, each}
use Rattle.touching.specs.Touching.{touches_at, pair_order, ordered, link_at, contact_of, emitted, item_turn, chained, touching}
use Rattle.equation.specs.Quadratic.{linear_of, is_grazing_of, two_of, solve_quadratic_of}
use Rattle.trig_quartic.specs.Crank.{eighth_of, f_at_of, sample_of, quartic_of}

-- doubles, loops, orders and leaves
unfoldable pub arithmetic : ℕ
unfolding of_bits neg sub mul div le ne of_int is_nan is_finite_of abs_of copysign_of min_of max_of total_le_of powi_of floor_of flat_map count_up
    count_down turns_of sorted_by inserted_all inserted_by ldexp_of exponent_of log2_grid_of sqrt_of cbrt_of
arithmetic = 0

-- layers 2 and 3
unfoldable pub evaluation : ℕ
unfolding down_to split_high product_error two_prod_of discriminant_of horner_step value_slope_of sum_error compensated_step compensated_of
    value_slope_compensated_of derivs_step derivs12_of size_sum_of scale_of least_pivot_of larger_of pivot_of swap_pivot_of lose_of reduce_step reduce_of
    remainder_of substitute_step substitute_of solve_from solve_square_of over_of weighted_of norm_of is_settled_of weigh_row_of weigh_rows_of advanced_of
    trial_of no_less_of kept_of next_of refine_of flat_of no_gain_of newton_next newton_cubic_of
evaluation = 0

-- layer 4
unfoldable pub factoring : ℕ
unfolding one_root_of depressed_roots_of cubic_closed_form_of isolation_of better_of most_isolated_of cubic_start_of cubic_factor_of far_root_of root_pair_of
    is_better_of judged_of best_root_of isolated_root_of peel_start_of peel_root_of largest_of resolvent_of is_clear_of ferrari_of quartic_start_of
    quartic_factor_of
factoring = 0

-- layer 5
unfoldable pub scaling : ℕ
unfolding scale_exponent_of top_of shift_of coefficient_of coefficients_of monic_at monic_of sizes_of log_size_of log_sizes_of scaled_of cross_of popped_of
    hull_step hull_of mag_of exp2_of split_from magnitude_split_of push_lin_of push_quad_of quad_units_of factor_units_of ends_of with_unit large_from large_of
    product_term_of next_at mul_of product_of acc_of quotient_of usable_of merged_of paired_of quartic_factors_of out_of second_of factors_from factorize_of
scaling = 0

-- layer 6
unfoldable pub solving : ℕ
unfolding kind_of held kept paired zero_roots_of candidates_of by_value touches_at magnitude_step magnitude_of budget_of base_of within_band_of critical_next
    critical_point_of extremum_of quadratic_roots_of push_factor push_quadratic_of is_long_of is_small_of polish_next polish_of answered ◌then◌ each
    pair_order ordered link_at contact_of emitted item_turn chained touching linear_of is_grazing_of two_of solve_quadratic_of eighth_of f_at_of sample_of
    quartic_of
solving = 0
