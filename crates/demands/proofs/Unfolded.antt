-- The definitions that a computed answer goes through. A fact that names a group on its `unfolding` line may compute these.
use mathlib.Core.List.{flat_map}
use Prim.Native.Nat.{ℕ}
use lib.Ieee.{sub, mul, div, le, ne, of_int, is_nan, of_bits, to_bits, neg}
use Rattle.facts.specs.Count.{count_up, count_down}
use Rattle.facts.specs.Turns.{turns_of}
use Rattle.facts.specs.Sort.{sorted_by, inserted_all, inserted_by}
use Rattle.float.specs.Methods.{is_finite_of, abs_of, copysign_of, min_of, max_of, total_le_of, powi_of}
use Rattle.float.specs.Bytes.{f64_at, bytes_of}
use Rattle.ldexp.specs.Scale.{ldexp_of}
use Rattle.decode.specs.Exponent.{exponent_of}
use Rattle.log2.specs.Log.{log2_grid_of}
use Rattle.sqrt.specs.Root.{sqrt_of}
use Rattle.cbrt.specs.Root.{cbrt_of}
use Rattle.horner.specs.Loops.{down_to}
use Rattle.horner.specs.Product.{split_high, product_error, two_prod_of, discriminant_of}
use Rattle.horner.specs.Horner.{horner_step, value_slope_of, sum_error, compensated_step, compensated_of, value_slope_compensated_of}
use Rattle.horner.specs.Taylor.{derivs_step, derivs12_of}
use Rattle.square.specs.Square.{size_sum_of}
use Rattle.refine.specs.Refine.{over_of, weighted_of, norm_of, is_settled_of, next_of, refine_of}
use Rattle.refine.specs.Newton.{flat_of, no_gain_of, newton_next, newton_cubic_of}
use Rattle.cubic.specs.Cubic.{one_root_of, depressed_roots_of, cubic_closed_form_of}
use Rattle.isolated.specs.Isolated.{far_root_of, root_pair_of, is_better_of, judged_of, best_root_of, isolated_root_of}
use Rattle.quartic.specs.Quartic.{largest_of, resolvent_of, is_clear_of, ferrari_of, quartic_start_of, quartic_factor_of}
use Rattle.scaled.specs.Exponent.{scale_exponent_of}
use Rattle.scaled.specs.Scaled.{top_of, shift_of, coefficient_of, coefficients_of, monic_at, monic_of, sizes_of, log_size_of, log_sizes_of, scaled_of}
use Rattle.split.specs.Hull.{popped_of, hull_step, hull_of}
use Rattle.split.specs.Gap.{split_from, magnitude_split_of}
use Rattle.factors.specs.Factors.{push_quad_of}
use Rattle.factorize.specs.Factorize.{paired_of, quartic_factors_of, out_of, second_of, factors_from, factorize_of}
use Rattle.roots.specs.Roots.{kept, paired}
use Rattle.band.specs.Band.{magnitude_step, magnitude_of, budget_of, base_of, within_band_of}
use Rattle.critical.specs.Critical.{critical_next, critical_point_of, extremum_of}
use Rattle.push.specs.Quadratic.{quadratic_roots_of, push_factor, push_quadratic_of}
use Rattle.polish.specs.Polish.{polish_next, polish_of}
use Rattle.finish.specs.Finish.{by_value, ordered_at, ordered_of, polished_at, polished_of, is_near_of, joined_from, joined_of, finish_of}
use Rattle.poly.specs.Coefficients.{trimmed_from, trimmed_of, zeros_of, counted_by, middle_at, middle_of, poly_of}
use Rattle.poly.specs.Solve.{zero_roots_of, candidates_of, finished_of, solve_of}
use Rattle.poly.specs.RealRoots.{unscaled_all, answer_of, real_roots_of}
use Rattle.asking.specs.Asking.{answered}
use Rattle.touching.specs.Touching.{touches_at, pair_order, all_apart, pair_at, pair_turn, ordered, contact_of, emitted, item_turn, chained, touching}
use Rattle.inquiry.specs.Start.{real_roots_touching, start_of}
use Rattle.solution.specs.Solution.{values_of}
use Rattle.equation.specs.Quadratic.{is_grazing_of, two_of, solve_quadratic_of, quadratic_of}
use Rattle.trig_quartic.specs.Crank.{eighth_of, f_at_of, sample_of, quartic_of, crank_front_of}
use Rattle.crank.specs.Crank.{crank_start_of, crank_of}
use Rattle.text.specs.Digits.{hex_digit, hex_digits, decimal}
use Rattle.listing.specs.File.{listing}

-- doubles, their bytes, loops and orders
unfoldable pub arithmetic : ℕ
unfolding sub mul div le ne of_int is_nan of_bits to_bits neg flat_map count_up count_down turns_of sorted_by inserted_all inserted_by is_finite_of abs_of
    copysign_of min_of max_of total_le_of powi_of f64_at bytes_of
arithmetic = 0

-- layer 1
unfoldable pub leaves : ℕ
unfolding ldexp_of exponent_of log2_grid_of sqrt_of cbrt_of
leaves = 0

-- layers 2 and 3
unfoldable pub evaluation : ℕ
unfolding down_to split_high product_error two_prod_of discriminant_of horner_step value_slope_of sum_error compensated_step compensated_of
    value_slope_compensated_of derivs_step derivs12_of size_sum_of over_of weighted_of norm_of is_settled_of next_of refine_of flat_of no_gain_of newton_next
    newton_cubic_of
evaluation = 0

-- layer 4
unfoldable pub factoring : ℕ
unfolding one_root_of depressed_roots_of cubic_closed_form_of far_root_of root_pair_of is_better_of judged_of best_root_of isolated_root_of largest_of
    resolvent_of is_clear_of ferrari_of quartic_start_of quartic_factor_of
factoring = 0

-- layer 5
unfoldable pub scaling : ℕ
unfolding scale_exponent_of top_of shift_of coefficient_of coefficients_of monic_at monic_of sizes_of log_size_of log_sizes_of scaled_of popped_of hull_step
    hull_of split_from magnitude_split_of push_quad_of paired_of quartic_factors_of out_of second_of factors_from factorize_of
scaling = 0

-- layer 6: a list
unfoldable pub solving : ℕ
unfolding kept paired magnitude_step magnitude_of budget_of base_of within_band_of critical_next critical_point_of extremum_of quadratic_roots_of
    push_factor push_quadratic_of polish_next polish_of by_value ordered_at ordered_of polished_at polished_of is_near_of joined_from joined_of finish_of
    trimmed_from trimmed_of zeros_of counted_by middle_at middle_of poly_of zero_roots_of candidates_of finished_of solve_of unscaled_all answer_of
    real_roots_of
solving = 0

-- an inquiry, a quadratic and a crank
unfoldable pub asking : ℕ
unfolding answered touches_at pair_order all_apart pair_at pair_turn ordered contact_of emitted item_turn chained touching real_roots_touching
    start_of values_of is_grazing_of two_of solve_quadratic_of quadratic_of eighth_of f_at_of sample_of quartic_of crank_front_of crank_start_of crank_of
asking = 0

-- layer 7
unfoldable pub printing : ℕ
unfolding hex_digit hex_digits decimal listing
printing = 0
