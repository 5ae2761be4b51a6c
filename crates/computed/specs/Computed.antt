-- What the definitions give at chosen arguments, those with a mode in the reference build's. A comment says what a fact pins, a number alone being a line of
-- poly.rs, and after 'not' the mistake that it rules out (docs/MUTATIONS.md), which would give another value. Statements only; proofs/Proved.antt has the
-- proof of `Computed`, the last of them.
use Rattle.std.specs.Prelude.{◌≡◌, true, false, List, [], ◌∷◌, ◌+◌, ◌-◌, ◌^◌, negsuc, get_or, replicate, Float, Some, None}
use Rattle.std.proofs.Math.Option.{some}
use Rattle.std.specs.Float.{nan}
use Rattle.std.specs.Float.Ieee.{neg}
use Rattle.float.specs.Literals.{zero64, epsilon64, half64, one64, two64, three64, inf64}
use Rattle.float.specs.Methods.{min_of, max_of, powi_of}
use Rattle.ldexp.specs.Scale.{ldexp_of}
use Rattle.angle.specs.declared.Sine.TheVariants.{OfRounded}
use Rattle.square.specs.Square.{scale_of, solve_square_of}
use Rattle.refine.specs.Refine.{is_settled_of, advanced_of}
use Rattle.refine.specs.Systems.{cubic_residual_of, cubic_jacobian_of, peel_residual_of}
use Rattle.cubic.specs.Cubic.{one_root_of}
use Rattle.quartic.specs.declared.QuarticFactor.{QuarticFactor}
use Rattle.quartic.specs.Quartic.{quartic_factor_of}
use Rattle.cubic.specs.declared.CubicRoots.TheVariants as roots
use Rattle.isolated.specs.Isolated.{complex, root_pair_of, is_better_of, judged_of, best_root_of, isolated_root_of}
use Rattle.scaled.specs.Scaled.{scaled_of}
use Rattle.split.specs.Hull.{hull_at, hull_of}
use Rattle.split.specs.Gap.{magnitude_split_of}
use Rattle.factors.specs.Factors.{quad_of}
use Rattle.large_factors.specs.Large.{unit_of, quad_units_of, large_of}
use Rattle.quotient.specs.Quotient.{product_of, quotient_of, usable_of, merged_of}
use Rattle.factorize.specs.Factorize.{paired_of, out_of, second_of, factorize_of}
use Rattle.roots.specs.declared.RootKind.TheVariants.{Brush}
use Rattle.roots.specs.Roots.{root_by, root, kept, pair, paired}
use Rattle.band.specs.Band.{magnitude_of, budget_of, within_band_of, bare}
use Rattle.push.specs.Quadratic.{push_quadratic_of}
use Rattle.polish.specs.Polish.{is_long_of, polish_next, polish_of}
use Rattle.poly.specs.Solve.{candidates_of}
use Rattle.asking.specs.Asking.{answered}
use Rattle.touching.specs.Touching.{ordered, contact_of, touching}
use Rattle.solution.specs.declared.QuadraticSolution.TheVariants.{One, Empty}
use Rattle.equation.specs.Quadratic.{solve_quadratic_of}
use Rattle.trig_quartic.specs.declared.TrigEquation.{TrigEquation}
use Rattle.trig_quartic.specs.Crank.{sample_of, quartic_of}
use Rattle.float.specs.Dyadic.{◌*2^◌, ◌/2^◌}
use Rattle.computed.specs.Values.{minus_zero, minus_inf, factors, monic}
use Rattle.computed.specs.Steps.{Steps}

pub record DoubleValues : Type 0 where
  -- Document 01: '`min`, `max`: of two zeros with unlike signs, the first'; not max(-0, 0) = +0
  pub max_of_zeros : max_of minus_zero zero64 ≡ minus_zero
  -- the same; not the last of two zeros
  pub min_of_zeros : min_of zero64 minus_zero ≡ zero64
  -- Document 01, 'Where a port goes astray'; not: the minimum of a number and NaN is NaN
  pub min_with_nan : (min_of one64 nan ≡ one64) × (min_of nan one64 ≡ one64)
  -- Document 01: '(v·v)·(v·v)'; not v⁴ by three products (one unit more then)
  pub fourth_power : powi_of (262167 /2^ 18) 4 ≡ 4505180383358855 /2^ 52
  -- 661, `x * pow2(k)` up to 1000: 5/8 units of 2^-1074 become 1; not ldexp in steps of 500 (by way of 1 they become 0)
  pub one_product : ldexp_of (5 /2^ 576) (negsuc 500) ≡ 1 /2^ 1074
  -- 668, the steps of 1000 first: 5/4 units become 1, and half of it 0; not ldexp from the other end (then 1)
  pub steps_first : ldexp_of (5 /2^ 76) (negsuc 1000) ≡ zero64

pub record Squares : Type 0 where
  -- solve.rs 79, `<= tol * scale`, where the sum of the sizes overflows, and 0 times infinity is NaN; not: a zero pivot always means no step
  pub zero_pivot : solve_square_of 2 ((1 *2^ 1023 ∷ 1 *2^ 1023 ∷ []) ∷ (zero64 ∷ zero64 ∷ []) ∷ []) (zero64 ∷ one64 ∷ []) zero64 ≡ Some (minus_inf ∷ inf64 ∷ [])
  -- Document 01: 'a comparison with NaN is false, so a NaN pivot goes on'; not: a NaN pivot means no step
  pub nan_pivot : solve_square_of 1 ((nan ∷ []) ∷ []) (one64 ∷ []) zero64 ≡ Some (nan ∷ [])
  -- Document 01: 'added row by row': 2^53 + 1 is rounded down, and tol * 2^53 is below the pivots 1; not the entry sum by columns, not from the last row up
  -- (2^53 + 4 then, and no step)
  pub row_by_row : solve_square_of 3 ((one64 ∷ 1 *2^ 53 ∷ zero64 ∷ []) ∷ (one64 ∷ zero64 ∷ zero64 ∷ []) ∷ (zero64 ∷ zero64 ∷ one64 ∷ []) ∷ [])
      (replicate 3 one64) ((2 ^ 53 - 1) /2^ 106) ≡ Some (one64 ∷ minus_zero ∷ one64 ∷ [])
  -- the same: 2^53 + 1 and 2^53 + 3/2 + 3/4 are rounded one by one; not the entry sum's rows from their ends, not of row sums (2^53 + 4 then)
  pub entry_sum : scale_of 3 ((1 *2^ 53 ∷ zero64 ∷ zero64 ∷ []) ∷ (one64 ∷ 3 /2^ 1 ∷ 3 /2^ 2 ∷ []) ∷ replicate 3 zero64 ∷ []) ≡ (2 ^ 52 + 1) *2^ 1
  -- 821, `current.is_finite()`; not: an infinite norm goes on
  pub infinite_norm : is_settled_of inf64 ≡ true
  -- 869 and 1010, `-x[0] * x[2] - d`: -0 * 1 - 0 is -0; not 0 less the product
  pub residuals_of_zero : (get_or (cubic_residual_of one64 one64 zero64 (zero64 ∷ zero64 ∷ one64 ∷ [])) 2 nan ≡ minus_zero)
      × (get_or (peel_residual_of one64 one64 one64 zero64 (zero64 ∷ zero64 ∷ zero64 ∷ one64 ∷ [])) 3 nan ≡ minus_zero)
  -- 877; not -0 in the cubic's derivatives
  pub derivative_of_zero : (x : List Float) → get_or (get_or (cubic_jacobian_of x) 0 []) 2 nan ≡ zero64
  -- 832, `.filter(|s| s.iter().all(|v| v.is_finite()))`; not: a step that is not finite is tried
  pub step_not_finite : advanced_of 1 (one64 ∷ []) (Some (inf64 ∷ [])) ≡ None

pub record Quartics : Type 0 where
  -- 890, `0.125 * b2 * b`, rounded once to units of 2^-1074; not b³ as b b² (rounded twice, with the other sign in be and de)
  pub cube_of_b : quartic_factor_of OfRounded (335 /2^ 361) zero64 zero64 zero64
      ≡ record { al = 335 /2^ 361; be = neg (185542587187 /2^ 760); ga = zero64; de = 185542587187 /2^ 760 }
  -- 955, `disc >= 0.0`, where al² underflows and disc is 0: two real places; not: a double root counts as complex (then it is twice -2^-539)
  pub double_root : root_pair_of (1 /2^ 538) zero64 ≡ complex (neg (1 /2^ 539)) zero64 ∷ complex minus_zero zero64 ∷ []
  -- the same beside the places 2^-500 and -2^-502: 16 spread is iso itself; not: a double root counts as complex (then 2^-500 is isolated)
  pub not_isolated : isolated_root_of (record { al = 1 /2^ 538; be = zero64; ga = neg (3 /2^ 502); de = neg (1 /2^ 1002) }) ≡ None
  -- 784, `disc.max(0.0)`: the root of t^3 + 2, though disc is said to be -1; not a discriminant below 0 (then it is NaN)
  pub no_root_below_zero : one_root_of zero64 zero64 two64 (neg one64) ≡ roots.One (neg one64)
  -- 988, `iso > b`, where 0 is the best so far, with iso 1; not the first isolated root
  pub better_isolated : let best = judged_of (best_root_of (record { al = nan; be = nan; ga = nan; de = nan })) zero64 zero64 one64 zero64 in
      is_better_of best two64 zero64 ≡ true
  -- the same, for the places -1 and 1 and two that are NaN; not the last of equally isolated quartic roots
  pub first_of_equals : isolated_root_of (record { al = zero64; be = neg one64; ga = nan; de = nan }) ≡ Some (neg one64)
  -- 522 and 523, for (y - 1) * y^3; not the cluster's root before the peeled one
  pub peeled_first : (quads : QuarticFactor) → paired_of OfRounded (neg one64) zero64 zero64 zero64 quads (Some one64)
      ≡ factors (one64 ∷ zero64 ∷ []) (quad_of zero64 zero64 ∷ [])

pub record Scaling : Type 0 where
  -- 267, `lg[i] += shift`: 2^-1075 becomes 0 as f_0, and lg_0 is -1075; not lg from the scaled coefficient (then it is minus infinity)
  pub lg_unscaled : let s = scaled_of (1 /2^ 1074 ∷ zero64 ∷ two64 ∷ two64 ∷ zero64 ∷ []) 3 in (get_or s.f 0 nan ≡ zero64)
      × (get_or s.lg 0 nan ≡ neg (1075 /2^ 0))

pub record Splitting : Type 0 where
  -- 638, `cross >= 0.0`, at three points of one line; not: points on an edge stay in the hull
  pub on_an_edge : hull_of (zero64 ∷ one64 ∷ two64 ∷ replicate 2 minus_inf) 2 ≡ hull_at (0 ∷ 2 ∷ 0 ∷ 0 ∷ 0 ∷ []) 2
  -- Document 01: '`ldexp(1.0, k)`, k the middle rounded down', of a gap from -10 to -1; not exact exp2 (2^-5.5), not the middle rounded up (2^-5), not the
  -- gap's lower end (2^-10)
  pub middle_down : magnitude_split_of (neg (11 /2^ 0) ∷ neg one64 ∷ zero64 ∷ replicate 2 minus_inf) 2 ≡ Some (record { small = 1; threshold = 1 /2^ 6 })

pub record FactorValues : Type 0 where
  -- 567, `m < threshold * f64::EPSILON`; not: a unit at the threshold is small
  pub at_threshold : large_of (factors (epsilon64 ∷ []) []) 1 one64 ≡ factors (epsilon64 ∷ []) []
  -- the same, below it; not: a small unit never ends the loop
  pub below_threshold : large_of (factors (1 /2^ 53 ∷ []) []) 1 one64 ≡ factors [] []
  -- 567, `m.is_nan()`; not: a NaN unit does not end the loop
  pub nan_unit : large_of (factors (nan ∷ []) []) 1 one64 ≡ factors [] []
  -- the same before another; not: a NaN unit is passed over, not: a NaN unit goes last
  pub nan_first : large_of (factors (one64 ∷ nan ∷ []) []) 1 one64 ≡ factors [] []
  -- 560, `be.abs().sqrt()`; not the size of a pair is |be|
  pub pair_size : quad_units_of (quad_of zero64 (1 /2^ 2)) ≡ unit_of half64 zero64 (1 /2^ 2) ∷ []
  -- the same at -0; not the size of a pair from be itself (-0 then)
  pub pair_of_zero : quad_units_of (quad_of zero64 minus_zero) ≡ unit_of zero64 zero64 minus_zero ∷ []
  -- Document 01: 'ties stay in their earlier order', 564; not units of equal size in the other order
  pub equal_units : large_of (factors (one64 ∷ neg one64 ∷ []) []) 1 one64 ≡ factors (one64 ∷ []) []
  -- 584, `[0.0; 5]`: 0 + -0 is +0; not the factor product started from -0
  pub product_from_zero : product_of (factors [] (quad_of minus_zero one64 ∷ [])) ≡ record { l = one64 ∷ zero64 ∷ one64 ∷ zero64 ∷ zero64 ∷ []; dl = 2 }
  -- 593 to 597: (y + 1) * (y + 2^53) first, in which 2^53 + 1 is rounded; not quadratic factors multiplied first (then l[1] is 3 * 2^53 + 4)
  pub lines_first : product_of (factors (neg one64 ∷ neg (1 *2^ 53) ∷ []) (quad_of zero64 three64 ∷ []))
      ≡ record { l = 3 *2^ 53 ∷ 3 *2^ 53 ∷ (2 ^ 51 + 1) *2^ 2 ∷ 1 *2^ 53 ∷ one64 ∷ []; dl = 4 }
  -- 585 to 587: l[2] is 2^53 + 1 + 1 from the left; not the product from the other factor (then 2^53 + 2)
  pub product_upward : product_of (factors (1 *2^ 53 ∷ one64 ∷ []) (quad_of (neg (1 /2^ 53)) one64 ∷ []))
      ≡ record { l = 1 *2^ 53 ∷ neg (1 *2^ 53) ∷ 1 *2^ 53 ∷ neg (1 *2^ 53) ∷ one64 ∷ []; dl = 4 }
  -- 585, `l[..=dl]`: 0 times infinity is not added; not the product of all five
  pub product_to_its_degree : product_of (factors [] (quad_of inf64 one64 ∷ [])) ≡ record { l = one64 ∷ inf64 ∷ one64 ∷ zero64 ∷ zero64 ∷ []; dl = 2 }
  -- 603, `1..=i.min(dl)`, by y + 1 from infinity on: 0 times infinity is not taken away; not the quotient by all of L
  pub quotient_to_the_degree : quotient_of (inf64 ∷ replicate 4 zero64) (record { l = one64 ∷ one64 ∷ replicate 3 zero64; dl = 1 }) 2
      ≡ inf64 ∷ minus_inf ∷ inf64 ∷ zero64 ∷ zero64 ∷ []
  -- 608, `v.is_finite()`; not a quotient that is not finite
  pub finite_quotient : usable_of (one64 ∷ inf64 ∷ one64 ∷ zero64 ∷ zero64 ∷ []) 2 ≡ false
  -- the same, `s[small] != 0.0`; not: a quotient's last coefficient may be 0
  pub last_zero : usable_of (one64 ∷ replicate 4 zero64) 1 ≡ false
  -- 618, `ldexp(be, 2 * sub.e)`: 23 / 16 units of 2^-1074 become 1; not be moved back in two steps (by way of 6 they become 2)
  pub be_at_once : merged_of (factors [] []) (factors [] (quad_of zero64 (23 /2^ 1074) ∷ [])) (negsuc 1) ≡ factors [] (quad_of zero64 (1 /2^ 1074) ∷ [])

pub record Factorizing : Type 0 where
  -- 506, `-g[0]`; not a line's zero: 0 - g0
  pub line_of_zero : out_of OfRounded (zero64 ∷ one64 ∷ replicate 3 zero64) 1 ≡ factors (minus_zero ∷ []) []
  -- 576, `!=`: logarithms show a gap below one root, and the largest unit is a pair; not a large group of another degree
  pub another_degree : (second_of (monic (one64 ∷ one64 ∷ two64 ∷ one64 ∷ zero64 ∷ []) (neg (5 *2^ 3) ∷ minus_inf ∷ zero64 ∷ zero64 ∷ minus_inf ∷ []) 3)
      (factors (zero64 ∷ []) (quad_of zero64 one64 ∷ []))).found ≡ false
  -- 536, `depth >= 3`: y^4 - 1, with logarithms that show a gap above one root, is scaled again at depth 2; not depth 2 in place of 3
  pub depth_two : let sc = monic (neg one64 ∷ zero64 ∷ zero64 ∷ zero64 ∷ one64 ∷ []) (neg (5 *2^ 2) ∷ replicate 4 zero64) 4 in
      (factorize_of OfRounded sc 2 ≡ factors (neg one64 ∷ one64 ∷ []) (quad_of zero64 one64 ∷ []))
      × (factorize_of OfRounded sc 3 ≡ factors [] (quad_of zero64 one64 ∷ quad_of zero64 (neg one64) ∷ []))

pub record Bands : Type 0 where
  -- 295, `half <= base`, for a constant, whose crude bound 1 is above the budget; not strictly within the caller's band
  pub at_the_band : within_band_of (bare (one64 ∷ []) 0 one64) one64 zero64 one64 ≡ true
  -- 299 to 302, from 0.0 on: 0 times infinity; not the budget's sum from the leading size
  pub magnitude_from_zero : magnitude_of (one64 ∷ []) 0 inf64 ≡ nan
  -- 303: 2^-50 times 5 * 2^-1024 is 5 units of 2^-1074; not epsilon times the sum first (then 4 units)
  pub budget_at_once : budget_of (5 /2^ 1024 ∷ []) 0 zero64 ≡ 5 /2^ 1074
  -- 226 to 231: the line, then the quadratic; not quadratics before lines
  pub lines_before_quadratics :
      candidates_of (bare (two64 ∷ neg three64 ∷ one64 ∷ []) 2 one64) 0 (factors (three64 ∷ []) (quad_of (neg three64) two64 ∷ [])) zero64
      ≡ (root three64 1 ∷ root two64 1 ∷ root one64 1 ∷ [], [])
  -- 349 and 350, for y^2 - 3y + 2; not the smaller root of a factor first
  pub larger_first : push_quadratic_of (bare (two64 ∷ neg three64 ∷ one64 ∷ []) 2 one64) (neg three64) two64 zero64 [] []
      ≡ (root two64 1 ∷ root one64 1 ∷ [], [])
  -- 342, `0.5 * disc.abs().sqrt()`, of a disc of 2^-1074; not half by a quarter (then 0, and a double root)
  pub half_of_the_root : push_quadratic_of (bare (zero64 ∷ one64 ∷ []) 1 one64) (1 /2^ 537) zero64 zero64 [] []
      ≡ (root (neg (1 /2^ 537)) 1 ∷ root minus_zero 1 ∷ [], [])
  -- 171, `value.is_finite()`; not non-finite candidates kept
  pub finite_candidates : (kept [] (root inf64 1) ≡ []) × (kept [] (root nan 1) ≡ [])
  -- 351, `mid.is_finite()`; not a pair with a middle that is not finite
  pub finite_middle : paired [] (pair inf64 one64) ≡ []

pub record PolishValues : Type 0 where
  -- 396, `step.abs() > 0.25 * gap || step.is_nan()`, both infinite; not an infinite polishing step refused
  pub infinite_step : is_long_of inf64 inf64 ≡ false
  -- 408, `step.abs() <= f64::EPSILON * y.abs()`: a step of 2^-52, to 1; not: polishing goes on after a small step (then to 1 - 2^-53)
  pub small_step : polish_of 4 (neg ((2 ^ 53 - 1) /2^ 104) ∷ (2 ^ 51 + 1) /2^ 51 ∷ neg two64 ∷ one64 ∷ zero64 ∷ []) 3 inf64 ((2 ^ 52 + 1) /2^ 52) ≡ one64
  -- the same, at the place after the step: of -y^2 + 3y - 2 a step of 2^-52 + 2^-104 from 1 + 2^-52 to 1; not a small step at the place before
  pub small_where_it_ends : polish_next (neg two64 ∷ three64 ∷ neg one64 ∷ zero64 ∷ zero64 ∷ []) 2 inf64 (record { y = (2 ^ 52 + 1) /2^ 52; done = false })
      ≡ some (record { y = one64; done = false })

pub record Inquiring : Type 0 where
  -- 120, `if pairs.len > 0`; not items always sorted
  pub no_pair : answered (λ x. false) (touching (bare (zero64 ∷ one64 ∷ []) 1 one64) zero64 (root two64 1 ∷ root one64 1 ∷ []) [])
      ≡ root two64 1 ∷ root one64 1 ∷ []
  -- 121, `total_cmp`; not: -0 and +0 are ties among items
  pub zeros_in_order : ordered (pair zero64 one64 ∷ []) (root zero64 1 ∷ root minus_zero 1 ∷ []) ≡ root minus_zero 1 ∷ root zero64 1 ∷ []
  -- 'ties stay in their earlier order'; not items of equal place in the other order
  pub equal_items : ordered (pair zero64 one64 ∷ []) (root one64 1 ∷ root one64 2 ∷ []) ≡ root one64 1 ∷ root one64 2 ∷ []
  -- 138, `0.5 * (lo + hi)`: between 1 and 5 units of 2^-1074 the question is about 3; not the link's middle by two halves (then about 2)
  pub link_middle : answered (λ x. true) (touching (bare (zero64 ∷ []) 0 one64) zero64 (root (1 /2^ 1074) 1 ∷ root (5 /2^ 1074) 1 ∷ []) [])
      ≡ root_by true (3 /2^ 1074) 2 ∷ []
  -- 151, `0.5 * (first + items[k].0)`, both 1 unit; not the midpoint by two halves (then 0)
  pub chain_middle : contact_of (record { first = 1 /2^ 1074; last = 1 /2^ 1074; at = one64; touching = 2; mult = 2; kind = Brush }) ≡ 1 /2^ 1074

-- the equation with these numbers
abbrev pub trig : Float → Float → Float → Float → Float → TrigEquation
trig a2 b2 c1 d1 e = record { a2 = a2; b2 = b2; c1 = c1; d1 = d1; e = e }

pub record Equations : Type 0 where
  -- equation.rs 104, `/ (2.0 * a.abs())`, which overflows: sep is NaN, not infinite; not sep by half the root (then it is within any band)
  pub doubled_lead : solve_quadratic_of (1 *2^ 1023) zero64 one64 inf64 zero64 ≡ Empty
  -- equation.rs 105: 2^-50 times the sum is 5 units of 2^-1074, and so is disc; not epsilon times the noise's sum first (then 4 units, and empty or two)
  pub noise_at_once : solve_quadratic_of one64 (53054215 /2^ 537) (703687432316555 /2^ 1074) zero64 zero64 ≡ One (neg (53054215 /2^ 538))
  -- Document 01: 'a NaN counts as larger than infinity'; not: a NaN sample is passed over (then 0)
  pub nan_sample : sample_of (trig nan zero64 zero64 zero64 zero64) ≡ 7
  -- equation.rs 201 to 203: each product overflows on its own; not 2 (e - 3 a2), not 2 (2 b2 + d1) (finite then)
  pub products_first : quartic_of (trig (1 *2^ 1022) (1 *2^ 1022) zero64 (neg (1 *2^ 1023)) (1 *2^ 1023)) 0
      ≡ 3 *2^ 1022 ∷ nan ∷ nan ∷ minus_inf ∷ 3 *2^ 1022 ∷ []

pub record Computed : Type 0 where
  pub doubles : DoubleValues
  pub squares : Squares
  pub quartics : Quartics
  pub scaling : Scaling
  pub splitting : Splitting
  pub factors : FactorValues
  pub factorizing : Factorizing
  pub bands : Bands
  pub polishing : PolishValues
  pub inquiring : Inquiring
  pub equations : Equations
  pub steps : Steps
