-- The proof of specs/Computed: each value is what the definition computes to.
use mathlib.Core.Path.{refl}
use Rattle.computed.specs.Computed.{Computed, DoubleValues, Squares, Quartics, Scaling, Splitting}
use Rattle.computed.specs.Computed.{FactorValues, Factorizing, Bands, PolishValues, Inquiring, Equations}
use Rattle.computed.proofs.Unfolded.{arithmetic, evaluation, factoring, scaling, solving}
use Rattle.computed.proofs.Steps.{steps}

doubles : DoubleValues
unfolding arithmetic
doubles = record {
  max_of_zeros = refl;
  min_of_zeros = refl;
  min_with_nan = (refl, refl);
  fourth_power = refl;
  one_product = refl;
  steps_first = refl;
}

squares : Squares
unfolding arithmetic evaluation
squares = record {
  zero_pivot = refl;
  nan_pivot = refl;
  row_by_row = refl;
  entry_sum = refl;
  infinite_norm = refl;
  residuals_of_zero = (refl, refl);
  derivative_of_zero = λ x. refl;
  step_not_finite = refl;
}

quartics : Quartics
unfolding arithmetic evaluation factoring scaling
quartics = record {
  cube_of_b = refl;
  double_root = refl;
  not_isolated = refl;
  no_root_below_zero = refl;
  better_isolated = refl;
  first_of_equals = refl;
  peeled_first = λ quads. refl;
}

scalings : Scaling
unfolding arithmetic scaling
scalings = record { lg_unscaled = (refl, refl) }

splitting : Splitting
unfolding arithmetic scaling
splitting = record { on_an_edge = refl; middle_down = refl }

factors : FactorValues
unfolding arithmetic evaluation factoring scaling
factors = record {
  at_threshold = refl;
  below_threshold = refl;
  nan_unit = refl;
  nan_first = refl;
  pair_size = refl;
  pair_of_zero = refl;
  equal_units = refl;
  product_from_zero = refl;
  lines_first = refl;
  product_upward = refl;
  product_to_its_degree = refl;
  quotient_to_the_degree = refl;
  finite_quotient = refl;
  last_zero = refl;
  be_at_once = refl;
}

factorizing : Factorizing
unfolding arithmetic evaluation factoring scaling
factorizing = record { line_of_zero = refl; another_degree = refl; depth_two = (refl, refl) }

bands : Bands
unfolding arithmetic evaluation factoring solving
bands = record {
  at_the_band = refl;
  magnitude_from_zero = refl;
  budget_at_once = refl;
  lines_before_quadratics = refl;
  larger_first = refl;
  half_of_the_root = refl;
  finite_candidates = (refl, refl);
  finite_middle = refl;
}

polishing : PolishValues
unfolding arithmetic evaluation solving
polishing = record { infinite_step = refl; small_step = refl; small_where_it_ends = refl }

inquiring : Inquiring
unfolding arithmetic evaluation solving
inquiring = record { no_pair = refl; zeros_in_order = refl; equal_items = refl; link_middle = refl; chain_middle = refl }

equations : Equations
unfolding arithmetic solving
equations = record { doubled_lead = refl; noise_at_once = refl; nan_sample = refl; products_first = refl }

pub computed : Computed
computed = record {
  doubles = doubles;
  squares = squares;
  quartics = quartics;
  scaling = scalings;
  splitting = splitting;
  factors = factors;
  factorizing = factorizing;
  bands = bands;
  polishing = polishing;
  inquiring = inquiring;
  equations = equations;
  steps = steps;
}
