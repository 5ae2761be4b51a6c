-- The proof of specs/Demands, from the laws beside it.
use mathlib.Core.Path.{◌≡◌, refl, sym, ap, ◌∙◌}
use mathlib.Core.Logic.{⊎_elim}
use mathlib.Core.Bool.{Bool, cond}
use mathlib.Core.List.{List}
use Prim.Native.Nat.{ℕ, ◌-◌, ◌<◌}
use native.Mathlib.Omega.{arith}
use borrow.Author.Tests.{ne_eqb}
use lib.Dec.{lit≤}
use lib.Ieee.{nan, lt, eq, is_nan, of_bits}
use Rattle.std.specs.Prelude.{Result}
use Rattle.refusals.specs.declared.Refusal.{Refusal}
use Rattle.float.specs.Methods.{is_sign_negative_of, total_le_of}
use Rattle.float.specs.Units.{units_of}
use Rattle.order.specs.Order.{falling_of}
use Rattle.decode.proofs.Class.{negative_view, regular_units}
use Rattle.sqrt.specs.Root.{sqrt_of}
use Rattle.cbrt.proofs.Cases.{root_special}
use Rattle.angle.specs.declared.Sine.{Sine}
use Rattle.angle.specs.declared.Sine.TheVariants.{OfRounded, OfExact}
use Rattle.angle.specs.Third.{cos_of, sin_of, exact_sin_of, sine_numbered, sine_of, third_angle_of}
use Rattle.log2.specs.Log.{grid_of, log2_grid_of}
use Rattle.scaled.specs.Scaled.{scaled_of}
use Rattle.scaled.proofs.Smallest.{exponent_holds, exponent_least, exponent_of_constant}
use Rattle.scaled.proofs.Promise.{f_finite, f_held, f_leading}
use Rattle.large_factors.specs.Large.{unit_of, factor_units_of, no_smaller}
use Rattle.factorize.specs.Factorize.{factorize_of}
use Rattle.factorize.proofs.Degree.{degrees_add}
use Rattle.accuracy.proofs.Polishing.{polishing}
use Rattle.roots.specs.declared.RealRoot.{RealRoot}
use Rattle.roots.specs.declared.Roots.{Roots}
use Rattle.roots.specs.Roots.{list_of, roots_of}
use Rattle.roots.specs.Listed.{blank}
use Rattle.finish.specs.Finish.{by_value, finish_of}
use Rattle.finish.proofs.Simple.{simple_polished}
use Rattle.poly.specs.Coefficients.{zeros_of}
use Rattle.poly.specs.Solve.{candidates_of, finished_of, solve_of, solved_in}
use Rattle.poly.specs.RealRoots.{roots_in}
use Rattle.poly.proofs.Refusals.{trimmed_is, number_most, has_no_root, stands_for, answered_is}
use Rattle.poly.proofs.Sums.{answer_within, answer_fits}
use Rattle.poly.proofs.Small.{solved_small}
use Rattle.asking.specs.Asking.{Asking, answered}
use Rattle.inquiry.proofs.Fresh.{solved_asks, start_number}
use Rattle.inquiry.proofs.Systems.{any_replies}
use Rattle.inquiry.proofs.Theorem.{start_fed, start_most, start_list}
use Rattle.crank.proofs.Theorem.{cranks}
use Rattle.contact.specs.Contact.{made_of}
use Rattle.contact.specs.Claims.{replies_of}
use Rattle.contact.proofs.Theorem.{contacts}
use Rattle.formula.specs.Formula.{formula_of}
use Rattle.formula_roots.specs.FormulaRoots.{handed_on}
use Rattle.formula_roots.proofs.Solved.{answered_by_list, formula_doubles, formula_solved}
use Rattle.formula_roots.proofs.Theorem.{formulas}
use Rattle.demands.specs.Table.{table}
use Rattle.demands.specs.Example.{ascii}
use Rattle.demands.specs.Demands.{Demands, SquareRoot, CubeRoot, Third, Logarithm, ScaledCoefficients, FactorDegrees}
use Rattle.demands.specs.Demands.{TotalOrder, Sorts, Lists, SimpleRoots, PinContacts, NeverBrush, TypedFormulas, ClosingTotal, SharperSine, SystemsSolved}
use Rattle.demands.proofs.Nearest.{signed, positive_units}
use Rattle.demands.proofs.Doubles.{units_exact, only_one}
use Rattle.demands.proofs.Roots.{square_nearest, cube_nearest, rest_nearest, scaled_most, scaled_least, sqrt_is, cbrt_is}
use Rattle.demands.proofs.Cosine.{cosine, cosine_range, sin_is}
use Rattle.demands.proofs.ExactSine.{exact_sine}
use Rattle.demands.proofs.Sharper.{merged, sine_apart, sine_zero, sine_range, one_start, two_starts}
use Rattle.demands.proofs.Digits.{exponent_between, grid_between, grid_ratio}
use Rattle.demands.proofs.Scale.{scale}
use Rattle.demands.proofs.Powers as powers
use Rattle.demands.proofs.Total as total
use Rattle.demands.proofs.Sorts.{sorted_whole, sorted_keys}
use Rattle.demands.proofs.Brushes.{kinds}
use Rattle.demands.proofs.Loops.{runs, chains}
use Rattle.demands.proofs.Quadratics.{quadratics}
use Rattle.listing.proofs.Bound.{listing_fits}
use Rattle.demands.proofs.Parted.{digits_of, digits_read}
use Rattle.demands.proofs.ByHand.{last_line, ends, no_other, marked_so, refused_says, each, alone, agrees, fit}
use Rattle.demands.proofs.Example.{example, empty, is_too_long}
use Rattle.demands.proofs.Contact.{contact_line}
use Rattle.demands.proofs.Formula.{formula_line, formula_cut}
use Rattle.demands.proofs.Modes as modes
use Rattle.demands.proofs.Calls.{factorize_is}
use Rattle.demands.proofs.Systems as systems
use Rattle.demands.proofs.Entries.{given, stated, all_rows, agree}

square_root : SquareRoot
unfolding sqrt_of of_bits
square_root = record {
  nearest =
      λ x f p. rw (sqrt_is x p) (square_nearest _ (λ a. omega arith) _ (scaled_most x 1074 _ f (lit≤ tt))
      (λ z. scaled_least (units_of x) 1074 _ (positive_units x f p) (lit≤ tt)));
  negative = λ x e. ⊎_elim (λ i. ap sqrt_of i) (λ v. ap sqrt_of v.2) (negative_view x e);
  zero = λ s. refl;
}

cube_root : CubeRoot
cube_root = record {
  nearest =
      λ x f p. rw (cbrt_is x p) (signed _ _ (cube_nearest _ (λ a. omega arith) _ (scaled_most x 2148 _ f (lit≤ tt))
      (λ z. scaled_least (units_of x) 2148 _ (regular_units x f.held p) (lit≤ tt))));
  others = root_special;
}

no_angle : (sine : Sine) → ((third_angle_of sine nan).cos ≡ nan) × ((third_angle_of sine nan).sin ≡ nan)
unfolding cos_of sin_of exact_sin_of sine_of third_angle_of
no_angle OfRounded = (refl, refl)
no_angle OfExact = (refl, refl)

third : Third
unfolding sine_of third_angle_of
third = record {
  cosine = λ sine. cosine;
  same = λ v. refl;
  range = λ sine. cosine_range;
  sine = λ v f l. rw (sin_is (cos_of v) (cosine v f l).finite.finite) (rest_nearest _ (λ a. omega arith) (units_of (cos_of v)) (cosine_range v f l).1);
  twice = no_angle;
}

logarithm : Logarithm
unfolding log2_grid_of
logarithm = record {
  greatest = λ a f p. (grid_of (units_of a), grid_ratio a f p, grid_between (units_of a) (positive_units a f p));
  zero = λ s. refl;
}

scaled_coefficients : ScaledCoefficients
unfolding scaled_of
scaled_coefficients = record {
  bounds = λ a d C. exponent_holds a d C.finite C.last;
  smallest = λ a d C z. exponent_least a d C.finite C.last 0 z C.first;
  constant = exponent_of_constant;
  finite = λ a d C. f_finite a d C.degree C.finite C.last;
  most = λ a d C. f_held a d C.degree C.finite C.last;
  leading = λ a d C. f_leading a d C.degree C.finite C.last;
}

factor_degrees : (sine : Sine) → FactorDegrees sine
unfolding factorize_of
factor_degrees sine = record { sum = λ sc h depth. degrees_add sine (3 - depth) sc h }

total_order : TotalOrder
unfolding total_le_of is_nan is_sign_negative_of lt eq
total_order = record {
  either = total.either;
  onward = total.onward;
  same = total.level_one;
  smaller = total.smaller;
  zeros = refl;
  last = λ x. refl;
}

sorts : Sorts
unfolding by_value falling_of
sorts = record {
  places = λ l.
      sorted_whole (λ a b. total_le_of a.value b.value) (λ a b. total.either a.value b.value)
      (λ a b c. total.onward a.value b.value c.value) l blank;
  units = λ f.
      sorted_whole no_smaller (λ a b. total.either b.m a.m) (λ a b c h g. total.onward c.m b.m a.m g h)
      (factor_units_of f) (unit_of nan nan nan);
  falling = sorted_keys (λ a b. total_le_of b a) (λ a b. total.either b a) (λ a b c h g. total.onward c b a g h);
}

lists : (sine : Sine) → Lists sine
lists sine = record {
  trimmed = trimmed_is;
  roots = answer_within sine;
  array = answer_fits sine;
  refused = has_no_root sine;
  numbers = number_most sine;
  zero = λ coeffs tol. stands_for sine coeffs tol 0 (lit≤ tt);
  one = λ coeffs tol. stands_for sine coeffs tol 1 (lit≤ tt);
  two = λ coeffs tol. stands_for sine coeffs tol 2 (lit≤ tt);
  three = λ coeffs tol. stands_for sine coeffs tol 3 (lit≤ tt);
}

simple_roots : (sine : Sine) → SimpleRoots sine
unfolding finished_of finish_of
simple_roots sine = record {
  polynomial = λ coeffs tol e. rw (answered_is sine coeffs tol e);
  found = λ coeffs tol e. rw (answered_is sine coeffs tol e);
  polished = λ coeffs tol H e n k.
      let s = solved_in (solve_of sine coeffs tol) in
      let small = solved_small sine coeffs tol H e in
      simple_polished n s.poly (candidates_of s.poly (zeros_of coeffs) (factorize_of sine s.poly 0) s.tol).0 k small.0 small.1;
}

pin_contacts : (sine : Sine) → PinContacts sine
pin_contacts sine = record {
  every = contacts sine;
  through_the_list = λ confusion path circle e.
      let asks = solved_asks sine (made_of path circle) confusion in
      (contacts sine confusion path circle).list e ∙ ap (λ (t : Asking (List RealRoot)). roots_of (answered (replies_of confusion path circle) t)) (sym asks);
  polished = λ confusion path circle e.
      let all = contacts sine confusion path circle in (simple_roots sine).polished (made_of path circle) confusion all.doubles (all.solved e);
  line = contact_line sine;
}

typed_formulas : (sine : Sine) → TypedFormulas sine
unfolding formula_of ascii
typed_formulas sine = record {
  every = formulas sine;
  polished = λ s tol e. (simple_roots sine).polished (handed_on (formula_of s)) tol (formula_doubles s) (formula_solved sine s tol e);
  kinds = λ s tol.
      answered_by_list sine (λ (a : Result Roots Refusal). NeverBrush (list_of (roots_in a))) s tol (λ n h k l. absurd (omega (arith, l)))
      (λ cs h. (kinds sine).list cs tol);
  line = formula_line sine;
  cut = formula_cut sine;
  order = refl;
  rows = refl;
}

closing_total : (sine : Sine) → ClosingTotal sine
closing_total sine = record {
  last = last_line sine;
  ended = ends sine;
  digits = λ n. (digits_of n, digits_read n);
  only = no_other sine;
  marks = marked_so;
  refused = refused_says;
  each = each sine;
  alone = alone sine;
  agrees = agrees sine;
  fits = fit sine;
}

other_number : (n : ℕ) → 0 < n → sine_numbered n ≡ OfRounded
unfolding sine_numbered
other_number n h = ap (λ (b : Bool). cond b OfExact OfRounded) (ne_eqb n 0 (λ e. omega (arith, h, e)))

sharper_sine : SharperSine
unfolding sine_of third_angle_of sine_numbered
sharper_sine = record {
  nearest = exact_sine;
  merged = merged;
  apart = sine_apart;
  zero = sine_zero;
  range = sine_range;
  one_start = one_start;
  two_starts = two_starts;
  numbered = (refl, other_number);
  list = modes.list;
  inquiry = modes.inquiry;
  crank = modes.crank;
  contact = modes.contact;
  formula = modes.formula;
  count = λ a b s. modes.count a b s;
  line = λ a b s. modes.line a b s;
}

systems_solved : (sine : Sine) → SystemsSolved sine
systems_solved sine = record {
  list = systems.counted sine;
  calls = factorize_is sine;
  refused = systems.refused sine;
  zeros = systems.zeros_first;
  degree = systems.degree sine;
  most = systems.most sine;
  inquiry = any_replies sine;
  crank = systems.crank sine;
  crank_list = systems.crank_list sine;
  crank_refused = systems.crank_refused sine;
  contact = systems.contact sine;
  contact_refused = systems.contact_refused sine;
  formula = systems.formula sine;
  formula_refused = systems.formula_refused sine;
}

pub demands : Demands
demands = record {
  doubles = record { exact = units_exact; one = only_one };
  square_root = square_root;
  cube_root = cube_root;
  third = third;
  logarithm = logarithm;
  exponent = record { exact = exponent_between };
  scale = record { exact = scale; normal = powers.normal; infinite = powers.infinite; near = powers.near; others = powers.others };
  scaled_coefficients = scaled_coefficients;
  factor_degrees = factor_degrees;
  total_order = total_order;
  sorts = sorts;
  loops = record { runs = runs; chains = chains };
  lists = lists;
  inquiries = λ sine. record { refusal = start_number sine; fed = start_fed sine; questions = start_most sine; roots = start_list sine };
  quadratics = quadratics;
  crank_equations = λ sine. record { every = cranks sine };
  polishing = record { run = polishing };
  simple_roots = simple_roots;
  entries = record { every = λ tol. agree given stated (table tol) (all_rows tol) };
  hall_file = λ sine. record { example = example sine; empty = empty sine; too_long = is_too_long sine; room = listing_fits sine };
  pin_contacts = pin_contacts;
  kinds = kinds;
  typed_formulas = typed_formulas;
  closing_total = closing_total;
  sharper_sine = sharper_sine;
  systems_solved = systems_solved;
}
