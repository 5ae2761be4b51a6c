-- `refine` of poly.rs: Newton's method on a square system of any size n, each equation weighted by the magnitude of its terms. Definitions only.
use Rattle.std.specs.Prelude.{ℕ, zero, suc, ◌+◌, Bool, cond, not, ◌&&◌, ◌||◌, List, [], length, is_nan, slice_index_or, slice_set, Float}
use Rattle.std.specs.Prelude.{Option as RustOption, None, Some}
use Rattle.std.proofs.Math.Option.{Option, none, some, Option-elim}
use Rattle.std.specs.Float.{nan}
use Rattle.std.specs.Float.Ieee.{lt, le}
use Rattle.facts.specs.Arrays.{from_fn}
use Rattle.facts.specs.Count.{count_up}
use Rattle.facts.specs.Turns.{turns_of}
use Rattle.float.specs.Rounded.{◌-ᶠ◌, ◌/ᶠ◌}
use Rattle.float.specs.Literals.{zero64, half_epsilon64}
use Rattle.float.specs.Methods.{is_finite_of, all_finite_of}
use Rattle.square.specs.Square.{size_sum_of, solve_square_of}

-- The closures `res` and `jac`, which give equations in x: their residuals, the magnitudes of the residuals' terms, and the rows of derivatives.
pub record System : Type 0 where
  pub res : List Float → List Float
  pub mag : List Float → List Float
  pub jac : List Float → List (List Float)

-- `if m[i] > 0.0 { r[i] / m[i] } else { r[i] }`
unfoldable pub over_of : Float → Float → Float
over_of r m = cond (lt zero64 m) (r /ᶠ m) r

-- `weighted`: `std::array::from_fn(|i| if m[i] > 0.0 { r[i] / m[i] } else { r[i] })`
unfoldable pub weighted_of : ℕ → List Float → List Float → List Float
weighted_of n r m = from_fn n (λ i. over_of (slice_index_or r i nan) (slice_index_or m i nan))

-- `let norm = |w: &[f64; N]| w.iter().map(|v| v.abs()).sum::<f64>();`
unfoldable pub norm_of : List Float → Float
norm_of w = size_sum_of w zero64

-- `if !(current > 0.5 * f64::EPSILON && current.is_finite())`: 'a step could only shuffle noise'
unfoldable pub is_settled_of : Float → Bool
is_settled_of current = not (lt half_epsilon64 current && is_finite_of current)

-- a turn of `row.iter_mut().for_each(|v| *v /= m);`
abbrev pub weigh_row_step : Float → ℕ → List Float → List Float
weigh_row_step m i row = slice_set row i (slice_index_or row i nan /ᶠ m)

-- `if m > 0.0 { row.iter_mut().for_each(|v| *v /= m); }`
unfoldable pub weigh_row_of : List Float → Float → List Float
weigh_row_of row m = cond (lt zero64 m) (count_up (length row) (weigh_row_step m) (length row) row) row

-- a turn of the loop over the rows, which are weighted as the residuals are
abbrev pub weigh_rows_step : List Float → ℕ → List (List Float) → List (List Float)
weigh_rows_step mag i j = slice_set j i (weigh_row_of (slice_index_or j i []) (slice_index_or mag i nan))

-- `for (row, &m) in j.iter_mut().zip(&mag)`
unfoldable pub weigh_rows_of : ℕ → List (List Float) → List Float → List (List Float)
weigh_rows_of n j mag = count_up n (weigh_rows_step mag) n j

-- `std::array::from_fn(|i| x[i] - step[i])`
abbrev pub stepped_of : ℕ → List Float → List Float → List Float
stepped_of n x step = from_fn n (λ i. slice_index_or x i nan -ᶠ slice_index_or step i nan)

-- `.filter(|s| s.iter().all(|v| v.is_finite()));`, and then `std::array::from_fn(|i| x[i] - step[i]);`
unfoldable pub advanced_of : ℕ → List Float → RustOption (List Float) → RustOption (List Float)
advanced_of n x None = None
advanced_of n x (Some step) = cond (all_finite_of step) (Some (stepped_of n x step)) None

-- `next`, the place to try, if there is one: 'Only an exactly singular step is refused', `solve_square(j, w, 0.0)`, and one that is not finite
unfoldable pub trial_of : ℕ → List Float → List Float → List Float → List (List Float) → RustOption (List Float)
trial_of n x w mag j = advanced_of n x (solve_square_of n (weigh_rows_of n j mag) w zero64)

-- `if next_norm >= current || next_norm.is_nan()`
unfoldable pub no_less_of : Float → Float → Bool
no_less_of current nextNorm = le current nextNorm || is_nan nextNorm

-- the place tried, if the weighted residuals are smaller there: `let nw = weighted((nr, nm));` and `let next_norm = norm(&nw);`
unfoldable pub kept_of : ℕ → System → Float → RustOption (List Float) → Option (List Float)
kept_of n sys current None = none
kept_of n sys current (Some next) =
    let nw = weighted_of n (sys.res next) (sys.mag next) in
    cond (no_less_of current (norm_of nw)) none (some next)

-- one turn: the next place, or none where the loop breaks
unfoldable pub next_of : ℕ → System → List Float → Option (List Float)
next_of n sys x =
    -- let (r0, m0) = res(&x);
    let mag = sys.mag x in
    -- let mut w = weighted((r0, m0));
    let w = weighted_of n (sys.res x) mag in
    -- let current = norm(&w);
    let current = norm_of w in
    -- let mut j = jac(&x);
    let j = sys.jac x in
    let moved = kept_of n sys current (trial_of n x w mag j) in
    cond (is_settled_of current) none moved

-- `refine`: `for _ in 0..8`
unfoldable pub refine_of : ℕ → System → List Float → List Float
refine_of n sys x = turns_of (next_of n sys) 8 x

-- ---- how many systems are solved: request Seven of document 02
-- of a turn at x: `solve_square(j, w, 0.0)` is called unless the loop breaks before, whether or not it finds a step
unfoldable pub turn_systems_of : ℕ → System → List Float → ℕ
turn_systems_of n sys x = cond (is_settled_of (norm_of (weighted_of n (sys.res x) (sys.mag x)))) 0 1

-- of the turns of `refine` from x on, at most k
unfoldable pub turns_systems_of : ℕ → System → ℕ → List Float → ℕ
unfolding Option-elim
turns_systems_of n sys zero x = 0
turns_systems_of n sys (suc k) x = turn_systems_of n sys x + Option-elim (next_of n sys x) 0 (turns_systems_of n sys k)

-- of `refine`: `for _ in 0..8`
unfoldable pub refine_systems_of : ℕ → System → List Float → ℕ
refine_systems_of n sys x = turns_systems_of n sys 8 x
