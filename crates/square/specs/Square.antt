-- `solve_square` of solve.rs: Gaussian elimination with partial pivoting of a square system of any size n, a matrix as the list of its rows. Definitions only.
use Rattle.std.specs.Prelude.{ℕ, zero, suc, ◌+◌, ◌-◌, List, [], cond, length, get_or, set, replicate, Option, None, Some, Float}
use Rattle.std.specs.Float.{nan}
use Rattle.std.specs.Float.Ieee.{lt, le}
use Rattle.facts.specs.Count.{count_up, count_down}
use Rattle.float.specs.Rounded.{◌+ᶠ◌, ◌-ᶠ◌, ◌*ᶠ◌, ◌/ᶠ◌}
use Rattle.float.specs.Literals.{zero64, min_positive64}
use Rattle.float.specs.Methods.{abs_of, max_of}

-- `m[row][col]`
abbrev pub entry : List (List Float) → ℕ → ℕ → Float
entry m row col = get_or (get_or m row []) col nan

-- a turn of `.map(|v| v.abs()).sum()`, on top of acc
abbrev pub size_sum_step : List Float → ℕ → Float → Float
size_sum_step l i acc = acc +ᶠ abs_of (get_or l i nan)

-- the whole sum
unfoldable pub size_sum_of : List Float → Float → Float
size_sum_of l acc = count_up (length l) (size_sum_step l) (length l) acc

-- `let scale: f64 = m.iter().flatten().map(|v| v.abs()).sum();`, row by row. (Rust's sum starts at -0, which comes to the same: a size is never -0.)
unfoldable pub scale_of : ℕ → List (List Float) → Float
scale_of n m = count_up n (λ i. size_sum_of (get_or m i [])) n zero64

-- `tol * scale.max(f64::MIN_POSITIVE)`: a pivot of this size or less is none
unfoldable pub least_pivot_of : ℕ → List (List Float) → Float → Float
least_pivot_of n m tol = tol *ᶠ max_of (scale_of n m) min_positive64

-- row i with the entry a, where that is strictly larger in size than the entry b of row j
unfoldable pub larger_of : ℕ → Float → ℕ → Float → ℕ
larger_of i a j b = cond (lt (abs_of b) (abs_of a)) i j

-- `if m[row][col].abs() > m[pivot][col].abs() { pivot = row; }`
abbrev pub pivot_step : List (List Float) → ℕ → ℕ → ℕ → ℕ
pivot_step m col row pivot = larger_of row (entry m row col) pivot (entry m pivot col)

-- `let mut pivot = col;`, then `for row in col + 1..N`
unfoldable pub pivot_of : ℕ → List (List Float) → ℕ → ℕ
pivot_of n m col = count_up n (pivot_step m col) (n - (col + 1)) col

-- The system as elimination has it: the rows, and the right-hand side.
pub record Lines : Type 0 where
  pub m : List (List Float)
  pub b : List Float

-- rows m and right-hand side b
abbrev pub lines : List (List Float) → List Float → Lines
lines m b = record { m = m; b = b }

-- l.swap(i, j)
abbrev pub swapped : {A : Type 0} → A → ℕ → ℕ → List A → List A
swapped d i j l = set (set l i (get_or l j d)) j (get_or l i d)

-- `m.swap(col, pivot);` and `b.swap(col, pivot);`
unfoldable pub swap_pivot_of : ℕ → ℕ → Lines → Lines
swap_pivot_of n col s = let pivot = pivot_of n s.m col in lines (swapped [] col pivot s.m) (swapped nan col pivot s.b)

-- `*cell -= factor * pivot_row[k];`
abbrev pub lose_step : Float → List Float → ℕ → List Float → List Float
lose_step factor pivotRow k row = set row k (get_or row k nan -ᶠ factor *ᶠ get_or pivotRow k nan)

-- `for (k, cell) in m[row].iter_mut().enumerate().skip(col)`
unfoldable pub lose_of : Float → List Float → ℕ → List Float → List Float
lose_of factor pivotRow col row = count_up (length row) (lose_step factor pivotRow) (length row - col) row

-- a row below loses (entry / pivot) times the pivot row, right-hand side included
unfoldable pub reduce_step : ℕ → List Float → ℕ → Lines → Lines
reduce_step col pivotRow row s =
    -- let factor = m[row][col] / m[col][col];
    let factor = entry s.m row col /ᶠ get_or pivotRow col nan in
    let m = set s.m row (lose_of factor pivotRow col (get_or s.m row [])) in
    -- b[row] -= factor * b[col];
    let b = set s.b row (get_or s.b row nan -ᶠ factor *ᶠ get_or s.b col nan) in
    lines m b

-- `for row in col + 1..N`
unfoldable pub reduce_of : ℕ → ℕ → List Float → Lines → Lines
reduce_of n col pivotRow s = count_up n (reduce_step col pivotRow) (n - (col + 1)) s

-- `acc -= m[row][k] * x[k];`
abbrev pub remainder_step : List Float → List Float → ℕ → Float → Float
remainder_step row x k acc = acc -ᶠ get_or row k nan *ᶠ get_or x k nan

-- `for k in row + 1..N`, from `let mut acc = b[row];` on
unfoldable pub remainder_of : List Float → List Float → ℕ → Float → Float
remainder_of row x from acc = count_up (length row) (remainder_step row x) (length row - from) acc

-- `x[row] = acc / m[row][row];`
unfoldable pub substitute_step : Lines → ℕ → List Float → List Float
substitute_step s row x =
    let acc = remainder_of (get_or s.m row []) x (row + 1) (get_or s.b row nan) in
    set x row (acc /ᶠ entry s.m row row)

-- back substitution: `let mut x = [0.0; N];`, then `for row in (0..N).rev()`
unfoldable pub substitute_of : ℕ → Lines → List Float
substitute_of n s = count_down (substitute_step s) n (replicate n zero64)

-- `for col in 0..N`, of which k columns are left, and then back substitution. `least` is the pivot test's right side.
-- A comparison with NaN is false, so a NaN pivot goes on.
unfoldable pub solve_from : ℕ → Float → ℕ → Lines → Option (List Float)
solve_from n least zero s = Some (substitute_of n s)
solve_from n least (suc k) s =
    let col = n - suc k in
    let t = swap_pivot_of n col s in
    -- let pivot_row = m[col];
    let pivotRow = get_or t.m col [] in
    let rest = solve_from n least k (reduce_of n col pivotRow t) in
    -- if m[col][col].abs() <= tol * scale.max(f64::MIN_POSITIVE) { return None; }
    cond (le (abs_of (get_or pivotRow col nan)) least) None rest

-- `solve_square`
unfoldable pub solve_square_of : ℕ → List (List Float) → List Float → Float → Option (List Float)
solve_square_of n m b tol = solve_from n (least_pivot_of n m tol) n (lines m b)
