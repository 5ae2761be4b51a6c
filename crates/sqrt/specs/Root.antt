-- The square root of a double, correctly rounded. Definitions only.
use Rattle.std.specs.Prelude.{ℕ, zero, suc, ◌+◌, ◌*◌, ◌/◌, ◌^◌, Bool, true, false, ◌==◌, nat_le, Float}
use Rattle.std.specs.Float.{nan, inf, fin}
use Rattle.std.specs.Float.Ieee.{size}
use Rattle.float.specs.Units.{units_of}
use Rattle.nearest.specs.Greatest.{greatest, nearest_of}

-- whether t is at most √n
abbrev pub square_le : ℕ → ℕ → Bool
square_le n t = nat_le (t * t) n

-- the greatest t with t * t ≤ n
unfoldable pub floor_sqrt : ℕ → ℕ
unfolding greatest size
floor_sqrt n = greatest (square_le n) (size n / 2 + 1) 0

-- the double nearest to √n units of 2 ^ -1074
abbrev pub nearest_sqrt : ℕ → Float
nearest_sqrt n = let t = floor_sqrt n in nearest_of t (t * t == n)

-- The double nearest to the square root of x. 'Square root of a negative is NaN, of -0 is -0'; NaN and infinity are their own roots. The root
-- of n units has √(n * 2 ^ 1074) units.
unfoldable pub sqrt_of : Float → Float
unfolding floor_sqrt nearest_of
sqrt_of nan = nan
sqrt_of (inf true) = nan
sqrt_of (inf false) = inf false
sqrt_of (fin s zero e) = fin s zero e
sqrt_of (fin true (suc m) e) = nan
sqrt_of (fin false (suc m) e) = nearest_sqrt (units_of (fin false (suc m) e) * 2 ^ 1074)
