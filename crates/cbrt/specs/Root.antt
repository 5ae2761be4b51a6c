-- The cube root of a double, correctly rounded. Definitions only.
use Rattle.std.specs.Prelude.{Bool, cond, ℕ, zero, suc, ◌+◌, ◌*◌, ◌/◌, ◌^◌, leb, eqb, Float}
use Rattle.std.specs.Float.{nan, inf, fin}
use Rattle.std.specs.Float.Ieee.{neg, size}
use Rattle.float.specs.Units.{units_of}
use Rattle.nearest.specs.Greatest.{greatest, nearest_of}

-- whether t is at most ∛n
abbrev pub cube_le : ℕ → ℕ → Bool
cube_le n t = leb (t * t * t) n

-- the greatest t with t * t * t ≤ n
unfoldable pub floor_cbrt : ℕ → ℕ
unfolding greatest size
floor_cbrt n = greatest (cube_le n) (size n / 3 + 1) 0

-- the double nearest to ∛n units of 2 ^ -1074
abbrev pub nearest_cbrt : ℕ → Float
nearest_cbrt n = let t = floor_cbrt n in nearest_of t (eqb (t * t * t) n)

-- 'cube root: the nearest double; ±0, infinities and NaN return themselves.' A root has the sign of x, and that of n units has
-- ∛(n * 2 ^ 2148) units.
unfoldable pub cbrt_of : Float → Float
unfolding floor_cbrt nearest_of neg
cbrt_of nan = nan
cbrt_of (inf s) = inf s
cbrt_of (fin s zero e) = fin s zero e
cbrt_of (fin s (suc m) e) = let r = nearest_cbrt (units_of (fin s (suc m) e) * 2 ^ 2148) in cond s (neg r) r
