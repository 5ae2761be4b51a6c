-- L, the binary logarithm on a grid of 1/256, rounded down: the paper's `log2` of the reference build.
use Rattle.std.specs.Prelude.{true, false, List, [], ◌∷◌, get_or, ℕ, zero, suc, ◌+◌, ◌*◌, ◌^◌, ℤ, pos, negsuc, Float}
use Rattle.std.specs.Float.{nan, inf, fin, binary64}
use Rattle.std.specs.Float.Ieee.{minus, size, round}
use Rattle.float.specs.Units.{units_of}

-- For n units, a number of n * 2 ^ -1074: the greatest whole number that is not above 256 times its logarithm. A whole number of j + 1 binary digits
-- is from 2 ^ j up to 2 ^ (j + 1), and here n ^ 256 is counted from 2 ^ -(256 * 1074).
unfoldable pub grid_of : ℕ → ℤ
unfolding size
grid_of n = minus (size (n ^ 256)) (256 * 1074 + 1)

-- z / 256, which a double holds (`over256_exact` in proofs/Floor)
unfoldable pub over256 : ℤ → Float
unfolding round
over256 (pos z) = round binary64 false z 256
over256 (negsuc z) = round binary64 true (suc z) 256

-- `c.abs().log2()` in the reference build, L(x): 'the greatest multiple of 1/256 not above the exact logarithm; minus infinity for 0'. NaN for a NaN and for
-- a number below zero, and an infinity is its own logarithm. That it is that multiple is `log2_floor` in proofs/Floor.
unfoldable pub log2_grid_of : Float → Float
unfolding grid_of over256
log2_grid_of nan = nan
log2_grid_of (inf true) = nan
log2_grid_of (inf false) = inf false
log2_grid_of (fin s zero e) = inf true
log2_grid_of (fin true (suc m) e) = nan
log2_grid_of (fin false (suc m) e) = over256 (grid_of (units_of (fin false (suc m) e)))

-- `for (l, &c) in lg.iter_mut().zip(a)`: L of the five numbers of a list
abbrev pub log2_five_of : List Float → List Float
log2_five_of a =
    log2_grid_of (get_or a 0 nan) ∷ log2_grid_of (get_or a 1 nan) ∷ log2_grid_of (get_or a 2 nan) ∷ log2_grid_of (get_or a 3 nan)
    ∷ log2_grid_of (get_or a 4 nan) ∷ []
