-- e of document 01: 'e is the smallest whole number with |a_i| ≤ |a_d|·2^(e(d−i)) for all i < d; e = 0 where d = 0.' Definitions only.
-- a holds the coefficients, ascending, and d is the degree. Sizes are whole numbers of units of 2^-1074, and 2^z is the fraction up z / down z.
use Rattle.std.specs.Prelude.{Bool, true, not, ◌&&◌, cond, List, ℕ, zero, suc, ◌-◌, ◌*◌, ◌^◌, ◌≤◌, ◌<◌, leb, ℤ, pos, ◌-ℤ◌, ◌*ℤ◌, get_or, Float}
use Rattle.std.specs.Float.{nan}
use Rattle.std.specs.Float.Ieee.{up, down}
use Rattle.float.specs.Units.{units_of}
use Rattle.decode.specs.Exponent.{regular_of}
use Rattle.nearest.specs.Greatest.{greatest}

-- |a_i| ≤ |a_d|·2^(e(d − i))
unfoldable pub held_at : List Float → ℕ → ℤ → ℕ → Bool
held_at a d e i = let z = e *ℤ pos (d - i) in leb (units_of (get_or a i nan) * down z) (units_of (get_or a d nan) * up z)

-- for all i < n
unfoldable pub held_below : List Float → ℕ → ℤ → ℕ → Bool
unfolding held_at
held_below a d e zero = true
held_below a d e (suc n) = held_at a d e n && held_below a d e n

-- the whole numbers from -2098 on, by number. Two doubles that are not zero differ by less than 2^2098 in size: so e is one of them, and not the first.
abbrev pub candidate : ℕ → ℤ
candidate k = pos k -ℤ pos 2098

-- k - 2098 is too small
unfoldable pub too_small : List Float → ℕ → ℕ → Bool
unfolding held_below
too_small a d k = not (held_below a d (candidate k) d)

-- e: one above the greatest that is too small (every larger one holds: `held_more` in proofs/Held). Where none is, as for d = 0, every whole number holds,
-- and e is 0. It is 0 too where a_d is zero, infinite or NaN, which the last coefficient of a list never is.
unfoldable pub scale_exponent_of : List Float → ℕ → ℤ
unfolding too_small greatest
scale_exponent_of a d = cond (regular_of (get_or a d nan) && too_small a d 0) (candidate (suc (greatest (too_small a d) 13 0))) (pos 0)

-- ---- what the function for one coefficient says of its number k, with u units j places below the leading one's `top`: the smallest that holds
pub record Least (top u j k : ℕ) : Type 0 where
  pub holds : u * 2 ^ (2098 * j) ≤ top * 2 ^ (k * j)
  pub least : 0 < k → top * 2 ^ ((k - 1) * j) < u * 2 ^ (2098 * j)
  pub bound : k ≤ 4196
