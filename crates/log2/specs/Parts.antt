-- What the parts of the function say.
use Rattle.std.specs.Prelude.{List, get_or, ℕ, suc, ◌+◌, ◌-◌, ◌^◌, ◌≤◌, ◌<◌}

-- t is 'the smallest whole t with t^256 ≥ 2^(n + 13312)'
pub record Threshold (n t : ℕ) : Type 0 where
  pub above : 0 < t
  pub reaches : 2 ^ (n + 13312) ≤ t ^ 256
  pub least : (t - 1) ^ 256 < 2 ^ (n + 13312)

-- the '256 thresholds': what stands at n is the threshold of n
pub record Thresholds (table : List ℕ) : Type 0 where
  pub entry : (n : ℕ) → n < 256 → Threshold n (get_or table n 0)

-- the logarithm of a significand w of 53 digits is 52 and a fraction, which is r / 256, rounded down
pub record Fraction (w r : ℕ) : Type 0 where
  pub small : r < 256
  pub low : 2 ^ (r + 13312) ≤ w ^ 256
  pub high : w ^ 256 < 2 ^ (suc r + 13312)
