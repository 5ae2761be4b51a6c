-- Level lists: raised by so much at each place, their exponents lie in one window, and there is no gap above 8 bits between root sizes. Definitions only.
use Rattle.std.specs.Prelude.{◌≡◌, true, List, ℕ, suc, ◌+◌, ◌*◌, ◌^◌, ◌≤◌, ◌<◌, get_or, Float, None}
use Rattle.std.specs.Float.{nan, binary64}
use Rattle.std.specs.Float.Ieee.{fits}
use Rattle.float.specs.Units.{units_of}
use Rattle.decode.specs.Exponent.{regular_of}
use Rattle.scaled.specs.Scaled.{scaled_of}
use Rattle.split.specs.Gap.{magnitude_split_of}

-- magnitude_split finds no gap
abbrev pub NoGap : List Float → ℕ → Type 0
NoGap a d = magnitude_split_of (scaled_of a d).lg d ≡ None

-- k is the exponent of x, counted from 2 ^ -1074
pub record Binade (x : Float) (k : ℕ) : Type 0 where
  pub held : fits binary64 x ≡ true
  pub regular : regular_of x ≡ true
  pub low : 2 ^ k ≤ units_of x
  pub high : units_of x < 2 ^ suc k
  pub reach : k < 2098

-- the coefficient i, raised by s - 2100 at each place, and by 8400, stands at lo or above, and at hi or below where it is not the first or the last
pub record Raised (a : List Float) (d s lo hi i : ℕ) : Type 0 where
  pub k : ℕ
  pub binade : Binade (get_or a i nan) k
  pub low : lo + 2100 * i ≤ k + s * i + 8400
  pub high : 0 < i → i < d → k + s * i + 8400 ≤ hi + 2100 * i

-- the last one, and all before i
pub record SpanSeen (a : List Float) (d s lo hi i : ℕ) : Type 0 where
  pub last : Raised a d s lo hi d
  pub before : (j : ℕ) → j < i → Raised a d s lo hi j
