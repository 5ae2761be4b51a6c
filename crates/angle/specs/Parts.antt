-- What the parts of the function say.
use Rattle.std.specs.Prelude.{◌≡◌, Bool, true, false, cond, ◌||◌, ◌&&◌, ℕ, ◌+◌, ◌-◌, ◌*◌, ◌/◌, ◌%◌, ◌^◌, ◌≤◌, ◌<◌, leb, ltb, Float, Option, Some, None}
use Rattle.std.specs.Float.{nan}
use Rattle.std.specs.Float.Ieee.{odd}
use Rattle.nearest.specs.Greatest.{NearestHalf}
use Rattle.angle.specs.declared.Triple.{Triple}

-- a number of three words
abbrev pub value : ℕ → ℕ → ℕ → ℕ
value hi mid lo = (hi * 2 ^ 64 + mid) * 2 ^ 64 + lo

abbrev pub triple_of : Triple → ℕ
triple_of t = value t.hi t.mid t.lo

-- With x = 2c - 1 the equation 4c³ - 3c = v is x²(x + 3) = 2(1 + v), whose left side grows from x = 0 on. Where c is t of 1 / 2h, x is t - h of 1 / h, and the
-- left side of 1 / h³ is
abbrev pub rise : ℕ → ℕ → ℕ
rise h t = let y = t - h in y * y * (y + 3 * h)

-- 1 ± v, where 1 is u and the size of v is a
abbrev pub one_plus : Bool → ℕ → ℕ → ℕ
one_plus false u a = u + a
one_plus true u a = u - a

-- the whole part of 2 ^ 160 * (1 ± v), for a v of the size w * 2 ^ k of 2 ^ -1126
abbrev pub level_of : Bool → ℕ → ℕ → ℕ
level_of s w k = one_plus s (2 ^ 1126) (w * 2 ^ k) / 2 ^ 966

-- whether t / 2 ^ 54 is at most c, by the level of v
abbrev pub cos_le : ℕ → ℕ → Bool
cos_le level t = leb (rise (2 ^ 53) t) level

-- n is the whole part of w * 2 ^ k / 2 ^ 966, and `rest` says whether something is left
pub record WholePart (w k n : ℕ) (rest : Bool) : Type 0 where
  pub whole : n ≡ w * 2 ^ k / 2 ^ 966
  pub left : rest ≡ ltb 0 (w * 2 ^ k % 2 ^ 966)

-- c is m / 2 ^ 53, or no number where there is no m
pub record CosineDigits (c : Float) (d : Option ℕ) : Type 0 where
  pub none : d ≡ None → c ≡ nan
  pub some : (m : ℕ) → d ≡ Some m → (2 ^ 52 ≤ m) × (m ≤ 2 ^ 53) × (c ≡ odd 54 false m 1021 1074)

-- w is n * 2 ^ (2 h), with 52 or 53 digits
pub record Shift (n w h : ℕ) : Type 0 where
  pub value : w ≡ n * 2 ^ (h + h)
  pub led : 2 ^ 51 ≤ w
  pub short : w < 2 ^ 53
  pub reach : h ≤ 26

-- With c = m / 2 ^ 53: 1 - c² is (2 ^ 53 - m) * (2 ^ 53 + m) of 2 ^ -106, and times 2 ^ 2042 the number of two words times the square of 2 ^ k. It is even and
-- has 107 or 108 digits.
pub record SineSquare (m hi lo k : ℕ) : Type 0 where
  pub square : (2 ^ 53 - m) * (2 ^ 53 + m) * 2 ^ 2042 ≡ (hi * 2 ^ 64 + lo) * (2 ^ k * 2 ^ k)
  pub least : 2 ^ 42 ≤ hi
  pub most : hi < 2 ^ 44
  pub word : lo < 2 ^ 64
  pub even : lo % 2 ≡ 0
  pub reach : k + 1 < 2045

-- ---- s of the exact c

-- With t / 2h for a sine, t(3h² - t²) / 2h³ is that of three times the angle, and its square is to be 1 - v². Up to a half, for t = h, it grows, and from there
-- on it falls.
abbrev pub tripled : ℕ → ℕ → ℕ
tripled h t = t * (3 * (h * h) - t * t)

-- what v² leaves of 1, times 2 ^ 228, for a v of the size w * 2 ^ k of 2 ^ -1126
abbrev pub gap_of : ℕ → ℕ → ℕ
gap_of w k = let x = w * 2 ^ (k - 1012) in 2 ^ 228 - x * x

-- a square x up to a half, at most g; and from there on, for a v below zero, at least g
abbrev pub within : Bool → ℕ → ℕ → Bool
within false g x = leb x g
within true g x = leb g x

-- whether t / 2 ^ k is at most s, by the gap g of v
abbrev pub sin_le : Bool → ℕ → ℕ → ℕ → Bool
sin_le s g k t =
    let h = 2 ^ (k - 1) in
    let q = tripled h t in
    let inside = within s (g * 2 ^ (6 * k - 232)) (q * q) in
    cond s (leb t h || (leb (t * t) (3 * (h * h)) && inside)) (leb t h && inside)

-- 2 ^ k * s has 54 digits before the point
pub record Binade (s : Bool) (g k : ℕ) : Type 0 where
  pub least : 54 ≤ k
  pub most : k ≤ 81
  pub first : sin_le s g k (2 ^ 53) ≡ true
  pub beyond : sin_le s g k (2 ^ 54) ≡ false

-- m is the whole number nearest to 2 ^ (k - 1) * s, with 53 digits
pub record Placed (s : Bool) (g m k : ℕ) : Type 0 where
  pub binade : Binade s g k
  pub half : NearestHalf (sin_le s g k) m
