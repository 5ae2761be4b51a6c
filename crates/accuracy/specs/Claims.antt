-- What is claimed of the compensated value at a place, and demand 3's inequality between two places. Definitions only.
-- f holds the coefficients, ascending, and d is the degree. Both sides of each inequality are times a power of two that makes them whole numbers.
use Rattle.std.specs.Prelude.{◌≡◌, Bool, true, ◌&&◌, List, ℕ, ◌+◌, ◌-◌, ◌*◌, ◌^◌, ◌≤◌, get_or, Float}
use Rattle.std.specs.Float.{nan, binary64}
use Rattle.std.specs.Float.Ieee.{le, fits}
use Rattle.float.specs.Methods.{abs_of, is_finite_of}
use Rattle.rounding.specs.Units.{one_units}
use Rattle.rounding.specs.Diff.{◌⊡◌, Apart}
use Rattle.horner.specs.Horner.{value_slope_compensated_of}
use Rattle.accuracy.specs.Terms.{signed_units, exact_of, P, M}

-- x is a double of size c at most
unfoldable pub at_most : Float → Float → Bool
at_most c x = fits binary64 x && le (abs_of x) c

-- so are the coefficients of a polynomial of degree d
abbrev pub AllAtMost : Float → List Float → ℕ → Type 0
AllAtMost c f d = (i : ℕ) → i ≤ d → at_most c (get_or f i nan) ≡ true

-- the compensated value at y, by which the Rust's `polish` tells a better place from a worse one
abbrev pub residual_of : List Float → ℕ → Float → Float
residual_of f d y = (value_slope_compensated_of f d y).value

-- 2^-53·P + 201·2^-106·M + 2^-1001, times 2^106 and the power of `exact_of`: 2^-1001 becomes 2^(106 - 1001 + 1074) * one_units ^ d
abbrev pub distance_of : List Float → ℕ → Float → ℕ
distance_of f d y = 2 ^ 53 * P f d y + 201 * M f d y + 2 ^ 179 * one_units ^ d

-- The residual is finite, and no farther than that from the exact value.
pub record Accurate (f : List Float) (d : ℕ) (y : Float) : Type 0 where
  pub finite : is_finite_of (residual_of f d y) ≡ true
  pub near : Apart (signed_units (residual_of f d y) ⊡ (2 ^ 106 * one_units ^ d)) (exact_of f d y ⊡ 2 ^ 106) (distance_of f d y)

-- Demand 3: (2^53 - 1)·P(last) is at most (2^53 + 1)·P(first) + 2^-45·(M(first) + M(last)) + 2^-946. Times 2^45 and the power of `exact_of`:
-- 2^-946 becomes 2^(45 - 946 + 1074) * one_units ^ d.
abbrev pub Polished : List Float → ℕ → Float → Float → Type 0
Polished f d first last =
    2 ^ 45 * ((2 ^ 53 - 1) * P f d last) ≤ 2 ^ 45 * ((2 ^ 53 + 1) * P f d first) + (M f d first + M f d last) + 2 ^ 173 * one_units ^ d
