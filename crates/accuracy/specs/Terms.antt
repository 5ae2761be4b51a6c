-- The exact value of a polynomial at a place, in whole numbers: P and M of demand 3. Definitions only.
-- f holds the coefficients a_0, a_1, .., and d is the degree. A finite double is a whole number of units of 2^-1074, `units_of` in size, and 1 is `one_units`
-- of them, 2^1074. So a_i·y^i, times one_units ^ (d + 1), is the whole number ± units_of a_i * units_of y ^ i * one_units ^ (d - i). Everything here is times
-- that power.
use Rattle.std.specs.Prelude.{Bool, cond, ◌&&◌, List, ℕ, ◌+◌, ◌-◌, ◌*◌, ◌%◌, ◌^◌, eqb, get_or, Float}
use Rattle.std.specs.Float.{nan}
use Rattle.std.specs.Float.Ieee.{unlike}
use Rattle.algebra.specs.NatOrder.{dist}
use Rattle.facts.specs.Arrays.{from_fn}
use Rattle.facts.specs.Lists.{sum_of}
use Rattle.float.specs.Methods.{is_sign_negative_of}
use Rattle.float.specs.Units.{units_of}
use Rattle.rounding.specs.Units.{one_units}
use Rattle.rounding.specs.Diff.{Diff}

-- the whole number of size n, below 0 where s is true
abbrev pub signed_diff : Bool → ℕ → Diff
signed_diff s n = record { p = cond s 0 n; n = cond s n 0 }

-- a finite double in units, with its sign
abbrev pub signed_units : Float → Diff
signed_units x = signed_diff (is_sign_negative_of x) (units_of x)

-- |x|
abbrev pub size_of : Diff → ℕ
size_of x = dist x.p x.n

-- a_i·y^i: below 0 where just one of a_i and y^i is, and y^i is where y is and i is odd
unfoldable pub term_of : List Float → ℕ → Float → ℕ → Diff
term_of f d y i =
    let a = get_or f i nan in
    signed_diff (unlike (is_sign_negative_of a) (is_sign_negative_of y && eqb (i % 2) 1)) (units_of a * units_of y ^ i * one_units ^ (d - i))

-- the terms, for i from 0 to d
abbrev pub terms_of : List Float → ℕ → Float → List Diff
terms_of f d y = from_fn (d + 1) (term_of f d y)

-- their sum, a_0 + a_1·y + .. + a_d·y^d
unfoldable pub exact_of : List Float → ℕ → Float → Diff
exact_of f d y = record { p = sum_of (λ t. t.p) (terms_of f d y); n = sum_of (λ t. t.n) (terms_of f d y) }

-- its size
unfoldable pub P : List Float → ℕ → Float → ℕ
P f d y = size_of (exact_of f d y)

-- the sum of the sizes of the terms
unfoldable pub M : List Float → ℕ → Float → ℕ
M f d y = sum_of size_of (terms_of f d y)
