-- What is said of coefficients, and when a number is answered. Definitions only.
use Rattle.std.specs.Prelude.{◌≡◌, true, false, List, ℕ, ◌-◌, ◌≤◌, ◌<◌, length, get_or, Float}
use Rattle.std.specs.Float.{nan, binary64}
use Rattle.std.specs.Float.Ieee.{fits, eq}
use Rattle.float.specs.Literals.{zero64}
use Rattle.float.specs.Methods.{is_finite_of}

-- n coefficients are left once trailing zeros of both signs are dropped: all from n on are zeros, and the last one before is none
pub record Trimmed (coeffs : List Float) (n : ℕ) : Type 0 where
  pub within : n ≤ length coeffs
  pub dropped : (i : ℕ) → n ≤ i → i < length coeffs → eq (get_or coeffs i nan) zero64 ≡ true
  pub last : 0 < n → eq (get_or coeffs (n - 1) nan) zero64 ≡ false

-- every coefficient is a double, as every f64 is: `Float` has the numbers of all formats
abbrev pub AllDoubles : List Float → Type 0
AllDoubles coeffs = (i : ℕ) → i < length coeffs → fits binary64 (get_or coeffs i nan) ≡ true

-- every coefficient is finite; some one is not, wherever it stands
abbrev pub AllFinite : List Float → Type 0
AllFinite coeffs = (i : ℕ) → i < length coeffs → is_finite_of (get_or coeffs i nan) ≡ true

abbrev pub SomeNotFinite : List Float → Type 0
SomeNotFinite coeffs = (i : ℕ) × (i < length coeffs) × (is_finite_of (get_or coeffs i nan) ≡ false)

-- A holds where B does, and nowhere else
pub record Exactly (A B : Type 0) : Type 0 where
  pub where_it_holds : B → A
  pub only_there : A → B
