-- The coefficients that count: Scaled::solve of poly.rs up to Scaled::new, and what it refuses. Definitions only.
use Rattle.std.specs.Prelude.{Bool, cond, List, [], ◌∷◌, ℕ, zero, suc, ◌+◌, ◌-◌, ltb, leb, length, get_or, Float, Result, Ok, Err}
use Rattle.std.specs.Float.{nan}
use Rattle.std.specs.Float.Ieee.{eq}
use Rattle.facts.specs.Arrays.{from_fn}
use Rattle.refusals.specs.declared.Refusal.{Refusal}
use Rattle.refusals.specs.declared.Refusal.TheVariants.{NotFinite, TooFew, TooMany}
use Rattle.refusals.specs.Refusals.{outcome_of}
use Rattle.float.specs.Literals.{zero64}
use Rattle.float.specs.Methods.{all_finite_of}
use Rattle.scaled.specs.declared.Scaled.{Scaled}
use Rattle.scaled.specs.Scaled.{scaled_of}

-- `while n > 0 && coeffs[n - 1] == 0.0 { n -= 1; }`: 'Trailing zeros, −0 too, are dropped'
unfoldable pub trimmed_from : List Float → ℕ → ℕ
trimmed_from coeffs zero = 0
trimmed_from coeffs (suc k) = cond (eq (get_or coeffs k nan) zero64) (trimmed_from coeffs k) (suc k)

-- `let mut n = coeffs.len();`, and then that loop: how many are left
unfoldable pub trimmed_of : List Float → ℕ
trimmed_of coeffs = trimmed_from coeffs (length coeffs)

-- `let zeros = coeffs.iter().take_while(|&&c| c == 0.0).count();`
unfoldable pub zeros_of : List Float → ℕ
zeros_of [] = 0
zeros_of (c ∷ l) = cond (eq c zero64) (suc (zeros_of l)) 0

-- How many count, or the refusal: a coefficient is not finite; at most one is left; more than five are. In that order:
-- `if n <= 1 || n > 5 { return None; }` comes after the test of the coefficients.
unfoldable pub counted_by : Bool → ℕ → Result ℕ Refusal
counted_by finite n = cond finite (cond (leb n 1) (Err TooFew) (cond (leb n 5) (Ok n) (Err TooMany))) (Err NotFinite)

-- `if coeffs.iter().any(|c| !c.is_finite()) { return None; }`, and by how many are left
abbrev pub counted_of : List Float → Result ℕ Refusal
counted_of coeffs = counted_by (all_finite_of coeffs) (trimmed_of coeffs)

-- the number of the refusal, and 0 where there is none
abbrev pub refusal_of : List Float → ℕ
refusal_of coeffs = outcome_of (counted_of coeffs)

-- the degree left once trailing zeros are dropped
abbrev pub degree_left : List Float → ℕ
degree_left coeffs = trimmed_of coeffs - 1

-- `&coeffs[zeros..n]` in an array of five, zeros after it
unfoldable pub middle_at : List Float → ℕ → ℕ → ℕ → Float
middle_at coeffs from to i = cond (ltb i (to - from)) (get_or coeffs (from + i) nan) zero64

-- all five
unfoldable pub middle_of : List Float → ℕ → ℕ → List Float
middle_of coeffs from to = from_fn 5 (middle_at coeffs from to)

-- `let poly = Scaled::new(&coeffs[zeros..n]);`
unfoldable pub poly_of : List Float → Scaled
poly_of coeffs =
    let zeros = zeros_of coeffs in
    let n = trimmed_of coeffs in
    scaled_of (middle_of coeffs zeros n) (n - zeros - 1)
