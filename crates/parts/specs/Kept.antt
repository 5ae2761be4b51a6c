-- Five coefficients, as code keeps them. Definitions only.
use Rattle.std.specs.Prelude.{◌≡◌, cond, List, ℕ, ◌^◌, ◌≤◌, ltb, length, ℤ, pos, nat_abs, Result, Ok, Err}
use Rattle.refusals.specs.declared.Refusal.{Refusal}
use Rattle.refusals.specs.declared.Refusal.TheVariants.{CoefficientTooLarge}
use Rattle.parts.specs.Polynomial.{coefficient_of}

-- none is above 2^53 in size
abbrev pub Small : List ℤ → Type 0
Small l = (k : ℕ) → nat_abs (coefficient_of l k) ≤ 2 ^ 53

-- '15, some coefficient of a part is above 2^53 in size'
unfoldable pub small_of : ℤ → Result ℤ Refusal
small_of z = cond (ltb (2 ^ 53) (nat_abs z)) (Err CoefficientTooLarge) (Ok z)

-- there are no coefficients but zeros from t^m on
pub record Ends (l : List ℤ) (m : ℕ) : Type 0 where
  pub five : length l ≡ 5
  pub few : m ≤ 5
  pub small : Small l
  pub zeros : (k : ℕ) → m ≤ k → coefficient_of l k ≡ pos 0
