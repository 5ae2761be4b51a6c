-- Two tests of a step that no result turns on: a step that is not finite is never kept, tried or not. Statements only; proofs/Steps.antt has the proof of
-- `Steps`.
use Rattle.std.specs.Prelude.{◌≡◌, true, false, List, ℕ, length, get_or, Some, Float}
use Rattle.std.proofs.Math.Option.{none}
use Rattle.std.specs.Float.{nan}
use Rattle.facts.specs.Arrays.{from_fn}
use Rattle.float.specs.Rounded.{◌-ᶠ◌, ◌/ᶠ◌}
use Rattle.float.specs.Methods.{is_finite_of, all_finite_of}
use Rattle.horner.specs.Horner.{value_slope_compensated_of}
use Rattle.refine.specs.Refine.{System, kept_of}
use Rattle.refine.specs.Systems.{cubic_system, quartic_system, peel_system}
use Rattle.polish.specs.Polish.{Place, polish_next}

-- `x[i] - step[i]`
abbrev pub moved : ℕ → List Float → List Float → List Float
moved n x step = from_fn n (λ i. get_or x i nan -ᶠ get_or step i nan)

-- at a place with a finite norm (another ends the turns before)
abbrev pub NeverKept : ℕ → System → Type 0
NeverKept n sys =
    (x step : List Float) (current : Float) → length step ≡ n → is_finite_of current ≡ true → all_finite_of step ≡ false
    → kept_of n sys current (Some (moved n x step)) ≡ none

-- `let step = fy / dy;` of `polish`, from y
abbrev pub step_at : List Float → ℕ → Float → Float
step_at f d y = let v = value_slope_compensated_of f d y in v.value /ᶠ v.slope

pub record Steps : Type 0 where
  -- 832, `.filter(|s| s.iter().all(|v| v.is_finite()))`: without it `refine` gives the same.
  pub cubic : (b c d : Float) → NeverKept 3 (cubic_system b c d)
  pub quartic : (b c d e : Float) → NeverKept 4 (quartic_system b c d e)
  pub peeled : (b c d e : Float) → NeverKept 4 (peel_system b c d e)
  -- 396, `|| step.is_nan()`: with `|| !step.is_finite()` `polish` gives the same.
  pub polished : (f : List Float) (d : ℕ) (gap : Float) (s : Place) → is_finite_of (step_at f d s.y) ≡ false → polish_next f d gap s ≡ none
