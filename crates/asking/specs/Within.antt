-- What holds whatever the replies: how many questions a computation asks at most, and what it ends with. Definitions only.
use Rattle.std.specs.Prelude.{Bool, ℕ, zero, suc}
use Rattle.asking.specs.Asking.{Asking, done, ask, Stage, asks, ended}

module _ {A : Type 0} where
  -- with n questions allowed t ends, and Q holds of the questions left and of what t gives
  abbrev pub EndsWithin : ℕ → Asking A → (ℕ → A → Type 0) → Type 0
  EndsWithin n (done a) Q = Q n a
  EndsWithin zero (ask x k) Q = ⊥
  EndsWithin (suc n) (ask x k) Q = (r : Bool) → EndsWithin n (k r) Q

  -- a fact for either kind of stage
  abbrev pub AtStage : Type 0 → (A → Type 0) → Stage A → Type 0
  AtStage asking P (asks x) = asking
  AtStage asking P (ended a rs) = P a
