-- A computation that asks yes-or-no questions about places. A Rust function that takes a closure `touches` is written once, as an Asking, and read in two ways:
-- by a function, as the Rust does; and by a list of replies, as an inquiry does. Definitions only.
use Rattle.std.specs.Prelude.{Bool, Float}
use mathlib.Core.List.{List, [], ◌∷◌}

-- done a: finished with a. ask x k: `touches(x)`, and then k of the reply
pub data Asking (A : Type 0) : Type 0 where
  done : A → Asking A
  ask : Float → (Bool → Asking A) → Asking A

-- where a list of replies leads: to a question about a place, or to an end, with the replies that were not needed
pub data Stage (A : Type 0) : Type 0 where
  asks : Float → Stage A
  ended : A → List Bool → Stage A

module _ {A : Type 0} where
  -- read by a function: what the Rust gives
  unfoldable pub answered : (Float → Bool) → Asking A → A
  answered touches (done a) = a
  answered touches (ask x k) = answered touches (k (touches x))

  -- read by a function: the places that the Rust asks about, in its order
  unfoldable pub places_asked : (Float → Bool) → Asking A → List Float
  places_asked touches (done a) = []
  places_asked touches (ask x k) = x ∷ places_asked touches (k (touches x))

  -- read by a list of replies: the first place without a reply is the question
  unfoldable pub walked : List Bool → Asking A → Stage A
  walked rs (done a) = ended a rs
  walked [] (ask x k) = asks x
  walked (r ∷ rs) (ask x k) = walked rs (k r)

  -- the replies that were not needed: at a question every one was
  unfoldable pub left_by : Stage A → List Bool
  left_by (asks x) = []
  left_by (ended a rs) = rs

module _ {A B : Type 0} where
  -- t, and then k of what it gives
  infixl 20 ◌then◌
  unfoldable pub ◌then◌ : Asking A → (A → Asking B) → Asking B
  done a then k = k a
  ask x f then k = ask x (λ r. f r then k)

  -- the same from a stage on
  unfoldable pub onward : Stage A → (A → Asking B) → Stage B
  unfolding walked
  onward (asks x) k = asks x
  onward (ended a rs) k = walked rs (k a)

module _ {S X : Type 0} where
  -- a loop over a list, each turn of which may ask
  unfoldable pub each : (S → X → Asking S) → S → List X → Asking S
  unfolding ◌then◌
  each f s [] = done s
  each f s (x ∷ xs) = f s x then λ s'. each f s' xs
