-- Bounds that hold whatever the replies: made from those of the parts, and what they give for a function and for a list of replies.
use mathlib.Core.Bool.{Bool, true, false, cond}
use mathlib.Core.List.{List, [], ◌∷◌}
use Prim.Native.Nat.{ℕ, zero, suc, ◌≤◌, ◌<◌}
use native.Mathlib.Omega.{arith}
use lib.ListN.{length}
use lib.Ieee.{Float}
use Rattle.asking.specs.Asking.{Asking, done, ask, Stage, asks, ended, answered, places_asked, walked, ◌then◌, each}
use Rattle.asking.specs.Within.{EndsWithin, AtStage}

module _ {A : Type 0} where
  pub weaken : (Q R : ℕ → A → Type 0) (n : ℕ) (t : Asking A) → ((m : ℕ) (a : A) → Q m a → R m a) → EndsWithin n t Q → EndsWithin n t R
  weaken Q R n (done a) h w = h n a w
  weaken Q R zero (ask x k) h w = w
  weaken Q R (suc n) (ask x k) h w = λ r. weaken Q R n (k r) h (w r)

  pub either_within : (Q : ℕ → A → Type 0) (n : ℕ) (b : Bool) (t u : Asking A) → EndsWithin n t Q → EndsWithin n u Q → EndsWithin n (cond b t u) Q
  either_within Q n true t u v w = v
  either_within Q n false t u v w = w

  -- ---- for a function: what it gives, and how many places it is asked about
  pub answered_within : (P : A → Type 0) (f : Float → Bool) (n : ℕ) (t : Asking A) → EndsWithin n t (λ m a. P a) → P (answered f t)
  unfolding answered
  answered_within P f n (done a) w = w
  answered_within P f zero (ask x k) w = absurd w
  answered_within P f (suc n) (ask x k) w = answered_within P f n (k (f x)) (w (f x))

  pub places_within : (Q : ℕ → A → Type 0) (f : Float → Bool) (n : ℕ) (t : Asking A) → EndsWithin n t Q → length (places_asked f t) ≤ n
  unfolding places_asked
  places_within Q f n (done a) w = omega arith
  places_within Q f zero (ask x k) w = absurd w
  places_within Q f (suc n) (ask x k) w = let h = places_within Q f n (k (f x)) (w (f x)) in omega arith

  -- ---- for a list of replies: one that leads to a question is shorter than n
  pub walked_within : (P : A → Type 0) (rs : List Bool) (n : ℕ) (t : Asking A) → EndsWithin n t (λ m a. P a) → AtStage (length rs < n) P (walked rs t)
  unfolding walked
  walked_within P rs n (done a) w = w
  walked_within P [] zero (ask x k) w = absurd w
  walked_within P [] (suc n) (ask x k) w = omega arith
  walked_within P (r ∷ rs) zero (ask x k) w = absurd w
  walked_within P (r ∷ rs) (suc n) (ask x k) w = go (walked rs (k r)) (walked_within P rs n (k r) (w r))
    where
      go : (s : Stage A) → AtStage (length rs < n) P s → AtStage (suc (length rs) < suc n) P s
      go (asks y) h = omega arith
      go (ended a l) h = h

module _ {A B : Type 0} where
  pub then_within : (Q : ℕ → B → Type 0) (n : ℕ) (t : Asking A) (k : A → Asking B) → EndsWithin n t (λ m a. EndsWithin m (k a) Q) → EndsWithin n (t then k) Q
  unfolding ◌then◌
  then_within Q n (done a) k w = w
  then_within Q zero (ask x f) k w = w
  then_within Q (suc n) (ask x f) k w = λ r. then_within Q n (f r) k (w r)

module _ {S X : Type 0} where
  -- a loop's invariant: of the questions left, the state, and the list left
  pub each_within : (f : S → X → Asking S) (I : ℕ → S → List X → Type 0)
      → ((n : ℕ) (s : S) (x : X) (xs : List X) → I n s (x ∷ xs) → EndsWithin n (f s x) (λ m s'. I m s' xs))
      → (xs : List X) (n : ℕ) (s : S) → I n s xs → EndsWithin n (each f s xs) (λ m s'. I m s' [])
  unfolding each
  each_within f I step [] n s i = i
  each_within f I step (x ∷ xs) n s i =
      let Q : ℕ → S → Type 0 = λ m s'. I m s' [] in
      let go : S → Asking S = λ s'. each f s' xs in
      then_within Q n (f s x) go (weaken (λ m s'. I m s' xs) (λ m s'. EndsWithin m (go s') Q) n (f s x)
      (λ m s' j. each_within f I step xs m s' j) (step n s x xs i))
