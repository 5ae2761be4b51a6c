-- Walks with the replies at hand: a walk through t and then k is a walk through t and on through k, a loop goes on turn by turn, and a reply more is
-- needed at a question alone.
use mathlib.Core.Path.{◌≡◌, refl, sym, ap, ◌∙◌}
use mathlib.Core.Bool.{Bool}
use mathlib.Core.List.{List, [], ◌∷◌, ◌++◌}
use lib.Ieee.{Float}
use Rattle.asking.specs.Asking.{Asking, done, ask, Stage, asks, ended, walked, left_by, ◌then◌, onward, each}

module _ {A B : Type 0} where
  pub walked_then : (rs : List Bool) (t : Asking A) (k : A → Asking B) → walked rs (t then k) ≡ onward (walked rs t) k
  unfolding walked ◌then◌ onward
  walked_then rs (done a) k = refl
  walked_then [] (ask x g) k = refl
  walked_then (r ∷ rs) (ask x g) k = walked_then rs (g r) k

module _ {A B : Type 0} (rs : List Bool) (t : Asking A) (k : A → Asking B) where
  -- where t asks, t and then k asks; where it ends, k goes on with the replies that are left
  pub asked_then : (x : Float) → asks x ≡ walked rs t → asks x ≡ walked rs (t then k)
  unfolding onward
  asked_then x e = ap (λ (s : Stage A). onward s k) e ∙ sym (walked_then rs t k)

  pub ended_then : (a : A) (left : List Bool) → ended a left ≡ walked rs t → walked left (k a) ≡ walked rs (t then k)
  unfolding onward
  ended_then a left e = ap (λ (s : Stage A). onward s k) e ∙ sym (walked_then rs t k)

module _ {A B C : Type 0} where
  onward_then : (s : Stage A) (k : A → Asking B) (l : B → Asking C)
      → onward (onward s k) l ≡ onward s (λ a. k a then l)
  unfolding onward
  onward_then (asks x) k l = refl
  onward_then (ended a rs) k l = rw (walked_then rs (k a) l)

-- ---- a loop, from a stage on
module _ {S X : Type 0} where
  pub each_end : (f : S → X → Asking S) (st : Stage S) → onward st (λ s. each f s []) ≡ st
  unfolding each onward walked
  each_end f (asks x) = refl
  each_end f (ended s rs) = refl

  pub each_turn : (f : S → X → Asking S) (st : Stage S) (x : X) (xs : List X)
      → onward st (λ s. each f s (x ∷ xs)) ≡ onward (onward st (λ s. f s x)) (λ s. each f s xs)
  unfolding each
  each_turn f st x xs = rw (onward_then st (λ s. f s x) (λ s. each f s xs))

  pub each_one : (f : S → X → Asking S) (st st' : Stage S) (x : X) → st' ≡ onward st (λ s. f s x)
      → st' ≡ onward st (λ s. each f s (x ∷ []))
  each_one f st st' x e = e ∙ sym (each_end f (onward st (λ s. f s x))) ∙ sym (each_turn f st x [])

  pub each_two : (f : S → X → Asking S) (st st' st'' : Stage S) (x y : X)
      → st' ≡ onward st (λ s. f s x) → st'' ≡ onward st' (λ s. f s y)
      → st'' ≡ onward st (λ s. each f s (x ∷ y ∷ []))
  each_two f st st' st'' x y e g =
      each_one f st' st'' y g ∙ ap (λ (u : Stage S). onward u (λ s. each f s (y ∷ []))) e
      ∙ sym (each_turn f st x (y ∷ []))

-- ---- one reply more
module _ {A : Type 0} where
  -- at an end it is not needed
  pub ended_more : (rs : List Bool) (t : Asking A) (a : A) (left : List Bool) (r : Bool) → walked rs t ≡ ended a left
      → walked (rs ++ r ∷ []) t ≡ ended a (left ++ r ∷ [])
  unfolding walked
  ended_more rs (done b) a left r e = cc
  ended_more [] (ask x k) a left r e = cc
  ended_more (s ∷ rs) (ask x k) a left r e = ended_more rs (k s) a left r e

  pub none_left : (t : Asking A) → left_by (walked [] t) ≡ []
  unfolding walked left_by
  none_left (done a) = refl
  none_left (ask x k) = refl

  -- at a question it is
  pub asks_more : (rs : List Bool) (t : Asking A) (x : Float) (r : Bool) → walked rs t ≡ asks x → left_by (walked (rs ++ r ∷ []) t) ≡ []
  unfolding walked
  asks_more rs (done b) x r e = cc
  asks_more [] (ask y k) x r e = none_left (k r)
  asks_more (s ∷ rs) (ask y k) x r e = asks_more rs (k s) x r e
