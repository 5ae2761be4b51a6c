-- The turns of `refine`, one after the other: before turn k, at the place x, the turns left give the answer.
use Rattle.std.proofs.Common.{◌≡◌, ℕ, ◌+◌, ◌-◌, ◌<◌, ◌≤◌, Bool, true, false, cond, List, sym, refl, ap, ◌∙◌, arith}
use mathlib.Core.Option.{none, some}
use Rattle.std.specs.Prelude.{None, Some}
use lib.Ieee.{Float}
use Rattle.facts.specs.Turns.{turns_of, turns_stop, turns_go, turns_end}
use Rattle.refine.specs.Refine.{System, weighted_of, norm_of, is_settled_of, trial_of, no_less_of, kept_of, next_of, refine_of}
use Rattle.refine.specs.Weighed.{weigh_of}
use Rattle.refine.specs.declared.Weighed.{Weighed}

-- the weighted residuals w, the magnitudes and the norm are those of the place x
pub record Known (n : ℕ) (sys : System) (x w mag : List Float) (current : Float) : Type 0 where
  pub weights : w ≡ weighted_of n (sys.res x) (sys.mag x)
  pub mags : mag ≡ sys.mag x
  pub sized : current ≡ norm_of (weighted_of n (sys.res x) (sys.mag x))

known_at : (n : ℕ) {sys : System} {x : List Float} {at : Weighed n}
    → at ≡ weigh_of n (sys.res x) (sys.mag x) → Known n sys x at.w at.mag at.norm
unfolding weigh_of
known_at n e = rw e (record { weights = refl; mags = refl; sized = refl })

pub known3 : {sys : System} {x : List Float} {at : Weighed 3}
    → at ≡ weigh_of 3 (sys.res x) (sys.mag x) → Known 3 sys x at.w at.mag at.norm
known3 e = known_at 3 e

pub known4 : {sys : System} {x : List Float} {at : Weighed 4}
    → at ≡ weigh_of 4 (sys.res x) (sys.mag x) → Known 4 sys x at.w at.mag at.norm
known4 e = known_at 4 e

-- before turn k, at the place x: the turns left give the answer
pub record Turn (n : ℕ) (sys : System) (answer x w mag : List Float) (current : Float) (k : ℕ) : Type 0 where
  pub known : Known n sys x w mag current
  pub within : k ≤ 8
  pub left : turns_of (next_of n sys) (8 - k) x ≡ answer

pub first_turn : {n : ℕ} {sys : System} {x w mag : List Float} {current : Float}
    → Known n sys x w mag current → Turn n sys (refine_of n sys x) x w mag current 0
unfolding refine_of
first_turn known = record { known = known; within = omega arith; left = refl }

module _ {n : ℕ} {sys : System} {answer x w mag : List Float} {current : Float} {k : ℕ}
    (turn : Turn n sys answer x w mag current k) where
  stop : next_of n sys x ≡ none → x ≡ answer
  stop e = sym (turns_stop _ _ _ e) ∙ turn.left

  pub after_turns : 8 ≤ k → x ≡ answer
  after_turns h = sym (turns_end _ 8 _ _ h) ∙ turn.left

  module _ {settled : Bool} (tests : settled ≡ is_settled_of current) where
    pub stop_settled : settled ≡ true → x ≡ answer
    unfolding next_of
    stop_settled t = stop (rw (sym turn.known.sized, sym tests, t))

    module _ {j : List (List Float)} (moving : settled ≡ false) (derivatives : j ≡ sys.jac x) where
      behind : next_of n sys x ≡ kept_of n sys current (trial_of n x w mag j)
      unfolding next_of
      behind =
          rw (sym turn.known.sized, sym tests, moving, sym turn.known.weights, sym turn.known.mags, sym derivatives)

      pub stop_stuck : trial_of n x w mag j ≡ None → x ≡ answer
      unfolding kept_of
      stop_stuck e = stop (behind ∙ ap (kept_of n sys current) e)

      module _ {y v m : List Float} {next : Float} {held : Bool}
          (tries : trial_of n x w mag j ≡ Some y) (there : Known n sys y v m next)
          (compares : held ≡ no_less_of current next) where
        compared : next_of n sys x ≡ cond held none (some y)
        unfolding kept_of
        compared = behind ∙ ap (kept_of n sys current) tries ∙ rw (sym there.sized, sym compares)

        pub stop_held : held ≡ true → x ≡ answer
        stop_held t = stop (compared ∙ rw t)

        pub next_turn : k < 8 → held ≡ false → Turn n sys answer y v m next (k + 1)
        next_turn h f = record {
          known = there;
          within = omega arith;
          left = sym (turns_go _ 8 _ _ _ h (compared ∙ rw f)) ∙ turn.left;
        }
