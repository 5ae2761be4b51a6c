-- One turn of `refine` and of `newton` by what its tests found: the shared facts of the sizes and the systems.
use Rattle.std.proofs.Common.{◌≡◌, ℕ, suc, ◌+◌, ◌-◌, ◌<◌, ◌≤◌, Bool, true, false, cond, List, get_or, sym, refl, ap, ◌∙◌, arith}
use mathlib.Core.Option.{none, some, Option-elim}
use Rattle.std.specs.Prelude.{Option as RustOption, None, Some}
use native.Mathlib.Nat.{sub-zero, add-zero}
use lib.ListN.{length-set}
use lib.Ieee.{Float, binary64, sub, div}
use Rattle.facts.specs.Count.{up_turn, up_end}
use Rattle.facts.specs.Turns.{turns_of, turns_stop, turns_go, turns_end}
use Rattle.float.specs.Methods.{all_finite_of}
use Rattle.float.specs.Literals.{zero64}
use Rattle.horner.specs.Horner.{value_slope_of}
use Rattle.horner.specs.declared.ValueSlope.{ValueSlope}
use Rattle.square.specs.Square.{solve_square_of}
use Rattle.refine.specs.Refine.{System, over_of, weighted_of, norm_of, is_settled_of, weigh_row_of, weigh_rows_of, stepped_of, advanced_of, trial_of}
use Rattle.refine.specs.Refine.{no_less_of, kept_of, next_of, refine_of, turn_systems_of, turns_systems_of, refine_systems_of}
use Rattle.refine.specs.Weighed.{weigh_of}
use Rattle.refine.specs.Newton.{flat_of, no_gain_of, newton_by, newton_next, newton_cubic_of}
use Rattle.refine.specs.declared.Weighed.{Weighed}
use Rattle.refine.proofs.Sizes.{square_small}

-- the place to try next, from what elimination gave
module _ (n : ℕ) (x w mag : List Float) (j rows : List (List Float)) (weighed : rows ≡ weigh_rows_of n j mag) where
  tried : {o : RustOption (List Float)} → solve_square_of n rows w zero64 ≡ o → trial_of n x w mag j ≡ advanced_of n x o
  unfolding trial_of
  tried e = rw (sym weighed, e)

  pub trial_none : solve_square_of n rows w zero64 ≡ None → trial_of n x w mag j ≡ solve_square_of n rows w zero64
  unfolding advanced_of
  trial_none e = tried e ∙ sym e

  module _ (s : List Float) {finite : Bool} (solved : solve_square_of n rows w zero64 ≡ Some s) (tested : finite ≡ all_finite_of s) where
    stepped : trial_of n x w mag j ≡ cond finite (Some (stepped_of n x s)) None
    unfolding advanced_of
    stepped = tried solved ∙ rw tested

    pub trial_far : finite ≡ false → trial_of n x w mag j ≡ None
    trial_far f = stepped ∙ rw f

    pub trial_there : finite ≡ true → trial_of n x w mag j ≡ Some (stepped_of n x s)
    trial_there t = stepped ∙ rw t

-- one turn of `refine`, at the place x
module _ (n : ℕ) (sys : System) (x : List Float) {at : Weighed n} (here : at ≡ weigh_of n (sys.res x) (sys.mag x)) where
  pub refine_settled : is_settled_of at.norm ≡ true → next_of n sys x ≡ none
  unfolding next_of weigh_of
  refine_settled t = simp (rw here at t)

  module _ {j : List (List Float)} (moving : is_settled_of at.norm ≡ false) (derivatives : j ≡ sys.jac x) where
    tried_there : next_of n sys x ≡ kept_of n sys at.norm (trial_of n x at.w at.mag j)
    unfolding next_of weigh_of
    tried_there = rw (here, derivatives, rw here at moving)

    pub refine_stuck : trial_of n x at.w at.mag j ≡ None → next_of n sys x ≡ none
    unfolding kept_of
    refine_stuck e = tried_there ∙ ap (kept_of n sys at.norm) e

    module _ {y : List Float} {there : Weighed n} (tries : trial_of n x at.w at.mag j ≡ Some y) (behind : there ≡ weigh_of n (sys.res y) (sys.mag y)) where
      compared : next_of n sys x ≡ cond (no_less_of at.norm there.norm) none (some y)
      unfolding kept_of weigh_of
      compared = tried_there ∙ ap (kept_of n sys at.norm) tries ∙ rw behind

      pub refine_held : no_less_of at.norm there.norm ≡ true → next_of n sys x ≡ none
      refine_held t = compared ∙ rw t

      pub refine_moved : no_less_of at.norm there.norm ≡ false → next_of n sys x ≡ some y
      refine_moved t = compared ∙ rw t

-- the systems solved: of one turn, by its first test, and of the turns left, where a turn ends the loop, where it moves, and at the end
module _ (n : ℕ) (sys : System) (x : List Float) where
  module _ {at : Weighed n} (here : at ≡ weigh_of n (sys.res x) (sys.mag x)) where
    pub none_solved : is_settled_of at.norm ≡ true → turn_systems_of n sys x ≡ 0
    unfolding turn_systems_of weigh_of
    none_solved t = simp (rw here at t)

    pub one_solved : is_settled_of at.norm ≡ false → turn_systems_of n sys x ≡ 1
    unfolding turn_systems_of weigh_of
    one_solved t = simp (rw here at t)

  module _ (m i : ℕ) where
    pub systems_stop : i < m → next_of n sys x ≡ none → turns_systems_of n sys (m - i) x ≡ turn_systems_of n sys x
    unfolding turns_systems_of Option-elim
    systems_stop h e = let g : m - i ≡ suc (m - (i + 1)) = omega arith in rw (g, e) (add-zero (turn_systems_of n sys x))

    pub systems_go : {y : List Float} → i < m → next_of n sys x ≡ some y
        → turns_systems_of n sys (m - i) x ≡ turn_systems_of n sys x + turns_systems_of n sys (m - (i + 1)) y
    unfolding turns_systems_of Option-elim
    systems_go h e = let g : m - i ≡ suc (m - (i + 1)) = omega arith in rw (g, e) refl

    pub systems_end : m ≤ i → turns_systems_of n sys (m - i) x ≡ 0
    unfolding turns_systems_of
    systems_end h = let g : m - i ≡ 0 = omega arith in rw g refl

-- one turn of `newton`
module _ (f : Float → ValueSlope) (p : Float → Bool) (y : Float) {v : ValueSlope} (here : v ≡ f y) where
  pub newton_flat : flat_of v.value v.slope ≡ true → newton_by f p y ≡ none
  unfolding newton_by
  newton_flat t = simp (rw here at t)

  module _ (steep : flat_of v.value v.slope ≡ false) where
    abbrev next : Float
    next = sub binary64 y (div binary64 v.value v.slope)

    pub newton_barred : p next ≡ false → newton_by f p y ≡ none
    unfolding newton_by
    newton_barred t = simp (sym here, steep, t)

    module _ {u : ValueSlope} (allowed : p next ≡ true) (there : u ≡ f next) where
      pub newton_held : no_gain_of v.value u.value ≡ true → newton_by f p y ≡ none
      unfolding newton_by
      newton_held t = simp (sym here, steep, allowed, sym there, t)

      pub newton_moved : no_gain_of v.value u.value ≡ false → newton_by f p y ≡ some next
      unfolding newton_by
      newton_moved t = simp (sym here, steep, allowed, sym there, t)

-- `newton` by the value and the slope of a cubic
pub as_cubic : (c : List Float) (y r : Float) → r ≡ turns_of (newton_by (value_slope_of c 3) (λ x. true)) 4 y → r ≡ newton_cubic_of c y
unfolding newton_cubic_of newton_next newton_by
as_cubic c y r is = is

-- What the functions' proofs rest on: the laws, and the definitions.
pub ruleset loops = (sub-zero, length-set, up_turn, up_end, turns_stop, turns_go, turns_end)

pub ruleset turn = (refine_settled, refine_stuck, refine_held, refine_moved, newton_flat, newton_barred, newton_held, newton_moved)

pub ruleset counted = (none_solved, one_solved, systems_stop, systems_go, systems_end)

pub ruleset laws = (loops, square_small, trial_none, trial_far, trial_there, turn, counted)

unfoldable pub definitions : ℕ
unfolding over_of weighted_of norm_of is_settled_of weigh_row_of weigh_rows_of no_less_of refine_of refine_systems_of weigh_of flat_of no_gain_of
definitions = 0
