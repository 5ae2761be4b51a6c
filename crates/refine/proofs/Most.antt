-- The most systems that are solved: one for each turn, so eight for `refine`, whose loop takes at most eight turns.
use Rattle.std.proofs.Common.{ℕ, zero, suc, ◌≤◌, Bool, true, false, cond, List, arith}
use mathlib.Core.Option.{Option, none, some, Option-elim}
use lib.Ieee.{Float}
use Rattle.refine.specs.Refine.{System, next_of, turn_systems_of, turns_systems_of, refine_systems_of}

at_most_one : (b : Bool) → cond b 0 1 ≤ 1
at_most_one true = omega arith
at_most_one false = omega arith

rest_most : (k : ℕ) (f : List Float → ℕ) → ((y : List Float) → f y ≤ k) → (o : Option (List Float)) → Option-elim o 0 f ≤ k
unfolding Option-elim
rest_most k f most none = omega arith
rest_most k f most (some y) = most y

module _ (n : ℕ) (sys : System) where
  turn_most : (x : List Float) → turn_systems_of n sys x ≤ 1
  unfolding turn_systems_of
  turn_most x = at_most_one _

  turns_most : (k : ℕ) (x : List Float) → turns_systems_of n sys k x ≤ k
  unfolding turns_systems_of
  turns_most zero x = omega arith
  turns_most (suc k) x = omega (arith, turn_most x, rest_most k (turns_systems_of n sys k) (turns_most k) (next_of n sys x))

  pub refine_most : (x : List Float) → refine_systems_of n sys x ≤ 8
  unfolding refine_systems_of
  refine_most x = turns_most 8 x
