-- What the fold that finds the largest comes to in a list with one root that counts, and with three.
use mathlib.Core.Path.{◌≡◌}
use mathlib.Core.List.{List}
use Prim.Native.Nat.{ℕ}
use lib.ListN.{get_or}
use lib.Ieee.{Float, nan, neg}
use Rattle.facts.specs.Count.{count_up}
use Rattle.float.specs.Literals.{inf64}
use Rattle.float.specs.Methods.{max_of}
use Rattle.quartic.specs.Quartic.{largest_of}

pub largest_one : (roots : List Float) (n : ℕ) → n ≡ 1
    → max_of (neg inf64) (get_or roots 0 nan) ≡ largest_of roots n
unfolding largest_of count_up
largest_one roots n e = rw e

pub largest_three : (roots : List Float) (n : ℕ) → n ≡ 3
    → max_of (max_of (max_of (neg inf64) (get_or roots 0 nan)) (get_or roots 1 nan))
    (get_or roots 2 nan) ≡ largest_of roots n
unfolding largest_of count_up
largest_three roots n e = rw e
