-- By recursion on the scalings left; lending, and the test of the degree, are steps of their own.
use Prim.Native.Nat.{◌+◌, ◌-◌, ◌*◌}
use Rattle.factorize.proofs.+scalings.Given as goal

abbrev pub decreases-factorize_rooted : goal.decreases-factorize_rooted
decreases-factorize_rooted l = 3 * (3 - l.depth) + 2

abbrev pub decreases-factorize_lent : goal.decreases-factorize_lent
decreases-factorize_lent l = 3 * (3 - l.depth) + 1

abbrev pub decreases-parted : goal.decreases-parted
decreases-parted l = 3 * (3 - l.depth)
