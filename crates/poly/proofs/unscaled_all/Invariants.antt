use mathlib.Core.Path.{◌≡◌}
use lib.ListN.{take}
use Rattle.roots.specs.Roots.{list_of, roots_of}
use Rattle.poly.specs.RealRoots.{unscaled_all}
use Rattle.poly.proofs.unscaled_all.Given as goal

abbrev pub invariant-loop-r : goal.invariant-loop-r
invariant-loop-r l = l.out ≡ roots_of (unscaled_all l.e (take l.r-index (list_of l.fn.s)))
