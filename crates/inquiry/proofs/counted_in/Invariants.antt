use mathlib.Core.Path.{◌≡◌}
use lib.ListN.{drop}
use Rattle.roots.specs.Roots.{list_of}
use Rattle.inquiry.specs.Inquiry.{counted_in}
use Rattle.inquiry.proofs.counted_in.Given as goal

-- what is left of the roots, and of the sum, decides
abbrev pub invariant-loop-r : goal.invariant-loop-r
invariant-loop-r l = counted_in l.left (drop l.r-index l.r-items) ≡ counted_in l.fn.most (list_of l.fn.roots)
