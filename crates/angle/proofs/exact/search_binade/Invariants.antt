use Rattle.std.proofs.Common.{◌≡◌, false, ◌^◌}
use Rattle.wide.specs.Quad.{quad_of}
use Rattle.angle.specs.Parts.{sin_le}
use Rattle.angle.proofs.exact.search_binade.Given as goal

abbrev pub invariant-loop-k : goal.invariant-loop-k
invariant-loop-k l = sin_le l.below (quad_of l.gap) l.k (2 ^ 54) ≡ false
