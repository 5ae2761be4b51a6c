use mathlib.Core.Path.{◌≡◌}
use Prim.Native.Nat.{◌-◌}
use Rattle.facts.specs.Count.{count_up}
use Rattle.poly.specs.Found.{with_lin_in}
use Rattle.poly.proofs.with_lins.Given as goal

abbrev pub invariant-loop-r : goal.invariant-loop-r
invariant-loop-r l = let n = l.fn.f.nlin in count_up n (with_lin_in l.fn.f) (n - l.r-index) l.s ≡ count_up n (with_lin_in l.fn.f) n l.fn.start
