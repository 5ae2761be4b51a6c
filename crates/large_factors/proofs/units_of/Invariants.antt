use Rattle.std.proofs.Common.{◌≡◌, ◌++◌}
use Rattle.large_factors.specs.Large.{no_units, all_added}
use Rattle.large_factors.proofs.Added.{reals, splits}
use Rattle.large_factors.proofs.units_of.Given as goal

abbrev pub invariant-loop-r : goal.invariant-loop-r
invariant-loop-r l = l.u ≡ all_added no_units (reals l.fn.f.lin l.r-index)

abbrev pub invariant-loop-q : goal.invariant-loop-q
invariant-loop-q l = l.u ≡ all_added no_units (reals l.fn.f.lin l.fn.f.nlin ++ splits l.fn.f.quad l.q-index)
