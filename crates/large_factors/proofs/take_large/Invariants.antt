use Rattle.std.proofs.Common.{◌≡◌, drop}
use Rattle.factors.specs.Factors.{no_factors, Sized}
use Rattle.large_factors.specs.Large.{large_from, in_order}
use Rattle.large_factors.proofs.take_large.Given as goal

abbrev pub invariant-loop-i : goal.invariant-loop-i
invariant-loop-i l =
    let units = in_order l.u.at l.fn.order l.u.n in
    Sized l.out × (large_from l.want l.least l.out (drop l.i-index units) ≡ large_from l.want l.least no_factors units)
