use mathlib.Core.Path.{◌≡◌}
use mathlib.Core.List.{◌++◌}
use Prim.Native.Nat.{◌-◌}
use lib.ListN.{replicate}
use Rattle.float.specs.Literals.{zero64}
use Rattle.lent_bytes.specs.Bytes.{f64s_at}
use Rattle.lent_bytes.proofs.f64s_at.Given as goal

-- the first i doubles, and zeros
abbrev pub invariant-loop-i : goal.invariant-loop-i
invariant-loop-i l = l.xs ≡ f64s_at l.i l.s l.at ++ replicate (32 - l.i) zero64
