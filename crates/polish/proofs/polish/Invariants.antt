use mathlib.Core.Path.{◌≡◌}
use Prim.Native.Nat.{◌-◌}
use Rattle.horner.specs.Horner.{value_slope_compensated_of}
use Rattle.polish.specs.Polish.{polish_of}
use Rattle.polish.proofs.Laws.{turns_from}
use Rattle.polish.proofs.polish.Given as goal

abbrev pub invariant-loop : goal.invariant-loop
invariant-loop l =
    (l.at ≡ value_slope_compensated_of l.p.f l.p.d l.y) × (turns_from l.p.f l.p.d l.gap (4 - l.counter) l.y ≡ polish_of 4 l.p.f l.p.d l.gap l.y0)
