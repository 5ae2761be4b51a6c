use Rattle.std.proofs.Common.{◌≡◌, ◌-◌, Bool}
use Rattle.std.specs.Prelude.{Float}
use Rattle.facts.specs.Turns.{turns_of}
use Rattle.horner.specs.declared.ValueSlope.{ValueSlope}
use Rattle.refine.specs.Newton.{Gives, newton_by}
use Rattle.refine.proofs.newton.Given as goal

abbrev pub invariant-loop : goal.invariant-loop
invariant-loop g l =
    (f : Float → ValueSlope) (p : Float → Bool) → Gives (goal.F-post g l.look) f → Gives (goal.G-post g l.allows) p
    → (l.at ≡ f l.y) × (turns_of (newton_by f p) (l.turns - l.counter) l.y ≡ turns_of (newton_by f p) l.turns l.y0)
