use mathlib.Core.Path.{◌≡◌}
use Rattle.parts.specs.Value.{power_of}
use Rattle.std.specs.Prelude.{Ok}
use Rattle.parts.specs.Part.{value_in}
use Rattle.parts.proofs.power.Given as goal

abbrev pub invariant-loop : goal.invariant-loop
invariant-loop l = value_in l.r ≡ power_of (value_in (Ok l.base)) l.counter
