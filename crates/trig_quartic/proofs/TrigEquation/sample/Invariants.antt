use mathlib.Core.Path.{◌≡◌}
use Prim.Native.Nat.{◌<◌, ◌-◌}
use Rattle.facts.specs.Count.{count_up}
use Rattle.trig_quartic.specs.Crank.{sampled_of, sample_of}
use Rattle.trig_quartic.proofs.TrigEquation.sample.Given as goal

-- the samples that are left, taken from (k, largest), give the k that all give
abbrev pub invariant-loop-j : goal.invariant-loop-j
invariant-loop-j l = (l.k < 8) × ((count_up 8 (sampled_of l.self) (8 - l.j) (l.k, l.largest)).0 ≡ sample_of l.self)
