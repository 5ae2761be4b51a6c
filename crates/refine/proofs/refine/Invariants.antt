use Rattle.std.proofs.Common.{◌≡◌, ◌+◌, ◌-◌, ◌≤◌}
use Rattle.facts.specs.Turns.{turns_of}
use Rattle.refine.specs.Refine.{next_of, refine_of, turns_systems_of, refine_systems_of}
use Rattle.refine.specs.Weighed.{weigh_of}
use Rattle.refine.proofs.refine.Given as goal

abbrev pub invariant-loop : goal.invariant-loop
invariant-loop g l =
    let sys = g.S.Equations.system l.s in
    (l.at ≡ weigh_of g.row.N (sys.res l.x) (sys.mag l.x))
    × (turns_of (next_of g.row.N sys) (8 - l.counter) l.x ≡ refine_of g.row.N sys l.initial.x)
    × (turns_systems_of g.row.N sys (8 - l.counter) l.x + l.systems ≡ refine_systems_of g.row.N sys l.initial.x)
    × (l.systems ≤ l.counter)
