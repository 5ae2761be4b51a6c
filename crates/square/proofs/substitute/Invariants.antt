use Rattle.std.proofs.Common.{◌≡◌, length}
use Rattle.facts.specs.Count.{count_down}
use Rattle.square.specs.Square.{lines, substitute_step, substitute_of}
use Rattle.square.proofs.substitute.Given as goal

abbrev pub invariant-loop-row : goal.invariant-loop-row
invariant-loop-row g l = (length l.x ≡ g.row.N) × (count_down (substitute_step (lines l.m l.b)) l.row l.x ≡ substitute_of g.row.N (lines l.m l.b))
