use Rattle.std.proofs.Common.{◌≡◌, ◌-◌, length}
use Rattle.facts.specs.Count.{count_up}
use Rattle.square.specs.Square.{lines, reduce_step, reduce_of, solve_from, solve_square_of}
use Rattle.square.proofs.solve_square.Given as goal

abbrev pub invariant-loop-row : goal.invariant-loop-row
invariant-loop-row g l =
    (length l.a ≡ g.row.N) × (length l.s ≡ g.row.N)
    × (count_up g.row.N (reduce_step l.col l.up) (g.row.N - l.row) (lines l.a l.s) ≡ reduce_of g.row.N l.col l.up (lines l.initial.a l.initial.s))

abbrev pub invariant-loop-col : goal.invariant-loop-col
invariant-loop-col g l =
    (length l.a ≡ g.row.N) × (length l.s ≡ g.row.N)
    × (solve_from g.row.N l.least (g.row.N - l.col) (lines l.a l.s) ≡ solve_square_of g.row.N l.initial.a l.initial.s l.tol)
