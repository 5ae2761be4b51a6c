-- What elimination answers, as numbers: the first of five zeros are all zeros.
use Rattle.std.proofs.Common.{ℕ, ◌+◌, replicate, sym, ap, ◌∙◌, add-one, arith}
use Rattle.std.proofs.lemmas.List.{take-replicate}
use Rattle.float.specs.Literals.{zero64}
use Rattle.lent_bytes.proofs.Whole.{stored_as}
use Rattle.c_layers.proofs.systems.store_solution.Goals as goal

pub returns-in_default : goal.returns-in_default
returns-in_default g c =
    let zeros = take-replicate (g.row.N + 1) 5 zero64 (omega arith) ∙ ap (λ (n : ℕ). replicate n zero64) (add-one g.row.N) in
    rw (sym c.solve_square.ensures, c.in_default.is) (stored_as zeros c.store.ensures)
