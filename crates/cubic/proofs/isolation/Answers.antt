-- The fold over what the two places give.
use Rattle.std.proofs.Common.{rules, [], ◌∷◌, ◌≡◌, ◌∙◌}
use Rattle.std.specs.List.{fold}
use Rattle.float.specs.Literals.{inf64}
use Rattle.float.specs.Methods.{min_of}
use Rattle.cubic.proofs.isolation.Goals as goal

pub returns : goal.returns
returns c =
    let items = c.fold.ensures.runs.0.items in
    let e : c.fold.result ≡ fold min_of inf64 items = search rules in
    let i : items ≡ c.abs.result ∷ c.abs-2.result ∷ [] = search rules in
    e ∙ rw (i, c.abs.ensures, c.abs-2.ensures)
