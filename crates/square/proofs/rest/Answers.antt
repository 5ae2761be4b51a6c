-- The fold over what the zip gives from a place on.
use Rattle.std.proofs.Common.{rules, tests, ◌≡◌, ◌∙◌, ◌-◌, ◌+◌, ◌<◌, ℕ, length, Bor}
use Rattle.std.specs.List.{fold}
use Rattle.std.specs.Float.{nan}
use lib.Ieee.{Float}
use lib.ListN.{get_or}
use Rattle.float.specs.Rounded.{◌-ᶠ◌, ◌*ᶠ◌}
use Rattle.square.proofs.Laws.{remainder_folded}
use Rattle.square.proofs.rest.Goals as goal

pub returns : goal.returns
returns g c =
    let row = c.args.row.now in
    let x = c.args.x.now in
    let from = c.args.from in
    let pairs = c.fold.ensures.runs.0.items in
    let f : c.fold.result ≡ fold (λ a p. a -ᶠ p.0.now *ᶠ p.1.now) c.args.acc pairs = search rules in
    let l : length pairs ≡ length row - from = search (rules, tests) in
    let e : (d : Bor Float × Bor Float) (k : ℕ) → k < length pairs → (get_or pairs k d).0.now ≡ get_or row (k + from) nan = λ d k h. search (rules, tests) in
    let u : (d : Bor Float × Bor Float) (k : ℕ) → k < length pairs → (get_or pairs k d).1.now ≡ get_or x (k + from) nan = λ d k h. search (rules, tests) in
    f ∙ remainder_folded (λ p. p.0.now) (λ p. p.1.now) row x from c.args.acc pairs l e u
