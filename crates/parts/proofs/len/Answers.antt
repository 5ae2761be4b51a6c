-- Up to the last that is no zero, if there is one.
use Rattle.std.proofs.Common.{◌≡◌, ◌∙◌, refl, ℕ, ◌+◌, Option, Some, None, rules, tests}
use Rattle.parts.specs.Part.{length_in}
use Rattle.parts.proofs.Entries.{length_is, length_none}
use Rattle.parts.proofs.len.Goals as goal

pub returns-clause-value : goal.returns-clause-value
returns-clause-value c = go c.rposition.result refl
  where
    go : (r : Option ℕ) → c.rposition.result ≡ r → c.map_or.result ≡ length_in c.args.a
    go None e =
        let m : c.map_or.result ≡ 0 = search (rules, tests) in
        m ∙ length_none c.args.a.coeffs (search rules) (search (rules, tests))
    go (Some i) e =
        let m : c.map_or.result ≡ i + 1 = search (rules, tests) in
        m ∙ length_is c.args.a.coeffs (search rules) i (search (rules, tests)) (search (rules, tests))
