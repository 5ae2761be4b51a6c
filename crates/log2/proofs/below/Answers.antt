-- By the last of the items that w reaches, if there is one.
use Rattle.std.proofs.Common.{rules, tests, ◌≡◌, refl, subst, sym, ℕ, ◌+◌, ◌^◌, ◌≤◌, ◌<◌, length, Option, Some, None}
use lib.ListN.{get_or}
use Rattle.log2.proofs.Reached.{first, down}
use Rattle.log2.proofs.below.Goals as goal

pub returns-clause-reaches : goal.returns-clause-reaches
returns-clause-reaches c = go c.rposition.result refl
  where
    reaches : ℕ → Type 0
    reaches n = 2 ^ (n + 13312) ≤ c.args.d.w ^ 256

    go : (r : Option ℕ) → c.rposition.result ≡ r → reaches c.map_or.result
    go None e =
        let m : c.map_or.result ≡ 0 = search (rules, tests) in
        subst reaches (sym m) (first _ _ c.thresholds-table.ensures c.args.d.led)
    go (Some i) e =
        let s = c.iter.result.rest.now in
        let m : c.map_or.result ≡ i + 1 = search (rules, tests) in
        let l : i < length s = search (rules, tests) in
        let h : get_or s i 0 ≤ c.args.d.w = search (rules, tests) in
        subst reaches (sym m) (down _ _ _ _ _ c.thresholds-table.ensures c.iter.ensures.rest c.requires l h)
