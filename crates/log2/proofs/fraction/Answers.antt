-- By the first of the items that w does not reach, if there is one.
use Rattle.std.proofs.Common.{rules, tests, ◌≡◌, refl, subst, sym, ℕ, ◌+◌, ◌-◌, ◌≤◌, ◌<◌, length, List, Option, Some, None}
use lib.ListN.{get_or}
use Rattle.log2.specs.Parts.{Fraction}
use Rattle.log2.proofs.Reached.{up, top}
use Rattle.log2.proofs.fraction.Goals as goal

pub returns : goal.returns
returns c = go c.position.result refl
  where
    s : List ℕ
    s = c.iter.result.rest.now

    go : (r : Option ℕ) → c.position.result ≡ r → Fraction c.args.d.w c.map_or.result
    go None e =
        let m : c.map_or.result ≡ 255 = search (rules, tests) in
        let l : length s ≡ 256 - (c.below-n.result + 1) = search rules in
        let g : (k : ℕ) → k < length s → get_or s k 0 ≤ c.args.d.w = λ k l. search (rules, tests) in
        subst (Fraction c.args.d.w) (sym m)
        (top _ _ _ _ c.thresholds-table.ensures c.iter.ensures.rest c.below-n.ensures.reaches c.below-n.ensures.small l g c.args.d.short)
    go (Some i) e =
        let m : c.map_or.result ≡ c.below-n.result + i = search (rules, tests) in
        let l : i < length s = search (rules, tests) in
        let g : (k : ℕ) → k < i → get_or s k 0 ≤ c.args.d.w = λ k l. search (rules, tests) in
        let h : c.args.d.w < get_or s i 0 = search (rules, tests) in
        subst (Fraction c.args.d.w) (sym m) (up _ _ _ _ c.thresholds-table.ensures c.iter.ensures.rest c.below-n.ensures.reaches _ l g h)
