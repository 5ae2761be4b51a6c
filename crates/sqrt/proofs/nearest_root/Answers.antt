-- The rest says so, or the search.
use Rattle.std.proofs.Common.{◌*◌, ◌^◌, subst, arith, rules, le-leb, ℕ}
use Rattle.nearest.specs.Greatest.{NearestHalf}
use Rattle.sqrt.specs.Root.{square_le}
use Rattle.sqrt.proofs.Squares.{above_all, half_found}
use Rattle.sqrt.proofs.Words.{shifted_lt}
use Rattle.sqrt.proofs.nearest_root.Goals as goal

pub overflow_mul-a : goal.overflow_mul-a
overflow_mul-a c = omega (arith, shifted_lt _ c.args.n.w _ c.shifted-a.ensures c.args.n.short (omega arith))

pub returns-in-Some : goal.returns-in-Some
returns-in-Some c =
    subst (λ (a : ℕ). NearestHalf (square_le (a * 2 ^ 54)) c.in-Some.m) c.shifted-a.ensures c.in-Some.ensures

pub returns-in-None : goal.returns-in-None
returns-in-None c =
    let a = c.shifted-a.ensures in
    let p = c.mul-square.ensures.product in
    half_found c.args.n _ _ _ a p (c.whole_part.ensures.found _ (record { says = λ t b l r. search rules }) (le-leb 0 _ (omega arith))
    (above_all _ _ p (shifted_lt _ _ _ a c.args.n.short (omega arith))))
