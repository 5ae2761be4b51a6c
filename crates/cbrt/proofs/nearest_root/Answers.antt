-- The guess, where the test says so, or the search.
use Rattle.std.proofs.Common.{ℕ, ◌*◌, ◌^◌, refl, sym, subst, arith, rules}
use Rattle.nearest.specs.Greatest.{NearestHalf, Sized}
use Rattle.nearest.proofs.Powers as powers
use Rattle.cbrt.specs.Root.{cube_le}
use Rattle.cbrt.proofs.Cubes.{cubes, shifted_lt}
use Rattle.cbrt.proofs.nearest_root.Goals as goal

pub near_half-requires : goal.near_half-requires
near_half-requires c = let l = shifted_lt _ c.args.n.w _ c.shifted-a.ensures c.args.n.short (omega arith) in search rules

pub returns : goal.returns
returns c =
    let a = c.shifted-a.ensures in
    subst (λ (a : ℕ). NearestHalf (cube_le (a * 2 ^ 107)) c.near_half.result) a
    (c.near_half.ensures _ (record { says = λ t b l r. search rules }) (powers.monotone 3 _ cubes _)
    (subst (λ (a : ℕ). Sized (cube_le (a * 2 ^ 107))) (sym a) (powers.sized 3 _ cubes 107 refl c.args.n)))
