use mathlib.Core.Path.{◌≡◌, refl}
use Prim.Native.Nat.{◌<◌}
use native.Mathlib.Omega.{arith}
use lib.ListN.{length}
use Rattle.std.proofs.Common.{rules}
use Rattle.roots.specs.Roots.{list_of}
use Rattle.roots.proofs.Laws.{length_list}
use Rattle.finish.proofs.Sorted.{few_sorted}
use Rattle.finish.proofs.ordered.Goals as goal

pub returns-then-c-lt2 : goal.returns-then-c-lt2
returns-then-c-lt2 c =
    let a = c.args.c in
    let four : length a.root ≡ 4 = search rules in
    let few : length (list_of a) < 2 = omega (arith, length_list a (four, c.requires), c.if-c-lt2.true) in
    (few_sorted (list_of a) few, refl)
