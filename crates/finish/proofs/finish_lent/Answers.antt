-- One alone is in order; more are put in order.
use mathlib.Core.Path.{refl, ◌∙◌}
use Prim.Native.Nat.{◌<◌}
use native.Mathlib.Omega.{arith}
use lib.ListN.{length}
use Rattle.roots.specs.Roots.{list_of}
use Rattle.roots.proofs.Laws.{length_list}
use Rattle.finish.proofs.Sorted.{few_sorted}
use Rattle.finish.proofs.Each.{ordered_sum, all_finished}
use Rattle.finish.proofs.finish_lent.Goals as goal

pub returns-then-c-le1 : goal.returns-then-c-le1
returns-then-c-le1 c =
    let a = c.args.c.now in
    let fits = c.requires.c_fits.0 in
    let few : length (list_of a) < 2 = omega (arith, length_list a fits, c.if-c-le1.true) in
    c.joined.ensures ∙ all_finished _ _ a a fits.0 fits.1 (few_sorted (list_of a) few) refl

pub joined-requires-2 : goal.joined-requires-2
joined-requires-2 c = rw (c.in_order.ensures.0, ordered_sum _) c.requires.c_fits.1

pub returns : goal.returns
returns c =
    let fits = c.requires.c_fits.0 in
    c.joined-2.ensures ∙ all_finished _ _ c.args.c.now c.in_order.result fits.0 fits.1 c.in_order.ensures.0 c.in_order.ensures.1
