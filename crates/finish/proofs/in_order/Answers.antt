use mathlib.Core.Path.{refl}
use Rattle.std.proofs.Common.{rules}
use Rattle.float.specs.Methods.{total_le_of}
use Rattle.float.proofs.Made.{made_by}
use Rattle.finish.specs.Finish.{value_at}
use Rattle.finish.proofs.Places.{values_made, read_at, ordered_is}
use Rattle.finish.proofs.in_order.Goals as goal

pub returns : goal.returns
returns c =
    let a = c.args.c.now in
    let read = made_by _ (value_at a.root) _ _ _ (λ i y q l k. search rules) c.from_fn-values.ensures.items in
    let made = made_by _ (read_at a.root c.sorted-at.result) _ _ _ (λ i y q l k. search rules) c.from_fn.ensures.items in
    (ordered_is a _ _ _ c.requires.1 c.requires.0 (values_made a.root read) (c.sorted-at.ensures.order total_le_of (λ x y r t. search rules)) made, refl)
