-- Each turn sorts one number more.
use Prim.Native.Nat.{◌<◌}
use Rattle.std.proofs.Common.{rules}
use Rattle.float.proofs.Made.{made_by}
use Rattle.order.specs.Order.{entry_of}
use Rattle.order.proofs.Laws.{entries_turn, entries_places}
use Rattle.order.proofs.sorted.Goals as goal

pub loop-i-preserved : goal.loop-i-preserved
loop-i-preserved g c =
    let at = c.loop-i.at in
    let i = c.loop-i.i-counter in
    let p = c.place-p.result in
    let low : i < 4 = search rules in
    let made = made_by _ (entry_of at i p) _ _ _ (λ k y q l r. search rules) c.from_fn-next.ensures.items in (
      (λ f t. entries_turn f _ at _ i p (c.loop-i.invariant.0 f t) low (c.place-p.ensures.place f t) made),
      entries_places at _ i p c.loop-i.invariant.1 low made,
    )
