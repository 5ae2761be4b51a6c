-- The pairs left, from where the walk is, give the whole walk.
use mathlib.Core.Path.{ap, ◌∙◌}
use mathlib.Core.List.{List}
use native.Mathlib.Omega.{arith}
use lib.ListN.{length}
use Rattle.roots.specs.declared.Pair.{Pair}
use Rattle.roots.specs.Listed.{blank_pair}
use Rattle.roots.specs.Roots.{list_of}
use Rattle.asking.specs.Asking.{walked, each}
use Rattle.touching.specs.Touching.{pair_turn}
use Rattle.touching.specs.Replies.{replies_of}
use Rattle.touching.proofs.Lists.{length_order}
use Rattle.touching.proofs.Steps.{walk_err, each_asks, each_goes, each_ends}
use Rattle.touching.proofs.Walker.pairs.Goals as goal

pub loop-p-init : goal.loop-p-init
loop-p-init c =
    let s = c.args.self.now in
    let pre = c.requires in
    let order = c.narrower_first-order.ensures in
    record {
      order = order;
      fits = pre.0;
      room = omega (arith, pre.2);
      sum = omega (arith, pre.3);
      walk = ap (λ (l : List Pair). walked (replies_of s.replies) (each (pair_turn s.poly s.tol) (list_of c.args.items) l)) order;
    }

pub pair_turn-requires : goal.pair_turn-requires
pair_turn-requires c =
    let inv = c.loop-p.invariant in
    let all = ap (λ (l : List Pair). length l) inv.order ∙ length_order c.args.ps c.requires.1 in
    (inv.fits, omega (arith, inv.room, all, c.loop-p-test.true))

pub returns-in_err-w : goal.returns-in_err-w
returns-in_err-w c =
    let s = c.args.self.now in
    walk_err s.replies _ _ _ _ c.from_residual.ensures
    (each_asks (pair_turn s.poly s.tol) _ blank_pair c.loop-p.p-index _ _ _ c.loop-p-test.true c.in_err-w.ensures.0 ∙ c.loop-p.invariant.walk)

pub loop-p-preserved : goal.loop-p-preserved
loop-p-preserved c =
    let s = c.args.self.now in
    let inv = c.loop-p.invariant in
    let all = ap (λ (l : List Pair). length l) inv.order ∙ length_order c.args.ps c.requires.1 in
    let adds = c.in_ok-w.ensures.1 in
    record {
      order = inv.order;
      fits = adds.0;
      room = omega (arith, inv.room, all, c.loop-p-test.true, adds.1);
      sum = omega (arith, inv.sum, all, c.loop-p-test.true, adds.2);
      walk = each_goes (pair_turn s.poly s.tol) _ blank_pair c.loop-p.p-index _ _ _ _ c.loop-p-test.true c.in_ok-w.ensures.0 ∙ inv.walk;
    }

pub returns : goal.returns
returns c =
    let s = c.args.self.now in
    let inv = c.loop-p.invariant in
    (each_ends (pair_turn s.poly s.tol) _ blank_pair c.loop-p.p-index _ _ c.loop-p-test.false ∙ inv.walk, (inv.fits, omega (arith, inv.sum)))
