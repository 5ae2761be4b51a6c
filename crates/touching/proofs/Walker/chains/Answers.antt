-- The items left, from where the walk is, give the whole walk.
use mathlib.Core.Path.{refl, ◌∙◌}
use native.Mathlib.Omega.{arith}
use Rattle.roots.specs.Roots.{list_of}
use Rattle.roots.specs.Listed.{blank}
use Rattle.roots.proofs.Laws.{length_list}
use Rattle.touching.specs.Touching.{item_turn}
use Rattle.touching.proofs.Steps.{links_err, each_asks, each_goes, each_ends, sum_next}
use Rattle.touching.proofs.Walker.chains.Goals as goal

pub loop-it-init : goal.loop-it-init
loop-it-init c =
    rw c.default.ensures (record {
      items = refl;
      tidy = (refl, omega arith);
      length = omega arith;
      counted = omega arith;
      mult = omega (arith, c.requires.1);
      touching = omega arith;
      walk = refl;
    })

pub item_turn-requires : goal.item_turn-requires
item_turn-requires c =
    let inv = c.loop-it.invariant in
    let few = length_list c.args.its c.requires.0 in
    let sum = sum_next (list_of c.args.its) blank c.loop-it.it-index c.loop-it-test.true in
    record {
      tidy = inv.tidy;
      length = omega (arith, inv.length, c.loop-it-test.true, few, c.requires.0.1);
      counted = inv.counted;
      mult = omega (arith, inv.mult, sum);
      touching = omega (arith, inv.touching, c.loop-it-test.true, few, c.requires.0.1);
    }

pub returns-in_err-w : goal.returns-in_err-w
returns-in_err-w c =
    let s = c.args.self.now in
    links_err s.replies _ _ _ _ c.from_residual.ensures
    (each_asks (item_turn s.poly s.tol) _ blank c.loop-it.it-index _ _ _ c.loop-it-test.true c.in_err-w.ensures.0 ∙ c.loop-it.invariant.walk)

pub loop-it-preserved : goal.loop-it-preserved
loop-it-preserved c =
    let s = c.args.self.now in
    let inv = c.loop-it.invariant in
    let sum = sum_next (list_of c.args.its) blank c.loop-it.it-index c.loop-it-test.true in
    let adds = c.in_ok-w.ensures.1 in
    record {
      items = inv.items;
      tidy = adds.tidy;
      length = omega (arith, inv.length, adds.length);
      counted = adds.counted;
      mult = omega (arith, inv.mult, sum, adds.mult);
      touching = omega (arith, inv.touching, adds.touching);
      walk = each_goes (item_turn s.poly s.tol) _ blank c.loop-it.it-index _ _ _ _ c.loop-it-test.true c.in_ok-w.ensures.0 ∙ inv.walk;
    }

pub returns : goal.returns
returns c =
    let s = c.args.self.now in
    let inv = c.loop-it.invariant in
    let few = length_list c.args.its c.requires.0 in
    let end = c.loop-it.auto.it-index-end in (
      each_ends (item_turn s.poly s.tol) _ blank c.loop-it.it-index _ _ c.loop-it-test.false ∙ inv.walk,
      (inv.tidy, omega (arith, inv.length, few, c.requires.0.1, end)),
    )
