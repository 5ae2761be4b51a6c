-- As many as the chain takes; each number that it reads is one of four places.
use mathlib.Core.Path.{◌∙◌}
use Prim.Native.Nat.{ℕ}
use lib.ListN.{take}
use Rattle.std.proofs.Common.{rules, tests}
use Rattle.std.proofs.lemmas.Iterator.{YieldsList-from_slice}
use Rattle.std.proofs.lemmas.Iterator.Adapters.{serves_from_places}
use Rattle.std.proofs.lemmas.Iterator.Consumers.{YieldsList-at, count_from_yields_List}
use Rattle.std.proofs.lemmas.Iterator.Search.{YieldsList-from_take_while}
use Rattle.std.proofs.lemmas.List.Folds.{length-prefix_len}
use Rattle.order.specs.Order.{keys_before, insertion_of}
use Rattle.order.proofs.Laws.{low_places}
use Rattle.order.proofs.place.Goals as goal

pub count-requires-clause-can : goal.count-requires-clause-can
count-requires-clause-can g c =
    let a = c.args in (
      tt,
      serves_from_places (YieldsList-at c.take_while.ensures.source (YieldsList-from_slice (take a.i a.at) (search rules))) (λ x q r. search rules)
          (λ x k l e. let low = low_places a.at a.i k x.now c.requires.places l e in search rules),
    )

pub returns-clause-place : goal.returns-clause-place
unfolding insertion_of
returns-clause-place g c = λ f t.
    let a = c.args in
    let before = λ (j : ℕ). keys_before f a.key j a.i in
    count_from_yields_List c.take_while.result _ c.count.ensures.ran
    (YieldsList-from_take_while _ before (YieldsList-at c.take_while.ensures.source (YieldsList-from_slice (take a.i a.at) (search rules)))
    c.take_while.ensures.closure c.take_while.ensures.done (λ x b q k. search (rules, tests, t)))
    ∙ length-prefix_len before (take a.i a.at)
