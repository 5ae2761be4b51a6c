-- `all_apart` is its definition: the test of all items.
use mathlib.Core.Path.{sym, ◌∙◌}
use borrow.Author.Rules.{rules}
use Rattle.std.proofs.Common.{tests}
use Rattle.std.proofs.lemmas.Iterator.{YieldsList-from_slice}
use Rattle.std.proofs.lemmas.Iterator.Search.{all_from_yields_List}
use Rattle.roots.specs.Roots.{list_of}
use Rattle.touching.specs.Touching.{apart_by}
use Rattle.touching.proofs.Steps.{apart_all}
use Rattle.touching.proofs.items.all_apart.Goals as goal

pub returns : goal.returns
returns c =
    all_from_yields_List (apart_by c.args.b c.args.y) _ _ _ c.all.ensures.ran (YieldsList-from_slice (list_of c.args.items) (cc))
    (λ x b q k. search (rules, tests))
    ∙ sym (apart_all c.args.b c.args.y (list_of c.args.items))
