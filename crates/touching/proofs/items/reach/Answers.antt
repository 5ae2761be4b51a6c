-- `reach` is its definition: the fold over the items.
use mathlib.Core.Path.{sym, ◌∙◌}
use borrow.Author.Rules.{rules}
use Rattle.std.proofs.Common.{tests}
use Rattle.std.proofs.lemmas.Iterator.{YieldsList-from_slice}
use Rattle.std.proofs.lemmas.Iterator.Consumers.{fold_from_yields_List}
use Rattle.roots.specs.Roots.{list_of}
use Rattle.touching.proofs.Steps.{reach_fold}
use Rattle.touching.proofs.items.reach.Goals as goal

pub returns : goal.returns
returns c =
    fold_from_yields_List _ _ _ _ c.fold.ensures.ran (YieldsList-from_slice (list_of c.args.items) (cc)) (λ a x b q k. search (rules, tests))
    ∙ sym (reach_fold c.args.m c.args.far (list_of c.args.items))
