-- The fold has tested each number.
use mathlib.Core.Path.{◌∙◌}
use mathlib.Core.Bool.{Bool, true, ◌&&◌}
use lib.Ieee.{Float}
use Rattle.std.proofs.Common.{rules, tests}
use Rattle.std.proofs.lemmas.Iterator.{YieldsList-from_slice}
use Rattle.std.proofs.lemmas.Iterator.Consumers.{fold_from_yields_List}
use Rattle.float.specs.Methods.{is_finite_of}
use Rattle.float.proofs.Finite.{fold_finite}
use Rattle.float.proofs.all_finite.Goals as goal

pub returns : goal.returns
returns c =
    fold_from_yields_List _ (λ (a : Bool) (x : Float). a && is_finite_of x) true c.fold.result c.fold.ensures.ran
    (YieldsList-from_slice c.args.s.now (search rules)) (λ a x b q k. search (rules, tests))
    ∙ fold_finite c.args.s.now true
