-- Each turn lists one root more.
use mathlib.Core.Path.{◌∙◌}
use native.Mathlib.Omega.{arith}
use lib.Seq.{get_or-take}
use Rattle.roots.specs.Listed.{blank}
use Rattle.poly.proofs.Arrays.{unscaled_turn}
use Rattle.poly.proofs.unscaled_all.Goals as goal

pub loop-r-preserved : goal.loop-r-preserved
loop-r-preserved c =
    rw (c.loop-r.invariant, c.ldexp.ensures, get_or-take c.args.s.now.len c.args.s.now.root c.loop-r.r-index blank (omega arith)) at c.keep-out.ensures
    ∙ unscaled_turn _ c.args.s.now c.loop-r.r-index c.requires (omega arith)
