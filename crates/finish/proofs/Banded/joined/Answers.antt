-- Each turn polishes a place and joins it.
use Rattle.std.proofs.Common.{rules}
use native.Mathlib.Omega.{arith}
use Rattle.finish.proofs.Each.{none_joined, place_joined, both_joined, more_joined, all_joined}
use Rattle.finish.proofs.Banded.joined.Goals as goal

pub returns-then-n-eq0 : goal.returns-then-n-eq0
returns-then-n-eq0 c = none_joined _ _ c.args.o.now.roots.now c.if-n-eq0.true c.default-out.ensures

pub loop-k-init : goal.loop-k-init
loop-k-init c =
    place_joined _ _ c.args.o.now.roots.now _ c.args.o.now.fits.0 c.args.o.now.fits.1 (omega (arith, c.if-n-eq0.false)) c.requires
    c.place_polished.ensures c.default-out.ensures

pub next_run-run-requires : goal.next_run-run-requires
next_run-run-requires c =
    both_joined _ _ c.args.o.now.roots.now _ _ c.loop-k.invariant _ (search rules) c.place_polished-in-loop-k.ensures

pub loop-k-preserved : goal.loop-k-preserved
loop-k-preserved c =
    more_joined _ _ c.args.o.now.roots.now _ _ c.loop-k.invariant _ (search rules) c.place_polished-in-loop-k.ensures c.next_run-run.ensures

pub returns : goal.returns
returns c = all_joined _ _ c.args.o.now.roots.now _ _ c.loop-k.invariant (search rules) c.keep_root.ensures
