-- Behind the count, after i turns, stand the first i roots.
use native.Mathlib.Omega.{arith}
use lib.ListN.{get_or}
use Rattle.text.proofs.Laws.{written_then, flat_none, written_flat, flat_all}
use Rattle.roots.specs.Roots.{list_of}
use Rattle.roots.specs.Listed.{blank}
use Rattle.roots.proofs.Laws.{length_list}
use Rattle.listing.specs.Lines.{root_text, roots_text}
use Rattle.listing.proofs.Texts.{root_length, count_length, each_short}
use Rattle.listing.proofs.lines.put_roots.Goals as goal

pub loop-root-init : goal.loop-root-init
loop-root-init c = (omega arith, flat_none root_text c.decimal.new.self (list_of c.args.roots))

pub put_root-requires : goal.put_root-requires
put_root-requires c = (
  omega (arith, count_length c.args.roots c.requires.1, length_list c.args.roots c.requires.1.fits, c.requires.1.fits.1),
  each_short c.args.roots c.loop-root.root-index _ c.requires.1 c.loop-root-test.true,
)

pub loop-root-preserved : goal.loop-root-preserved
loop-root-preserved c =
    let l = list_of c.args.roots in
    let i = c.loop-root.root-index in (
      omega (arith, root_length (get_or l i blank) (each_short c.args.roots i blank c.requires.1 c.loop-root-test.true)),
      written_flat root_text l i blank c.loop-root-test.true c.loop-root.invariant.1 c.put_root.ensures,
    )

pub returns : goal.returns
unfolding roots_text
returns c =
    written_then c.decimal.ensures (flat_all root_text (list_of c.args.roots) c.loop-root.root-index (omega arith) c.loop-root.invariant.1)
