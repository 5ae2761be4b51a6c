use Rattle.text.proofs.Laws.{written_next}
use Rattle.text.proofs.Text.bytes.Goals as goal

pub loop-b-preserved : goal.loop-b-preserved
loop-b-preserved c = written_next c.args.s.now c.loop-b.b-index c.loop-b-test.true c.loop-b.invariant c.byte.ensures
