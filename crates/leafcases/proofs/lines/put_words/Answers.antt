use Rattle.std.proofs.Common.{arith}
use Rattle.text.proofs.Laws.{flat_none, written_flat, flat_all}
use Rattle.leafcases.specs.Lines.{word_of}
use Rattle.leafcases.proofs.lines.put_words.Goals as goal

pub loop-word-init : goal.loop-word-init
loop-word-init c = (flat_none word_of _ c.args.words.now, omega arith)

pub loop-word-preserved : goal.loop-word-preserved
loop-word-preserved c =
    let next = written_flat word_of c.args.words.now c.loop-word.word-index _ c.loop-word-test.true c.loop-word.invariant.0 c.put_word.ensures.written in
    (next, omega (arith, c.loop-word.invariant.1, c.put_word.ensures.upper_bound))

pub returns-clause-written : goal.returns-clause-written
returns-clause-written c = flat_all word_of c.args.words.now c.loop-word.word-index (omega arith) c.loop-word.invariant.0
