use Rattle.std.proofs.Common.{arith}
use Rattle.leafcases.proofs.Files.{sofar_none, sofar_end, sofar_bad, sofar_next}
use Rattle.leafcases.proofs.lines.put_records.Goals as goal

pub loop-at-init : goal.loop-at-init
loop-at-init c = (sofar_none _ _, omega arith, omega arith)

pub returns-then-not-put_record-clause-written : goal.returns-then-not-put_record-clause-written
returns-then-not-put_record-clause-written c = sofar_bad c.loop-at.invariant.0 c.loop-at-test.true c.if-not-put_record.ensures c.bytes.ensures

pub loop-at-preserved : goal.loop-at-preserved
loop-at-preserved c =
    let next = sofar_next c.loop-at.invariant.0 c.loop-at-test.true c.if-not-put_record.ensures in
    (next.0, omega arith, omega (arith, c.loop-at.invariant.2, next.1))

pub returns-clause-written : goal.returns-clause-written
returns-clause-written c = sofar_end c.loop-at.invariant.0 c.loop-at-test.false

pub returns-else-not-put_record-clause-written : goal.returns-else-not-put_record-clause-written
returns-else-not-put_record-clause-written c =
    sofar_end (sofar_next c.loop-at.invariant.0 c.loop-at-test.true c.if-not-put_record.ensures).0 (omega arith)
