-- A file that is too long has one line; else each turn stores the next line of the listing, and adds its total.
use native.Mathlib.Omega.{arith}
use mathlib.Core.Path.{ap, ◌∙◌}
use Prim.Native.Nat.{◌<◌}
use Rattle.text.proofs.Laws.{written_as}
use Rattle.listing.specs.Lines.{line_of}
use Rattle.listing.specs.Totals.{record_total}
use Rattle.listing.proofs.Totals.{same_total}
use Rattle.records.proofs.Places.{record_sound}
use Rattle.listing.proofs.Reading.{sofar_none, sofar_short, sofar_next, sofar_fits, sofar_all, sofar_total, falls, too_long, too_long_total}
use Rattle.listing.proofs.put_lines.Goals as goal

pub returns-then-s-gt65536-clause-text : goal.returns-then-s-gt65536-clause-text
returns-then-s-gt65536-clause-text c =
    written_as (ap (line_of c.args.sine 0 c.args.s.now 0) c.ended-none.ensures ∙ too_long _ c.args.s.now c.if-s-gt65536.true) c.put_line.ensures.text

pub returns-then-s-gt65536-clause-total : goal.returns-then-s-gt65536-clause-total
returns-then-s-gt65536-clause-total c =
    c.put_line.ensures.total ∙ ap (record_total c.args.sine c.args.s.now 0) c.ended-none.ensures ∙ too_long_total _ c.args.s.now c.if-s-gt65536.true

pub loop-at-init : goal.loop-at-init
loop-at-init c =
    let zeros = c.default-total.ensures in
    sofar_none _ _ c.args.s.now (same_total zeros.0 zeros.1.0 zeros.1.1)

pub loop-at-preserved : goal.loop-at-preserved
loop-at-preserved c =
    sofar_next c.loop-at.invariant c.loop-at-test.true c.record_at-found.ensures c.put_line-line.ensures.total c.add_assign.ensures.after
    c.put_line-line.ensures.text

pub put_line-line-requires : goal.put_line-line-requires
put_line-line-requires c =
    let few : c.loop-at.total.records < 99999 = omega (arith, c.loop-at.invariant.counted, c.loop-at-test.true, c.if-s-gt65536.false) in
    let sound = record_sound c.args.s.now c.loop-at.at c.record_at-found.result c.record_at-found.ensures in
    (omega (arith, sofar_short c.loop-at.invariant c.if-s-gt65536.false), (omega (arith, few), sound))

pub add_assign-requires : goal.add_assign-requires
add_assign-requires c =
    sofar_fits c.loop-at.invariant c.if-s-gt65536.false c.loop-at-test.true
    (c.put_line-line.ensures.total ∙ ap (record_total c.args.sine c.args.s.now c.loop-at.at) c.record_at-found.ensures)

pub loop-at-smaller : goal.loop-at-smaller
loop-at-smaller c =
    falls c.args.s.now c.loop-at.at c.loop-at-test.true c.record_at-found.result c.record_at-found.ensures

pub returns-clause-text : goal.returns-clause-text
returns-clause-text c = sofar_all c.loop-at.invariant c.if-s-gt65536.false c.loop-at-test.false

pub returns-clause-total : goal.returns-clause-total
returns-clause-total c = sofar_total c.loop-at.invariant c.if-s-gt65536.false c.loop-at-test.false
