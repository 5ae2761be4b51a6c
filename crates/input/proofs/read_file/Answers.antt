-- What was read, by what the last read meant.
use Rattle.std.proofs.Common.{rules, arith, ◌≡◌, Ok, Some, None}
use Rattle.input.specs.Answers.{meaning_of}
use Rattle.input.proofs.Laws.{leaves_by, still, grown}
use Rattle.input.proofs.read_file.Goals as goal

pub returns-in-None-clause-bytes : goal.returns-in-None-clause-bytes
returns-in-None-clause-bytes g c =
    let is : Ok None ≡ meaning_of c.read-got.result = cc (c.in_ok-meaning.was, c.in-None.is, c.meaning.ensures) in
    let left = leaves_by _ _ c.read-got.result c.read-got.new.buf _ (omega arith) c.read-got.ensures.bound c.read-got.ensures.bytes is in
    still _ _ _ c.loop-done.buf c.read-got.new.buf c.loop-done.done _ (omega arith) c.loop-done.invariant.2 left.0

pub returns-in-None-clause-end : goal.returns-in-None-clause-end
returns-in-None-clause-end g c =
    let is : Ok None ≡ meaning_of c.read-got.result = cc (c.in_ok-meaning.was, c.in-None.is, c.meaning.ensures) in
    let left = leaves_by _ _ c.read-got.result c.read-got.new.buf _ (omega arith) c.read-got.ensures.bound c.read-got.ensures.bytes is in
    λ _. left.1

pub overflow_add-done : goal.overflow_add-done
overflow_add-done g c =
    let is : Ok (Some c.in-Some.more) ≡ meaning_of c.read-got.result = cc (c.in_ok-meaning.was, c.in-Some.is, c.meaning.ensures) in
    let left = leaves_by _ _ c.read-got.result c.read-got.new.buf _ (omega arith) c.read-got.ensures.bound c.read-got.ensures.bytes is in
    omega (arith, left.1)

pub loop-done-smaller : goal.loop-done-smaller
loop-done-smaller g c =
    let is : Ok (Some c.in-Some.more) ≡ meaning_of c.read-got.result = cc (c.in_ok-meaning.was, c.in-Some.is, c.meaning.ensures) in
    let left = leaves_by _ _ c.read-got.result c.read-got.new.buf _ (omega arith) c.read-got.ensures.bound c.read-got.ensures.bytes is in
    omega (arith, left.0, left.1)

pub loop-done-preserved : goal.loop-done-preserved
loop-done-preserved g c =
    let is : Ok (Some c.in-Some.more) ≡ meaning_of c.read-got.result = cc (c.in_ok-meaning.was, c.in-Some.is, c.meaning.ensures) in
    let left = leaves_by _ _ c.read-got.result c.read-got.new.buf _ (omega arith) c.read-got.ensures.bound c.read-got.ensures.bytes is in (
      search rules,
      omega (arith, left.1),
      grown _ _ _ c.loop-done.buf c.read-got.new.buf c.loop-done.done _ _ (omega arith) left.1 c.loop-done.invariant.2 left.2,
    )
