-- One more coefficient: k is the smallest that holds the first i + 1. At the end it is the definition's.
use mathlib.Core.Path.{sym}
use native.Mathlib.Omega.{arith}
use borrow.Author.Rules.{rules}
use Rattle.decode.proofs.Class.{decoded_regular}
use Rattle.scaled.proofs.Best.{best_by_digits, best_same, exponent_some}
use Rattle.scaled.proofs.exponent_for.Goals as goal
use Rattle.scaled.proofs.exponent_for.Goals.{in-Some-normal_of, in_default-normal_of}

pub loop-i-preserved : goal.loop-i-preserved
loop-i-preserved c =
    elim c.match-normal_of-2.branch [
      | in-Some-normal_of w ↦
          best_by_digits _ _ _ _ _ _ _ c.in-Some.ensures w.in-Some-normal_of.ensures w.reach.ensures c.loop-i.invariant _ (grind arith) (grind arith)
      | in_default-normal_of w ↦ rw w.k-is (best_same _ _ _ _ _ c.in-Some.ensures w.in_default-normal_of.ensures c.loop-i.invariant)
    ]

pub returns : goal.returns
returns c =
    sym (exponent_some _ _ _ _ (decoded_regular _ _ c.in-Some.ensures) (search rules) c.loop-i-test.false c.loop-i.invariant c.if-k-eq0.false)
