-- The loop's invariant: the products before the i-th are added up. Those that the loop leaves out are zeros.
use native.Mathlib.Omega.{arith}
use borrow.Author.Rules.{rules}
use Rattle.parts.proofs.Products.{added_none, added_fits, added_turn, added_all}
use Rattle.parts.proofs.product_at.Goals as goal

pub loop-i-init : goal.loop-i-init
loop-i-init c = added_none _ _ _ _ _ c.args.a.now.ends c.args.b.now.ends _ (search rules)

pub overflow_add-sum : goal.overflow_add-sum
overflow_add-sum c = added_fits _ _ _ _ _ c.args.a.now.ends c.args.b.now.ends c.loop-i.i (omega arith) c.requires _ c.loop-i.invariant

pub loop-i-preserved : goal.loop-i-preserved
loop-i-preserved c = added_turn _ _ _ _ _ c.args.a.now.ends c.args.b.now.ends c.loop-i.i (omega arith) c.requires _ c.loop-i.invariant

pub returns : goal.returns
returns c = added_all _ _ _ _ _ c.args.a.now.ends c.args.b.now.ends c.loop-i.i _ (λ h. omega arith) c.loop-i.invariant
