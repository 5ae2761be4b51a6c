use Rattle.parts.proofs.Products.{Added}
use Rattle.parts.proofs.product_at.Given as goal

abbrev pub invariant-loop-i : goal.invariant-loop-i
invariant-loop-i l = Added l.a.coeffs l.b.coeffs l.k l.i l.sum
