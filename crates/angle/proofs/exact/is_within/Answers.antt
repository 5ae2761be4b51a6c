-- What the upper words leave of the gap is more than the others make up.
use Rattle.std.proofs.Common.{◌+◌, ◌*◌, ◌^◌, ◌≤◌, arith}
use Rattle.wide.specs.Quad.{quad_of}
use Rattle.angle.proofs.Tripled.{under_is}
use Rattle.angle.proofs.exact.is_within.Goals as goal

pub returns-then-rest-gt0 : goal.returns-then-rest-gt0
returns-then-rest-gt0 c =
    let q = c.args.q in
    let rest = c.difference-over.result.0 in
    let least : 2 ^ 129 ≤ quad_of rest = grind (arith, c.then-rest-gt0.either) in
    under_is (q.w3 * 2 ^ 64 + q.w2) (q.w1 * 2 ^ 64 + q.w0) (quad_of q) (quad_of c.args.gap) (omega arith) c.args.below (omega arith) (omega arith)
    (omega (arith, rw c.if-over.false at c.difference-over.ensures.value, c.product.ensures))
