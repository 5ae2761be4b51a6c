-- What is left of the walk when its last item is behind it: the last chain ends.
use mathlib.Core.Path.{◌≡◌}
use native.Mathlib.Omega.{arith}
use borrow.Author.Rules.{rules}
use Rattle.roots.specs.Roots.{list_of}
use Rattle.touching.specs.Touching.{emitted}
use Rattle.touching.specs.Walk.{chain_of}
use Rattle.touching.proofs.Steps.{walk_err, chained_asks, chained_ends, counts_most}
use Rattle.touching.proofs.Walker.chained.Goals as goal

pub returns-in_err-w : goal.returns-in_err-w
returns-in_err-w c =
    let s = c.args.self.now in
    walk_err s.replies _ _ _ _ c.from_residual.ensures (chained_asks s.poly s.tol _ _ _ c.in_err-w.ensures.0)

pub emit-items-requires : goal.emit-items-requires
emit-items-requires c =
    let is = c.in_ok-w.ensures.1 in
    (is.0, omega (arith, is.1, counts_most c.in_ok-w.w.chain))

pub returns : goal.returns
returns c =
    let s = c.args.self.now in
    let w = c.in_ok-w.w in
    let last : list_of c.emit-items.result ≡ emitted s.poly.e (list_of w.out) (chain_of w.chain) = (let h = c.emit-items.ensures.0 in search rules) in
    (rw last (chained_ends s.poly s.tol _ _ _ _ _ c.in_ok-w.ensures.0), c.emit-items.ensures.1)
