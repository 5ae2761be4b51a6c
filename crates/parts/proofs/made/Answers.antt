-- The loop's invariant: the coefficients below t^k are made, and none is too large.
use mathlib.Core.Path.{◌≡◌, sym, ap, ◌∙◌}
use native.Mathlib.Omega.{arith}
use borrow.Author.Rules.{rules}
use Rattle.std.specs.Prelude.{Err}
use Rattle.parts.specs.Part.{value_in}
use Rattle.parts.proofs.Products.{wide_same}
use Rattle.parts.proofs.Joins.{large, made_next, all_made}
use Rattle.parts.proofs.made.Goals as goal

pub returns-in_err-coeffs : goal.returns-in_err-coeffs
returns-in_err-coeffs c =
    let law = large c.args.op _ _ _ _ c.args.a.now.ends c.args.b.now.ends _ c.requires.0 c.requires.1 in
    let is : c.from_residual.result ≡ Err c.in_err-coeffs.field-0.0 = search rules in
    ap value_in is ∙ sym (law c.loop-k.k _ (wide_same c.at-c.result (search rules) ∙ c.at-c.ensures) _ c.in_err-coeffs.ensures)

pub loop-k-preserved : goal.loop-k-preserved
loop-k-preserved c =
    made_next _ _ _ c.loop-k.k _ c.loop-k.invariant (omega arith) _ _ c.in_ok-coeffs.ensures (wide_same c.at-c.result (search rules) ∙ c.at-c.ensures)

pub returns : goal.returns
returns c = all_made c.args.op _ _ _ _ c.args.a.now.ends c.args.b.now.ends _ c.requires.0 c.loop-k.k c.loop-k-test.false c.loop-k.coeffs c.loop-k.invariant
