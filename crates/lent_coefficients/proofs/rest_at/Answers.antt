-- What is left behind i, joined to the present number, gives the whole.
use native.Mathlib.Omega.{arith}
use mathlib.Core.Path.{refl, sym, ◌∙◌}
use Rattle.poly.specs.Short.{rest_of}
use Rattle.lent_coefficients.proofs.Reading.{rest_next, rest_end}
use Rattle.lent_coefficients.proofs.rest_at.Goals as goal

pub loop-i-init : goal.loop-i-init
unfolding rest_of
loop-i-init c = refl

pub loop-i-preserved : goal.loop-i-preserved
loop-i-preserved c =
    let s = c.args.s.now in
    rw c.rest_with-rest.ensures (sym (rest_next s c.loop-i.i c.loop-i.rest _ (omega arith) c.f64_at.ensures) ∙ c.loop-i.invariant)

pub returns : goal.returns
returns c =
    let s = c.args.s.now in
    sym (rest_end s c.loop-i.i c.loop-i.rest (omega arith)) ∙ c.loop-i.invariant
