-- By the place of v, and inside by the test for s.
use Rattle.std.proofs.Common.{◌∙◌, refl, true, false}
use lib.Ieee.{of_bits, odd}
use lib.Count.{count_trailing_zeros}
use Rattle.angle.proofs.Binades.{least_passes, place_bounds}
use Rattle.angle.proofs.SineCases.{exact_none, exact_tiny, exact_inside, exact_one}
use Rattle.angle.proofs.exact.exact_sin.Goals as goal

pub returns-in_default : goal.returns-in_default
unfolding of_bits odd count_trailing_zeros
returns-in_default c = exact_none _ c.in_default.ensures c.requires.finite

pub returns-then-d-lt1020 : goal.returns-then-d-lt1020
unfolding of_bits odd count_trailing_zeros
returns-then-d-lt1020 c = exact_tiny _ _ c.in-Some.ensures c.if-d-lt1020.true

pub near_sin-place-requires : goal.near_sin-place-requires
near_sin-place-requires c =
    rw c.gap_of.ensures (least_passes _ _ _ c.in-Some.d.short c.if-d-lt1074.true)

pub from_units-requires-clause-w_low : goal.from_units-requires-clause-w_low
from_units-requires-clause-w_low c = (place_bounds _ _ _ _ c.near_sin-place.ensures).0

pub from_units-requires-clause-w_high : goal.from_units-requires-clause-w_high
from_units-requires-clause-w_high c = (place_bounds _ _ _ _ c.near_sin-place.ensures).1

pub returns-then-d-lt1074 : goal.returns-then-d-lt1074
unfolding of_bits
returns-then-d-lt1074 c =
    let p = rw c.gap_of.ensures at c.near_sin-place.ensures in
    c.from_units.ensures ∙ exact_inside _ _ c.in-Some.ensures _ refl c.if-d-lt1020.false c.if-d-lt1074.true _ _ p.binade p.half

pub returns-then-below : goal.returns-then-below
unfolding of_bits odd count_trailing_zeros
returns-then-below c = exact_one _ _ c.in-Some.ensures true c.if-below.true c.if-d-lt1074.false c.requires.inside

pub returns-else-below : goal.returns-else-below
returns-else-below c = exact_one _ _ c.in-Some.ensures false c.if-below.false c.if-d-lt1074.false c.requires.inside
