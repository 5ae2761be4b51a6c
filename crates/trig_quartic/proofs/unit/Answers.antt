-- The table is that of the definition, its bits read.
use mathlib.Core.Path.{refl}
use lib.Ieee.{of_bits, neg}
use Rattle.trig_quartic.specs.Crank.{eighth_of}
use Rattle.trig_quartic.proofs.unit.Goals as goal

pub returns : goal.returns
unfolding eighth_of of_bits neg
returns c = refl
