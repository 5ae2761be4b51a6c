-- There is a c, so v is from -1 to 1.
use Rattle.angle.proofs.Cases.{inside}
use Rattle.angle.proofs.third_angle.Goals as goal

pub exact_sin-requires-clause-finite : goal.exact_sin-requires-clause-finite
exact_sin-requires-clause-finite c = (inside _ _ c.in-Some.ensures).0

pub exact_sin-requires-clause-inside : goal.exact_sin-requires-clause-inside
exact_sin-requires-clause-inside c = (inside _ _ c.in-Some.ensures).1
