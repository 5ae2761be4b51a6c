-- The root of |disc| serves where disc is not below 0.
use mathlib.Core.Path.{◌≡◌}
use mathlib.Core.Bool.{false}
use lib.Ieee.{Float, lt}
use Rattle.float.specs.Literals.{zero64}
use Rattle.float.specs.Methods.{abs_of}
use Rattle.sqrt.specs.Root.{sqrt_of}
use Rattle.sqrt.proofs.Size.{signed_root}
use Rattle.equation.specs.Quadratic.{two_of}

pub same_two : (a b c disc : Float) → lt disc zero64 ≡ false → two_of a b c (sqrt_of (abs_of disc)) ≡ two_of a b c (sqrt_of disc)
unfolding two_of
same_two a b c disc h = rw (signed_root disc b h)
