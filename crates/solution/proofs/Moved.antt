-- An answer whose places are all moved.
use mathlib.Core.Path.{◌≡◌}
use lib.Ieee.{Float}
use Rattle.float.specs.Rounded.{◌+ᶠ◌}
use Rattle.solution.specs.declared.QuadraticSolution.{QuadraticSolution}
use Rattle.solution.specs.declared.QuadraticSolution.TheVariants.{Two, One, Linear, Degenerate, Empty}
use Rattle.solution.specs.Solution.{Mapped, shifted_of}

pub shifted : {f : Float → Float → Type 0} (s : QuadraticSolution) (t0 : Float) {t : QuadraticSolution} → Mapped f s t
    → ((x y : Float) → f x y → y ≡ t0 +ᶠ x) → t ≡ shifted_of s t0
unfolding Mapped shifted_of
shifted (Two x y) t0 m by = rw (m.4, by x m.0 m.2, by y m.1 m.3)
shifted (One x) t0 m by = rw (m.2, by x m.0 m.1)
shifted (Linear x) t0 m by = rw (m.2, by x m.0 m.1)
shifted Degenerate t0 m by = m
shifted Empty t0 m by = m
