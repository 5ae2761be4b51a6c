-- What the code of `refine` has of the equations at a place: the magnitudes of their terms, the weighted residuals and their norm. Definitions only.
use Rattle.std.specs.Prelude.{ℕ, List, Float}
use Rattle.refine.specs.Refine.{weighted_of, norm_of}
use Rattle.refine.specs.declared.Weighed.{Weighed}

-- at the residuals r: `mag`, `w` and `current` of `refine`
unfoldable pub weigh_of : (n : ℕ) → List Float → List Float → Weighed n
weigh_of n r mag = let w = weighted_of n r mag in record { mag = mag; w = w; norm = norm_of w }
