-- What the functions for one place say. Definitions only.
use Rattle.std.specs.Prelude.{cond, List, ℕ, ltb, get_or, Float}
use Rattle.facts.specs.Arrays.{from_fn}
use Rattle.scaled.specs.declared.Scaled.{Scaled}
use Rattle.roots.specs.Roots.{list_of}
use Rattle.roots.specs.Listed.{blank}
use Rattle.roots.specs.declared.RealRoot.{RealRoot}
use Rattle.roots.specs.declared.Roots.{Roots}
use Rattle.finish.specs.Finish.{Ordered, ordered_at, polished_at, polished_of}

-- a root, and the distance to its nearest neighbour
abbrev pub place_of : RealRoot → Float → Ordered
place_of r gap = record { value = r.value; multiplicity = r.multiplicity; gap = gap }

-- place k of an array of four: polished where it counts
abbrev pub place_polished : Scaled → Roots → ℕ → RealRoot
place_polished poly o k = cond (ltb k o.len) (polished_at 4 poly (ordered_at (list_of o) k)) (get_or o.root k blank)

-- all places of an array, polished
abbrev pub places_polished : Scaled → Roots → List RealRoot
places_polished poly o = polished_of 4 poly (from_fn o.len (ordered_at (list_of o)))
