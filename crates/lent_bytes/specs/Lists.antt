-- A list of roots as doubles. Definitions only.
use Rattle.std.specs.Prelude.{List, [], ◌∷◌, ◌++◌, ℕ, get_or, Float}
use Rattle.roots.specs.declared.Roots.{Roots}
use Rattle.roots.specs.Roots.{kind_number}
use Rattle.roots.specs.Listed.{blank}
use Rattle.lent_bytes.specs.Numbers.{number}

-- place, multiplicity and kind of the root i
abbrev pub root_at : Roots → ℕ → List Float
root_at s i = let r = get_or s.root i blank in r.value ∷ number r.multiplicity ∷ number (kind_number r.kind) ∷ []

-- how many roots there are, and the four places with their multiplicities and kinds
unfoldable pub root_numbers : Roots → List Float
root_numbers s = number s.len ∷ (root_at s 0 ++ (root_at s 1 ++ (root_at s 2 ++ root_at s 3)))
