-- The words of a listing, in ASCII. Definitions only.
use Rattle.std.specs.Prelude.{ℕ, List, [], ◌∷◌}
use Rattle.roots.specs.declared.RootKind.{RootKind}
use Rattle.roots.specs.declared.RootKind.TheVariants.{Crossing, Brush, Flat}

-- `refused` and a blank
abbrev pub refused : List ℕ
refused = 114 ∷ 101 ∷ 102 ∷ 117 ∷ 115 ∷ 101 ∷ 100 ∷ 32 ∷ []

-- `ok` and a blank
abbrev pub ok : List ℕ
ok = 111 ∷ 107 ∷ 32 ∷ []

-- `two`
abbrev pub two : List ℕ
two = 116 ∷ 119 ∷ 111 ∷ []

-- `one`
abbrev pub one : List ℕ
one = 111 ∷ 110 ∷ 101 ∷ []

-- `linear`
abbrev pub linear : List ℕ
linear = 108 ∷ 105 ∷ 110 ∷ 101 ∷ 97 ∷ 114 ∷ []

-- `degenerate`
abbrev pub degenerate : List ℕ
degenerate = 100 ∷ 101 ∷ 103 ∷ 101 ∷ 110 ∷ 101 ∷ 114 ∷ 97 ∷ 116 ∷ 101 ∷ []

-- `empty`
abbrev pub empty : List ℕ
empty = 101 ∷ 109 ∷ 112 ∷ 116 ∷ 121 ∷ []

-- a root's kind: 'c, b or f'
abbrev pub letter_of : RootKind → ℕ
letter_of Crossing = 99
letter_of Brush = 98
letter_of Flat = 102
