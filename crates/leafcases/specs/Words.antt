-- The words of the lines, in ASCII. Definitions only.
use Rattle.std.specs.Prelude.{ℕ, List, [], ◌∷◌}

-- `sqrt`
abbrev pub sqrt_word : List ℕ
sqrt_word = 115 ∷ 113 ∷ 114 ∷ 116 ∷ []

-- `cbrt`
abbrev pub cbrt_word : List ℕ
cbrt_word = 99 ∷ 98 ∷ 114 ∷ 116 ∷ []

-- `third`
abbrev pub third_word : List ℕ
third_word = 116 ∷ 104 ∷ 105 ∷ 114 ∷ 100 ∷ []

-- `exact`, a third angle with the sine of the exact cosine
abbrev pub exact_word : List ℕ
exact_word = 101 ∷ 120 ∷ 97 ∷ 99 ∷ 116 ∷ []

-- `log2`
abbrev pub log2_word : List ℕ
log2_word = 108 ∷ 111 ∷ 103 ∷ 50 ∷ []

-- `ldexp`
abbrev pub ldexp_word : List ℕ
ldexp_word = 108 ∷ 100 ∷ 101 ∷ 120 ∷ 112 ∷ []

-- `exponent`
abbrev pub exponent_word : List ℕ
exponent_word = 101 ∷ 120 ∷ 112 ∷ 111 ∷ 110 ∷ 101 ∷ 110 ∷ 116 ∷ []

-- `pow2`
abbrev pub pow2_word : List ℕ
pow2_word = 112 ∷ 111 ∷ 119 ∷ 50 ∷ []

-- `bad record` and a line feed
abbrev pub bad_line : List ℕ
bad_line = 98 ∷ 97 ∷ 100 ∷ 32 ∷ 114 ∷ 101 ∷ 99 ∷ 111 ∷ 114 ∷ 100 ∷ 10 ∷ []
