-- What a person counts in a listing: lines, words, decimal numbers. Nothing here knows of records or answers. Definitions only.
use Rattle.std.specs.Prelude.{Bool, true, false, cond, ◌&&◌, ◌||◌, ℕ, suc, ◌+◌, ◌-◌, ◌*◌, eqb, List, [], ◌∷◌, ◌++◌, get_or, drop}
use Rattle.facts.specs.Lists.{sum_of}
use Rattle.text.specs.Digits.{decimal}
use Rattle.demands.specs.Example.{ascii}

-- ---- lines and words
-- x before the first of the parts
unfoldable pub begun_by : ℕ → List (List ℕ) → List (List ℕ)
begun_by x [] = (x ∷ []) ∷ []
begun_by x (p ∷ ps) = (x ∷ p) ∷ ps

-- the parts of a text: b ends each of them, the last one b or the text's end
unfoldable pub cut_at : ℕ → List ℕ → List (List ℕ)
unfolding begun_by
cut_at b [] = []
cut_at b (x ∷ t) = cond (eqb x b) ([] ∷ cut_at b t) (begun_by x (cut_at b t))

-- by line ends
abbrev pub lines : List ℕ → List (List ℕ)
lines = cut_at 10

-- by blanks
abbrev pub words : List ℕ → List (List ℕ)
words = cut_at 32

-- the k-th word of a line, from 0 on
abbrev pub word : ℕ → List ℕ → List ℕ
word k line = get_or (words line) k []

-- all lines but the last
unfoldable pub before_last : List (List ℕ) → List (List ℕ)
before_last [] = []
before_last (l ∷ []) = []
before_last (l ∷ m ∷ ls) = l ∷ before_last (m ∷ ls)

-- whether two words are the same
unfoldable pub same : List ℕ → List ℕ → Bool
same [] [] = true
same [] (b ∷ w) = false
same (a ∷ v) [] = false
same (a ∷ v) (b ∷ w) = eqb a b && same v w

-- the number that decimal digits say, behind those that say n; only read where digits stand
unfoldable pub read_on : ℕ → List ℕ → ℕ
read_on n [] = n
read_on n (d ∷ w) = read_on (n * 10 + (d - 48)) w

abbrev pub number : List ℕ → ℕ
number = read_on 0

-- ---- roots
-- 'The line prints like PL'
unfoldable pub like_list : List ℕ → Bool
unfolding same ascii
like_list mark = same mark (ascii "PL") || same mark (ascii "PC") || same mark (ascii "TX")

unfoldable pub like_crank : List ℕ → Bool
unfolding same ascii
like_crank mark = same mark (ascii "TG")

-- the words that say a line's roots: on a PL, PC or TX line those behind `ok` and how many there are, on a TG line those behind `ok`, k and how many there are;
-- other lines have none
unfoldable pub root_words : List (List ℕ) → List (List ℕ)
unfolding like_list like_crank
root_words (n ∷ mark ∷ answer ∷ rest) =
    cond (same answer (ascii "ok")) (cond (like_crank mark) (drop 2 rest) (cond (like_list mark) (drop 1 rest) [])) []
root_words [] = []
root_words (w ∷ []) = []
root_words (v ∷ w ∷ []) = []

-- three words a root: its place, its multiplicity, the letter of its kind
unfoldable pub roots_said : List (List ℕ) → ℕ
roots_said (place ∷ times ∷ kind ∷ rest) = suc (roots_said rest)
roots_said [] = 0
roots_said (v ∷ []) = 0
roots_said (v ∷ w ∷ []) = 0

unfoldable pub multiplicities_said : List (List ℕ) → ℕ
unfolding read_on
multiplicities_said (place ∷ times ∷ kind ∷ rest) = number times + multiplicities_said rest
multiplicities_said [] = 0
multiplicities_said (v ∷ []) = 0
multiplicities_said (v ∷ w ∷ []) = 0

-- how many roots a line says, and the sum of their multiplicities
abbrev pub line_roots : List ℕ → ℕ
line_roots line = roots_said (root_words (words line))

abbrev pub line_multiplicities : List ℕ → ℕ
line_multiplicities line = multiplicities_said (root_words (words line))

-- ---- all lines
abbrev pub roots_on : List (List ℕ) → ℕ
roots_on = sum_of line_roots

abbrev pub multiplicities_on : List (List ℕ) → ℕ
multiplicities_on = sum_of line_multiplicities

-- the last line: `T`, and three numbers
unfoldable pub closing_line : ℕ → ℕ → ℕ → List ℕ
unfolding ascii
closing_line records roots multiplicities =
    ascii "T " ++ (decimal records ++ (ascii " " ++ (decimal roots ++ (ascii " " ++ decimal multiplicities))))
