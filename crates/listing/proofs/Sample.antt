-- Listings of small files, computed from the definition: each refusal of the file's own, and a record refused under 2, after which reading goes on. And what
-- stands behind the place of a root of each kind.
use mathlib.Core.Path.{◌≡◌, refl}
use mathlib.Core.Bool.{true}
use mathlib.Core.List.{List, [], ◌∷◌, ◌++◌, map}
use Prim.Native.Nat.{ℕ, ◌+◌}
use lib.ListN.{replicate, drop}
use Rattle.float.specs.Literals.{zero64}
use Rattle.angle.specs.declared.Sine.{Sine}
use Rattle.text.specs.Digits.{hex_digits, decimal}
use Rattle.roots.specs.declared.RealRoot.{RealRoot}
use Rattle.roots.specs.Roots.{kind_of, root_by, root}
use Rattle.poly.specs.Coefficients.{trimmed_from, trimmed_of, counted_by}
use Rattle.poly.specs.Solve.{solve_of}
use Rattle.poly.specs.RealRoots.{unscaled_all, answer_of, real_roots_of}
use Rattle.listing.specs.Words.{refused}
use Rattle.listing.specs.Lines.{root_text}
use Rattle.listing.specs.File.{listing}

-- the marks
abbrev pl : List ℕ
pl = 80 ∷ 76 ∷ []

abbrev qd : List ℕ
qd = 81 ∷ 68 ∷ []

abbrev tg : List ℕ
tg = 84 ∷ 71 ∷ []

abbrev pc : List ℕ
pc = 80 ∷ 67 ∷ []

abbrev unknown : List ℕ
unknown = 45 ∷ 45 ∷ []

-- a file, and the mark and the number of its only line
record Row : Type 0 where
  file : List ℕ
  mark : List ℕ
  number : ℕ

abbrev row : List ℕ → List ℕ → ℕ → Row
row file mark number = record { file = file; mark = mark; number = number }

-- `1`, the mark, `refused` and the number, which is a digit
abbrev line : ℕ → List ℕ → ℕ → List ℕ
line n mark number = (48 + n) ∷ 32 ∷ mark ++ (32 ∷ refused ++ ((48 + number) ∷ 10 ∷ []))

-- `T`, so many lines, and no root
abbrev total : ℕ → List ℕ
total n = 84 ∷ 32 ∷ (48 + n) ∷ 32 ∷ 48 ∷ 32 ∷ 48 ∷ 10 ∷ []

rows : List Row
rows =
    row (80 ∷ []) unknown 7
    ∷ row (88 ∷ 88 ∷ []) unknown 6
    ∷ row (80 ∷ 68 ∷ 0 ∷ []) unknown 6
    ∷ row pl pl 7
    ∷ row (pl ++ 33 ∷ []) pl 8
    ∷ row (pl ++ 32 ∷ []) pl 7
    ∷ row (pl ++ replicate 8 0) pl 7
    ∷ row (qd ++ replicate 39 0) qd 7
    ∷ row (tg ++ replicate 47 0) tg 7
    ∷ row (pc ++ replicate 79 0) pc 7
    ∷ []

refusals : (sine : Sine) → map (λ (r : Row). listing sine r.file) rows ≡ map (λ (r : Row). line 1 r.mark r.number ++ total 1) rows
unfolding rows listing decimal
refusals sine = refl

-- the empty file, and a list of no coefficient before an unknown mark
empty : (sine : Sine) → listing sine [] ≡ total 0
unfolding listing decimal
empty sine = refl

goes_on : (sine : Sine) → listing sine (pl ++ (replicate 9 0 ++ (88 ∷ 88 ∷ []))) ≡ line 1 pl 2 ++ (line 2 unknown 6 ++ total 2)
unfolding listing real_roots_of answer_of unscaled_all solve_of counted_by trimmed_of trimmed_from decimal
goes_on sine = refl

-- ` 1 c`, ` 2 b`, ` 2 f`
kinds : map (λ (r : RealRoot). drop 17 (root_text r)) (root zero64 1 ∷ root_by true zero64 2 ∷ root zero64 2 ∷ [])
    ≡ (32 ∷ 49 ∷ 32 ∷ 99 ∷ []) ∷ (32 ∷ 50 ∷ 32 ∷ 98 ∷ []) ∷ (32 ∷ 50 ∷ 32 ∷ 102 ∷ []) ∷ []
unfolding root_text hex_digits decimal kind_of
kinds = refl
