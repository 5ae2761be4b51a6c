-- The line of a record: 'its number from 1, its mark, then ..'. Definitions only.
use Rattle.std.specs.Prelude.{ℕ, Float, Option, Some, None, Result, Ok, Err}
use mathlib.Core.List.{List, [], ◌∷◌, ◌++◌, flat_map}
use Rattle.std.specs.Float.{binary64}
use Rattle.std.specs.Float.Ieee.{to_bits}
use Rattle.refusals.specs.declared.Refusal.{Refusal}
use Rattle.refusals.specs.Refusals.{number_of}
use Rattle.angle.specs.declared.Sine.{Sine}
use Rattle.text.specs.Digits.{hex_digits, decimal}
use Rattle.roots.specs.declared.RootKind.{RootKind}
use Rattle.roots.specs.declared.RealRoot.{RealRoot}
use Rattle.roots.specs.declared.Roots.{Roots}
use Rattle.roots.specs.Roots.{list_of}
use Rattle.solution.specs.declared.QuadraticSolution.{QuadraticSolution}
use Rattle.solution.specs.declared.QuadraticSolution.TheVariants.{Two, One, Linear, Degenerate, Empty}
use Rattle.crank.specs.declared.CrankAnswer.{CrankAnswer}
use Rattle.records.specs.declared.Kind.{Kind}
use Rattle.records.specs.declared.Kind.TheVariants.{Polynomial, Quadratic, Crank, Contact, Formula, Unknown}
use Rattle.records.specs.declared.Record.{Record}
use Rattle.records.specs.Marks.{mark_of}
use Rattle.listing.specs.declared.total.Total.{Total}
use Rattle.listing.specs.Words.{refused, ok, two, one, linear, degenerate, empty, letter_of}
use Rattle.listing.specs.Answers.{polynomial_at, quadratic_at, crank_at, contact_at, formula_at}

-- ---- places and roots

-- 'Places print as 16 hexadecimal digits of their bits', after a blank
unfoldable pub place_text : Float → List ℕ
place_text x = 32 ∷ hex_digits 16 (to_bits binary64 x)

-- 'as c, b or f after the multiplicity and a blank'
abbrev pub kind_text : RootKind → List ℕ
kind_text kind = 32 ∷ letter_of kind ∷ []

-- 'place and multiplicity', and the kind
unfoldable pub root_text : RealRoot → List ℕ
unfolding place_text
root_text r = place_text r.value ++ (32 ∷ decimal r.multiplicity ++ kind_text r.kind)

-- 'how many roots, and place and multiplicity of each'
unfoldable pub roots_text : Roots → List ℕ
unfolding root_text
roots_text r = decimal r.len ++ flat_map root_text (list_of r)

-- ---- answers

-- 'A refused record prints `refused` and the number'
unfoldable pub refused_text : ℕ → List ℕ
refused_text number = refused ++ decimal number

-- t, or the refusal
abbrev pub or_refused : Option Refusal → List ℕ → List ℕ
or_refused None t = t
or_refused (Some refusal) t = refused_text (number_of refusal)

-- 'for PL `ok`, ..'
unfoldable pub polynomial_text : Result Roots Refusal → List ℕ
unfolding roots_text refused_text
polynomial_text (Ok roots) = ok ++ roots_text roots
polynomial_text (Err refusal) = refused_text (number_of refusal)

-- 'for QD `two`, `one`, `linear`, `degenerate` or `empty`, then places'
unfoldable pub solution_text : QuadraticSolution → List ℕ
unfolding place_text
solution_text (Two x y) = two ++ (place_text x ++ place_text y)
solution_text (One x) = one ++ place_text x
solution_text (Linear x) = linear ++ place_text x
solution_text Degenerate = degenerate
solution_text Empty = empty

-- or `refused`
unfoldable pub quadratic_text : Result QuadraticSolution Refusal → List ℕ
unfolding solution_text refused_text
quadratic_text (Ok s) = solution_text s
quadratic_text (Err refusal) = refused_text (number_of refusal)

-- 'for TG the same with k after `ok`'
unfoldable pub crank_text : Result CrankAnswer Refusal → List ℕ
unfolding roots_text refused_text
crank_text (Ok a) = ok ++ (decimal a.k ++ (32 ∷ roots_text a.roots))
crank_text (Err refusal) = refused_text (number_of refusal)

-- ---- the line

-- what the solver answers to a record that stands whole; of PC: 'The line prints like PL', of TX: 'whose answer or refusal prints like PL'
unfoldable pub answer_text : Sine → Kind → List ℕ → ℕ → List ℕ
unfolding polynomial_text quadratic_text crank_text polynomial_at quadratic_at crank_at contact_at formula_at
answer_text sine Polynomial s at = polynomial_text (polynomial_at sine s at)
answer_text sine Quadratic s at = quadratic_text (quadratic_at s at)
answer_text sine Crank s at = crank_text (crank_at sine s at)
answer_text sine Contact s at = polynomial_text (contact_at sine s at)
answer_text sine Formula s at = polynomial_text (formula_at sine s at)
answer_text sine Unknown s at = []

-- what stands behind the mark
unfoldable pub words_of : Sine → List ℕ → ℕ → Record → List ℕ
unfolding answer_text refused_text
words_of sine s at found = or_refused found.refused (answer_text sine found.kind s at)

-- 'its number from 1, its mark'
unfoldable pub head_of : ℕ → Kind → List ℕ
head_of n kind = decimal n ++ (32 ∷ mark_of kind ++ (32 ∷ []))

-- the n-th line, that of the record at at
unfoldable pub line_of : Sine → ℕ → List ℕ → ℕ → Record → List ℕ
unfolding head_of words_of
line_of sine n s at found = head_of n found.kind ++ (words_of sine s at found ++ (10 ∷ []))

-- the last line: 'After the last record `hallroots` prints `T`, the number of record lines, the number of roots listed and the sum of their multiplicities'
unfoldable pub total_text : Total → List ℕ
total_text t = 84 ∷ 32 ∷ decimal t.records ++ (32 ∷ decimal t.roots ++ (32 ∷ decimal t.multiplicities ++ (10 ∷ [])))
