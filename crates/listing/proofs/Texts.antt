-- How long the texts of a line are.
use mathlib.Core.Path.{◌≡◌}
use mathlib.Core.List.{List, [], ◌∷◌, ◌++◌, flat_map}
use Prim.Native.Nat.{ℕ, zero, suc, ◌+◌, ◌*◌, ◌^◌, ◌<◌, ◌≤◌}
use native.Mathlib.Omega.{arith}
use lib.ListN.{length, get_or, length-append}
use lib.Ieee.{Float, binary64, to_bits}
use Rattle.angle.specs.declared.Sine.{Sine}
use Rattle.text.specs.Digits.{decimal}
use Rattle.text.proofs.Digits.{decimal_length, hex_length}
use Rattle.std.specs.Prelude.{Option, Some, None, Result, Ok, Err}
use Rattle.refusals.specs.declared.Refusal.{Refusal}
use Rattle.refusals.proofs.Numbers.{number_bounds}
use Rattle.refusals.specs.Refusals.{number_of}
use Rattle.roots.specs.declared.RealRoot.{RealRoot}
use Rattle.roots.specs.declared.Roots.{Roots}
use Rattle.roots.specs.Roots.{list_of}
use Rattle.roots.specs.Listed.{multiplicities}
use Rattle.roots.proofs.Laws.{length_list}
use Rattle.poly.specs.RealRoots.{roots_in}
use Rattle.solution.specs.declared.QuadraticSolution.{QuadraticSolution}
use Rattle.solution.specs.declared.QuadraticSolution.TheVariants.{Two, One, Linear, Degenerate, Empty}
use Rattle.crank.specs.declared.CrankAnswer.{CrankAnswer}
use Rattle.records.specs.declared.Kind.{Kind}
use Rattle.records.specs.declared.Record.{Record}
use Rattle.records.specs.Marks.{mark_of}
use Rattle.records.proofs.Marks.{mark_length}
use Rattle.listing.specs.Words.{letter_of}
use Rattle.listing.specs.Lines.{place_text, root_text, roots_text, refused_text, or_refused, polynomial_text, solution_text, quadratic_text, crank_text}
use Rattle.listing.specs.Lines.{words_of, head_of, line_of}
use Rattle.listing.specs.Printable.{Printable, CrankPrintable}

-- ---- an answer or a refusal
pub answered : (refused : Option Refusal) (t : List ℕ) → refused ≡ None → t ≡ or_refused refused t
answered refused t e = rw e

pub refusal : (refused : Option Refusal) (r : Refusal) (t : List ℕ) → refused ≡ Some r
    → refused_text (number_of r) ≡ or_refused refused t
refusal refused r t e = rw e

-- ---- roots
pub place_length : (x : Float) → length (place_text x) ≡ 17
unfolding place_text
place_length x = omega (arith, hex_length 16 (to_bits binary64 x))

pub root_length : (r : RealRoot) → r.multiplicity < 100 → length (root_text r) ≤ 22
unfolding root_text
root_length r h =
    let letter : List ℕ = 32 ∷ letter_of r.kind ∷ [] in
    omega (
      arith,
      length-append (place_text r.value) (32 ∷ decimal r.multiplicity ++ letter),
      length-append (decimal r.multiplicity) letter,
      place_length r.value,
      decimal_length 2 r.multiplicity (omega arith) h,
    )

flat_length : (l : List RealRoot) → multiplicities l < 100 → length (flat_map root_text l) ≤ 22 * length l
unfolding flat_map
flat_length [] h = omega arith
flat_length (r ∷ l) h =
    omega (arith, length-append (root_text r) (flat_map root_text l), root_length r (omega arith), flat_length l (omega arith))

pub count_length : (r : Roots) → Printable r → length (decimal r.len) ≤ 1
count_length r p = decimal_length 1 r.len (omega arith) (omega (arith, p.fits.1))

pub roots_length : (r : Roots) → Printable r → length (roots_text r) ≤ 1 + 22 * r.len
unfolding roots_text
roots_length r p =
    omega (
      arith,
      length-append (decimal r.len) (flat_map root_text (list_of r)),
      count_length r p,
      flat_length (list_of r) p.short,
      length_list r p.fits,
    )

-- a multiplicity is no larger than the sum of all
multiplicity_less : (l : List RealRoot) (k : ℕ) (d : RealRoot) → k < length l → (get_or l k d).multiplicity ≤ multiplicities l
multiplicity_less [] k d h = absurd (omega arith)
multiplicity_less (r ∷ l) zero d h = omega arith
multiplicity_less (r ∷ l) (suc k) d h = omega (arith, multiplicity_less l k d (omega arith))

pub each_short : (r : Roots) (k : ℕ) (d : RealRoot) → Printable r → k < length (list_of r) → (get_or (list_of r) k d).multiplicity < 100
each_short r k d p h = omega (arith, multiplicity_less (list_of r) k d h, p.short)

-- ---- answers
-- a refusal's number, and k
pub number_length : (refusal : Refusal) → length (decimal (number_of refusal)) ≤ 2
number_length refusal = decimal_length 2 (number_of refusal) (omega arith) (number_bounds refusal).1

pub two_digits : {n : ℕ} → n < 100 → length (decimal n) ≤ 2
two_digits {n} h = decimal_length 2 n (omega arith) h

pub five_digits : {n : ℕ} → n < 100000 → length (decimal n) ≤ 5
five_digits {n} h = decimal_length 5 n (omega arith) h

pub word_length : {n : ℕ} → n < 2 ^ 64 → length (decimal n) ≤ 20
word_length {n} h = decimal_length 20 n (omega arith) (omega (arith, h))

pub digit_length : {k : ℕ} → k < 8 → length (decimal k) ≤ 1
digit_length {k} h = decimal_length 1 k (omega arith) (omega (arith, h))

pub refused_length : (refusal : Refusal) → length (refused_text (number_of refusal)) ≤ 10
unfolding refused_text
refused_length refusal = omega (arith, decimal_length 2 (number_of refusal) (omega arith) (number_bounds refusal).1)

pub or_length : (refused : Option Refusal) (t : List ℕ) (k : ℕ) → 10 ≤ k → length t ≤ k → length (or_refused refused t) ≤ k
or_length None t k m p = p
or_length (Some refusal) t k m p = omega (arith, refused_length refusal)

pub polynomial_length : (a : Result Roots Refusal) → Printable (roots_in a) → length (polynomial_text a) ≤ 10 + 22 * (roots_in a).len
unfolding polynomial_text
polynomial_length (Ok roots) p = omega (arith, roots_length roots p)
polynomial_length (Err refusal) p = refused_length refusal

solution_length : (s : QuadraticSolution) → length (solution_text s) ≤ 37
unfolding solution_text
solution_length (Two x y) = omega (arith, length-append (place_text x) (place_text y), place_length x, place_length y)
solution_length (One x) = omega (arith, place_length x)
solution_length (Linear x) = omega (arith, place_length x)
solution_length Degenerate = omega arith
solution_length Empty = omega arith

pub quadratic_length : (a : Result QuadraticSolution Refusal) → length (quadratic_text a) ≤ 37
unfolding quadratic_text
quadratic_length (Ok s) = solution_length s
quadratic_length (Err refusal) = omega (arith, refused_length refusal)

pub crank_length : (a : Result CrankAnswer Refusal) → CrankPrintable a → length (crank_text a) ≤ 98
unfolding crank_text
crank_length (Ok a) p =
    omega (
      arith,
      length-append (decimal a.k) (32 ∷ roots_text a.roots),
      decimal_length 1 a.k (omega arith) (omega (arith, p.0)),
      roots_length a.roots p.1,
      p.1.fits.1,
    )
crank_length (Err refusal) p = omega (arith, refused_length refusal)

-- ---- a line
pub head_length : (n : ℕ) (kind : Kind) → n < 100000 → length (head_of n kind) ≤ 9
unfolding head_of
head_length n kind h =
    let mark = mark_of kind in
    omega (
      arith,
      length-append (decimal n) (32 ∷ mark ++ (32 ∷ [])),
      length-append mark (32 ∷ []),
      decimal_length 5 n (omega arith) h,
      mark_length kind,
    )

pub line_length : (sine : Sine) (n : ℕ) (s : List ℕ) (at : ℕ) (found : Record) → n < 100000
    → length (line_of sine n s at found) ≤ 10 + length (words_of sine s at found)
unfolding line_of
line_length sine n s at found h =
    let words = words_of sine s at found in
    omega (
      arith,
      length-append (head_of n found.kind) (words ++ (10 ∷ [])),
      length-append words (10 ∷ []),
      head_length n found.kind h,
    )
