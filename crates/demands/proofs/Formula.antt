-- The listing of a file of one record TX, whole or cut.
use mathlib.Core.Path.{◌≡◌, refl, sym, ap, ◌∙◌}
use mathlib.Core.List.{List, ◌∷◌, ◌++◌}
use Prim.Native.Nat.{ℕ, ◌+◌, ◌-◌, ◌<◌, ◌≤◌}
use native.Mathlib.Omega.{arith}
use borrow.Author.Tests.{lt-ltb, le-ltb}
use lib.Dec.{ltb}
use lib.ListN.{length, get_or, take, drop, length-append}
use lib.Seq.{take_all, drop-append_seam}
use Rattle.facts.specs.Cond.{either_way}
use Rattle.angle.specs.declared.Sine.{Sine}
use Rattle.refusals.specs.declared.Refusal.TheVariants.{Cut}
use Rattle.float.specs.Bytes.{f64_at}
use Rattle.text.specs.Digits.{decimal}
use Rattle.records.specs.declared.Kind.TheVariants.{Formula}
use Rattle.records.specs.declared.Record.{Record}
use Rattle.records.specs.Marks.{kind_at}
use Rattle.records.specs.Records.{count_at, ended_of, held_of, formula_record, record_of, record_at}
use Rattle.records.proofs.Places.{whole_of}
use Rattle.formula_roots.specs.FormulaRoots.{formula_roots_of}
use Rattle.listing.specs.Answers.{text_at, formula_at}
use Rattle.poly.specs.RealRoots.{roots_in}
use Rattle.listing.specs.Lines.{polynomial_text, answer_text, words_of, head_of, line_of, total_text}
use Rattle.listing.specs.Totals.{line_total, listed_at, record_total}
use Rattle.listing.specs.File.{listing}
use Rattle.demands.specs.Example.{ascii}
use Rattle.demands.proofs.Line.{one_line}

-- ---- what stands at the start of a file
module _ (s : List ℕ) (marked : kind_at s 0 ≡ Formula) (two : 2 ≤ length s) where
  abbrev size : ℕ
  size = 11 + count_at s 0

  read : formula_record s 0 ≡ record_at s 0
  unfolding record_at record_of
  read = simp (le-ltb (length s - 0) 2 (omega arith), marked)

  whole : size ≤ length s → record_at s 0 ≡ whole_of Formula size
  unfolding formula_record held_of
  whole h =
      let from : 0 + size ≡ size = omega arith in
      sym read ∙ simp (le-ltb (length s - 0) 3 (omega arith), le-ltb (length s - 0) size (omega arith)) (ap (whole_of Formula) from)

  cut_off : length s < size → record_at s 0 ≡ ended_of Formula Cut s
  unfolding formula_record held_of
  cut_off h = sym read ∙ either_way (λ (r : Record). r ≡ ended_of Formula Cut s) (ltb (length s - 0) 3) refl (simp (lt-ltb (length s - 0) size (omega arith)))

-- ---- a whole record
module _ (sine : Sine) (tolerance text : List ℕ) (eight : length tolerance ≡ 8) (short : length text ≤ 255) where
  abbrev file : List ℕ
  file = 84 ∷ 88 ∷ length text ∷ tolerance ++ text

  long : length file ≡ 11 + length text
  long = omega (arith, length-append tolerance text, eight)

  found : record_at file 0 ≡ whole_of Formula (11 + length text)
  unfolding kind_at
  found = whole file refl (omega (arith, long)) (omega (arith, long))

  text_is : text_at file 0 ≡ text
  text_is =
      ap (λ (k : ℕ). take (length text) (drop k (tolerance ++ text))) (sym eight) ∙ ap (take (length text)) (drop-append_seam tolerance text)
      ∙ take_all (length text) text (omega arith)

  -- the line, and its total, of a text's answer
  shown : List ℕ → List ℕ
  shown t =
      let a = formula_roots_of sine t (f64_at file 3) in
      ascii "1 TX " ++ (polynomial_text a ++ ascii "\n") ++ total_text (line_total (roots_in a))

  only_line : let r = whole_of Formula (11 + length text) in line_of sine 1 file 0 r ++ total_text (record_total sine file 0 r) ≡ shown text
  unfolding shown line_of head_of words_of answer_text formula_at record_total listed_at decimal ascii
  only_line = ap shown text_is

  pub formula_line : let file = ascii "TX" ++ (length text ∷ tolerance ++ text) in
      let a = formula_roots_of sine text (f64_at file 3) in
      listing sine file ≡ ascii "1 TX " ++ (polynomial_text a ++ ascii "\n") ++ total_text (line_total (roots_in a))
  unfolding shown ascii
  formula_line =
      one_line sine file (whole_of Formula (11 + length text)) (omega arith) (omega (arith, long)) found (omega (arith, long)) ∙ only_line

-- ---- a cut one
module _ (sine : Sine) (s : List ℕ) (byte : get_or s 0 0 ≤ 255) (cut : length s < 9 + get_or s 0 0) where
  abbrev cut_file : List ℕ
  cut_file = 84 ∷ 88 ∷ s

  cut_found : record_at cut_file 0 ≡ ended_of Formula Cut cut_file
  unfolding kind_at
  cut_found = cut_off cut_file refl (omega arith) (omega arith)

  cut_line : let r = ended_of Formula Cut cut_file in
      line_of sine 1 cut_file 0 r ++ total_text (record_total sine cut_file 0 r) ≡ ascii "1 TX refused 7\nT 1 0 0\n"
  unfolding line_of head_of words_of total_text record_total decimal ascii
  cut_line = refl

  pub formula_cut : listing sine (ascii "TX" ++ s) ≡ ascii "1 TX refused 7\nT 1 0 0\n"
  unfolding ascii
  formula_cut = one_line sine cut_file (ended_of Formula Cut cut_file) (omega arith) (omega arith) cut_found (omega arith) ∙ cut_line
