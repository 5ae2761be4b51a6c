-- The listing of a file of one record PC.
use mathlib.Core.Path.{◌≡◌, refl, ◌∙◌}
use mathlib.Core.List.{List, ◌∷◌, ◌++◌}
use Prim.Native.Nat.{ℕ}
use native.Mathlib.Omega.{arith}
use lib.ListN.{length}
use Rattle.angle.specs.declared.Sine.{Sine}
use Rattle.text.specs.Digits.{decimal}
use Rattle.records.specs.declared.Kind.TheVariants.{Contact}
use Rattle.records.specs.Marks.{kind_at}
use Rattle.records.specs.Records.{held_of, record_of, record_at}
use Rattle.records.proofs.Places.{whole_of}
use Rattle.listing.specs.Answers.{contact_at}
use Rattle.poly.specs.RealRoots.{roots_in}
use Rattle.listing.specs.Lines.{polynomial_text, answer_text, words_of, head_of, line_of, total_text}
use Rattle.listing.specs.Totals.{line_total, listed_at, record_total}
use Rattle.listing.specs.File.{listing}
use Rattle.demands.specs.Example.{ascii}
use Rattle.demands.proofs.Line.{one_line}

module _ (sine : Sine) (s : List ℕ) (eighty : length s ≡ 80) where
  abbrev file : List ℕ
  file = 80 ∷ 67 ∷ s

  found : record_at file 0 ≡ whole_of Contact 82
  unfolding record_at record_of held_of kind_at
  found = rw eighty

  only_line : line_of sine 1 file 0 (whole_of Contact 82) ++ total_text (record_total sine file 0 (whole_of Contact 82))
      ≡ ascii "1 PC " ++ (polynomial_text (contact_at sine file 0) ++ ascii "\n") ++ total_text (line_total (roots_in (contact_at sine file 0)))
  unfolding line_of head_of words_of answer_text record_total listed_at decimal ascii
  only_line = refl

  pub contact_line : let file = ascii "PC" ++ s in
      let a = contact_at sine file 0 in
      listing sine file ≡ ascii "1 PC " ++ (polynomial_text a ++ ascii "\n") ++ total_text (line_total (roots_in a))
  unfolding ascii
  contact_line =
      one_line sine file (whole_of Contact 82) (omega (arith, eighty)) (omega (arith, eighty)) found (omega (arith, eighty)) ∙ only_line
