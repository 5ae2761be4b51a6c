-- The listing of a file that is one record, or that ends inside one: its line, and the total of that.
use mathlib.Core.Path.{◌≡◌, ap, ◌∙◌}
use mathlib.Core.List.{List, ◌++◌, append-nil}
use Prim.Native.Nat.{ℕ, ◌-◌, ◌<◌, ◌≤◌}
use borrow.Author.Tests.{le-ltb}
use lib.ListN.{length}
use Rattle.angle.specs.declared.Sine.{Sine}
use Rattle.records.specs.declared.Record.{Record}
use Rattle.records.specs.Records.{record_at}
use Rattle.listing.specs.declared.total.Total.{Total}
use Rattle.listing.specs.Lines.{line_of, total_text}
use Rattle.listing.specs.Totals.{plus, record_total, total_from, total_of}
use Rattle.listing.specs.File.{lines_from, record_lines, listing}
use Rattle.listing.proofs.Totals.{plus_none}
use Rattle.listing.proofs.Bound.{lines_end}
use Rattle.listing.proofs.Reading.{lines_step, total_step, total_end}

module _ (sine : Sine) (file : List ℕ) (r : Record) (some : 0 < length file) (few : length file ≤ 65536) (found : record_at file 0 ≡ r)
    (last : length file ≤ r.next) where
  only_line : record_lines sine file ≡ line_of sine 1 file 0 r
  unfolding record_lines
  only_line =
      let line = line_of sine 1 file 0 r in
      simp (le-ltb 65536 (length file) few)
      (lines_step sine (length file) file 0 1 some some
      ∙ ap (λ (x : Record). line_of sine 1 file 0 x ++ lines_from sine (length file - 1) file x.next 2) found
      ∙ ap (λ (t : List ℕ). line ++ t) (lines_end sine (length file - 1) file r.next 2 last)
      ∙ append-nil line)

  its_total : total_of sine file ≡ record_total sine file 0 r
  unfolding total_of
  its_total =
      simp (le-ltb 65536 (length file) few)
      (total_step sine (length file) file 0 some some
      ∙ ap (λ (x : Record). plus (record_total sine file 0 x) (total_from sine (length file - 1) file x.next)) found
      ∙ ap (plus (record_total sine file 0 r)) (total_end sine (length file - 1) file r.next last)
      ∙ plus_none (record_total sine file 0 r))

  pub one_line : listing sine file ≡ line_of sine 1 file 0 r ++ total_text (record_total sine file 0 r)
  unfolding listing
  one_line =
      ap (λ (t : Total). record_lines sine file ++ total_text t) its_total ∙ ap (λ (t : List ℕ). t ++ total_text (record_total sine file 0 r)) only_line
