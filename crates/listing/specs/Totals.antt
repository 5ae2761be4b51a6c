-- The closing total: 'the number of record lines, the number of roots listed and the sum of their multiplicities'. Definitions only.
use Rattle.std.specs.Prelude.{List, ℕ, zero, suc, ◌+◌, ◌^◌, ◌<◌, cond, ltb, length, Option, Some, None}
use Rattle.refusals.specs.declared.Refusal.{Refusal}
use Rattle.roots.specs.declared.Roots.{Roots}
use Rattle.roots.specs.Roots.{list_of, no_roots}
use Rattle.roots.specs.Listed.{multiplicities}
use Rattle.angle.specs.declared.Sine.{Sine}
use Rattle.poly.specs.RealRoots.{roots_in}
use Rattle.crank.specs.Crank.{crank_roots_in}
use Rattle.records.specs.declared.Kind.{Kind}
use Rattle.records.specs.declared.Kind.TheVariants.{Polynomial, Quadratic, Crank, Contact, Formula, Unknown}
use Rattle.records.specs.declared.Record.{Record}
use Rattle.records.specs.Records.{record_at}
use Rattle.listing.specs.declared.total.Total.{Total}
use Rattle.listing.specs.Answers.{polynomial_at, crank_at, contact_at, formula_at}

-- of no line
abbrev pub no_total : Total
no_total = record { records = 0; roots = 0; multiplicities = 0 }

-- of a line that lists these roots
abbrev pub line_total : Roots → Total
line_total r = record { records = 1; roots = r.len; multiplicities = multiplicities (list_of r) }

-- of lines that have the total a, and others that have b
abbrev pub plus : Total → Total → Total
plus a b = record { records = a.records + b.records; roots = a.roots + b.roots; multiplicities = a.multiplicities + b.multiplicities }

-- what adding asks of the sum: the three numbers are words of 64 bits
abbrev pub FitsWords : Total → Type 0
FitsWords t = (t.records < 2 ^ 64) × ((t.roots < 2 ^ 64) × (t.multiplicities < 2 ^ 64))

-- the roots that a record which stands whole lists: 'roots come only from PL, TG, PC and TX lines'
unfoldable pub listed_at : Sine → Kind → List ℕ → ℕ → Roots
listed_at sine Polynomial s at = roots_in (polynomial_at sine s at)
listed_at sine Quadratic s at = no_roots
listed_at sine Crank s at = crank_roots_in (crank_at sine s at)
listed_at sine Contact s at = roots_in (contact_at sine s at)
listed_at sine Formula s at = roots_in (formula_at sine s at)
listed_at sine Unknown s at = no_roots

-- r, or none where there is a refusal
abbrev pub or_none : Option Refusal → Roots → Roots
or_none None r = r
or_none (Some refusal) r = no_roots

-- of a record's line, 'a refused one adding only its line'
unfoldable pub record_total : Sine → List ℕ → ℕ → Record → Total
unfolding listed_at
record_total sine s at found = line_total (or_none found.refused (listed_at sine found.kind s at))

-- of the records from at on, over the turns of `lines_from`
unfoldable pub total_from : Sine → ℕ → List ℕ → ℕ → Total
unfolding record_at record_total
total_from sine zero s at = no_total
total_from sine (suc f) s at =
    let found = record_at s at in
    cond (ltb at (length s)) (plus (record_total sine s at found) (total_from sine f s found.next)) no_total

-- 'Every record line counts, QD and `--` lines too', and so does the line of a file that is too long
unfoldable pub total_of : Sine → List ℕ → Total
unfolding total_from
total_of sine s = cond (ltb 65536 (length s)) (line_total no_roots) (total_from sine (length s) s 0)
