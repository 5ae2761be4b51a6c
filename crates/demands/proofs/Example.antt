-- Document 01's example has its listing, by computation; and what holds of the listing of an empty file, and of one that is too long.
use mathlib.Core.Path.{◌≡◌, refl}
use mathlib.Core.List.{List, [], ◌++◌}
use Prim.Native.Nat.{ℕ, ◌<◌}
use lib.ListN.{length}
use borrow.Author.Tests.{lt-ltb}
use Rattle.angle.specs.declared.Sine.{Sine}
use Rattle.refusals.specs.declared.Refusal.TheVariants.{FileTooLong}
use Rattle.roots.specs.Roots.{kind_of, no_roots}
use Rattle.text.specs.Digits.{decimal}
use Rattle.records.specs.declared.Kind.TheVariants.{Unknown}
use Rattle.records.specs.Records.{ended_of}
use Rattle.listing.specs.Lines.{line_of, total_text}
use Rattle.listing.specs.Totals.{line_total}
use Rattle.listing.specs.File.{listing}
use Rattle.demands.specs.Example.{ascii, example_file, example_listing}
use Rattle.demands.proofs.Unfolded.{arithmetic, leaves, evaluation, factoring, scaling, solving, asking, printing}

pub example : (sine : Sine) → listing sine example_file ≡ example_listing
unfolding example_file example_listing arithmetic leaves evaluation factoring scaling solving kind_of asking printing
example sine = refl

pub empty : (sine : Sine) → listing sine [] ≡ ascii "T 0 0 0\n"
unfolding listing decimal ascii
empty sine = refl

-- the line, and its total, depend on nothing in the file
only_line : (sine : Sine) (s : List ℕ)
    → line_of sine 0 s 0 (ended_of Unknown FileTooLong s) ++ total_text (line_total no_roots) ≡ ascii "0 -- refused 9\nT 1 0 0\n"
unfolding line_of total_text decimal ascii
only_line sine s = refl

pub is_too_long : (sine : Sine) (s : List ℕ) → 65536 < length s → listing sine s ≡ ascii "0 -- refused 9\nT 1 0 0\n"
unfolding listing
is_too_long sine s h = simp (lt-ltb 65536 (length s) h) (only_line sine s)
