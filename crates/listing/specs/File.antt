-- The listing of a hall file: one line for each record, and the closing total. Definitions only.
use Rattle.std.specs.Prelude.{cond, List, [], ◌++◌, ℕ, zero, suc, ◌+◌, ltb, length}
use Rattle.angle.specs.declared.Sine.{Sine}
use Rattle.records.specs.declared.Kind.TheVariants.{Unknown}
use Rattle.refusals.specs.declared.Refusal.TheVariants.{FileTooLong}
use Rattle.records.specs.Records.{ended_of, record_at}
use Rattle.listing.specs.Lines.{line_of, total_text}
use Rattle.listing.specs.Totals.{total_of}

-- the lines from at on, the first of them the n-th; f is at least as large as the number of bytes that are left
unfoldable pub lines_from : Sine → ℕ → List ℕ → ℕ → ℕ → List ℕ
unfolding record_at line_of
lines_from sine zero s at n = []
lines_from sine (suc f) s at n =
    let found = record_at s at in
    cond (ltb at (length s)) (line_of sine n s at found ++ lines_from sine f s found.next (n + 1)) []

-- the lines of the records, without the total; '9, over 65,536 bytes, the only line then being `0 -- refused 9`'
unfoldable pub record_lines : Sine → List ℕ → List ℕ
unfolding lines_from
record_lines sine s = cond (ltb 65536 (length s)) (line_of sine 0 s 0 (ended_of Unknown FileTooLong s)) (lines_from sine (length s) s 0 1)

-- 'An empty file prints only `T 0 0 0`, and an over-long one `T 1 0 0` after its line'
unfoldable pub listing : Sine → List ℕ → List ℕ
unfolding record_lines total_of total_text
listing sine s = record_lines sine s ++ total_text (total_of sine s)
