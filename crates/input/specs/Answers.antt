-- What std's `read` answers: an error where it failed, no byte at the end of the input, and else how many bytes it stored. Definitions only.
use Rattle.std.specs.Prelude.{ℕ, zero, suc, Option, None, Some, Result, Ok, Err}
use Rattle.std.specs.declared.io.Error.{Error}

-- for a buffer with room; a count never passes it, by std's contract
unfoldable pub meaning_of : Result ℕ Error → Result (Option ℕ) Error
meaning_of (Err e) = Err e
meaning_of (Ok zero) = Ok None
meaning_of (Ok (suc k)) = Ok (Some (suc k))
