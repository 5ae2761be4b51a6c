-- Coefficients in lent bytes. Definitions only.
use Rattle.std.specs.Prelude.{List, ℕ, ◌/◌, length, Float}
use Rattle.lent_bytes.specs.Bytes.{f64s_at}

-- the doubles that the bytes hold
abbrev pub coefficients_at : List ℕ → List Float
coefficients_at s = f64s_at (length s / 8) s 0
