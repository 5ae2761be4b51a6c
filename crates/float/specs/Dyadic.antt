-- Doubles written as they are, not rounded: an odd whole number times or over a power of two, and 0 as 0 / 2^0. Definitions only.
use Rattle.std.specs.Prelude.{false, ℕ, pos, Float}
use Rattle.std.specs.Float.{fin}
use Rattle.std.specs.Float.Ieee.{minus}

infix 70 ◌*2^◌ ◌/2^◌
abbrev pub ◌*2^◌ : ℕ → ℕ → Float
m *2^ k = fin false m (pos k)

abbrev pub ◌/2^◌ : ℕ → ℕ → Float
m /2^ k = fin false m (minus 0 k)
