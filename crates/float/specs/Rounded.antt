-- The four operations on doubles, each rounded once to nearest even, in the signs of arithmetic: `a +ᶠ b` is the library's `add binary64 a b`, and so on.
-- Products and quotients bind closer than sums and differences, as in the Rust, and all group from the left. Definitions only.
use Rattle.std.specs.Prelude.{Float}
use Rattle.std.specs.Float.{binary64}
use Rattle.std.specs.Float.Ieee.{add, sub, mul, div}

infixl 85 ◌+ᶠ◌ ◌-ᶠ◌
infixl 90 ◌*ᶠ◌ ◌/ᶠ◌
abbrev pub ◌+ᶠ◌ : Float → Float → Float
a +ᶠ b = add binary64 a b

abbrev pub ◌-ᶠ◌ : Float → Float → Float
a -ᶠ b = sub binary64 a b

abbrev pub ◌*ᶠ◌ : Float → Float → Float
a *ᶠ b = mul binary64 a b

abbrev pub ◌/ᶠ◌ : Float → Float → Float
a /ᶠ b = div binary64 a b
