-- An answer up to a most, and NaN beyond it.
use mathlib.Core.Path.{◌≡◌}
use Prim.Native.Nat.{ℕ, ◌<◌, ◌≤◌}
use lib.Ieee.{Float, nan}
use borrow.Author.Tests.{lt-ltb, le-ltb}
use Rattle.lent_bytes.specs.Numbers.{up_to}

pub beyond : (most n : ℕ) (x : Float) → most < n → nan ≡ up_to most n x
unfolding up_to
beyond most n x h = simp (lt-ltb _ _ h)

pub within : (most n : ℕ) (x : Float) → n ≤ most → x ≡ up_to most n x
unfolding up_to
within most n x h = simp (le-ltb _ _ h)
