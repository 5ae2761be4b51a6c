-- Where a cursor stands.
use Prim.Native.Nat.{ℕ, ◌≤◌}
use mathlib.Core.List.{List}
use native.Mathlib.Omega.{arith}
use native.Mathlib.Nat.{le_refl}
use lib.ListN.{length}
use Rattle.std.specs.Prelude.{Option, Some, None, IfSome}
use Rattle.formula.specs.declared.cursor.Cursor.{Cursor}
use Rattle.formula.specs.Readers.{Ahead}

pub ahead_here : (s : List ℕ) (c : Cursor) → c.next ≤ length s → Ahead s c.next c
ahead_here s c h = record { low = le_refl c.next; high = h }

pub ahead_then : (s : List ℕ) (at i : ℕ) (c : Option Cursor) → at ≤ i → IfSome c (Ahead s i) → IfSome c (Ahead s at)
ahead_then s at i None l h = tt
ahead_then s at i (Some c) l h = record { low = omega (arith, h.low); high = h.high }
