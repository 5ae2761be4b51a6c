use mathlib.Core.List.{flat_map}
use Prim.Native.Nat.{◌+◌, ◌*◌, ◌≤◌}
use lib.ListN.{take}
use Rattle.text.specs.Written.{Written}
use Rattle.listing.specs.Lines.{root_text}
use Rattle.listing.proofs.lines.put_roots.Given as goal

abbrev pub invariant-loop-root : goal.invariant-loop-root
invariant-loop-root l =
    (l.out.at ≤ l.initial.out.at + 22 * l.root-index)
    × Written l.initial.out (flat_map root_text (take l.root-index l.root-items)) l.out
