use mathlib.Core.Path.{◌≡◌}
use Prim.Native.Nat.{◌+◌, ◌*◌, ◌-◌, ◌≤◌}
use lib.ListN.{drop}
use Rattle.roots.specs.Roots.{list_of, pair_list_of}
use Rattle.roots.specs.Listed.{multiplicities, Fits}
use Rattle.asking.specs.Asking.{walked, each}
use Rattle.touching.specs.Touching.{pair_order, pair_turn}
use Rattle.touching.specs.Replies.{replies_of}
use Rattle.touching.specs.Walk.{left_of}
use Rattle.touching.proofs.Walker.pairs.Given as goal

-- the pairs left, from where the walk is, give the whole walk
abbrev pub invariant-loop-p : goal.invariant-loop-p
invariant-loop-p l =
    record {
      order : l.p-items ≡ pair_order (pair_list_of l.fn.ps);
      fits : Fits l.w.items;
      room : l.w.items.len + (l.fn.ps.len - l.p-index) ≤ 4;
      sum : multiplicities (list_of l.w.items) + 2 * (l.fn.ps.len - l.p-index) ≤ 4;
      walk : walked (left_of l.self.replies l.w.used) (each (pair_turn l.self.poly l.self.tol) (list_of l.w.items) (drop l.p-index l.p-items))
          ≡ walked (replies_of l.self.replies) (each (pair_turn l.self.poly l.self.tol) (list_of l.fn.items) (pair_order (pair_list_of l.fn.ps)));
    }
