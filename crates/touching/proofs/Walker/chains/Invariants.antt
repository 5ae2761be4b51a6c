use mathlib.Core.Path.{◌≡◌}
use mathlib.Core.List.{[]}
use Prim.Native.Nat.{◌+◌, ◌*◌, ◌≤◌}
use lib.ListN.{drop}
use Rattle.roots.specs.Roots.{list_of}
use Rattle.roots.specs.Listed.{multiplicities}
use Rattle.asking.specs.Asking.{walked, each}
use Rattle.touching.specs.Touching.{no_chain, item_turn}
use Rattle.touching.specs.Walk.{left_of, chain_of, Tidy, at_hand}
use Rattle.touching.proofs.Walker.chains.Given as goal

-- the items left, from where the walk is, give the whole walk
abbrev pub invariant-loop-it : goal.invariant-loop-it
invariant-loop-it l =
    record {
      items : l.it-items ≡ list_of l.fn.its;
      tidy : Tidy l.w.out;
      length : l.w.out.len + at_hand l.w.chain ≤ l.it-index;
      counted : at_hand l.w.chain ≤ (chain_of l.w.chain).mult;
      mult : (chain_of l.w.chain).mult + multiplicities (drop l.it-index l.it-items) ≤ 4;
      touching : (chain_of l.w.chain).touching ≤ 2 * l.it-index;
      walk : walked (left_of l.self.replies l.w.used)
          (each (item_turn l.self.poly l.self.tol) (chain_of l.w.chain, list_of l.w.out) (drop l.it-index l.it-items))
          ≡ walked (left_of l.self.replies l.fn.used) (each (item_turn l.self.poly l.self.tol) (no_chain, []) l.it-items);
    }
