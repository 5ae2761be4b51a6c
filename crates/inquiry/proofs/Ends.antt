-- A walk with the replies at hand, from what it came to: to the list that an inquiry shows.
use mathlib.Core.Path.{◌≡◌, ap}
use mathlib.Core.Bool.{Bool}
use mathlib.Core.List.{List, [], ◌∷◌}
use lib.Ieee.{Float}
use Rattle.std.specs.Prelude.{Option}
use Rattle.refusals.specs.declared.Refusal.{Refusal}
use Rattle.roots.specs.declared.RealRoot.{RealRoot}
use Rattle.roots.specs.declared.Roots.{Roots}
use Rattle.roots.specs.Roots.{roots_of}
use Rattle.roots.specs.declared.Pair.{Pair}
use Rattle.asking.specs.Asking.{Stage, ended, left_by, asks, walked, each}
use Rattle.inquiry.specs.declared.Asked.TheVariants.{Finished}
use Rattle.inquiry.specs.Inquiry.{shown, over_by, seen_at}
use Rattle.finish.specs.Finish.{by_value}
use Rattle.touching.specs.Touching.{ordered, pair_order, pair_turn, no_chain, emitted, item_turn, chained, touching}
use Rattle.touching.specs.declared.Chain.{Chain}
use Rattle.touching.proofs.Steps.{chained_asks, chained_ends, touching_asks, touching_goes}
use Rattle.scaled.specs.declared.Scaled.{Scaled}

pub walk_ends : (st : Stage (List RealRoot)) (l : List RealRoot) (left : List Bool) (s : Roots) (n : Option Refusal) → ended l left ≡ st → s ≡ roots_of l
    → n ≡ over_by left → record { asked = Finished s; refused = n } ≡ seen_at st
unfolding shown left_by
walk_ends st l left s n e h o = rw (h, o) (ap seen_at e)

-- ---- finished
module _ (poly : Scaled) (tol : Float) (rs left : List Bool) (its : List RealRoot) where
  pub finish_asks : (x : Float) → asks x ≡ walked rs (each (item_turn poly tol) (no_chain, []) its)
      → seen_at (asks x) ≡ seen_at (walked rs (chained poly tol its))
  finish_asks x walk = ap seen_at (chained_asks poly tol rs its x walk)

  pub finish_ends : (c : Chain) (out : List RealRoot) (l : Roots) (n : Option Refusal)
      → ended (c, out) left ≡ walked rs (each (item_turn poly tol) (no_chain, []) its)
      → l ≡ roots_of (emitted poly.e out c) → n ≡ over_by left
      → record { asked = Finished l; refused = n } ≡ seen_at (walked rs (chained poly tol its))
  finish_ends c out l n walk h o =
      walk_ends (walked rs (chained poly tol its)) (emitted poly.e out c) left l n
      (chained_ends poly tol rs its c out left walk) h o

-- ---- shown
module _ (poly : Scaled) (tol : Float) (rs left : List Bool) (roots : List RealRoot) (pairs : List Pair) where
  pub ask_asks : (x : Float) → asks x ≡ walked rs (each (pair_turn poly tol) roots (pair_order pairs))
      → seen_at (asks x) ≡ seen_at (walked rs (touching poly tol roots pairs))
  ask_asks x walk = ap seen_at (touching_asks poly tol rs roots pairs x walk)

  pub ask_ends : (its its' : List RealRoot)
      → ended its left ≡ walked rs (each (pair_turn poly tol) roots (pair_order pairs))
      → its' ≡ ordered pairs its
      → seen_at (walked left (chained poly tol its')) ≡ seen_at (walked rs (touching poly tol roots pairs))
  ask_ends its its' walk h = ap seen_at (touching_goes poly tol rs roots pairs its its' left h walk)

pub ordered_none : (ps : List Pair) (l : List RealRoot) → ps ≡ [] → l ≡ ordered ps l
unfolding ordered
ordered_none ps l e = rw e

pub ordered_some : (ps qs : List Pair) (p : Pair) (l : List RealRoot) → ps ≡ p ∷ qs
    → by_value l ≡ ordered ps l
unfolding ordered
ordered_some ps qs p l e = rw e
