-- Whether all numbers of a list are finite: at each place, of one number, as a fold and as a loop finds it.
use mathlib.Core.Path.{◌≡◌, sym, ◌∙◌}
use mathlib.Core.Bool.{Bool, true, ◌&&◌, and-true, and_assoc, and-eq-true_iff}
use mathlib.Core.List.{List, [], ◌∷◌}
use Prim.Native.Nat.{ℕ, zero, suc, ◌<◌}
use native.Mathlib.Omega.{arith}
use lib.ListN.{length, get_or}
use lib.Ieee.{Float, nan}
use Rattle.std.specs.List.{fold}
use Rattle.float.specs.Methods.{is_finite_of, all_finite_of}

pub finite_at : (l : List Float) → all_finite_of l ≡ true → (i : ℕ) → i < length l → is_finite_of (get_or l i nan) ≡ true
finite_at [] e i h = absurd (omega (arith, h))
finite_at (x ∷ l) e zero h = ((and-eq-true_iff (is_finite_of x) (all_finite_of l)).0 e).0
finite_at (x ∷ l) e (suc i) h = finite_at l ((and-eq-true_iff (is_finite_of x) (all_finite_of l)).0 e).1 i (omega arith)

pub one_finite : {b : Bool} (x : Float) → b ≡ is_finite_of x → b ≡ all_finite_of (x ∷ [])
one_finite x is = is ∙ sym (and-true (is_finite_of x))

-- a fold that has found b so far
pub fold_finite : (l : List Float) (b : Bool) → fold (λ a x. a && is_finite_of x) b l ≡ (b && all_finite_of l)
fold_finite [] b = sym (and-true b)
fold_finite (x ∷ l) b = fold_finite l (b && is_finite_of x) ∙ and_assoc b (is_finite_of x) (all_finite_of l)

-- ---- a loop that has found b so far, and comes to r
-- a turn, where l is left, and x the next of it
pub finite_turn : {r : Bool} (b : Bool) (l m : List Float) (x : Float) → (b && all_finite_of l) ≡ r → l ≡ x ∷ m
    → (b && is_finite_of x && all_finite_of m) ≡ r
finite_turn b l m x h e = and_assoc b (is_finite_of x) (all_finite_of m) ∙ rw e at h

-- the end, where nothing is left
pub finite_end : {r : Bool} (b : Bool) (l : List Float) → (b && all_finite_of l) ≡ r → l ≡ [] → b ≡ r
finite_end b l h e = sym (and-true b) ∙ rw e at h
