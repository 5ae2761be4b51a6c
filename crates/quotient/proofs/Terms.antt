-- A term of a product's coefficient is there, or is not: it would stand before l's first coefficient, or after its last. So the terms that are there are those
-- of a loop from the smaller of f's length and k + 1 down to k - dl, or 0 where dl is more.
use mathlib.Core.Path.{◌≡◌, refl, ap, ◌∙◌}
use mathlib.Core.Logic.{⊎_elim}
use mathlib.Core.List.{List}
use Prim.Native.Nat.{ℕ, zero, suc, ◌+◌, ◌-◌, ◌≤◌, ◌<◌, min}
use native.Mathlib.Omega.{arith}
use borrow.Author.Tests.{le-leb, lt-leb}
use lib.ListN.{length, get_or}
use lib.Ieee.{Float, nan, binary64, add, mul}
use Rattle.algebra.specs.NatOrder.{le_or_lt}
use Rattle.facts.specs.Count.{count_down, down_turn}
use Rattle.float.specs.Literals.{zero64}
use Rattle.quotient.specs.Quotient.{product_term_of, next_at}

module _ (l : List Float) (dl : ℕ) (f : List Float) (k : ℕ) where
  pub term_there : (j : ℕ) (acc : Float) → j ≤ k → k - j ≤ dl
      → product_term_of l dl f k j acc ≡ add binary64 acc (mul binary64 (get_or l (k - j) nan) (get_or f j nan))
  unfolding product_term_of
  term_there j acc h m = rw (le-leb j k h, le-leb (k - j) dl m)

  term_after : (j : ℕ) (acc : Float) → j ≤ k → dl < k - j → product_term_of l dl f k j acc ≡ acc
  unfolding product_term_of
  term_after j acc h m = rw (le-leb j k h, lt-leb (k - j) dl m)

  term_before : (j : ℕ) (acc : Float) → k < j → product_term_of l dl f k j acc ≡ acc
  unfolding product_term_of
  term_before j acc h = rw (lt-leb j k h)

  abbrev terms_below : ℕ → Float → Float
  terms_below = count_down (product_term_of l dl f k)

  -- those above
  pub none_before : (n : ℕ) (acc : Float) → terms_below n acc ≡ terms_below (min n (k + 1)) acc
  unfolding count_down
  none_before zero acc = ap (λ (m : ℕ). terms_below m acc) (let e : 0 ≡ min 0 (k + 1) = omega arith in e)
  none_before (suc j) acc =
      ⊎_elim
      (λ h. ap (λ (m : ℕ). terms_below m acc) (let e : suc j ≡ min (suc j) (k + 1) = omega arith in e))
      (λ h.
      ap (terms_below j) (term_before j acc (omega arith)) ∙ none_before j acc
      ∙ ap (λ (m : ℕ). terms_below m acc) (let e : min j (k + 1) ≡ min (suc j) (k + 1) = omega arith in e)
      )
      (le_or_lt (suc j) (k + 1))

  -- those below
  pub none_after : (n : ℕ) (acc : Float) → n ≤ k - dl → terms_below n acc ≡ acc
  unfolding count_down
  none_after zero acc h = refl
  none_after (suc j) acc h = ap (terms_below j) (term_after j acc (omega arith) (omega arith)) ∙ none_after j acc (omega arith)

  -- from the first to the last of those that are there
  pub terms_all : next_at l dl f k ≡ terms_below (min (length f) (k + 1)) zero64
  unfolding next_at
  terms_all = none_before (length f) zero64

  pub terms_turn : (i : ℕ) (acc : Float) → i ≤ min (length f) (k + 1) → k - dl < i
      → terms_below i acc ≡ terms_below (i - 1) (add binary64 acc (mul binary64 (get_or l (k - (i - 1)) nan) (get_or f (i - 1) nan)))
  terms_turn i acc h m =
      down_turn (product_term_of l dl f k) i acc (omega arith) ∙ ap (terms_below (i - 1)) (term_there (i - 1) acc (omega arith) (omega arith))
