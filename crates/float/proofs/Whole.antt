-- Whole numbers as doubles: (p - q) as f64.
use mathlib.Core.Path.{◌≡◌, sym, ap, ap₂, ◌∙◌, subst}
use mathlib.Core.Bool.{true, false, not}
use mathlib.Core.Logic.{◌⊎◌, inl, inr, ⊎_elim}
use Prim.Native.Nat.{ℕ, zero, suc, ◌+◌, ◌-◌, ◌^◌, ◌<◌, ◌≤◌}
use native.Mathlib.Nat.{eq-zero-or-pos}
use native.Mathlib.Omega.{arith}
use borrow.Author.Tests.{le-leb, lt-leb, le-ltb, lt-ltb}
use lib.Dec.{T}
use lib.IntN.{ℤ, pos, negsuc, ◌-ℤ◌}
use lib.Ieee.{Float, fin, binary64, minus, neg, of_int, in_float, round}
use lib.Ieee.Exact.{HasValue}
use lib.Ieee.Back.{round_whole, whole_unique}
use lib.Ieee.Fits.{neg-fits, of_int-fits}
use mir.Syntax.{w64}
use mir.Val.{SFits, to_z, of_z}
use mir.Facts.{to_z-of_z}

-- n as f64 loses nothing
pub whole_exact : (n : ℕ) → n ≤ 2 ^ 53 → T (in_float binary64 (pos n))
unfolding in_float
whole_exact n h = subst T (sym (le-leb n (2 ^ 53) h)) tt

neg_value : (x : Float) (n : ℕ) → HasValue x false n 1 → HasValue (neg x) true n 1
unfolding neg
neg_value (fin s m e) n v = (ap not v.0, v.1)
neg_value lib.Ieee.nan n v = elim v [ ]
neg_value (lib.Ieee.inf _) n v = elim v [ ]

-- -(n as f64) is (-n) as f64
pub neg_whole : (k : ℕ) → suc k ≤ 2 ^ 53 → neg (of_int binary64 (pos (suc k))) ≡ of_int binary64 (negsuc k)
unfolding of_int
neg_whole k h =
    whole_unique binary64 (neg (round binary64 false (suc k) 1)) (round binary64 true (suc k) 1) true (suc k)
    (neg-fits binary64 _ (of_int-fits binary64 (pos (suc k)))) (of_int-fits binary64 (negsuc k))
    (neg_value _ (suc k) (round_whole binary64 false (suc k) h)) (round_whole binary64 true (suc k) h)

pub difference_up : (p q : ℕ) → q ≤ p → of_int binary64 (pos (p - q)) ≡ of_int binary64 (minus p q)
difference_up p q h = rw (le-leb q p h)

pub difference_down : (p q : ℕ) → q ≤ 2 ^ 53 → p < q → neg (of_int binary64 (pos (q - p))) ≡ of_int binary64 (minus p q)
difference_down p q l h =
    let e : q - p ≡ suc (q - suc p) = omega arith in
    rw (lt-leb q p h, e) (neg_whole (q - suc p) (omega arith))

split : (p q : ℕ) → (q ≤ p) ⊎ (p < q)
split p q = go (eq-zero-or-pos (q - p))
  where
    go : (q - p ≡ 0) ⊎ (0 < q - p) → (q ≤ p) ⊎ (p < q)
    go (inl z) = inl (omega arith)
    go (inr l) = inr (omega arith)

minus_pos : (p q : ℕ) → pos p -ℤ pos q ≡ minus p q
minus_pos p zero = rw (le-leb 0 p (omega arith)) (let e : p + 0 ≡ p - 0 = omega arith in ap pos e)
minus_pos p (suc q) =
    ⊎_elim (λ l. rw (le-leb (suc q) p l, le-ltb p (suc q) l)) (λ l. rw (lt-leb (suc q) p l, lt-ltb p (suc q) l)) (split p (suc q))

-- p - q as the machine has it, in an i64
module _ (p q : ℕ) (h : p ≤ 2 ^ 53) (g : q ≤ 2 ^ 53) where
  abbrev machine : ℤ
  machine = to_z w64 p -ℤ to_z w64 q

  sides : (q ≤ p) ⊎ (p < q)
  sides = split p q

  minus_is : machine ≡ minus p q
  minus_is =
      ap₂ (λ (y z : ℤ). y -ℤ z) (to_z-of_z {w = w64} {z = pos p} (record { sfits = omega arith }))
      (to_z-of_z {w = w64} {z = pos q} (record { sfits = omega arith }))
      ∙ minus_pos p q

  small : SFits w64 (minus p q)
  small =
      ⊎_elim (λ l. rw (le-leb q p l) (record { sfits = omega arith })) (λ l. rw (lt-leb q p l) (record { sfits = omega arith })) sides

  pub difference_fits : SFits w64 machine
  difference_fits = subst (λ (z : ℤ). SFits w64 z) (sym minus_is) small

  pub difference_is : to_z w64 (of_z w64 machine) ≡ minus p q
  difference_is = to_z-of_z difference_fits ∙ minus_is

  exact : T (in_float binary64 (minus p q))
  unfolding in_float
  exact =
      ⊎_elim (λ l. rw (le-leb q p l, le-leb (p - q) (2 ^ 53) (omega arith)) tt) (λ l. rw (lt-leb q p l, lt-ltb (q - suc p) (2 ^ 53) (omega arith)) tt) sides

  pub difference_exact : T (in_float binary64 (to_z w64 (of_z w64 machine)))
  difference_exact = subst (λ (z : ℤ). T (in_float binary64 z)) (sym difference_is) exact
