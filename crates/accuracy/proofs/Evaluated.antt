-- The compensated Horner rule, from a_d down to a_0: after its d turns, 4 at most, the value and its correction are as near to the exact value as d `step`s
-- leave them (`evaluated`), for coefficients of size 2 at most and a place of size 4 at most.
use mathlib.Core.Path.{◌≡◌, sym, ◌∙◌, subst}
use mathlib.Core.Bool.{true}
use mathlib.Core.List.{List}
use Prim.Native.Nat.{ℕ, zero, suc, ◌+◌, ◌*◌, ◌/◌, ◌^◌, ◌≤◌, ◌<◌, zero-le}
use native.Mathlib.Nat.{zero-add, add-zero, le_refl, pow-suc, pow-zero}
use native.Mathlib.Omega.{arith}
use lib.Dec.{lit≤}
use lib.IntN.{pos}
use lib.ListN.{get_or}
use lib.Ieee.{Float, nan, fits, of_bits}
use Rattle.facts.specs.Count.{count_down}
use Rattle.float.specs.Literals.{zero64, two64, four64}
use Rattle.rounding.specs.Units.{one_units}
use Rattle.rounding.specs.Diff.{Diff, ◌⊞◌, ◌⊠◌, ◌⊡◌, Apart, magnitude}
use Rattle.rounding.proofs.Value.{plus_sign}
use Rattle.rounding.proofs.Num.{Num}
use Rattle.horner.specs.Loops.{at_place}
use Rattle.horner.specs.Horner.{Horner, compensated_step, compensated_of}
use Rattle.accuracy.specs.Terms.{signed_units, exact_of}
use Rattle.accuracy.specs.Claims.{at_most, AllAtMost}
use Rattle.accuracy.proofs.Terms.{exact_from, exact_is}
use Rattle.accuracy.proofs.Units.{num_units, at_most_two, at_most_four}
use Rattle.accuracy.proofs.Horner.{Loss, loss, Modest, State, next_h, step}

-- ---- what each turn of a loop that counts down keeps holds at its end
down_keeps : {A : Type 0} (f : ℕ → A → A) (Kept : ℕ → A → Type 0) → ((k : ℕ) (a : A) → Kept (suc k) a → Kept k (f k a))
    → (n : ℕ) (a : A) → Kept n a → Kept 0 (count_down f n a)
unfolding count_down
down_keeps f Kept turn zero a h = h
down_keeps f Kept turn (suc n) a h = down_keeps f Kept turn n (f n a) (turn n a h)

-- ---- up to three turns leave room for one more
modest : (n : ℕ) → n < 4 → Modest (loss n)
modest zero h = (lit≤ tt, lit≤ tt, lit≤ tt, lit≤ tt, lit≤ tt)
modest (suc zero) h = (lit≤ tt, lit≤ tt, lit≤ tt, lit≤ tt, lit≤ tt)
modest (suc (suc zero)) h = (lit≤ tt, lit≤ tt, lit≤ tt, lit≤ tt, lit≤ tt)
modest (suc (suc (suc zero))) h = (lit≤ tt, lit≤ tt, lit≤ tt, lit≤ tt, lit≤ tt)
modest (suc (suc (suc (suc n)))) h = absurd (omega arith)

-- ---- before the first turn: v is a, r is 0, and the exact value a + 0 y
abbrev none : Diff
none = record { p = 0; n = 0 }

zero_num : Num zero64 0
unfolding of_bits
zero_num = record { v = none; is = plus_sign {m = 0} {p = 0} {e = pos 0} (omega arith); held = unfold fits in tt; bound = zero-le }

start : (a : Float) (A : Num a 2) (y : Diff) → (h : ℕ) × State (record { v = a; err = zero64; s = zero64 }) (A.v ⊡ 1 ⊞ none ⊠ y) 1 h (loss 0)
unfolding zero_num
start a A y =
    let m = magnitude A.v in
    let h = m / 2 ^ 53 + 1 in
    (h, record { vn = A; rn = zero_num; v_size = covers m; r_size = zero-le; close = same A.v y (0 * h + 0); bound = tight A.v y })
  where
    covers : (m : ℕ) → m ≤ 2 ^ 53 * (m / 2 ^ 53 + 1) + (0 * (m / 2 ^ 53 + 1) + 0)
    covers m = omega arith

    same : (a y : Diff) (b : ℕ) → Apart ((a ⊞ none) ⊡ 1 ⊡ 2 ^ 53) ((a ⊡ 1 ⊞ none ⊠ y) ⊡ 2 ^ 53) (b * 1)
    same a y b = (omega arith, omega arith)

    tight : (a y : Diff) → 2 ^ 53 * ((magnitude a / 2 ^ 53 + 1) * 1) ≤ magnitude (a ⊡ 1 ⊞ none ⊠ y) + 2 ^ 53 * (1 * 1)
    tight a y = omega arith

-- ---- the same state in other words
renamed : {H : Horner} {h : ℕ} {L : Loss} (Q c y c' y' : Diff) (S S' : ℕ) → c' ≡ c → y' ≡ y → S' ≡ S
    → State H (c ⊡ S ⊞ Q ⊠ y) S h L → State H (c' ⊡ S' ⊞ Q ⊠ y') S' h L
renamed {H} {h} {L} Q c y c' y' S S' a b e t =
    subst (λ (z : Diff). State H (z ⊡ S' ⊞ Q ⊠ y') S' h L) (sym a)
    (subst (λ (z : Diff). State H (c ⊡ S' ⊞ Q ⊠ z) S' h L) (sym b) (subst (λ (z : ℕ). State H (c ⊡ z ⊞ Q ⊠ y) z h L) (sym e) t))

-- ---- along the loop
module _ (f : List Float) (d : ℕ) (y : Float) (degree : d ≤ 4) (coefficients : AllAtMost two64 f d) (place : at_most four64 y ≡ true) where
  -- a_k is done, after n turns
  abbrev After : ℕ → Horner → Type 0
  After k H = (n : ℕ) × (n + k ≡ d) × (h : ℕ) × State H (exact_from f d y (suc n) k) (one_units ^ n) h (loss n)

  place_num : Num y 4
  place_num = at_most_four y place

  coefficient : (k : ℕ) → k ≤ d → Num (get_or f k nan) 2
  coefficient k l = at_most_two (get_or f k nan) (coefficients k l)

  first : After d (record { v = get_or f d nan; err = zero64; s = zero64 })
  unfolding exact_from
  first =
      let A = coefficient d (le_refl d) in
      let t = start (get_or f d nan) A place_num.v in (
        0,
        zero-add d,
        t.0,
        renamed none A.v place_num.v (signed_units (get_or f d nan)) (signed_units y) 1 (one_units ^ 0) (num_units A) (num_units place_num)
            (pow-zero one_units) t.1,
      )

  turn : (k : ℕ) (H : Horner) → After (suc k) H → After k (at_place (compensated_step y) f k H)
  unfolding exact_from
  turn k H (n, e, h, St) =
      let C = coefficient k (omega arith) in
      let t = step St place_num C (modest n (omega arith)) in (
        suc n,
        omega arith,
        next_h h (magnitude place_num.v) (magnitude C.v) one_units,
        renamed (exact_from f d y (suc n) (suc k)) C.v place_num.v (signed_units (get_or f k nan)) (signed_units y)
            (one_units ^ n * one_units) (one_units ^ suc n)
            (num_units C) (num_units place_num) (pow-suc one_units n) t,
      )

  last : After 0 (compensated_of f d y)
  unfolding compensated_of
  last = down_keeps (at_place (compensated_step y) f) After turn d (record { v = get_or f d nan; err = zero64; s = zero64 }) first

  pub evaluated : (h : ℕ) × State (compensated_of f d y) (exact_of f d y) (one_units ^ d) h (loss d)
  evaluated = go last.0 (sym (add-zero last.0) ∙ last.1) last.2 last.3
    where
      go : (n : ℕ) → n ≡ d → (h : ℕ) → State (compensated_of f d y) (exact_from f d y (suc n) 0) (one_units ^ n) h (loss n)
          → (h : ℕ) × State (compensated_of f d y) (exact_of f d y) (one_units ^ d) h (loss d)
      go n e h t =
          let t' = subst (λ (m : ℕ). State (compensated_of f d y) (exact_from f d y (suc m) 0) (one_units ^ m) h (loss m)) e t in
          (h, subst (λ (Q : Diff). State (compensated_of f d y) Q (one_units ^ d) h (loss d)) (sym (exact_is f d y)) t')
