-- Two quotients of differences, and the difference of the two: each operation moves its result by no more than 2 ^ -31, so that a bound on the exact numbers
-- with something to spare is one on the rounded ones. All in units of 2 ^ g, of which 1 has 2 ^ 30.
use mathlib.Core.Path.{◌≡◌, refl}
use mathlib.Core.Bool.{false}
use Prim.Native.Nat.{ℕ, zero, suc, ◌+◌, ◌*◌, ◌^◌, ◌≤◌, ◌<◌}
use native.Mathlib.Omega.{arith}
use native.Mathlib.Nat.{le_trans, mul-le-mul_left, mul-le-mul_right, le_of_mul-le-mul_right, zero-lt-suc}
use borrow.Author.Tests.{le-ltb}
use lib.IntN.{pos}
use lib.Ieee.{Float, fin, binary64, up, down, sub, div, lt, of_int, of_bits}
use Rattle.rounding.specs.Units.{one_units}
use Rattle.rounding.proofs.Value.{limit, one_pos, Val, plus_sign, minus_sign, Result, add_near, neg_val, div_near}
use Rattle.rounding.proofs.Exact.{half_unit}
use Rattle.float.specs.Literals.{eight64}

one_is : of_int binary64 (pos 1) ≡ fin false 1 (pos 0)
unfolding of_int
one_is = refl

two_is : of_int binary64 (pos 2) ≡ fin false 1 (pos 1)
unfolding of_int
two_is = refl

three_is : of_int binary64 (pos 3) ≡ fin false 3 (pos 0)
unfolding of_int
three_is = refl

four_is : of_int binary64 (pos 4) ≡ fin false 1 (pos 2)
unfolding of_int
four_is = refl

by_width : {x : Float} {p n : ℕ} (w : ℕ) → 0 < w → w ≤ 4 → Val x p n → p ≤ n + limit * w → n ≤ p + limit * w
    → Result (div binary64 x (of_int binary64 (pos w))) p n w
by_width zero W F X h l = absurd (omega arith)
by_width (suc zero) W F X h l = rw one_is (div_near 0 1 (pos 0) refl W X h l)
by_width (suc (suc zero)) W F X h l = rw two_is (div_near 0 2 (pos 1) refl W X h l)
by_width (suc (suc (suc zero))) W F X h l = rw three_is (div_near 2 3 (pos 0) refl W X h l)
by_width (suc (suc (suc (suc zero)))) W F X h l = rw four_is (div_near 0 4 (pos 2) refl W X h l)
by_width (suc (suc (suc (suc (suc w))))) W F X h l = absurd (omega arith)

-- ---- (P - N) / w, moved by m halves of a unit
pub record Close (g : ℕ) (z : Float) (P N w m : ℕ) : Type 0 where
  pub p : ℕ
  pub n : ℕ
  pub is : Val z p n
  pub lo : 2 * (p * w) + 2 * N ≤ 2 * P + 2 * (n * w) + m * 2 ^ g
  pub hi : 2 * P + 2 * (n * w) ≤ 2 * (p * w) + 2 * N + m * 2 ^ g

-- p - n is of no more than 2 ^ 20
abbrev pub Small : ℕ → ℕ → ℕ → Type 0
Small g p n = (p ≤ n + 2 ^ 50 * 2 ^ g) × (n ≤ p + 2 ^ 50 * 2 ^ g)

-- a bound A - B on the exact quotient, with 2 ^ 21 units to spare, is one on the moved one with a unit to spare
cancel : (w P N a b A B q : ℕ) → 0 < w → w ≤ 4 → 2 * (P * w) + 2 * b ≤ 2 * a + 2 * (N * w) + (w + 1) * q
    → a + w * B + 2 ^ 21 * q ≤ b + w * A → P + B + q ≤ N + A
cancel w P N a b A B q W F h l = le_of_mul-le-mul_right (let m = mul-le-mul_right q F in omega (arith, h, l, m)) W

module _ (g : ℕ) (one : one_units ≡ 2 ^ 30 * 2 ^ g) (room : 2 ^ 53 * 2 ^ g ≤ limit) where
  pub sub_close : {x y : Float} {p n r m : ℕ} → Val x p n → Val y r m → p + m ≤ n + r + 2 ^ 53 * 2 ^ g → n + r ≤ p + m + 2 ^ 53 * 2 ^ g
      → Close g (sub binary64 x y) (p + m) (n + r) 1 1
  unfolding sub
  sub_close X Y h l =
      let R = add_near X (neg_val Y) (omega arith) (omega arith) in
      let b = half_unit (zero-lt-suc 0) R.near g (omega arith) (omega arith) in
      record { p = R.p; n = R.n; is = R.is; lo = b.0; hi = b.1 }

  module _ {x y : Float} {p n r m : ℕ} (w : ℕ) (W : 0 < w) (F : w ≤ 4) (X : Val x p n) (Y : Val y r m) (P : p + m ≤ n + r + 2 ^ 51 * 2 ^ g)
      (N : n + r ≤ p + m + 2 ^ 51 * 2 ^ g) where
    quotient : Close g (div binary64 (sub binary64 x y) (of_int binary64 (pos w))) (p + m) (n + r) w (w + 1)
    quotient = let s = sub_close X Y (omega arith) (omega arith) in go s (omega (arith, s.lo)) (omega (arith, s.hi))
      where
        wide : (a b l : ℕ) → a ≤ b + 2 ^ 52 * 2 ^ g → 2 ^ 53 * 2 ^ g * 1 ≤ l → a ≤ b + l
        wide a b l h k = omega arith

        go : (s : Close g (sub binary64 x y) (p + m) (n + r) 1 1) → s.p ≤ s.n + 2 ^ 52 * 2 ^ g → s.n ≤ s.p + 2 ^ 52 * 2 ^ g
            → Close g (div binary64 (sub binary64 x y) (of_int binary64 (pos w))) (p + m) (n + r) w (w + 1)
        go s h l =
            let k = le_trans (mul-le-mul_right 1 room) (mul-le-mul_left limit W) in
            let j : 2 ^ 53 * 2 ^ g * 1 ≤ 2 ^ 53 * (w * 2 ^ g) = omega (arith, mul-le-mul_left (2 ^ 53 * 2 ^ g) W) in
            let R = by_width w W F s.is (wide _ _ _ h k) (wide _ _ _ l k) in
            let b = half_unit W R.near g (wide _ _ _ h j) (wide _ _ _ l j) in
            record { p = R.p; n = R.n; is = R.is; lo = omega (arith, b.0, s.lo); hi = omega (arith, b.1, s.hi) }

    least_is : (A B : ℕ) → n + r + w * B + 2 ^ 21 * 2 ^ g ≤ p + m + w * A → quotient.n + B + 2 ^ g ≤ quotient.p + A
    least_is A B l = cancel w quotient.n quotient.p (n + r) (p + m) A B (2 ^ g) W F (omega (arith, quotient.hi)) l

    most_of : (A B : ℕ) → p + m + w * B + 2 ^ 21 * 2 ^ g ≤ n + r + w * A → quotient.p + B + 2 ^ g ≤ quotient.n + A
    most_of A B l = cancel w quotient.p quotient.n (p + m) (n + r) A B (2 ^ g) W F quotient.lo l

    small : (quotient.p ≤ quotient.n + 2 ^ 52 * 2 ^ g) × (quotient.n ≤ quotient.p + 2 ^ 52 * 2 ^ g)
    small =
        let k = mul-le-mul_left (2 ^ 52 * 2 ^ g) W in
        let a = most_of (2 ^ 52 * 2 ^ g) 0 (omega arith) in
        let b = least_is (2 ^ 52 * 2 ^ g) 0 (omega arith) in
        (omega arith, omega arith)

  at_most_eight : {z : Float} {p n : ℕ} → Val z p n → p ≤ n + 8 * one_units → lt eight64 z ≡ false
  unfolding lt of_bits
  at_most_eight (minus_sign v) k = refl
  at_most_eight (plus_sign {m = m} {p = p} {e = e} v) k = le-ltb _ _
      (le_of_mul-le-mul_right (pick (m * up e) p (down e) one_units v (mul-le-mul_right (down e) k)) one_pos)
    where
      pick : (x p y o : ℕ) → x * o ≡ p * y → p * y ≤ (0 + 8 * o) * y → x * 1 * o ≤ 1 * 8 * y * o
      pick x p y o e l = omega (arith, e, l)

  -- ---- y is at most A - B, times its distance w, above x, and as much A' - B' above z: where the two are 8 together, no gap is found at y
  module _ {x y z : Float} {p n p' n' p'' n'' : ℕ} (X : Val x p n) (Y : Val y p' n') (Z : Val z p'' n'')
      (S : Small g p n) (S' : Small g p' n') (S'' : Small g p'' n'')
      (w w' : ℕ) (W : 0 < w) (F : w ≤ 4) (W' : 0 < w') (F' : w' ≤ 4) (A B A' B' : ℕ) where
    pub no_gap : n + p' + w * B + 2 ^ 21 * 2 ^ g ≤ p + n' + w * A → p' + n'' + w' * B' + 2 ^ 21 * 2 ^ g ≤ n' + p'' + w' * A' → A + A' ≤ B + B' + 8 * one_units
        → lt eight64 (sub binary64 (div binary64 (sub binary64 y z) (of_int binary64 (pos w')))
        (div binary64 (sub binary64 x y) (of_int binary64 (pos w)))) ≡ false
    no_gap rise drop e = go (omega arith) (omega arith) (omega arith) (omega arith)
      where
        apart : {u v : Float} {a b c d i j : ℕ} (h : Close g u a b w' i) (l : Close g v c d w j)
            → (h.p ≤ h.n + 2 ^ 52 * 2 ^ g) × (h.n ≤ h.p + 2 ^ 52 * 2 ^ g) → (l.p ≤ l.n + 2 ^ 52 * 2 ^ g) × (l.n ≤ l.p + 2 ^ 52 * 2 ^ g)
            → h.p + B' + 2 ^ g ≤ h.n + A' → l.n + B + 2 ^ g ≤ l.p + A → lt eight64 (sub binary64 u v) ≡ false
        apart h l H L a b =
            let s = sub_close h.is l.is (omega (arith, H, L)) (omega (arith, H, L)) in
            at_most_eight s.is (omega (arith, s.lo, a, b, e))

        go : p' + n'' ≤ n' + p'' + 2 ^ 51 * 2 ^ g → n' + p'' ≤ p' + n'' + 2 ^ 51 * 2 ^ g → p + n' ≤ n + p' + 2 ^ 51 * 2 ^ g → n + p' ≤ p + n' + 2 ^ 51 * 2 ^ g
            → lt eight64 (sub binary64 (div binary64 (sub binary64 y z) (of_int binary64 (pos w')))
            (div binary64 (sub binary64 x y) (of_int binary64 (pos w)))) ≡ false
        go P N P' N' =
            apart (quotient w' W' F' Y Z P N) (quotient w W F X Y P' N') (small w' W' F' Y Z P N) (small w W F X Y P' N')
            (most_of w' W' F' Y Z P N A' B' drop) (least_is w W F X Y P' N' A B rise)
