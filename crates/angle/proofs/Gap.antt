-- The definition's test on the grid of 2 ^ (1074 - k) units is the function's: the square of the tripled sine beside what v² leaves of 1.
use mathlib.Core.Path.{◌≡◌, refl, sym, ap, ap₂, ◌∙◌}
use mathlib.Core.Bool.{Bool, true, false, ◌||◌, ◌&&◌}
use Prim.Native.Nat.{ℕ, ◌+◌, ◌-◌, ◌*◌, ◌^◌, ◌≤◌, ◌<◌}
use native.Mathlib.Omega.{arith}
use native.Mathlib.Nat.{le_of_lt, lt_of_lt_of_le, mul_assoc, add-mul, sub-add_cancel}
use native.Mathlib.Nat.{mul-le-mul, mul-le-mul_left, mul-pos, mul-lt-mul_of_pos_right, mul-mul-mul_comm}
use borrow.Author.Tests.{leb-true, leb-false}
use lib.Dec.{leb}
use lib.Pow.{pow-add, pow_pos, pow_mono}
use Rattle.algebra.specs.NatOrder.{sub_mul}
use Rattle.algebra.specs.RingNat.{ring, #, ◌:*◌, ◌:=◌}
use Rattle.decode.specs.Shape.{Normal}
use Rattle.nearest.proofs.Powers.{leb_scaled}
use Rattle.angle.specs.Third.{turned, given, at_most_sine}
use Rattle.angle.specs.Parts.{tripled, gap_of, within, sin_le}
use Rattle.angle.proofs.Rise.{leb_same}
use Rattle.angle.proofs.Turning.{low_sum, high_sum}

-- ---- the tripled sine

tripled_square : (h t : ℕ) → tripled h t * tripled h t ≡ t * t * ((3 * (h * h) - t * t) * (3 * (h * h) - t * t))
tripled_square h t = mul-mul-mul_comm t (3 * (h * h) - t * t) t (3 * (h * h) - t * t)

pub low_parts : (h t : ℕ) → t ≤ h
    → tripled h t * tripled h t + (4 * (h * h) - t * t) * ((h * h - t * t) * (h * h - t * t)) ≡ 4 * (h * h * (h * h) * (h * h))
low_parts h t l =
    ap (λ (x : ℕ). x + (4 * (h * h) - t * t) * ((h * h - t * t) * (h * h - t * t))) (tripled_square h t) ∙ low_sum (h * h) (t * t) (mul-le-mul l l)

pub high_parts : (h t : ℕ) → h ≤ t → t * t ≤ 3 * (h * h)
    → tripled h t * tripled h t + (4 * (h * h) - t * t) * ((t * t - h * h) * (t * t - h * h)) ≡ 4 * (h * h * (h * h) * (h * h))
high_parts h t l m =
    ap (λ (x : ℕ). x + (4 * (h * h) - t * t) * ((t * t - h * h) * (t * t - h * h))) (tripled_square h t) ∙ high_sum (h * h) (t * t) (mul-le-mul l l) m

pub tripled_scaled : (h t X : ℕ) → tripled (h * X) (t * X) ≡ tripled h t * (X * X * X)
tripled_scaled h t X =
    ap (λ (x : ℕ). t * X * x)
    (ap₂ (λ (x y : ℕ). x - y) (ring 2 (λ h X. # 3 :* (h :* X :* (h :* X)) := # 3 :* (h :* h) :* (X :* X)) tt h X) (mul-mul-mul_comm t X t X)
    ∙ sym (sub_mul (3 * (h * h)) (t * t) (X * X)))
    ∙ ring 3 (λ t X e. t :* X :* (e :* (X :* X)) := t :* e :* (X :* X :* X)) tt t X (3 * (h * h) - t * t)

-- the same test of C times as much
pub within_scaled : (s : Bool) (q g C P Q : ℕ) → 0 < C → P * (C * C) ≡ Q → within s (g * Q) (q * C * (q * C)) ≡ within s (g * P) (q * q)
within_scaled s q g C P Q p e = go s
  where
    gaps : g * Q ≡ g * P * (C * C)
    gaps = ap (λ (x : ℕ). g * x) (sym e) ∙ sym (mul_assoc g P (C * C))

    go : (s : Bool) → within s (g * Q) (q * C * (q * C)) ≡ within s (g * P) (q * q)
    go false = ap₂ leb (mul-mul-mul_comm q C q C) gaps ∙ leb_scaled (q * q) (g * P) (C * C) (mul-pos p p)
    go true = ap₂ leb gaps (mul-mul-mul_comm q C q C) ∙ leb_scaled (g * P) (q * q) (C * C) (mul-pos p p)

-- and on a grid that is finer by X
pub regrid : (s : Bool) (h t g X P Q : ℕ) → 0 < X → P * (X * X * X * (X * X * X)) ≡ Q
    → within s (g * Q) (tripled (h * X) (t * X) * tripled (h * X) (t * X)) ≡ within s (g * P) (tripled h t * tripled h t)
regrid s h t g X P Q p e =
    ap (λ (x : ℕ). within s (g * Q) (x * x)) (tripled_scaled h t X)
    ∙ within_scaled s (tripled h t) g (X * X * X) P Q (mul-pos (mul-pos p p) p) e

-- six powers of 2 ^ j
pub sixfold : (i j l : ℕ) → i + 6 * j ≡ l → 2 ^ i * (2 ^ j * 2 ^ j * 2 ^ j * (2 ^ j * 2 ^ j * 2 ^ j)) ≡ 2 ^ l
sixfold i j l e =
    let three : 2 ^ j * 2 ^ j * 2 ^ j ≡ 2 ^ (j + j + j) = ap (λ (x : ℕ). x * 2 ^ j) (sym (pow-add 2 j j)) ∙ sym (pow-add 2 (j + j) j) in
    ap (λ (x : ℕ). 2 ^ i * x) (ap (λ (x : ℕ). x * x) three ∙ sym (pow-add 2 (j + j + j) (j + j + j)))
    ∙ sym (pow-add 2 i (j + j + j + (j + j + j)))
    ∙ ap (λ (x : ℕ). 2 ^ x) (let q : i + (j + j + j + (j + j + j)) ≡ l = omega arith in q)

-- a half, and the function's units of a square, on the grid of 2 ^ (1074 - k) units
pub half_on : (k : ℕ) → 54 ≤ k → k ≤ 81 → 2 ^ (k - 1) * 2 ^ (1074 - k) ≡ 2 ^ 1073
half_on k l m = sym (pow-add 2 (k - 1) (1074 - k)) ∙ ap (λ (x : ℕ). 2 ^ x) (let e : k - 1 + (1074 - k) ≡ 1073 = omega arith in e)

pub square_on : (k : ℕ) → 54 ≤ k → k ≤ 81 → let X = 2 ^ (1074 - k) in 2 ^ (6 * k - 232) * (X * X * X * (X * X * X)) ≡ 2 ^ 6212
square_on k l m = sixfold (6 * k - 232) (1074 - k) 6212 (let e : 6 * k - 232 + 6 * (1074 - k) ≡ 6212 = omega arith in e)

-- ---- the two sides, N being v² and G what it leaves of 1

module _ (h t N G : ℕ) (sum : G + N ≡ 4 * (h * h * (h * h) * (h * h))) where
  low_side : t ≤ h → leb N ((4 * (h * h) - t * t) * ((h * h - t * t) * (h * h - t * t))) ≡ within false G (tripled h t * tripled h t)
  low_side l =
      let parts = low_parts h t l ∙ sym sum in
      leb_same N ((4 * (h * h) - t * t) * ((h * h - t * t) * (h * h - t * t))) (tripled h t * tripled h t) G (λ q. omega (arith, parts))
      (λ q. omega (arith, parts))

  high_side : h ≤ t → t * t ≤ 3 * (h * h) → leb ((4 * (h * h) - t * t) * ((t * t - h * h) * (t * t - h * h))) N ≡ within true G (tripled h t * tripled h t)
  high_side l k =
      let parts = high_parts h t l k ∙ sym sum in
      leb_same ((4 * (h * h) - t * t) * ((t * t - h * h) * (t * t - h * h))) N G (tripled h t * tripled h t) (λ q. omega (arith, parts))
      (λ q. omega (arith, parts))

-- ---- the gap, in units

pub below_one : (w k : ℕ) → w < 2 ^ 53 → k < 1074 → w * 2 ^ (k - 1012) ≤ 2 ^ 114
below_one w k h l =
    le_of_lt (lt_of_lt_of_le (mul-lt-mul_of_pos_right h (pow_pos (k - 1012))) (mul-le-mul_left (2 ^ 53) (pow_mono (let e : k - 1012 ≤ 61 = omega arith in e))))

module _ (n w k : ℕ) (d : Normal n w k) (a : 1012 ≤ k) (b : k < 1074) where
  x : ℕ
  x = w * 2 ^ (k - 1012)

  pub square_is : let x = w * 2 ^ (k - 1012) in x * x * 2 ^ 6212 ≡ given n
  unfolding x
  square_is =
      let units : x * 2 ^ 1012 ≡ n * 2 ^ 52 = mul_assoc w (2 ^ (k - 1012)) (2 ^ 1012)
      ∙ ap (λ (y : ℕ). w * y) (sym (pow-add 2 (k - 1012) 1012) ∙ ap (λ (y : ℕ). 2 ^ y) (let e : k - 1012 + 1012 ≡ k = omega arith in e)) ∙ d.value in
      power x (2 ^ 1012) (2 ^ 4188) (2 ^ 6212) refl
      ∙ ap (λ (y : ℕ). y * y * 2 ^ 4188) units
      ∙ sym (power n (2 ^ 52) (2 ^ 4188) (2 ^ 4292) refl)
    where
      power : (x P R S : ℕ) → P * P * R ≡ S → x * x * S ≡ x * P * (x * P) * R
      power x P R S e = ap (λ (y : ℕ). x * x * y) (sym e) ∙ ring 3 (λ x P R. x :* x :* (P :* P :* R) := x :* P :* (x :* P) :* R) tt x P R

  pub gap_is : gap_of w k * 2 ^ 6212 + given n ≡ 2 ^ 6440
  unfolding x
  gap_is =
      ap (λ (y : ℕ). gap_of w k * 2 ^ 6212 + y) (sym square_is)
      ∙ sym (add-mul (2 ^ 228 - x * x) (x * x) (2 ^ 6212))
      ∙ ap (λ (y : ℕ). y * 2 ^ 6212) (let l = below_one w k d.short b in sub-add_cancel (mul-le-mul l l))

-- ---- on the grid

module _ (n w c k t : ℕ) (d : Normal n w c) (a : 1012 ≤ c) (b : c < 1074) (l : 54 ≤ k) (m : k ≤ 81) where
  X : ℕ
  X = 2 ^ (1074 - k)

  h : ℕ
  h = 2 ^ (k - 1)

  half : h * X ≡ 2 ^ 1073
  unfolding X h
  half = half_on k l m

  at_half : leb (t * X) (2 ^ 1073) ≡ leb t h
  unfolding X
  at_half = ap (λ (x : ℕ). leb (t * X) x) (sym half) ∙ leb_scaled t h X (pow_pos (1074 - k))

  at_most : leb (t * X * (t * X)) (3 * 2 ^ 2146) ≡ leb (t * t) (3 * (h * h))
  unfolding X
  at_most =
      ap₂ leb (mul-mul-mul_comm t X t X)
      (ap (λ (x : ℕ). 3 * (x * x)) (sym half) ∙ ring 2 (λ h X. # 3 :* (h :* X :* (h :* X)) := # 3 :* (h :* h) :* (X :* X)) tt h X)
      ∙ leb_scaled (t * t) (3 * (h * h)) (X * X) (mul-pos (pow_pos (1074 - k)) (pow_pos (1074 - k)))

  scaled : (s : Bool)
      → within s (gap_of w c * 2 ^ 6212) (tripled (2 ^ 1073) (t * X) * tripled (2 ^ 1073) (t * X)) ≡ within s (gap_of w c * 2 ^ (6 * k - 232))
      (tripled h t * tripled h t)
  unfolding X
  scaled s =
      ap (λ (x : ℕ). within s (gap_of w c * 2 ^ 6212) (tripled x (t * X) * tripled x (t * X))) (sym half)
      ∙ regrid s h t (gap_of w c) X (2 ^ (6 * k - 232)) (2 ^ 6212) (pow_pos (1074 - k)) (square_on k l m)

  pub grid : (s : Bool) → at_most_sine s n (t * 2 ^ (1074 - k)) ≡ sin_le s (gap_of w c) k t
  unfolding X h
  grid false = ap (λ (x : Bool). x && leb (given n) (turned false (t * X))) at_half ∙ go (leb t h) at_half
    where
      go : (x : Bool) → leb (t * X) (2 ^ 1073) ≡ x
          → (x && leb (given n) (turned false (t * X))) ≡ (x && within false (gap_of w c * 2 ^ (6 * k - 232)) (tripled h t * tripled h t))
      go true e = low_side (2 ^ 1073) (t * X) (given n) (gap_of w c * 2 ^ 6212) (gap_is n w c d a b) (leb-true (t * X) (2 ^ 1073) e) ∙ scaled false
      go false e = refl
  grid true = ap (λ (x : Bool). x || (leb (t * X * (t * X)) (3 * 2 ^ 2146) && leb (turned true (t * X)) (given n))) at_half ∙ go (leb t h) at_half
    where
      inner : 2 ^ 1073 ≤ t * X → (y : Bool) → leb (t * X * (t * X)) (3 * 2 ^ 2146) ≡ y
          → (y && leb (turned true (t * X)) (given n)) ≡ (y && within true (gap_of w c * 2 ^ (6 * k - 232)) (tripled h t * tripled h t))
      inner q true e =
          high_side (2 ^ 1073) (t * X) (given n) (gap_of w c * 2 ^ 6212) (gap_is n w c d a b) q (leb-true (t * X * (t * X)) (3 * 2 ^ 2146) e) ∙ scaled true
      inner q false e = refl

      go : (x : Bool) → leb (t * X) (2 ^ 1073) ≡ x
          → (x || (leb (t * X * (t * X)) (3 * 2 ^ 2146) && leb (turned true (t * X)) (given n))) ≡ (x ||
          (leb (t * t) (3 * (h * h)) && within true (gap_of w c * 2 ^ (6 * k - 232)) (tripled h t * tripled h t)))
      go true e = refl
      go false e =
          ap (λ (y : Bool). y && leb (turned true (t * X)) (given n)) at_most
          ∙ inner (le_of_lt (leb-false (t * X) (2 ^ 1073) e)) (leb (t * t) (3 * (h * h))) at_most
