-- Neither c nor s lies in the middle between two doubles, so 'nearest' leaves no choice.
--   c: a middle is an odd number t of 54 digits of 2 ^ -54. If it solved 4c³ - 3c = ±v, then v would be t * |t² - 3 * 2 ^ 106| of 2 ^ -160. That number is odd
--      and not below t, so it has 54 digits at least, and a double has 53.
--   s: 1 - c² is an even number of squares of half a step, and the square of an odd number of half steps is odd.
use mathlib.Core.Path.{◌≡◌, refl, sym, ap, ◌∙◌, subst}
use mathlib.Core.Logic.{◌⊎◌, inl, inr}
use mathlib.Core.Bool.{Bool, true, false}
use Prim.Native.Nat.{ℕ, suc, ◌+◌, ◌-◌, ◌*◌, ◌%◌, ◌^◌, ◌≤◌, ◌<◌}
use native.Mathlib.Omega.{arith}
use native.Mathlib.Nat.{le_trans, lt_of_lt_of_le, lt_irrefl, eq-zero-or-pos, add-mul, mul_assoc, mul_comm, mul-one}
use native.Mathlib.Nat.{one-mul, zero-mul, mul-pos, mul-le-mul_left, mul-le-mul_right, mul-mul-mul_comm, eq_of_mul-eq-mul_right, pow-succ'}
use lib.Pow.{pow-add, pow_pos}
use Rattle.algebra.specs.NatOrder.{sub_mul}
use Rattle.algebra.specs.RingNat.{ring, #, ◌:*◌, ◌:=◌}
use Rattle.decode.specs.Shape.{Normal}
use Rattle.nearest.proofs.Powers.{odd_mul}
use Rattle.angle.specs.Third.{left, right}
use Rattle.angle.specs.Parts.{SineSquare}

-- no number of 53 digits, times a power of two, is an odd number of more digits times another
is_too_long : (w k K L : ℕ) → w < 2 ^ 53 → 2 ^ 53 ≤ K → K % 2 ≡ 1 → w * 2 ^ k ≡ K * 2 ^ L → ⊥
is_too_long w k K L a b o e = go (eq-zero-or-pos (k - L))
  where
    joined : (x i j l : ℕ) → i + j ≡ l → x * 2 ^ i * 2 ^ j ≡ x * 2 ^ l
    joined x i j l e = mul_assoc x (2 ^ i) (2 ^ j) ∙ ap (λ (y : ℕ). x * y) (sym (pow-add 2 i j) ∙ ap (λ (y : ℕ). 2 ^ y) e)

    go : (k - L ≡ 0) ⊎ (0 < k - L) → ⊥
    go (inl z) =
        let s : w ≡ K * 2 ^ (L - k) = eq_of_mul-eq-mul_right (2 ^ k) (pow_pos k) w (K * 2 ^ (L - k))
        (e ∙ sym (joined K (L - k) k L (let q : L - k + k ≡ L = omega arith in q))) in
        let l : K ≤ w = subst (λ (x : ℕ). K ≤ x) (sym s) (subst (λ (x : ℕ). x ≤ K * 2 ^ (L - k)) (mul-one K) (mul-le-mul_left K (pow_pos (L - k)))) in
        omega arith
    go (inr p) =
        let s : w * 2 ^ (k - L) ≡ K = eq_of_mul-eq-mul_right (2 ^ L) (pow_pos L) (w * 2 ^ (k - L)) K
        (joined w (k - L) L k (let q : k - L + L ≡ k = omega arith in q) ∙ e) in
        let t : w * 2 ^ (k - L) ≡ w * 2 ^ (k - L - 1) * 2 = ap (λ (x : ℕ). w * x)
        (ap (λ (x : ℕ). 2 ^ x) (let q : k - L ≡ suc (k - L - 1) = omega arith in q) ∙ pow-succ' 2 (k - L - 1)
        ∙ mul_comm 2 (2 ^ (k - L - 1))) ∙ sym (mul_assoc w (2 ^ (k - L - 1)) 2) in
        omega arith

-- n units are (q - r) * t of 2 ^ 914 units
long_odd : (q r t n w k : ℕ) → (q + r) % 2 ≡ 1 → t % 2 ≡ 1 → 2 ^ 53 ≤ t → Normal n w k → q * t * 2 ^ 914 ≡ r * t * 2 ^ 914 + n → ⊥
long_odd q r t n w k o p h d e = go (eq-zero-or-pos (q - r))
  where
    gap : (x y n : ℕ) → x ≡ y + n → n ≡ x - y
    gap x y n e = omega arith

    part : n ≡ (q - r) * t * 2 ^ 914
    part = gap (q * t * 2 ^ 914) (r * t * 2 ^ 914) n e ∙ sym (sub_mul (q * t) (r * t) (2 ^ 914)) ∙ ap (λ (x : ℕ). x * 2 ^ 914) (sym (sub_mul q r t))

    digits : w * 2 ^ k ≡ (q - r) * t * 2 ^ 966
    digits = d.value ∙ ap (λ (x : ℕ). x * 2 ^ 52) part ∙ mul_assoc ((q - r) * t) (2 ^ 914) (2 ^ 52)

    odd_gap : (q r : ℕ) → (q + r) % 2 ≡ 1 → 0 < q - r → (q - r) % 2 ≡ 1
    odd_gap q r o l = omega arith

    go : (q - r ≡ 0) ⊎ (0 < q - r) → ⊥
    go (inl z) =
        lt_irrefl 0 (subst (λ (x : ℕ). 0 < x) (digits ∙ ap (λ (x : ℕ). x * t * 2 ^ 966) z ∙ ap (λ (x : ℕ). x * 2 ^ 966) (zero-mul t))
        (mul-pos (lt_of_lt_of_le (pow_pos 52) d.led) (pow_pos k)))
    go (inr l) =
        is_too_long w k ((q - r) * t) 966 d.short (le_trans h (subst (λ (x : ℕ). x ≤ (q - r) * t) (one-mul t) (mul-le-mul_right t l)))
        (odd_mul (q - r) t (odd_gap q r o l) p) digits

-- the two sides of the definition at t * X units, with S for 2 ^ 2148, Y for 2 ^ 914 and C for 2 ^ 106
module _ (t n X S Y C : ℕ) (e1 : 4 * (X * X * X) ≡ Y * S) (e2 : X ≡ C * Y) (hS : 0 < S) where
  cubes : 4 * (t * X * (t * X) * (t * X)) ≡ t * t * t * Y * S
  cubes =
      ring 2 (λ t X. # 4 :* (t :* X :* (t :* X) :* (t :* X)) := t :* t :* t :* (# 4 :* (X :* X :* X))) tt t X
      ∙ ap (λ (x : ℕ). t * t * t * x) e1 ∙ sym (mul_assoc (t * t * t) Y S)

  linear : 3 * (t * X) ≡ 3 * C * t * Y
  linear = ap (λ (x : ℕ). 3 * (t * x)) e2 ∙ ring 3 (λ t C Y. # 3 :* (t :* (C :* Y)) := # 3 :* C :* t :* Y) tt t C Y

  plus : 4 * (t * X * (t * X) * (t * X)) ≡ (3 * (t * X) + n) * S → t * t * t * Y ≡ 3 * C * t * Y + n
  plus e = eq_of_mul-eq-mul_right S hS (t * t * t * Y) (3 * C * t * Y + n) (sym cubes ∙ e ∙ ap (λ (x : ℕ). (x + n) * S) linear)

  minus : 4 * (t * X * (t * X) * (t * X)) + n * S ≡ 3 * (t * X) * S → 3 * C * t * Y ≡ t * t * t * Y + n
  minus e =
      sym (eq_of_mul-eq-mul_right S hS (t * t * t * Y + n) (3 * C * t * Y)
      (add-mul (t * t * t * Y) n S ∙ ap (λ (x : ℕ). x + n * S) (sym cubes) ∙ e ∙ ap (λ (x : ℕ). x * S) linear))

pub cos_no_tie : (s : Bool) (n w k t : ℕ) → Normal n w k → t % 2 ≡ 1 → 2 ^ 53 ≤ t → left s n (t * 2 ^ 1020) ≡ right s n (t * 2 ^ 1020) → ⊥
cos_no_tie s n w k t d o h = go s
  where
    parity : (q : ℕ) → q % 2 ≡ 1 → ((q + 3 * 2 ^ 106) % 2 ≡ 1) × ((3 * 2 ^ 106 + q) % 2 ≡ 1)
    parity q o = (omega arith, omega arith)

    go : (s : Bool) → left s n (t * 2 ^ 1020) ≡ right s n (t * 2 ^ 1020) → ⊥
    go false e =
        long_odd (t * t) (3 * 2 ^ 106) t n w k (parity (t * t) (odd_mul t t o o)).0 o h d
        (plus t n (2 ^ 1020) (2 ^ 2148) (2 ^ 914) (2 ^ 106) refl refl (pow_pos 2148) e)
    go true e =
        long_odd (3 * 2 ^ 106) (t * t) t n w k (parity (t * t) (odd_mul t t o o)).1 o h d
        (minus t n (2 ^ 1020) (2 ^ 2148) (2 ^ 914) (2 ^ 106) refl refl (pow_pos 2148) e)

pub sin_no_tie : (m hi lo k t : ℕ) → SineSquare m hi lo k → t % 2 ≡ 1 → t * 2 ^ k * (t * 2 ^ k) ≡ (2 ^ 53 - m) * (2 ^ 53 + m) * 2 ^ 2042 → ⊥
sin_no_tie m hi lo k t d o e =
    unlike (t * t) hi lo (odd_mul t t o o) d.even
    (eq_of_mul-eq-mul_right (2 ^ k * 2 ^ k) (mul-pos (pow_pos k) (pow_pos k)) (t * t) (hi * 2 ^ 64 + lo)
    (sym (mul-mul-mul_comm t (2 ^ k) t (2 ^ k)) ∙ e ∙ d.square))
  where
    unlike : (q hi lo : ℕ) → q % 2 ≡ 1 → lo % 2 ≡ 0 → q ≡ hi * 2 ^ 64 + lo → ⊥
    unlike q hi lo a b e = omega arith
