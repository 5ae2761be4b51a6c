-- The definition of s for the exact c by what the function's tests say of v. No s lies in the middle between two doubles: at an odd t of 2 ^ -k, both factors
-- of the definition's square are odd or 0, and the square of v is even there and not 0.
use mathlib.Core.Path.{◌≡◌, refl, sym, ap, ap₂, ◌∙◌, subst}
use mathlib.Core.Logic.{◌⊎◌, inl, inr, ⊎_elim}
use mathlib.Core.Bool.{Bool, true, false, cond, ◌||◌, ◌&&◌, false≢true}
use Prim.Native.Nat.{ℕ, suc, ◌+◌, ◌-◌, ◌*◌, ◌%◌, ◌^◌, ◌≤◌, ◌<◌, zero-le}
use native.Mathlib.Omega.{arith}
use native.Mathlib.Nat.{le_trans, le_of_lt, le_antisymm, le_of_mul-le-mul_right, lt_of_lt_of_le, lt_of_le_of_lt}
use native.Mathlib.Nat.{lt_irrefl, eq-zero-or-pos, mul_assoc}
use native.Mathlib.Nat.{mul_comm, mul-pos, mul-le-mul, mul-le-mul_right}
use native.Mathlib.Nat.{mul-mul-mul_comm, eq_of_mul-eq-mul_right, zero-mul, mul-zero, pow-succ'}
use borrow.Author.Tests.{le-leb, lt-leb, eqb-true}
use lib.Dec.{leb, eqb, lit<, lit≤}
use lib.Pow.{pow_pos, pow_mono}
use lib.IntN.{ℤ}
use lib.Count.{count_trailing_zeros}
use lib.Ieee.{Float, nan, inf, fin, odd, lt, round, size, units, of_bits}
use Rattle.algebra.specs.NatOrder.{sub_mul}
use Rattle.algebra.specs.RingNat.{ring, #, ◌:*◌, ◌:=◌}
use Rattle.std.specs.Prelude.{Some, None}
use Rattle.float.specs.Literals.{zero64}
use Rattle.float.specs.Methods.{is_finite_of}
use Rattle.float.specs.Units.{units_of}
use Rattle.decode.specs.Shape.{Normal, Decoded}
use Rattle.decode.specs.declared.digits.Digits.{Digits}
use Rattle.decode.proofs.Class.{irregular_units, decoded_irregular, decoded_regular, decoded_normal}
use Rattle.nearest.specs.Greatest.{greatest, nearest_of, NearestHalf}
use Rattle.nearest.proofs.ByTest.{odd_middle, by_test}
use Rattle.nearest.proofs.Powers.{odd_mul}
use Rattle.angle.specs.Third.{turned, given, at_most_sine, sine_units, exact_sin_of}
use Rattle.angle.specs.Parts.{gap_of, sin_le, Binade}
use Rattle.angle.proofs.Turning.{monotone}
use Rattle.angle.proofs.Gap.{half_on, square_on, square_is, grid}
use Rattle.angle.proofs.Binades.{none_passes}
use Rattle.angle.proofs.Cases.{by_sign, units_lt}

-- the double nearest to s, for a v of n units
abbrev pub nearest_sin : Bool → ℕ → Float
nearest_sin s n = let t = sine_units s n in nearest_of t (eqb (turned s t) (given n))

-- ---- no tie

-- the square of the definition at t * X units, with h for a half
abbrev square : Bool → ℕ → ℕ → ℕ
square false h t = (4 * (h * h) - t * t) * ((h * h - t * t) * (h * h - t * t))
square true h t = (4 * (h * h) - t * t) * ((t * t - h * h) * (t * t - h * h))

turned_scaled : (s : Bool) (h t X : ℕ) → h * X ≡ 2 ^ 1073 → turned s (t * X) ≡ square s h t * (X * X * X * (X * X * X))
turned_scaled s h t X e = go s
  where
    sides : (c a : ℕ) → c ≡ a * (X * X) → c - t * X * (t * X) ≡ (a - t * t) * (X * X)
    sides c a f = ap₂ (λ (x y : ℕ). x - y) f (mul-mul-mul_comm t X t X) ∙ sym (sub_mul a (t * t) (X * X))

    other : (c a : ℕ) → c ≡ a * (X * X) → t * X * (t * X) - c ≡ (t * t - a) * (X * X)
    other c a f = ap₂ (λ (x y : ℕ). x - y) (mul-mul-mul_comm t X t X) f ∙ sym (sub_mul (t * t) a (X * X))

    one : 2 ^ 2146 ≡ h * h * (X * X)
    one = ap (λ (x : ℕ). x * x) (sym e) ∙ mul-mul-mul_comm h X h X

    four : 2 ^ 2148 ≡ 4 * (h * h) * (X * X)
    four = ap (λ (x : ℕ). 4 * x) one ∙ sym (mul_assoc 4 (h * h) (X * X))

    six : (f r : ℕ) → f * (X * X) * (r * (X * X) * (r * (X * X))) ≡ f * (r * r) * (X * X * X * (X * X * X))
    six f r = ring 3 (λ f r X. f :* (X :* X) :* (r :* (X :* X) :* (r :* (X :* X))) := f :* (r :* r) :* (X :* X :* X :* (X :* X :* X))) tt f r X

    go : (s : Bool) → turned s (t * X) ≡ square s h t * (X * X * X * (X * X * X))
    go false =
        ap₂ (λ (x y : ℕ). x * (y * y)) (sides (2 ^ 2148) (4 * (h * h)) four) (sides (2 ^ 2146) (h * h) one) ∙ six (4 * (h * h) - t * t) (h * h - t * t)
    go true = ap₂ (λ (x y : ℕ). x * (y * y)) (sides (2 ^ 2148) (4 * (h * h)) four) (other (2 ^ 2146) (h * h) one) ∙ six (4 * (h * h) - t * t) (t * t - h * h)

-- the difference of an even number and an odd one
odd_left : (m a : ℕ) → m % 2 ≡ 0 → a % 2 ≡ 1 → (m - a ≡ 0) ⊎ ((m - a) % 2 ≡ 1)
odd_left m a e o = ⊎_elim (λ z. inl z) (λ p. inr (omega arith)) (eq-zero-or-pos (m - a))

odd_right : (m a : ℕ) → m % 2 ≡ 0 → a % 2 ≡ 1 → (a - m ≡ 0) ⊎ ((a - m) % 2 ≡ 1)
odd_right m a e o = ⊎_elim (λ z. inl z) (λ p. inr (omega arith)) (eq-zero-or-pos (a - m))

square_parity : (s : Bool) (h t : ℕ) → h * h % 2 ≡ 0 → t % 2 ≡ 1 → (square s h t ≡ 0) ⊎ (square s h t % 2 ≡ 1)
square_parity s h t e o = go s
  where
    product : (f r : ℕ) → (f ≡ 0) ⊎ (f % 2 ≡ 1) → (r ≡ 0) ⊎ (r % 2 ≡ 1) → (f * (r * r) ≡ 0) ⊎ (f * (r * r) % 2 ≡ 1)
    product f r (inl z) y = inl (ap (λ (x : ℕ). x * (r * r)) z ∙ zero-mul (r * r))
    product f r (inr x) (inl z) = inl (ap (λ (y : ℕ). f * (y * y)) z ∙ mul-zero f)
    product f r (inr x) (inr y) = inr (odd_mul f (r * r) x (odd_mul r r y y))

    four : 4 * (h * h) % 2 ≡ 0
    four = omega arith

    go : (s : Bool) → (square s h t ≡ 0) ⊎ (square s h t % 2 ≡ 1)
    go false =
        product (4 * (h * h) - t * t) (h * h - t * t) (odd_left (4 * (h * h)) (t * t) four (odd_mul t t o o)) (odd_left (h * h) (t * t) e (odd_mul t t o o))
    go true =
        product (4 * (h * h) - t * t) (t * t - h * h) (odd_left (4 * (h * h)) (t * t) four (odd_mul t t o o)) (odd_right (h * h) (t * t) e (odd_mul t t o o))

even_power : (i : ℕ) → 0 < i → (a : ℕ) → a * 2 ^ i % 2 ≡ 0
even_power i p a =
    subst (λ (x : ℕ). a * x % 2 ≡ 0) (sym (ap (λ (x : ℕ). 2 ^ x) (let e : i ≡ suc (i - 1) = omega arith in e) ∙ pow-succ' 2 (i - 1)))
    (go (2 ^ (i - 1)))
  where
    go : (y : ℕ) → a * (2 * y) % 2 ≡ 0
    go y = let e : a * (2 * y) ≡ 2 * (a * y) = ring 2 (λ a y. a :* (# 2 :* y) := # 2 :* (a :* y)) tt a y in omega arith

module _ (s : Bool) (n w c : ℕ) (d : Normal n w c) (a : 1012 ≤ c) (b : c < 1074) where
  no_tie : (k t : ℕ) → 54 ≤ k → k ≤ 81 → t % 2 ≡ 1 → turned s (t * 2 ^ (1074 - k)) ≡ given n → ⊥
  no_tie k t l m o e =
      let X = 2 ^ (1074 - k) in
      let h = 2 ^ (k - 1) in
      let x = w * 2 ^ (c - 1012) in
      let p = pow_pos (1074 - k) in
      let same : square s h t ≡ x * x * 2 ^ (6 * k - 232) =
      eq_of_mul-eq-mul_right (X * X * X * (X * X * X)) (mul-pos (mul-pos (mul-pos p p) p) (mul-pos (mul-pos p p) p)) (square s h t) (x * x * 2 ^ (6 * k - 232))
      (sym (turned_scaled s h t X (half_on k l m))
      ∙ e
      ∙ sym (square_is n w c d a b)
      ∙ ap (λ (y : ℕ). x * x * y) (sym (square_on k l m))
      ∙ sym (mul_assoc (x * x) (2 ^ (6 * k - 232)) (X * X * X * (X * X * X)))) in
      let even : x * x * 2 ^ (6 * k - 232) % 2 ≡ 0 = even_power (6 * k - 232) (let q : 0 < 6 * k - 232 = omega arith in q) (x * x) in
      let y = mul-pos (lt_of_lt_of_le (pow_pos 52) d.led) (pow_pos (c - 1012)) in
      let some : 0 < x * x * 2 ^ (6 * k - 232) = mul-pos (mul-pos y y) (pow_pos (6 * k - 232)) in
      ⊎_elim (λ z. lt_irrefl 0 (subst (λ (y : ℕ). 0 < y) (sym same ∙ z) some)) (λ z. unlike (square s h t) (x * x * 2 ^ (6 * k - 232)) same z even)
      (square_parity s h t (subst (λ (y : ℕ). y % 2 ≡ 0) (mul_comm (2 ^ (k - 1)) (2 ^ (k - 1)))
      (even_power (k - 1) (let q : 0 < k - 1 = omega arith in q) (2 ^ (k - 1)))) o)
    where
      unlike : (x y : ℕ) → x ≡ y → x % 2 ≡ 1 → y % 2 ≡ 0 → ⊥
      unlike x y e o z = omega arith

  -- ---- by the test

  pub sine_inside : (k m : ℕ) → Binade s (gap_of w c) k → NearestHalf (sin_le s (gap_of w c) k) m → nearest_sin s n ≡ odd 54 false m (1075 - k) 1074
  unfolding sine_units
  sine_inside k m q h =
      let t = sine_units s n in
      let at : (b : ℕ) → at_most_sine s n (b * 2 ^ (1074 - k)) ≡ sin_le s (gap_of w c) k b = λ t. grid n w c k t d a b q.least q.most s in
      by_test (at_most_sine s n) (monotone s n) 1074 0 (1074 - k) m (eqb (turned s t) (given n))
      (subst (λ (x : ℕ). at_most_sine s n x ≡ true) (zero-mul (2 ^ (1074 - k))) (at 0 ∙ none_passes s (gap_of w c) k))
      (beyond s)
      (record { least = at (2 ^ 53) ∙ q.first; most = at (2 ^ 54) ∙ q.beyond })
      (record { some = h.some; low = at (2 * m - 1) ∙ h.low; high = at (2 * m + 1) ∙ h.high })
      (λ g x. no_tie k (2 * m - 1) q.least q.most (odd_middle m h.some) (ap (turned s) g ∙ eqb-true (turned s t) (given n) x))
      (let z : suc (1074 - k) < 2045 = omega (arith, q.most) in z)
      ∙ ap (λ (x : ℕ). odd 54 false m x 1074) (let z : suc (1074 - k) ≡ 1075 - k = omega (arith, q.most) in z)
    where
      beyond : (s : Bool) → at_most_sine s n (0 + 2 ^ 1074) ≡ false
      beyond false = refl
      beyond true = refl

-- ---- a v below 2 ^ -54

module _ (n : ℕ) (p : 0 < n) (l : n < 2 ^ 1020) where
  little : given n ≤ given (2 ^ 1020)
  little = mul-le-mul_right (2 ^ 4292) (mul-le-mul (le_of_lt l) (le_of_lt l))

  some : 0 < given n
  some = mul-pos (mul-pos p p) (pow_pos 4292)

  passes : (t : ℕ) → leb t (2 ^ 1073) ≡ true → given (2 ^ 1020) ≤ turned false t → at_most_sine false n t ≡ true
  passes t e m = ap₂ (λ (x y : Bool). x && y) e (le-leb (given n) (turned false t) (le_trans little m))

  fails : (t : ℕ) → leb t (2 ^ 1073) ≡ false → at_most_sine false n t ≡ false
  fails t e = ap (λ (x : Bool). x && leb (given n) (turned false t)) e

  tiny_above : nearest_sin false n ≡ odd 54 false (2 ^ 52) 1021 1074
  unfolding sine_units odd count_trailing_zeros
  tiny_above =
      let t = sine_units false n in
      by_test (at_most_sine false n) (monotone false n) 1074 0 1019 (2 ^ 53) (eqb (turned false t) (given n))
      (passes 0 refl (lit≤ tt))
      (fails (0 + 2 ^ 1074) refl)
      (record { least = passes (2 ^ 53 * 2 ^ 1019) refl (lit≤ tt); most = ap (λ (x : Bool). true && x) (lt-leb (given n) 0 some) })
      (record { some = pow_pos 53; low = passes ((2 * 2 ^ 53 - 1) * 2 ^ 1019) refl (lit≤ tt); high = fails ((2 * 2 ^ 53 + 1) * 2 ^ 1019) refl })
      (λ g x.
      lt_irrefl (given n)
      (lt_of_le_of_lt little
      (subst (λ (y : ℕ). given (2 ^ 1020) < y) (ap (turned false) g ∙ eqb-true (turned false t) (given n) x)
      (let q : given (2 ^ 1020) < turned false ((2 * 2 ^ 53 - 1) * 2 ^ 1019) = lit< tt in q))))
      (lit< tt)

  tiny_below : nearest_sin true n ≡ odd 54 false (2 ^ 52) 1021 1074
  unfolding sine_units
  tiny_below =
      let t = sine_units true n in
      by_test (at_most_sine true n) (monotone true n) 1074 0 1020 (2 ^ 52) (eqb (turned true t) (given n))
      refl
      refl
      (record { least = refl; most = refl })
      (record {
        some = pow_pos 52;
        low = refl;
        high = ap (λ (x : Bool). false || (true && x))
            (lt-leb (turned true ((2 * 2 ^ 52 + 1) * 2 ^ 1020)) (given n) (lt_of_le_of_lt little (lit< tt)));
      })
      (λ g x. lt_irrefl 0 (subst (λ (y : ℕ). 0 < y) (sym (ap (turned true) g ∙ eqb-true (turned true t) (given n) x)) some))
      (lit< tt)

  pub sine_tiny : (s : Bool) → nearest_sin s n ≡ odd 54 false (2 ^ 52) 1021 1074
  sine_tiny false = tiny_above
  sine_tiny true = tiny_below

-- ---- at 0, 1 and -1 the definition computes

pub sine_zero : (s : Bool) → nearest_sin s 0 ≡ odd 54 false (2 ^ 52) 1021 1074
unfolding sine_units nearest_of greatest round size units odd count_trailing_zeros
sine_zero true = refl
sine_zero false = refl

pub sine_one : (s : Bool) → nearest_sin s (2 ^ 1074) ≡ cond s (odd 54 false 7800463371553962 1021 1074) zero64
unfolding of_bits sine_units nearest_of greatest round size units odd count_trailing_zeros
sine_one true = refl
sine_one false = refl

-- ---- by the digits of v

at : (s : Bool) (m : ℕ) (e : ℤ) → units_of (fin s m e) ≤ 2 ^ 1074 → exact_sin_of (fin s m e) ≡ nearest_sin s (units_of (fin s m e))
unfolding exact_sin_of
at s m e h = ap (λ (b : Bool). cond b (nearest_sin s (units_of (fin s m e))) nan) (le-leb (units_of (fin s m e)) (2 ^ 1074) h)

pub exact_none : (v : Float) → Decoded v None → is_finite_of v ≡ true → odd 54 false (2 ^ 52) 1021 1074 ≡ exact_sin_of v
unfolding is_finite_of
exact_none nan D f = absurd (false≢true f)
exact_none (inf s) D f = absurd (false≢true f)
exact_none (fin s m e) D f =
    let z = irregular_units (fin s m e) (decoded_irregular (fin s m e) D) in
    sym (at s m e (subst (λ (x : ℕ). x ≤ 2 ^ 1074) (sym z) zero-le) ∙ ap (nearest_sin s) z ∙ sine_zero s)

module _ (v : Float) (d : Digits) (D : Decoded v (Some d)) where
  n : Normal (units_of v) d.w d.k
  n = decoded_normal v d D

  is : units_of v ≤ 2 ^ 1074 → exact_sin_of v ≡ nearest_sin (lt v zero64) (units_of v)
  is u = by_sign exact_sin_of nearest_sin at v (decoded_regular v d D) u

  pub exact_tiny : d.k < 1020 → odd 54 false (2 ^ 52) 1021 1074 ≡ exact_sin_of v
  exact_tiny l =
      let small = units_lt (units_of v) d.w d.k 1020 n l in
      let s = lt v zero64 in
      sym (is (le_of_lt (lt_of_lt_of_le small (lit≤ tt)))
      ∙ ⊎_elim (λ z. ap (nearest_sin s) z ∙ sine_zero s) (λ p. sine_tiny (units_of v) p small s) (eq-zero-or-pos (units_of v)))

  pub exact_inside : (s : Bool) → lt v zero64 ≡ s → 1020 ≤ d.k → d.k < 1074 → (i m : ℕ) → Binade s (gap_of d.w d.k) i
      → NearestHalf (sin_le s (gap_of d.w d.k) i) m → odd 54 false m (1075 - i) 1074 ≡ exact_sin_of v
  exact_inside s e g l i m q h =
      sym (is (le_of_lt (units_lt (units_of v) d.w d.k 1074 n l)) ∙ ap (λ (s : Bool). nearest_sin s (units_of v)) e
      ∙ sine_inside s (units_of v) d.w d.k n (let q : 1012 ≤ d.k = omega arith in q) l i m q h)

  pub exact_one : (s : Bool) → lt v zero64 ≡ s → 1074 ≤ d.k → units_of v ≤ 2 ^ 1074
      → cond s (odd 54 false 7800463371553962 1021 1074) zero64 ≡ exact_sin_of v
  exact_one s e l u =
      let one : units_of v ≡ 2 ^ 1074 =
      le_antisymm u (le_of_mul-le-mul_right (subst (λ (x : ℕ). 2 ^ 1074 * 2 ^ 52 ≤ x) n.value (mul-le-mul {n₁ = 2 ^ 52} {m₁ = 2 ^ 1074} n.led (pow_mono l)))
      (pow_pos 52)) in
      sym (is u ∙ ap₂ nearest_sin e one ∙ sine_one s)
