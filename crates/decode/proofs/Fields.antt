-- The bit pattern of a finite double, by its units.
use mathlib.Core.Path.{◌≡◌, refl, sym, ap, ◌∙◌, subst}
use mathlib.Core.Logic.{◌⊎◌, inl, inr, ⊎_elim}
use mathlib.Core.Bool.{Bool, true, false, not, cond, ◌&&◌}
use Prim.Native.Nat.{ℕ, zero, suc, ◌+◌, ◌-◌, ◌*◌, ◌/◌, ◌%◌, ◌^◌, ◌≤◌, ◌<◌}
use native.Mathlib.Omega.{arith}
use native.Mathlib.Nat.{add_assoc, mod-eq_of_lt, mul-pos, mul-le-mul_right, mul-one, zero-mul, mul_assoc}
use native.Mathlib.Nat.{mul_comm, div-one, mul-div_cancel, mul-lt-mul_of_pos_right, lt_of_mul-lt-mul_right, lt_of_le_of_lt, lt_of_lt_of_le}
use native.Mathlib.Nat.{lt_of_not-le, lt_irrefl, le_of_suc-le-suc, eq-zero-or-pos, le-div_iff_mul-le, zero-div}
use lib.Dec.{T, eqb, ltb, leb, ltb→lt, leb→le, lit≤}
use lib.Pow.{pow-add, pow_pos, pow-lt, pow_mono, shl_lt}
use lib.IntN.{ℤ, pos, negsuc}
use lib.Ieee.{Float, fin, nan, inf, binary64, up, down, fits, is_nan, size, to_bits}
use lib.Count.{count_leading_zeros, leading_top}
use lib.Ieee.Digits.{size-le, size_reaches}
use lib.Ieee.Fits.{and_l, and_r, kept-lt}
use Rattle.float.specs.Units.{units_of}
use Rattle.decode.specs.Shape.{Significand, Normal}

pow_le_back : (a l : ℕ) → 2 ^ a ≤ 2 ^ l → a ≤ l
pow_le_back a l h = le_of_suc-le-suc (lt_of_not-le (λ (g : suc l ≤ a). lt_irrefl (2 ^ l) (lt_of_lt_of_le (pow-lt g) h)))

pow_lt_back : (i p : ℕ) → 2 ^ i < 2 ^ p → i < p
pow_lt_back i p h = lt_of_not-le (λ (g : p ≤ i). lt_irrefl (2 ^ i) (lt_of_lt_of_le h (pow_mono g)))

sum_back : (l a : ℕ) → a ≤ l → l - a + a ≡ l
sum_back l a h = omega arith

-- In units of 2 ^ -l, m * 2 ^ e is m * 2 ^ j for some j. And it is below 2 ^ (u + l) where m * 2 ^ e is below 2 ^ u.
record Placed (l u : ℕ) (e : ℤ) : Type 0 where
  j : ℕ
  is : (m : ℕ) → m * up e * 2 ^ l / down e ≡ m * 2 ^ j
  under : (m : ℕ) → m * up e < 2 ^ u * down e → m * 2 ^ j < 2 ^ (u + l)

place : (l u : ℕ) (e : ℤ) → down e ≤ 2 ^ l → Placed l u e
place l u (pos a) h = record {
  j = a + l;
  is = λ m. div-one (m * 2 ^ a * 2 ^ l) ∙ whole m;
  under = λ m b. subst (λ (x : ℕ). x < 2 ^ (u + l)) (whole m) (shl_lt u l (subst (λ (x : ℕ). m * 2 ^ a < x) (mul-one (2 ^ u)) b));
}
  where
    whole : (m : ℕ) → m * 2 ^ a * 2 ^ l ≡ m * 2 ^ (a + l)
    whole m = mul_assoc m (2 ^ a) (2 ^ l) ∙ ap (λ (x : ℕ). m * x) (sym (pow-add 2 a l))
place l u (negsuc a) h = record {
  j = l - suc a;
  is = λ m. ap (λ (x : ℕ). x / 2 ^ suc a) (sym (whole m)) ∙ mul-div_cancel (m * 2 ^ (l - suc a)) (pow_pos (suc a));
  under = λ m b.
      lt_of_mul-lt-mul_right (2 ^ suc a)
      (subst (λ (x : ℕ). x < 2 ^ (u + l) * 2 ^ suc a) (sym (whole m))
      (subst (λ (x : ℕ). m * 1 * 2 ^ l < x) (moved (2 ^ u) (2 ^ suc a) (2 ^ l) ∙ ap (λ (x : ℕ). x * 2 ^ suc a) (sym (pow-add 2 u l)))
      (mul-lt-mul_of_pos_right b (pow_pos l))));
}
  where
    whole : (m : ℕ) → m * 2 ^ (l - suc a) * 2 ^ suc a ≡ m * 1 * 2 ^ l
    whole m =
        mul_assoc m (2 ^ (l - suc a)) (2 ^ suc a)
        ∙ ap (λ (x : ℕ). m * x) (sym (pow-add 2 (l - suc a) (suc a)) ∙ ap (λ (x : ℕ). 2 ^ x) (sum_back l (suc a) (pow_le_back (suc a) l h)))
        ∙ ap (λ (x : ℕ). x * 2 ^ l) (sym (mul-one m))

    moved : (x y z : ℕ) → x * y * z ≡ x * z * y
    moved x y z = mul_assoc x y z ∙ ap (λ (w : ℕ). x * w) (mul_comm y z) ∙ sym (mul_assoc x z y)

-- ---- the digits that a pattern keeps

cut : (p m j : ℕ) → m < 2 ^ p → let n = m * 2 ^ j in let k = size n - p in n / 2 ^ k * 2 ^ k ≡ n
cut p m j h =
    let n = m * 2 ^ j in
    let k = size n - p in
    let k-le : k ≤ j = spare (size n) (size-le n (p + j) (shl_lt p j h)) in
    let split : m * 2 ^ (j - k) * 2 ^ k ≡ n = mul_assoc m (2 ^ (j - k)) (2 ^ k)
    ∙ ap (λ (x : ℕ). m * x) (sym (pow-add 2 (j - k) k) ∙ ap (λ (x : ℕ). 2 ^ x) (sum_back j k k-le)) in
    ap (λ (x : ℕ). x / 2 ^ k * 2 ^ k) (sym split) ∙ ap (λ (x : ℕ). x * 2 ^ k) (mul-div_cancel (m * 2 ^ (j - k)) (pow_pos k)) ∙ split
  where
    spare : (z : ℕ) → z ≤ p + j → z - p ≤ j
    spare z b = omega arith

led_digit : (p n : ℕ) → (2 ^ p ≤ n / 2 ^ (size n - suc p)) ⊎ (size n - suc p ≡ 0)
led_digit p n = go (eq-zero-or-pos (size n - suc p))
  where
    k : ℕ
    k = size n - suc p

    reached : 0 < size n - suc p → p + (size n - suc p) < size n
    reached h = omega arith

    go : (size n - suc p ≡ 0) ⊎ (0 < size n - suc p) → (2 ^ p ≤ n / 2 ^ (size n - suc p)) ⊎ (size n - suc p ≡ 0)
    go (inl z) = inr z
    go (inr h) = inl ((le-div_iff_mul-le (pow_pos k)).1 (subst (λ (x : ℕ). x ≤ n) (pow-add 2 p k) (size_reaches n (p + k) (reached h))))

-- ---- what the pattern of a finite value holds

pub record Shape (s : Bool) (m : ℕ) (e : ℤ) : Type 0 where
  pub w : ℕ
  pub k : ℕ
  pub whole : Significand (units_of (fin s m e)) w k
  pub bits : to_bits binary64 (fin s m e) ≡ cond s (2 ^ 63) 0 + k * 2 ^ 52 + w

bits_at : (s : Bool) (m : ℕ) (e : ℤ) → let n = units_of (fin s m e) in to_bits binary64 (fin s m e)
    ≡ cond s (2 ^ 63) 0 + (size n - 53) * 2 ^ 52 + n / 2 ^ (size n - 53)
unfolding to_bits
bits_at s m e = refl

field_lt : (z : ℕ) → z ≤ 2098 → z - 53 < 2046
field_lt z h = omega arith

of_digits : (s : Bool) (m : ℕ) (e : ℤ) (j : ℕ) → units_of (fin s m e) ≡ m * 2 ^ j → m < 2 ^ 53 → m * 2 ^ j < 2 ^ 2098 → Shape s m e
of_digits s m e j is h u = record {
  w = n / 2 ^ k;
  k = k;
  whole = record {
    value = subst (λ (n : ℕ). n / 2 ^ (size n - 53) * 2 ^ (size n - 53) ≡ n) (sym is) (cut 53 m j h);
    short = kept-lt 53 n;
    led = led_digit 52 n;
    reach = field_lt (size n) (size-le n 2098 (subst (λ (x : ℕ). x < 2 ^ 2098) (sym is) u));
  };
  bits = bits_at s m e;
}
  where
    n : ℕ
    n = units_of (fin s m e)

    k : ℕ
    k = size n - 53

pub shape : (s : Bool) (m : ℕ) (e : ℤ) → T (fits binary64 (fin s m e)) → Shape s m e
unfolding fits
shape s zero e t = of_digits s zero e 0 (ap (λ (x : ℕ). x * 2 ^ 1074 / down e) (zero-mul (up e)) ∙ zero-div (down e)) (pow_pos 53) (pow_pos 2098)
shape s (suc m) e t =
    let a = eqb (suc m % 2) 1 in
    let b = ltb (suc m) (2 ^ 53) in
    let c = leb (down e) (2 ^ 1074) in
    let d = ltb (suc m * up e) (2 ^ 1024 * down e) in
    let abc = and_l (a && b && c) d t in
    let p = place 1074 1024 e (leb→le (down e) (2 ^ 1074) (and_r (a && b) c abc)) in
    of_digits s (suc m) e p.j (p.is (suc m)) (ltb→lt (suc m) (2 ^ 53) (and_r a b (and_l (a && b) c abc)))
    (p.under (suc m) (ltb→lt (suc m * up e) (2 ^ 1024 * down e) (and_r (a && b && c) d t)))

-- a value that is not zero has units
pub units_pos : (s : Bool) (m : ℕ) (e : ℤ) → T (fits binary64 (fin s m e)) → 0 < m → 0 < units_of (fin s m e)
unfolding fits
units_pos s zero e t h = absurd (lt_irrefl 0 h)
units_pos s (suc m) e t h =
    let a = eqb (suc m % 2) 1 in
    let b = ltb (suc m) (2 ^ 53) in
    let c = leb (down e) (2 ^ 1074) in
    let d = ltb (suc m * up e) (2 ^ 1024 * down e) in
    let p = place 1074 1024 e (leb→le (down e) (2 ^ 1074) (and_r (a && b) c (and_l (a && b && c) d t))) in
    subst (λ (x : ℕ). 0 < x) (sym (p.is (suc m))) (mul-pos h (pow_pos p.j))

-- ---- the pattern without its sign

sign_off : (s : Bool) (a : ℕ) → a < 2 ^ 63 → (cond s (2 ^ 63) 0 + a) % 2 ^ 63 ≡ a
sign_off true a h = omega arith
sign_off false a h = omega arith

-- An infinity's, or digits and the exponent's field above them.
abbrev pub Pattern : Float → ℕ → Type 0
Pattern x b = ((b ≡ 2047 * 2 ^ 52) × (units_of x ≡ 0)) ⊎ ((w : ℕ) × (k : ℕ) × (b ≡ k * 2 ^ 52 + w) × Significand (units_of x) w k)

pub pattern : (x : Float) → fits binary64 x ≡ true → T (not (is_nan x)) → Pattern x (to_bits binary64 x % 2 ^ 63)
unfolding to_bits is_nan
pattern nan f t = absurd t
pattern (inf s) f t = inl (sign_off s (2047 * 2 ^ 52) (omega arith), refl)
pattern (fin s m e) f t =
    inr (
      h.w,
      h.k,
      ap (λ (b : ℕ). b % 2 ^ 63) (h.bits ∙ add_assoc (cond s (2 ^ 63) 0) (h.k * 2 ^ 52) h.w)
          ∙ sign_off s (h.k * 2 ^ 52 + h.w) (omega (arith, h.whole.short, h.whole.reach)),
      h.whole,
    )
  where
    h : Shape s m e
    h = shape s m e (subst T (sym f) tt)

-- ---- what the fields of such a pattern say

module _ (n w k b : ℕ) (e : b ≡ k * 2 ^ 52 + w) (h : Significand n w k) where
  pub not_top : b / 2 ^ 52 ≡ 2047 → ⊥
  not_top z = omega (arith, h.short, h.reach)

  pub normal : (b / 2 ^ 52 ≡ 0 → ⊥) → Normal n (2 ^ 52 + b % 2 ^ 52) (b / 2 ^ 52 + 51)
  normal z =
      let S : w < 2 ^ 53 = h.short in
      let big : 2 ^ 52 ≤ w = ⊎_elim (λ l. l) (λ k0. omega (arith, z)) h.led in
      subst (λ (a : ℕ). Normal n a (b / 2 ^ 52 + 51)) (let d : w ≡ 2 ^ 52 + b % 2 ^ 52 = omega arith in d)
      (subst (λ (a : ℕ). Normal n w a) (let d : k + 52 ≡ b / 2 ^ 52 + 51 = omega arith in d)
      (record {
        value = ap (λ (x : ℕ). w * x) (pow-add 2 k 52) ∙ sym (mul_assoc w (2 ^ k) (2 ^ 52)) ∙ ap (λ (x : ℕ). x * 2 ^ 52) h.value;
        short = S;
        led = big;
        reach = omega (arith, h.reach);
      }))

  pub fraction_is : b / 2 ^ 52 ≡ 0 → b % 2 ^ 52 ≡ n
  fraction_is z =
      let k0 : k ≡ 0 = omega arith in
      (let d : b % 2 ^ 52 ≡ w = omega arith in d) ∙ sym (mul-one w) ∙ ap (λ (x : ℕ). w * 2 ^ x) (sym k0) ∙ h.value

-- ---- a fraction alone: its leading zeros, of which 11 are those above 53 digits, say how far it is shifted

pub record Shifted (w : ℕ) : Type 0 where
  pub enough : 11 ≤ count_leading_zeros 64 w
  pub bound : count_leading_zeros 64 w - 11 ≤ 52
  pub digits : Normal w (w * 2 ^ (count_leading_zeros 64 w - 11) % 2 ^ 64) (52 - (count_leading_zeros 64 w - 11))

pub shifted : (w : ℕ) → (w ≡ 0 → ⊥) → w < 2 ^ 52 → Shifted w
shifted w p l =
    let top = leading_top 64 w (omega (arith, p)) (omega arith) in
    let j = top.0 in
    let j-lt : j < 52 = pow_lt_back j 52 (lt_of_le_of_lt top.2 l) in
    let zj : count_leading_zeros 64 w - 11 ≡ 52 - j = omega (arith, top.1) in
    let z = 52 - j in
    let up_lt : w * 2 ^ z < 2 ^ 53 =
    subst (λ (x : ℕ). w * 2 ^ z < 2 ^ x) (let e : suc j + z ≡ 53 = omega arith in e) (shl_lt (suc j) z top.3) in
    let lo : 2 ^ 52 ≤ w * 2 ^ z =
    subst (λ (x : ℕ). x ≤ w * 2 ^ z) (sym (pow-add 2 j z) ∙ ap (λ (x : ℕ). 2 ^ x) (let e : j + z ≡ 52 = omega arith in e))
    (mul-le-mul_right (2 ^ z) top.2) in
    let small : w * 2 ^ z % 2 ^ 64 ≡ w * 2 ^ z = mod-eq_of_lt (lt_of_lt_of_le up_lt (lit≤ tt)) in
    let val : w * 2 ^ z * 2 ^ (52 - z) ≡ w * 2 ^ 52 =
    mul_assoc w (2 ^ z) (2 ^ (52 - z))
    ∙ ap (λ (x : ℕ). w * x) (sym (pow-add 2 z (52 - z)) ∙ ap (λ (x : ℕ). 2 ^ x) (let e : z + (52 - z) ≡ 52 = omega arith in e)) in
    record {
      enough = omega (arith, top.1);
      bound = omega arith;
      digits = subst (λ (a : ℕ). Normal w (w * 2 ^ a % 2 ^ 64) (52 - a)) (sym zj)
          (subst (λ (a : ℕ). Normal w a (52 - z)) (sym small)
          (record { value = val; short = up_lt; led = lo; reach = omega arith }));
    }
