-- The result of a sum, a product or a quotient of two finite values is the exact one, rounded once (`add_near`, `mul_near`, `div_near`), as long as it does not
-- overflow. A finite value is a whole number of units of 2 ^ -1074 with its sign: p units above zero or n units below it, one of them 0 (`Val`).
use mathlib.Core.Path.{◌≡◌, refl, sym, ap, ◌∙◌, subst}
use mathlib.Core.Logic.{◌⊎◌, inl, inr}
use Prim.Native.Nat.{ℕ, zero, suc, ◌+◌, ◌-◌, ◌*◌, ◌%◌, ◌^◌, ◌≤◌, ◌<◌, zero-le}
use native.Mathlib.Nat.{le_trans, le_of_eq, le_of_lt, le_of_suc-le-suc, lt_of_le_of_lt, lt_of_not-le, not-le_of_lt}
use native.Mathlib.Nat.{ne_of_lt, mul-one, one-mul, zero-mul, mul-zero, zero-add, add-zero}
use native.Mathlib.Nat.{sub-zero, sub-add_cancel, mul-pos, mul_assoc, mul-le-mul_right, le_of_mul-le-mul_right, eq_of_mul-eq-mul_right}
use native.Mathlib.Omega.{arith}
use mathlib.Core.Bool.{Bool, true, false, not, cond, ◌&&◌, true≢false}
use borrow.Author.Tests.{ne_eqb}
use lib.Dec.{T, ltb, leb, eqb, ltb→lt, nltb→le, leb→le, eqb→eq, lit<, lit≤}
use lib.Pow.{pow-add, pow_pos, pow-lt}
use lib.IntN.{ℤ, pos, negsuc}
use lib.Ieee.{Float, nan, inf, fin, binary64, up, down, round, sum, add, neg, mul, div, fits}
use lib.Ieee.Fits.{down_pos, round_is, and_l, and_r}
use lib.Ieee.Exact.{HasValue, units_val}
use lib.Ieee.Order.{drop, kept}
use Rattle.algebra.specs.NatOrder.{sub_mul}
use Rattle.rounding.specs.Units.{one_units}
use Rattle.rounding.specs.Rounded.{Rounded}
use Rattle.rounding.proofs.Rounded.{rounded, same_fraction}

-- a bound in units that keeps an operation from overflow. It is shut, as 1 is
unfoldable pub limit : ℕ
limit = 2 ^ 2000

pub one_pos : 0 < one_units
unfolding one_units
one_pos = pow_pos 1074

pub one_large : 2 ^ 64 ≤ one_units
unfolding one_units
one_large = lit≤ tt

limit_fits : 2 * limit < 2 ^ 2098
unfolding limit
limit_fits = lit< tt

small_fits : 2 ^ 53 < 2 ^ 2098
small_fits = lit< tt

pub data Val : Float → ℕ → ℕ → Type 0 where
  plus_sign : {m p : ℕ} {e : ℤ} → m * up e * one_units ≡ p * down e → Val (fin false m e) p 0
  minus_sign : {m n : ℕ} {e : ℤ} → m * up e * one_units ≡ n * down e → Val (fin true m e) 0 n

-- ---- (P - N) / d, rounded, is p - n. The sign is kept; the rest is as in `Rounded`
pub record Near (P N d p n : ℕ) : Type 0 where
  pub k : ℕ
  pub a : ℕ
  pub b : ℕ
  pub p_is : p ≡ a * 2 ^ k
  pub n_is : n ≡ b * 2 ^ k
  pub few : a + b ≤ 2 ^ 53
  pub lo : 2 * (p * d) + 2 * N ≤ 2 * P + 2 * (n * d) + d * 2 ^ k
  pub hi : 2 * P + 2 * (n * d) ≤ 2 * (p * d) + 2 * N + d * 2 ^ k
  pub most : (P < N + 2 ^ 53 * (d * 2 ^ k)) × (N < P + 2 ^ 53 * (d * 2 ^ k))
  pub least : (k ≡ 0) ⊎ ((2 ^ 52 * (d * 2 ^ k) + N ≤ P) ⊎ (2 ^ 52 * (d * 2 ^ k) + P ≤ N))
  pub side : ((N ≤ P) × (n ≡ 0)) ⊎ ((P ≤ N) × (p ≡ 0))

near_above : (P N d p : ℕ) → N ≤ P → Rounded (P - N) d p → Near P N d p 0
near_above P N d p h R =
    record {
      k = R.k;
      a = R.q;
      b = 0;
      p_is = R.is;
      n_is = sym (zero-mul (2 ^ R.k));
      few = omega (arith, R.few);
      lo = omega (arith, R.lo);
      hi = omega (arith, R.hi);
      most = (omega (arith, R.most), omega (arith, R.most));
      least = elim R.least [ inl o ↦ inl o | inr o ↦ inr (inl (omega arith)) ];
      side = inl (h, refl);
    }

-- the same with the sign changed
pub near_flip : {P N d p n : ℕ} → Near P N d p n → Near N P d n p
near_flip R =
    record {
      k = R.k;
      a = R.b;
      b = R.a;
      p_is = R.n_is;
      n_is = R.p_is;
      few = omega (arith, R.few);
      lo = omega (arith, R.hi);
      hi = omega (arith, R.lo);
      most = (R.most.1, R.most.0);
      least = elim R.least [ inl o ↦ inl o | inr (inl o) ↦ inr (inr o) | inr (inr o) ↦ inr (inl o) ];
      side = elim R.side [ inl o ↦ inr o | inr o ↦ inl o ];
    }

-- an operation's result z, whose exact value is (P - N) / d
pub record Result (z : Float) (P N d : ℕ) : Type 0 where
  pub p : ℕ
  pub n : ℕ
  pub is : Val z p n
  pub near : Near P N d p n

-- ---- what `round` makes of num / den, which is v / d units
below_limit : (v d r : ℕ) → 0 < d → v ≤ limit * d → Rounded v d r → r < 2 ^ 2098
below_limit v d r D h R = elim R.least [
  | inl o ↦ lt_of_le_of_lt (le_trans (le_of_eq (R.is ∙ ap (λ (x : ℕ). R.q * 2 ^ x) o ∙ mul-one R.q)) R.few) small_fits
  | inr o ↦
      let w : 2 ^ 52 * 2 ^ R.k ≤ limit = le_of_mul-le-mul_right (omega arith) D in
      let x : R.q * 2 ^ R.k ≤ 2 ^ 53 * 2 ^ R.k = mul-le-mul_right (2 ^ R.k) R.few in
      lt_of_le_of_lt (le_trans (le_of_eq R.is) (omega arith)) limit_fits
]

rounded_value : (s : Bool) (num den v d : ℕ) → 0 < den → 0 < d → num * one_units * d ≡ v * den → v ≤ limit * d
    → (r : ℕ) × HasValue (round binary64 s num den) s r one_units × Rounded v d r
unfolding one_units
rounded_value s num den v d DEN D e h =
    let n = num * 2 ^ 1074 in
    let q = kept 53 n den in
    let k = drop 53 n den in
    let R : Rounded v d (q * 2 ^ k) = same_fraction v d DEN D e (rounded n den DEN) in
    let x = units_val binary64 s q k (below_limit v d (q * 2 ^ k) D h R) in
    (q * 2 ^ k, subst (λ (x : Float). HasValue x s (q * 2 ^ k) (2 ^ 1074)) (sym (round_is binary64 s num den)) x, R)

-- a rounded size with its sign
val_above : (z : Float) (r : ℕ) → HasValue z false r one_units → Val z r 0
val_above nan r h = absurd h
val_above (inf s) r h = absurd h
val_above (fin true m e) r h = absurd (true≢false h.0)
val_above (fin false m e) r h = plus_sign h.1

val_below : (z : Float) (r : ℕ) → HasValue z true r one_units → Val z 0 r
val_below nan r h = absurd h
val_below (inf s) r h = absurd h
val_below (fin false m e) r h = absurd (true≢false (sym h.0))
val_below (fin true m e) r h = minus_sign h.1

round_above : (num den P N d : ℕ) → 0 < den → 0 < d → N ≤ P → num * one_units * d ≡ (P - N) * den → P - N ≤ limit * d
    → Result (round binary64 false num den) P N d
round_above num den P N d DEN D h e l =
    let r = rounded_value false num den (P - N) d DEN D e l in
    record { p = r.0; n = 0; is = val_above (round binary64 false num den) r.0 r.1; near = near_above P N d r.0 h r.2 }

round_below : (num den P N d : ℕ) → 0 < den → 0 < d → P ≤ N → num * one_units * d ≡ (N - P) * den → N - P ≤ limit * d
    → Result (round binary64 true num den) P N d
round_below num den P N d DEN D h e l =
    let r = rounded_value true num den (N - P) d DEN D e l in
    record { p = 0; n = r.0; is = val_below (round binary64 true num den) r.0 r.1; near = near_flip (near_above N P d r.0 h r.2) }

-- ---- sums. a / c and b / c are p and q units
difference_units : (a b c p q : ℕ) → 0 < c → a * one_units ≡ p * c → b * one_units ≡ q * c → a ≤ b → (p ≤ q) × ((b - a) * one_units * 1 ≡ (q - p) * c)
difference_units a b c p q C x y h =
    let l : p ≤ q = le_of_mul-le-mul_right (omega (arith, mul-le-mul_right one_units h)) C in
    (l, mul-one ((b - a) * one_units) ∙ sub_mul b a one_units ∙ ap (λ (z : ℕ). z - a * one_units) y ∙ ap (λ (z : ℕ). q * c - z) x ∙ sym (sub_mul q p c))

sum_units : (a b c p q : ℕ) → a * one_units ≡ p * c → b * one_units ≡ q * c → (a + b) * one_units * 1 ≡ (p + q - 0) * c
sum_units a b c p q x y =
    let e : (a + b) * one_units * 1 ≡ (p + q) * c = omega arith in
    e ∙ ap (λ (v : ℕ). v * c) (sym (sub-zero (p + q)))

module _ (a b c p q : ℕ) (C : 0 < c) (x : a * one_units ≡ p * c) (y : b * one_units ≡ q * c) where
  plus_plus : p + q ≤ limit → Result (sum binary64 false a false b c) (p + q) 0 1
  unfolding sum
  plus_plus l = round_above (a + b) c (p + q) 0 1 C (pow_pos 0) zero-le (sum_units a b c p q x y) (omega arith)

  minus_minus : p + q ≤ limit → Result (sum binary64 true a true b c) 0 (p + q) 1
  unfolding sum
  minus_minus l = round_below (a + b) c 0 (p + q) 1 C (pow_pos 0) zero-le (sum_units a b c p q x y) (omega arith)

  plus_minus : p ≤ q + limit → q ≤ p + limit → Result (sum binary64 false a true b c) p q 1
  unfolding sum
  plus_minus l m = go (ltb a b) (ltb→lt a b) (nltb→le a b)
    where
      go : (t : Bool) → (T t → a < b) → (T (not t) → b ≤ a) → Result (cond t (round binary64 true (b - a) c) (round binary64 false (a - b) c)) p q 1
      go true h k = let d = difference_units a b c p q C x y (le_of_lt (h tt)) in round_below (b - a) c p q 1 C (pow_pos 0) d.0 d.1 (omega arith)
      go false h k = let d = difference_units b a c q p C y x (k tt) in round_above (a - b) c p q 1 C (pow_pos 0) d.0 d.1 (omega arith)

  minus_plus : p ≤ q + limit → q ≤ p + limit → Result (sum binary64 true a false b c) q p 1
  unfolding sum
  minus_plus l m = go (ltb a b) (ltb b a) (ltb→lt a b) (nltb→le a b) (nltb→le b a)
    where
      go : (t u : Bool) → (T t → a < b) → (T (not t) → b ≤ a) → (T (not u) → a ≤ b)
          → Result (cond t (round binary64 false (b - a) c) (round binary64 (true && u) (a - b) c)) q p 1
      go true u h k n = let d = difference_units a b c p q C x y (le_of_lt (h tt)) in round_above (b - a) c q p 1 C (pow_pos 0) d.0 d.1 (omega arith)
      go false true h k n = let d = difference_units b a c q p C y x (k tt) in round_below (a - b) c q p 1 C (pow_pos 0) d.0 d.1 (omega arith)
      go false false h k n =
          let d = difference_units b a c q p C y x (k tt) in
          let e = difference_units a b c p q C x y (n tt) in
          let z : p ≡ q = omega arith in
          round_above (a - b) c q p 1 C (pow_pos 0) e.0 (d.1 ∙ ap (λ (v : ℕ). v * c) (omega arith)) (omega arith)

-- ---- the operations on two finite values: a is m 2 ^ e, and p units; b is j 2 ^ d, and q units
module _ (m j p q : ℕ) (e d : ℤ) (X : m * up e * one_units ≡ p * down e) (Y : j * up d * one_units ≡ q * down d) where
  below_pos : 0 < down e * down d
  below_pos = mul-pos (down_pos e) (down_pos d)

  -- over the common denominator
  first_units : m * up e * down d * one_units ≡ p * (down e * down d)
  first_units = omega (arith, ap (λ (x : ℕ). x * down d) X)

  second_units : j * up d * down e * one_units ≡ q * (down e * down d)
  second_units = omega (arith, ap (λ (x : ℕ). x * down e) Y)

  -- the product of p and q units is p q units over 2 ^ 1074
  product_over : m * up e * (j * up d) * one_units * one_units ≡ (p * q - 0) * (down e * down d)
  product_over =
      let s : m * up e * one_units * (j * up d * one_units) ≡ p * down e * (q * down d) = ap (λ (z : ℕ). z * (j * up d * one_units)) X
      ∙ ap (λ (z : ℕ). p * down e * z) Y in
      let t : m * up e * (j * up d) * one_units * one_units ≡ p * q * (down e * down d) = omega arith in
      t ∙ ap (λ (z : ℕ). z * (down e * down d)) (sym (sub-zero (p * q)))

  product_above : p * q ≤ limit * one_units → Result (round binary64 false (m * up e * (j * up d)) (down e * down d)) (p * q) 0 one_units
  product_above h = round_above (m * up e * (j * up d)) (down e * down d) (p * q) 0 one_units below_pos one_pos zero-le product_over (omega arith)

  product_below : p * q ≤ limit * one_units → Result (round binary64 true (m * up e * (j * up d)) (down e * down d)) 0 (p * q) one_units
  product_below h = round_below (m * up e * (j * up d)) (down e * down d) 0 (p * q) one_units below_pos one_pos zero-le product_over (omega arith)

pub add_near : {x y : Float} {p n q m : ℕ} → Val x p n → Val y q m → p + q ≤ n + m + limit → n + m ≤ p + q + limit
    → Result (add binary64 x y) (p + q) (n + m) 1
unfolding add
add_near (plus_sign {m = a} {p = p} {e = e} X) (plus_sign {m = b} {p = q} {e = d} Y) h l =
    plus_plus _ _ _ p q (below_pos a b p q e d X Y) (first_units a b p q e d X Y) (second_units a b p q e d X Y) (omega arith)
add_near (minus_sign {m = a} {n = p} {e = e} X) (minus_sign {m = b} {n = q} {e = d} Y) h l =
    minus_minus _ _ _ p q (below_pos a b p q e d X Y) (first_units a b p q e d X Y) (second_units a b p q e d X Y) (omega arith)
add_near (plus_sign {m = a} {p = p} {e = e} X) (minus_sign {m = b} {n = q} {e = d} Y) h l =
    rw (add-zero, zero-add)
    (plus_minus _ _ _ p q (below_pos a b p q e d X Y) (first_units a b p q e d X Y) (second_units a b p q e d X Y) (omega arith) (omega arith))
add_near (minus_sign {m = a} {n = p} {e = e} X) (plus_sign {m = b} {p = q} {e = d} Y) h l =
    rw (zero-add, add-zero)
    (minus_plus _ _ _ p q (below_pos a b p q e d X Y) (first_units a b p q e d X Y) (second_units a b p q e d X Y) (omega arith) (omega arith))

pub neg_val : {x : Float} {p n : ℕ} → Val x p n → Val (neg x) n p
unfolding neg
neg_val (plus_sign h) = minus_sign h
neg_val (minus_sign h) = plus_sign h

pub mul_near : {x y : Float} {p n q m : ℕ} → Val x p n → Val y q m → p * q + n * m + (p * m + n * q) ≤ limit * one_units
    → Result (mul binary64 x y) (p * q + n * m) (p * m + n * q) one_units
unfolding mul
mul_near (plus_sign {m = a} {p = p} {e = e} X) (plus_sign {m = b} {p = q} {e = d} Y) h =
    simp (mul-zero, zero-mul, add-zero)
    (product_above a b p q e d X Y (omega arith))
mul_near (minus_sign {m = a} {n = p} {e = e} X) (minus_sign {m = b} {n = q} {e = d} Y) h =
    simp (mul-zero, zero-mul, zero-add)
    (product_above a b p q e d X Y (omega arith))
mul_near (plus_sign {m = a} {p = p} {e = e} X) (minus_sign {m = b} {n = q} {e = d} Y) h =
    simp (mul-zero, zero-mul, add-zero)
    (product_below a b p q e d X Y (omega arith))
mul_near (minus_sign {m = a} {n = p} {e = e} X) (plus_sign {m = b} {p = q} {e = d} Y) h =
    simp (mul-zero, zero-mul, zero-add)
    (product_below a b p q e d X Y (omega arith))

-- ---- quotients by w, which is m 2 ^ e
module _ (a m p w : ℕ) (d e : ℤ) (X : a * up d * one_units ≡ p * down d) (Y : suc m * up e ≡ w * down e) (W : 0 < w) where
  over_pos : 0 < suc m * up e * down d
  over_pos = mul-pos (subst (λ (z : ℕ). 0 < z) (sym Y) (mul-pos W (down_pos e))) (down_pos d)

  quotient_over : a * up d * down e * one_units * w ≡ (p - 0) * (suc m * up e * down d)
  quotient_over =
      let s = ap (λ (z : ℕ). z * (down e * w)) X in
      let t = ap (λ (z : ℕ). p * down d * z) Y in
      let r : a * up d * down e * one_units * w ≡ p * (suc m * up e * down d) = omega (arith, s, t) in
      r ∙ ap (λ (z : ℕ). z * (suc m * up e * down d)) (sym (sub-zero p))

not_zero : (m : ℕ) → eqb (suc m) 0 ≡ false
not_zero m = ne_eqb (suc m) 0 (λ z. omega arith)

pub div_near : {x : Float} {p n : ℕ} (m w : ℕ) (e : ℤ) → suc m * up e ≡ w * down e → 0 < w → Val x p n → p ≤ n + limit * w → n ≤ p + limit * w
    → Result (div binary64 x (fin false (suc m) e)) p n w
unfolding div
div_near m w e Y W (plus_sign {m = a} {p = p} {e = d} X) h l =
    rw (not_zero m)
    (round_above _ _ p 0 w (over_pos a m p w d e X Y W) W zero-le (quotient_over a m p w d e X Y W) (omega arith))
div_near m w e Y W (minus_sign {m = a} {n = n} {e = d} X) h l =
    rw (not_zero m)
    (round_below _ _ 0 n w (over_pos a m n w d e X Y W) W zero-le (quotient_over a m n w d e X Y W) (omega arith))

-- ---- a value of the format is a multiple of 2 ^ i units by less than 2 ^ 53
pub record Grid (p n : ℕ) : Type 0 where
  pub i : ℕ
  pub a : ℕ
  pub b : ℕ
  pub p_is : p ≡ a * 2 ^ i
  pub n_is : n ≡ b * 2 ^ i
  pub few : a + b < 2 ^ 53

pub exponent : (e : ℤ) → down e ≤ 2 ^ 1074 → (i : ℕ) × (up e * one_units ≡ 2 ^ i * down e)
unfolding one_units
exponent (pos k) h = (k + 1074, sym (pow-add 2 k 1074) ∙ sym (mul-one (2 ^ (k + 1074))))
exponent (negsuc k) h =
    let l : suc k ≤ 1074 = le_of_suc-le-suc (lt_of_not-le (λ (g : suc 1074 ≤ suc k). not-le_of_lt (pow-lt g) h)) in
    (1074 - suc k, one-mul (2 ^ 1074) ∙ ap (λ (x : ℕ). 2 ^ x) (sym (sub-add_cancel l)) ∙ pow-add 2 (1074 - suc k) (suc k))

pub fits_says : (s : Bool) (m : ℕ) (e : ℤ) → T (fits binary64 (fin s m e)) → (m < 2 ^ 53) × (down e ≤ 2 ^ 1074)
unfolding fits
fits_says s zero e t = (lit< tt, subst (λ (x : ℕ). x ≤ 2 ^ 1074) (sym (factor_one (up e) (down e) (eqb→eq (up e * down e) 1 t))) (lit≤ tt))
  where
    factor_one : (a b : ℕ) → a * b ≡ 1 → b ≡ 1
    factor_one zero b h = absurd (ne_of_lt (lit< tt) (sym (zero-mul b) ∙ h))
    factor_one (suc a) zero h = absurd (ne_of_lt (lit< tt) (sym (mul-zero (suc a)) ∙ h))
    factor_one (suc a) (suc b) h = omega arith
fits_says s (suc m) e t =
    let a = eqb (suc m % 2) 1 in
    let b = ltb (suc m) (2 ^ 53) in
    let c = leb (down e) (2 ^ 1074) in
    let d = ltb (suc m * up e) (2 ^ 1024 * down e) in (
      ltb→lt (suc m) (2 ^ 53) (and_r a b (and_l (a && b) c (and_l (a && b && c) d t))),
      leb→le (down e) (2 ^ 1074) (and_r (a && b) c (and_l (a && b && c) d t)),
    )

shifted : (m u d p i : ℕ) → 0 < d → u * one_units ≡ 2 ^ i * d → m * u * one_units ≡ p * d → p ≡ m * 2 ^ i
shifted m u d p i D x h =
    eq_of_mul-eq-mul_right d D p (m * 2 ^ i) (sym h ∙ mul_assoc m u one_units ∙ ap (λ (z : ℕ). m * z) x ∙ sym (mul_assoc m (2 ^ i) d))

pub on_grid : {x : Float} {p n : ℕ} → T (fits binary64 x) → Val x p n → Grid p n
on_grid F (plus_sign {m = m} {p = p} {e = e} h) =
    let f = fits_says false m e F in
    let x = exponent e f.1 in
    record {
      i = x.0;
      a = m;
      b = 0;
      p_is = shifted m (up e) (down e) p x.0 (down_pos e) x.1 h;
      n_is = sym (zero-mul (2 ^ x.0));
      few = omega (arith, f.0);
    }
on_grid F (minus_sign {m = m} {n = n} {e = e} h) =
    let f = fits_says true m e F in
    let x = exponent e f.1 in
    record {
      i = x.0;
      a = 0;
      b = m;
      p_is = sym (zero-mul (2 ^ x.0));
      n_is = shifted m (up e) (down e) n x.0 (down_pos e) x.1 h;
      few = omega (arith, f.0);
    }

-- every finite value of the format is a number of units
pub value : (s : Bool) (m : ℕ) (e : ℤ) → T (fits binary64 (fin s m e)) → (p : ℕ) × (n : ℕ) × Val (fin s m e) p n
value s m e F =
    let x = exponent e (fits_says s m e F).1 in
    go s x.0 (mul_assoc m (up e) one_units ∙ ap (λ (z : ℕ). m * z) x.1 ∙ sym (mul_assoc m (2 ^ x.0) (down e)))
  where
    go : (t : Bool) (i : ℕ) → m * up e * one_units ≡ m * 2 ^ i * down e → (p : ℕ) × (n : ℕ) × Val (fin t m e) p n
    go false i h = (m * 2 ^ i, 0, plus_sign h)
    go true i h = (0, m * 2 ^ i, minus_sign h)
