-- A finite double is its sign and its units.
use mathlib.Core.Path.{◌≡◌, refl, sym, ap, ap₂, ◌∙◌}
use mathlib.Core.Logic.{◌⊎◌, inl, inr, ⊎_elim}
use mathlib.Core.Bool.{Bool, true, false, cond, true≢false}
use Prim.Native.Nat.{ℕ, ◌+◌, ◌-◌, ◌*◌, ◌/◌, ◌^◌, ◌≤◌, ◌<◌}
use native.Mathlib.Nat.{mul_assoc, mul-one, one-mul, mul-le-mul_right, le_of_mul-le-mul_right, le_trans, le_of_eq, le_of_suc-le-suc, sub-add_cancel}
use native.Mathlib.Omega.{arith}
use borrow.Author.Tests.{leb-true, leb-false, le-ltb}
use lib.Dec.{leb, lit<, lit≤}
use lib.Pow.{pow-add, pow_pos, pow_mono}
use lib.Ieee.{Float, nan, inf, fin, binary64, up, down, size, units, round, to_bits, of_bits}
use lib.Ieee.Bits.{is_true, of_bits-to_bits}
use lib.Ieee.Exact.{HasValue, round_exact}
use lib.Ieee.Fits.{round_is, round-fits}
use lib.Ieee.Order.{drop, kept}
use Rattle.float.specs.Methods.{is_finite_of, is_sign_negative_of}
use Rattle.float.specs.Units.{units_of, Finite}
use Rattle.float.proofs.Bits.{of_true}
use Rattle.decode.proofs.Fields.{shape}
use Rattle.rounding.specs.Units.{one_units}
use Rattle.rounding.specs.Rounded.{Rounded}
use Rattle.rounding.proofs.Rounded.{rounded, same_fraction}
use Rattle.rounding.proofs.Value.{exponent, fits_says}
use Rattle.nearest.proofs.Best.{units_are}
use Rattle.scaled.proofs.Digits.{units_under}
use Rattle.demands.proofs.Nearest.{has_sign}

pub units_exact : (x : Float) → Finite x → HasValue x (is_sign_negative_of x) (units_of x) (2 ^ 1074)
unfolding is_finite_of is_sign_negative_of one_units
units_exact nan f = absurd (true≢false (sym f.finite))
units_exact (inf s) f = absurd (true≢false (sym f.finite))
units_exact (fin s m e) f =
    let i = exponent e (fits_says s m e (of_true f.held)).1 in
    let v : HasValue (fin s m e) s (m * 2 ^ i.0) (2 ^ 1074) = (
      refl,
      mul_assoc m (up e) (2 ^ 1074) ∙ ap (λ (a : ℕ). m * a) i.1 ∙ sym (mul_assoc m (2 ^ i.0) (down e)),
    ) in
    rw (units_are (fin s m e) s (m * 2 ^ i.0) v) v

-- ---- the bits are made of the sign and the units

same_bits : (x y : Float) → is_finite_of x ≡ true → is_finite_of y ≡ true → is_sign_negative_of x ≡ is_sign_negative_of y → units_of x ≡ units_of y
    → to_bits binary64 x ≡ to_bits binary64 y
unfolding to_bits is_finite_of is_sign_negative_of
same_bits (fin s m e) (fin t n d) f g a b = ap₂ (λ (s : Bool) (n : ℕ). cond s (2 ^ 63) 0 + (size n - 53) * 2 ^ 52 + n / 2 ^ (size n - 53)) a b
same_bits nan y f g a b = absurd (true≢false (sym f))
same_bits (inf s) y f g a b = absurd (true≢false (sym f))
same_bits (fin s m e) nan f g a b = absurd (true≢false (sym g))
same_bits (fin s m e) (inf t) f g a b = absurd (true≢false (sym g))

pub only_one : (x y : Float) → Finite x → Finite y → is_sign_negative_of x ≡ is_sign_negative_of y → units_of x ≡ units_of y → x ≡ y
only_one x y f g a b =
    sym (of_bits-to_bits binary64 x (of_true f.held)) ∙ ap (of_bits binary64) (same_bits x y f.finite g.finite a b)
    ∙ of_bits-to_bits binary64 y (of_true g.held)

-- ---- the double of n units, where n is w * 2 ^ j

unfoldable pub double_of : Bool → ℕ → Float
unfolding round
double_of s n = round binary64 s n (2 ^ 1074)

pub record Held (n : ℕ) : Type 0 where
  pub w : ℕ
  pub j : ℕ
  pub is : n ≡ w * 2 ^ j
  pub short : w < 2 ^ 53
  pub reach : n < 2 ^ 2098

pub held : (x : Float) → Finite x → Held (units_of x)
unfolding is_finite_of
held nan f = absurd (true≢false (sym f.finite))
held (inf s) f = absurd (true≢false (sym f.finite))
held (fin s m e) f =
    let h = shape s m e (of_true f.held) in
    record { w = h.w; j = h.k; is = sym h.whole.value; short = h.whole.short; reach = units_under (fin s m e) f }

pub double_value : (s : Bool) (n : ℕ) → Held n → HasValue (double_of s n) s n (2 ^ 1074)
unfolding double_of
double_value s n h =
    round_exact binary64 s n (2 ^ 1074) h.w h.j (pow_pos 1074) h.short (rw h.is at h.reach) (ap (λ (a : ℕ). a * 2 ^ 1074) h.is)

-- x is that double
pub itself : (x : Float) → Finite x → x ≡ double_of (is_sign_negative_of x) (units_of x)
unfolding double_of
itself x f =
    let s = is_sign_negative_of x in
    let n = units_of x in
    let v = double_value s n (held x f) in
    let g = has_sign (double_of s n) s n (2 ^ 1074) v in
    only_one x (double_of s n) f (record { held = is_true _ (round-fits binary64 s n (2 ^ 1074)); finite = g.0 }) (sym g.1)
    (sym (units_are (double_of s n) s n v))

pub less_or : (a b : ℕ) → (a < b) ⊎ (b ≤ a)
less_or a b = go (leb b a) refl
  where
    go : (t : Bool) → leb b a ≡ t → (a < b) ⊎ (b ≤ a)
    go true e = inr (leb-true b a e)
    go false e = inl (leb-false b a e)

-- ---- from 2 ^ 2098 units on it is an infinity

past_top : (n r : ℕ) → 2 ^ 2098 ≤ n → Rounded n 1 r → 2 ^ 2098 ≤ r
past_top n r h R = ⊎_elim low high (less_or R.k 2099)
  where
    K : ℕ
    K = 2 ^ R.k

    cut : (c q : ℕ) → c * K ≤ n → n ≤ q * K + K → 2 * n ≤ 2 * (q * K) + K → c ≤ q
    cut c q a b d = let e : 2 * c ≤ 2 * q + 1 = le_of_mul-le-mul_right {k = K} (omega arith) (pow_pos R.k) in omega arith

    low : R.k < 2099 → 2 ^ 2098 ≤ r
    low g =
        let c = 2 ^ (2098 - R.k) in
        let e : c * K ≡ 2 ^ 2098 = sym (pow-add 2 (2098 - R.k) R.k) ∙ ap (λ (j : ℕ). 2 ^ j) (sub-add_cancel (le_of_suc-le-suc g)) in
        let m : 2 * n ≤ 2 * (R.q * K) + K = rw (R.is, one-mul K) at (rw (mul-one r) at R.hi) in
        le_trans (le_of_eq (sym e)) (le_trans (mul-le-mul_right K (cut c R.q (le_trans (le_of_eq e) h) (omega arith) m)) (le_of_eq (sym R.is)))

    high : 2099 ≤ R.k → 2 ^ 2098 ≤ r
    high g = elim R.least [
      | inl o ↦ absurd (omega (arith, g, o))
      | inr o ↦ le_trans (pow_mono {i = 2098} (le_trans (lit≤ tt) g)) (far r n K (rw (mul-one r, one-mul K) at R.hi) (rw (one-mul K) at o))
    ]
      where
        far : (r n M : ℕ) → 2 * n ≤ 2 * r + M → 2 ^ 52 * M ≤ n → M ≤ r
        far r n M a b = omega arith

pub beyond : (s : Bool) (n : ℕ) → 2 ^ 2098 ≤ n → double_of s n ≡ inf s
unfolding double_of units
beyond s n h =
    let U = 2 ^ 1074 in
    let q = kept 53 (n * U) U in
    let k = drop 53 (n * U) U in
    round_is binary64 s n U
    ∙ rw (le-ltb (q * 2 ^ k) (2 ^ 2098)
    (past_top n (q * 2 ^ k) h (same_fraction n 1 (pow_pos 1074) (lit< tt) (mul-one (n * U)) (rounded (n * U) U (pow_pos 1074)))))
