-- What ldexp gives for every x and k: itself, an infinity, or x * 2^k but for at most three quarters of a unit.
use mathlib.Core.Path.{◌≡◌, sym, ap, ◌∙◌, subst}
use mathlib.Core.Bool.{Bool, true, false}
use Prim.Native.Nat.{ℕ, suc, ◌+◌, ◌*◌, ◌^◌, ◌≤◌, ◌<◌}
use native.Mathlib.Omega.{arith}
use native.Mathlib.Nat.{le_trans, le_of_eq, lt_of_lt_of_le, not-le_of_lt, mul-one, mul-le-mul_left, le_of_mul-le-mul_right}
use lib.Pow.{pow_pos}
use lib.IntN.{ℤ, pos, negsuc}
use lib.Ieee.{Float, inf, binary64, up, down}
use lib.Ieee.Bits.{is_true}
use lib.Ieee.Fits.{round-fits}
use Rattle.float.specs.Methods.{is_finite_of, is_sign_negative_of}
use Rattle.float.specs.Units.{units_of, Finite}
use Rattle.nearest.proofs.Best.{units_are}
use Rattle.ldexp.specs.Scale.{ldexp_of}
use Rattle.ldexp.proofs.Chain.{steady_special, all_steady}
use Rattle.scaled.proofs.Digits.{units_under}
use Rattle.demands.specs.Demands.{TimesPower, NearPower}
use Rattle.demands.proofs.Nearest.{has_sign}
use Rattle.demands.proofs.Doubles.{double_of, Held, held, double_value, beyond}
use Rattle.demands.proofs.Scale.{between, raised_is}
use Rattle.demands.proofs.Below.{whole_digits, Off, lowered_is}

pub others : (x : Float) (k : ℤ) → is_finite_of x ≡ false → ldexp_of x k ≡ x
unfolding ldexp_of
others x (pos n) e = all_steady false n x (steady_special x e)
others x (negsuc n) e = all_steady true (suc n) x (steady_special x e)

pub infinite : (x : Float) (k : ℤ) → Finite x → 2 ^ 2098 * down k ≤ units_of x * up k → ldexp_of x k ≡ inf (is_sign_negative_of x)
infinite x (pos n) f h = raised_is x n f ∙ beyond (is_sign_negative_of x) (units_of x * 2 ^ n) (le_trans (le_of_eq (sym (mul-one (2 ^ 2098)))) h)
infinite x (negsuc n) f h =
    let most : 2 ^ 2098 * 1 ≤ units_of x = le_trans (mul-le-mul_left (2 ^ 2098) (pow_pos (suc n))) (le_trans h (le_of_eq (mul-one (units_of x)))) in
    absurd (not-le_of_lt (units_under x f) (le_trans (le_of_eq (sym (mul-one (2 ^ 2098)))) most))

-- ---- the double of t units
module _ (s : Bool) (t : ℕ) (h : Held t) where
  signed : is_sign_negative_of (double_of s t) ≡ s
  signed = (has_sign (double_of s t) s t (2 ^ 1074) (double_value s t h)).1

  sized : units_of (double_of s t) ≡ t
  sized = units_are (double_of s t) s t (double_value s t h)

  finite : Finite (double_of s t)
  unfolding double_of
  finite = record { held = is_true _ (round-fits binary64 s t (2 ^ 1074)); finite = (has_sign (double_of s t) s t (2 ^ 1074) (double_value s t h)).0 }

module _ (x : Float) (n : ℕ) (f : Finite x) where
  abbrev s : Bool
  s = is_sign_negative_of x

  -- for a k from 0 on it is exact
  module _ (top : units_of x * 2 ^ n < 2 ^ 2098 * 1) where
    up_held : Held (units_of x * 2 ^ n)
    up_held = between s (units_of x) (held x f) n (lt_of_lt_of_le top (le_of_eq (mul-one (2 ^ 2098))))

    up_units : units_of (ldexp_of x (pos n)) ≡ units_of x * 2 ^ n
    up_units = ap units_of (raised_is x n f) ∙ sized s (units_of x * 2 ^ n) up_held

    up_sign : is_sign_negative_of (ldexp_of x (pos n)) ≡ s
    up_sign = ap is_sign_negative_of (raised_is x n f) ∙ signed s (units_of x * 2 ^ n) up_held

    up_finite : Finite (ldexp_of x (pos n))
    up_finite = rw (raised_is x n f) (finite s (units_of x * 2 ^ n) up_held)

  -- and below 0 off by three quarters
  abbrev t : ℕ
  t = (lowered_is x n f).0

  down_units : units_of (ldexp_of x (negsuc n)) ≡ t
  down_units = ap units_of (lowered_is x n f).1 ∙ sized s t (lowered_is x n f).2

  down_sign : is_sign_negative_of (ldexp_of x (negsuc n)) ≡ s
  down_sign = ap is_sign_negative_of (lowered_is x n f).1 ∙ signed s t (lowered_is x n f).2

  down_finite : Finite (ldexp_of x (negsuc n))
  down_finite = rw (lowered_is x n f).1 (finite s t (lowered_is x n f).2)

  -- what is off by less than one unit is exact where it is whole
  down_exact : 2 ^ 52 * 2 ^ suc n ≤ units_of x → t * 2 ^ suc n ≡ units_of x
  down_exact h =
      let w = whole_digits (units_of x) (suc n) (held x f) h in
      let o = subst (λ (a : ℕ). Off 3 a (2 ^ suc n) t) w.1 (lowered_is x n f).3 in
      ap (λ (a : ℕ). a * 2 ^ suc n) (same t w.0 (2 ^ suc n) (pow_pos (suc n)) o) ∙ sym w.1
    where
      same : (q v U : ℕ) → 0 < U → Off 3 (v * U) U q → q ≡ v
      same q v U p o =
          let a : 4 * q ≤ 4 * v + 3 = le_of_mul-le-mul_right {k = U} (omega (arith, o.0)) p in
          let b : 4 * v ≤ 4 * q + 3 = le_of_mul-le-mul_right {k = U} (omega (arith, o.1)) p in
          omega arith

pub near : (x : Float) (k : ℤ) → Finite x → units_of x * up k < 2 ^ 2098 * down k → NearPower x k (ldexp_of x k)
near x (pos n) f top =
    let e = up_units x n f top in
    record { to = up_finite x n f top; sign = up_sign x n f top; over = omega (arith, e); under = omega (arith, e) }
near x (negsuc n) f top =
    let o = (lowered_is x n f).3 in
    record {
      to = down_finite x n f;
      sign = down_sign x n f;
      over = rw (down_units x n f, mul-one (units_of x)) o.0;
      under = rw (down_units x n f, mul-one (units_of x)) o.1;
    }

pub normal : (x : Float) (k : ℤ) → Finite x → 2 ^ 52 * down k ≤ units_of x * up k → units_of x * up k < 2 ^ 2098 * down k → TimesPower x k (ldexp_of x k)
normal x (pos n) f low top = record {
  from = f;
  to = up_finite x n f top;
  sign = sym (up_sign x n f top);
  amount = mul-one (units_of (ldexp_of x (pos n))) ∙ up_units x n f top;
}
normal x (negsuc n) f low top = record {
  from = f;
  to = down_finite x n f;
  sign = sym (down_sign x n f);
  amount = ap (λ (a : ℕ). a * 2 ^ suc n) (down_units x n f) ∙ down_exact x n f (le_trans low (le_of_eq (mul-one (units_of x)))) ∙ sym (mul-one (units_of x));
}
