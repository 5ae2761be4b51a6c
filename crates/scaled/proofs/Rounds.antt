-- A product with a power of two, in units: rounding keeps every bound w * 2^g with a w below 2^53, from above and from below, since the bound is a multiple of
-- the unit that the product is rounded to, or out of its reach.
use mathlib.Core.Path.{◌≡◌, refl, sym, ap, ◌∙◌, subst}
use mathlib.Core.Bool.{Bool, true, false, false≢true}
use mathlib.Core.Logic.{inl, inr, ⊎_elim}
use Prim.Native.Nat.{ℕ, suc, ◌-◌, ◌*◌, ◌^◌, ◌≤◌, ◌<◌}
use native.Mathlib.Omega.{arith}
use native.Mathlib.Nat.{mul_assoc, mul-pos, mul-le-mul_right, mul-lt-mul_of_pos_right, le_trans, le_of_eq}
use native.Mathlib.Nat.{le_of_lt, lt_of_lt_of_le, lt_of_le_of_lt, lt_of_not-le, le_of_suc-le-suc}
use lib.Pow.{pow_pos}
use lib.IntN.{ℤ}
use lib.Ieee.{Float, nan, inf, fin, binary64, up, down, unlike, mul, fits}
use lib.Ieee.Bits.{is_true}
use lib.Ieee.Exact.{HasValue, units_val}
use lib.Ieee.Fits.{round_is, down_pos, mul-fits}
use lib.Ieee.Order.{drop, kept}
use Rattle.algebra.specs.NatOrder.{le_or_lt, pow2_finer, pow2_twice}
use Rattle.rounding.specs.Rounded.{Rounded}
use Rattle.rounding.proofs.Rounded.{rounded, same_fraction}
use Rattle.float.specs.Methods.{is_finite_of}
use Rattle.float.specs.Units.{units_of, Finite}
use Rattle.ldexp.specs.Scale.{pow2_of}
use Rattle.nearest.proofs.Best.{units_are}
use Rattle.scaled.proofs.Digits.{units_fraction}

-- ---- n / d, rounded to r, and w * 2^g
module _ {n d r : ℕ} (D : 0 < d) (R : Rounded n d r) (w g : ℕ) (W : w < 2 ^ 53) where
  abbrev unit : ℕ
  unit = 2 ^ R.k * d

  unit_pos : 0 < unit
  unit_pos = mul-pos (pow_pos R.k) D

  is : r * d ≡ R.q * unit
  is = ap (λ (x : ℕ). x * d) R.is ∙ mul_assoc R.q (2 ^ R.k) d

  -- the bound is c times 2^k
  abbrev c : ℕ
  c = w * 2 ^ (g - R.k)

  fine : R.k ≤ g → w * 2 ^ g * d ≡ c * unit
  fine l = ap (λ (x : ℕ). x * d) (pow2_finer w l) ∙ mul_assoc c (2 ^ R.k) d

  -- or it is below 2^52 * 2^k, which n / d reaches
  low : g < R.k → w * 2 ^ g < 2 ^ 52 * 2 ^ R.k
  low l = lt_of_lt_of_le (mul-lt-mul_of_pos_right W (pow_pos g)) (omega (arith, pow2_twice l))

  reached : g < R.k → 2 ^ 52 * unit ≤ n
  reached l = elim R.least [ inl o ↦ absurd (none o) | inr o ↦ omega arith ]
    where
      none : R.k ≡ 0 → ⊥
      none o = omega arith

  not_more : {a b : ℕ} → (suc b ≤ a → ⊥) → a ≤ b
  not_more h = le_of_suc-le-suc (lt_of_not-le h)

  pub kept_above : n ≤ w * 2 ^ g * d → r ≤ w * 2 ^ g
  kept_above h = ⊎_elim near far (le_or_lt R.k g)
    where
      near : R.k ≤ g → r ≤ w * 2 ^ g
      near l =
          let q : R.q ≤ c = not_more (λ (m : suc c ≤ R.q). let z = mul-le-mul_right unit m in omega (arith, unit_pos, R.lo, is, fine l)) in
          le_trans (le_of_eq R.is) (le_trans (mul-le-mul_right (2 ^ R.k) q) (le_of_eq (sym (pow2_finer w l))))

      far : g < R.k → r ≤ w * 2 ^ g
      far l = absurd (let z = mul-lt-mul_of_pos_right (low l) D in omega (arith, reached l))

  pub kept_below : w * 2 ^ g * d ≤ n → w * 2 ^ g ≤ r
  kept_below h = ⊎_elim near far (le_or_lt R.k g)
    where
      near : R.k ≤ g → w * 2 ^ g ≤ r
      near l =
          let q : c ≤ R.q = not_more (λ (m : suc R.q ≤ c). let z = mul-le-mul_right unit m in omega (arith, unit_pos, R.hi, is, fine l)) in
          le_trans (le_of_eq (pow2_finer w l)) (le_trans (mul-le-mul_right (2 ^ R.k) q) (le_of_eq (sym R.is)))

      far : g < R.k → w * 2 ^ g ≤ r
      far l =
          let q : 2 ^ 52 ≤ R.q = not_more (λ (m : suc R.q ≤ 2 ^ 52). let z = mul-le-mul_right unit m in omega (arith, unit_pos, R.hi, is, reached l)) in
          le_trans (le_of_lt (low l)) (le_trans (mul-le-mul_right (2 ^ R.k) q) (le_of_eq (sym R.is)))

-- ---- y is x * 2^z, rounded
pub record Product (x y : Float) (z : ℤ) : Type 0 where
  pub finite : Finite y
  pub rounds : Rounded (units_of x * up z) (down z) (units_of y)

has_finite : (y : Float) (s : Bool) (r d : ℕ) → HasValue y s r d → is_finite_of y ≡ true
unfolding is_finite_of
has_finite nan s r d h = absurd h
has_finite (inf t) s r d h = absurd h
has_finite (fin t m e) s r d h = refl

-- it is below 2^1024 where a bound is
module _ (s : Bool) (m : ℕ) (e z : ℤ) (F : fits binary64 (fin s m e) ≡ true) (w g : ℕ) (W : w < 2 ^ 53) (small : w * 2 ^ g < 2 ^ 2098)
    (h : units_of (fin s m e) * up z ≤ w * 2 ^ g * down z) where
  abbrev num : ℕ
  num = m * up e * (1 * up z)

  abbrev den : ℕ
  den = down e * down z

  den_pos : 0 < den
  den_pos = mul-pos (down_pos e) (down_pos z)

  abbrev result : ℕ
  result = kept 53 (num * 2 ^ 1074) den * 2 ^ drop 53 (num * 2 ^ 1074) den

  rounds : Rounded (units_of (fin s m e) * up z) (down z) result
  rounds =
      same_fraction (units_of (fin s m e) * up z) (down z) den_pos (down_pos z)
      (regroup (m * up e) (units_of (fin s m e)) (down e) (2 ^ 1074) (units_fraction s m e F)) (rounded (num * 2 ^ 1074) den den_pos)
    where
      regroup : (a u v o : ℕ) → u * v ≡ a * o → a * (1 * up z) * o * down z ≡ u * up z * (v * down z)
      regroup a u v o h = omega (arith, ap (λ (x : ℕ). x * up z * down z) h)

  has : HasValue (mul binary64 (fin s m e) (pow2_of z)) (unlike s false) result (2 ^ 1074)
  unfolding mul
  has =
      subst (λ (y : Float). HasValue y (unlike s false) result (2 ^ 1074)) (sym (round_is binary64 (unlike s false) num den))
      (units_val binary64 (unlike s false) (kept 53 (num * 2 ^ 1074) den) (drop 53 (num * 2 ^ 1074) den)
      (lt_of_le_of_lt (kept_above (down_pos z) rounds w g W h) small))

  product : Product (fin s m e) (mul binary64 (fin s m e) (pow2_of z)) z
  product =
      let y = mul binary64 (fin s m e) (pow2_of z) in
      record {
        finite =
            record {
              held = is_true (fits binary64 y) (mul-fits binary64 (fin s m e) (pow2_of z));
              finite = has_finite y (unlike s false) result (2 ^ 1074) has;
            };
        rounds = subst (λ (r : ℕ). Rounded (units_of (fin s m e) * up z) (down z) r) (sym (units_are y (unlike s false) result has)) rounds;
      }

pub times : (x : Float) (z : ℤ) → Finite x → (w g : ℕ) → w < 2 ^ 53 → w * 2 ^ g < 2 ^ 2098 → units_of x * up z ≤ w * 2 ^ g * down z
    → Product x (mul binary64 x (pow2_of z)) z
unfolding is_finite_of
times nan z F = absurd (false≢true F.finite)
times (inf s) z F = absurd (false≢true F.finite)
times (fin s m e) z F = product s m e z F.held
