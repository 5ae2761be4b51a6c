-- No double is nearer than `nearest_of`. Let `under h` say that h half units are at most a number, and `over h` that they are at least it. Then the middle
-- of r = `nearest_of` and any smaller double is `under`, and the middle of r and any larger one is `over`.
use mathlib.Core.Path.{◌≡◌, refl, sym, ap, ◌∙◌, subst}
use mathlib.Core.Logic.{⊎_elim}
use mathlib.Core.Bool.{Bool, true, false, cond, true≢false}
use Prim.Native.Nat.{ℕ, zero, suc, ◌+◌, ◌-◌, ◌*◌, ◌/◌, ◌^◌, ◌≤◌, ◌<◌}
use native.Mathlib.Omega.{arith}
use native.Mathlib.Nat.{le_trans, le_of_lt, lt_of_le_of_lt, lt_of_mul-lt-mul_right, add-mul, suc-mul, mul_assoc}
use native.Mathlib.Nat.{mul_left_comm, mul-le-mul_left, mul-le-mul_right, mul-div_cancel, zero-lt-suc, pow-succ'}
use lib.Dec.{T, lit<}
use lib.Pow.{pow_pos}
use lib.Ieee.{Float, nan, inf, fin, binary64, fits, down}
use lib.Ieee.Bits.{is_true}
use lib.Ieee.Fits.{round_is, round-fits, down_pos}
use lib.Ieee.Order.{drop, kept}
use lib.Ieee.Exact.{HasValue, units_val}
use Rattle.float.specs.Methods.{is_finite_of}
use Rattle.float.specs.Units.{units_of}
use Rattle.decode.proofs.Fields.{shape}
use Rattle.algebra.specs.NatOrder.{le_or_lt, pow2_finer, pow2_twice}
use Rattle.rounding.specs.Rounded.{Rounded}
use Rattle.rounding.proofs.Rounded.{rounded, same_fraction}
use Rattle.nearest.specs.Greatest.{nearest_of}

pub units_are : (x : Float) (s : Bool) (a : ℕ) → HasValue x s a (2 ^ 1074) → units_of x ≡ a
units_are nan s a h = absurd h
units_are (inf t) s a h = absurd h
units_are (fin t m e) s a h = ap (λ (y : ℕ). y / down e) h.1 ∙ mul-div_cancel a (down_pos e)

-- ---- 2 t half units and one for a part of a unit, rounded to r = q * 2 ^ k units

abbrev pub part : Bool → ℕ
part exact = cond exact 0 1

part_le : (exact : Bool) → part exact ≤ 1
part_le true = omega arith
part_le false = omega arith

-- the middle of r and u units is not beyond the number
abbrev Beside : ℕ → Bool → ℕ → ℕ → Type 0
Beside t exact r u = (u < r → r + u ≤ 2 * t) × (r < u → 2 * (t + part exact) ≤ r + u)

-- where a part is left K is even, so a bound of c * K by an odd number is one by the even number next to it
sharp : (exact : Bool) (t K c : ℕ) → (exact ≡ false → (H : ℕ) × (K ≡ 2 * H)) → (c * K ≤ 2 * t + part exact → c * K ≤ 2 * t)
    × (2 * t + part exact ≤ c * K → 2 * (t + part exact) ≤ c * K)
sharp true t K c even = (λ h. omega arith, λ h. omega arith)
sharp false t K c even =
    let e : c * K ≡ 2 * (c * (even refl).0) = ap (λ (y : ℕ). c * y) (even refl).1 ∙ mul_left_comm c 2 (even refl).0 in
    (λ h. omega arith, λ h. omega arith)

step : (a b K : ℕ) → a * K < b * K → a * K + K ≤ b * K
step a b K h = subst (λ (y : ℕ). y ≤ b * K) (suc-mul a K) (mul-le-mul_right K (lt_of_mul-lt-mul_right K h))

module _ (t r : ℕ) (exact : Bool) (R : Rounded (2 * t + part exact) 2 r) (big : exact ≡ false → 2 ^ 53 ≤ t) where
  even : exact ≡ false → (H : ℕ) × (2 ^ R.k ≡ 2 * H)
  even e = go R.k R.most
    where
      go : (k : ℕ) → 2 * t + part exact < 2 ^ 53 * (2 * 2 ^ k) → (H : ℕ) × (2 ^ k ≡ 2 * H)
      go zero u = let b = big e in absurd (omega arith)
      go (suc k) u = (2 ^ k, pow-succ' 2 k)

  -- a multiple of the step 2 ^ k
  multiple : (e : ℕ) → Beside t exact r (e * 2 ^ R.k)
  multiple e =
      let K = 2 ^ R.k in
      let s = sharp exact t K (R.q + e) even in
      let sum : (R.q + e) * K ≡ r + e * K = add-mul R.q e K ∙ ap (λ (y : ℕ). y + e * K) (sym R.is) in (
        λ h. let l = step e R.q K (rw R.is at h) in rw sum at (s.0 (omega (arith, R.is, R.lo))),
        λ h. let l = step R.q e K (rw R.is at h) in rw sum at (s.1 (omega (arith, R.is, R.hi))),
      )

  -- a double is such a multiple, or at most the first number of 53 digits at this step
  beside : (w j : ℕ) → w < 2 ^ 53 → Beside t exact r (w * 2 ^ j)
  beside w j s = ⊎_elim coarse fine (le_or_lt R.k j)
    where
      coarse : R.k ≤ j → Beside t exact r (w * 2 ^ j)
      coarse l = rw (pow2_finer w l) (multiple (w * 2 ^ (j - R.k)))

      fine : j < R.k → Beside t exact r (w * 2 ^ j)
      fine l =
          let F = 2 ^ 52 * 2 ^ R.k in
          let m = multiple (2 ^ 52) in
          let under : w * 2 ^ j ≤ F = omega (arith, mul-le-mul_right (2 ^ j) (le_of_lt s), pow2_twice l) in
          let first : F ≤ t = let o = part_le exact in ⊎_elim (λ z. absurd (omega arith)) (λ g. omega arith) R.least in (
            λ h. ⊎_elim (λ g. omega arith) (λ g. let a = m.0 g in omega arith) (le_or_lt r F),
            λ h. let a = m.1 (omega arith) in absurd (omega arith),
          )

-- ---- what `nearest_of` makes of them

below_top : (t r : ℕ) (exact : Bool) → t < 2 ^ 2000 → Rounded (2 * t + part exact) 2 r → r < 2 ^ 2098
below_top t r exact h R =
    let o = part_le exact in
    let s : 2 ^ R.k ≤ 2 * t + part exact + 1 = ⊎_elim (λ z. subst (λ (k : ℕ). 2 ^ k ≤ 2 * t + part exact + 1) (sym z) (omega arith))
    (λ g. omega arith) R.least in
    let l : r ≤ 2 * suc t = omega (arith, R.lo) in
    lt_of_le_of_lt (le_trans l (mul-le-mul_left 2 h)) (lit< tt)

rounds : (t : ℕ) (exact : Bool) → t < 2 ^ 2000 → let r = units_of (nearest_of t exact) in HasValue (nearest_of t exact) false r (2 ^ 1074)
    × Rounded (2 * t + part exact) 2 r
unfolding nearest_of
rounds t exact h =
    let x = 2 * t + part exact in
    let q = kept 53 (x * 2 ^ 1074) (2 ^ 1075) in
    let k = drop 53 (x * 2 ^ 1074) (2 ^ 1075) in
    let R = same_fraction x 2 (pow_pos 1075) (zero-lt-suc 1) (mul_assoc x (2 ^ 1074) 2) (rounded (x * 2 ^ 1074) (2 ^ 1075) (pow_pos 1075)) in
    let v : HasValue (nearest_of t exact) false (q * 2 ^ k) (2 ^ 1074) = rw (round_is binary64 false x (2 ^ 1075))
    (units_val binary64 false q k (below_top t (q * 2 ^ k) exact h R)) in
    rw (units_are (nearest_of t exact) false (q * 2 ^ k) v) (v, R)

-- ---- the theorem, of a number that is t units and a part of one more, or t where it is exact
module _ (t : ℕ) (exact : Bool) (small : t < 2 ^ 2000) where
  pub nearest_value : HasValue (nearest_of t exact) false (units_of (nearest_of t exact)) (2 ^ 1074)
  nearest_value = (rounds t exact small).0

  pub nearest_fits : fits binary64 (nearest_of t exact) ≡ true
  unfolding nearest_of
  nearest_fits = is_true _ (round-fits binary64 false (2 * t + part exact) (2 ^ 1075))

  -- it asks for 2 ^ 53 units where a part is left: below, a middle of two doubles may lie inside a unit
  module _ (big : exact ≡ false → 2 ^ 53 ≤ t) (under over : ℕ → Type 0) (down : (a b : ℕ) → a ≤ b → under b → under a)
      (up : (a b : ℕ) → a ≤ b → over a → over b) (lo : under (2 * t)) (hi : over (2 * (t + part exact))) where
    pub nearest_best : (d : Float) → fits binary64 d ≡ true → is_finite_of d ≡ true
        → let r = units_of (nearest_of t exact) in (units_of d < r → under (r + units_of d)) × (r < units_of d → over (r + units_of d))
    unfolding is_finite_of
    nearest_best nan f g = absurd (true≢false (sym g))
    nearest_best (inf s) f g = absurd (true≢false (sym g))
    nearest_best (fin s m e) f g =
        let r = units_of (nearest_of t exact) in
        let u = units_of (fin s m e) in
        let h = shape s m e (subst T (sym f) tt) in
        let c : Beside t exact r u = rw h.whole.value at (beside t r exact (rounds t exact small).1 big h.w h.k h.whole.short) in
        (λ l. down (r + u) (2 * t) (c.0 l) lo, λ l. up (2 * (t + part exact)) (r + u) (c.1 l) hi)
