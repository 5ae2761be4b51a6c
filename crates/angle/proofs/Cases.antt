-- The definition of c by what the function's tests say of v.
use mathlib.Core.Path.{◌≡◌, refl, sym, ap, ap₂, ◌∙◌, subst}
use mathlib.Core.Logic.{◌⊎◌, inl, inr, ⊎_elim}
use mathlib.Core.Bool.{Bool, true, false, cond, false≢true}
use Prim.Native.Nat.{ℕ, zero, suc, ◌+◌, ◌*◌, ◌/◌, ◌^◌, ◌≤◌, ◌<◌}
use native.Mathlib.Omega.{arith}
use native.Mathlib.Nat.{le_of_lt, le_of_eq, lt_of_lt_of_le, zero-lt-suc, zero-mul, zero-div}
use native.Mathlib.Nat.{mul-le-mul, mul-le-mul_left, mul-lt-mul_of_pos_right, lt_of_mul-lt-mul_right, eq_of_mul-eq-mul_right}
use borrow.Author.Tests.{le-leb, lt-leb, lt-ltb}
use lib.Dec.{eqb, lit<, lit≤}
use lib.Pow.{pow-add, pow_pos, pow_mono}
use lib.IntN.{ℤ}
use lib.Ieee.{Float, nan, inf, fin, up, down, round, size, units, odd, eq, lt, binary64, of_bits}
use lib.Ieee.Exact.{HasValue, odd_sign}
use lib.Count.{count_trailing_zeros}
use Rattle.algebra.specs.NatOrder.{le_or_lt}
use Rattle.float.specs.Literals.{zero64}
use Rattle.float.specs.Methods.{is_finite_of}
use Rattle.float.specs.Units.{units_of}
use Rattle.decode.specs.Exponent.{regular_of}
use Rattle.decode.specs.Shape.{Normal, Decoded}
use Rattle.decode.specs.declared.digits.Digits.{Digits}
use Rattle.decode.proofs.Class.{zero_is, not_zero, negative_view, positive_view, decoded_irregular, decoded_regular, decoded_normal}
use Rattle.std.specs.Prelude.{Some, None}
use Rattle.nearest.specs.Greatest.{greatest, nearest_of, NearestHalf}
use Rattle.nearest.proofs.Search.{greatest_lt}
use Rattle.nearest.proofs.Best.{nearest_value}
use Rattle.nearest.proofs.ByTest.{half_bounds}
use Rattle.angle.specs.declared.Sine.{Sine}
use Rattle.angle.specs.declared.Sine.TheVariants.{OfRounded, OfExact}
use Rattle.angle.specs.declared.ThirdAngle.{ThirdAngle}
use Rattle.angle.specs.Third.{left, right, at_most_solution, cos_units, cos_of, sin_of, exact_sin_of, sine_of, third_angle_of}
use Rattle.angle.specs.Parts.{level_of, cos_le, CosineDigits}
use Rattle.angle.proofs.Levels.{level_lt}
use Rattle.angle.proofs.Cosine.{monotone, sized, nearest_cos, cos_nearest}

abbrev pub angle : Float → Float → ThirdAngle
angle c s = record { cos = c; sin = s }

-- ---- what the function returns

no_digits : (c : Float) → c ≡ nan → CosineDigits c None
no_digits c e = record { none = λ z. e; some = λ m z. cc }

all_are_digits : (c : Float) (m : ℕ) → 2 ^ 52 ≤ m → m ≤ 2 ^ 53 → c ≡ odd 54 false m 1021 1074 → CosineDigits c (Some m)
all_are_digits c m a b e = record {
  none = λ z. cc;
  some = λ n z. let q : m ≡ n = cc in subst (λ (x : ℕ). (2 ^ 52 ≤ x) × (x ≤ 2 ^ 53) × (c ≡ odd 54 false x 1021 1074)) q (a, b, e);
}

-- ---- the definition by the sign and the units of v

at : (s : Bool) (m : ℕ) (e : ℤ) → units_of (fin s m e) ≤ 2 ^ 1074 → cos_of (fin s m e) ≡ nearest_cos s (units_of (fin s m e))
unfolding cos_of
at s m e h = ap (λ (b : Bool). cond b (nearest_cos s (units_of (fin s m e))) nan) (le-leb (units_of (fin s m e)) (2 ^ 1074) h)

-- what holds of each sign and size holds of v
pub by_sign : (D : Float → Float) (F : Bool → ℕ → Float)
    → ((s : Bool) (m : ℕ) (e : ℤ) → units_of (fin s m e) ≤ 2 ^ 1074 → D (fin s m e) ≡ F s (units_of (fin s m e)))
    → (v : Float) → regular_of v ≡ true → units_of v ≤ 2 ^ 1074 → D v ≡ F (lt v zero64) (units_of v)
by_sign D F at v r h = go (lt v zero64) refl
  where
    of_view : (b : Bool) (m : ℕ) (e : ℤ) → v ≡ fin b m e → D v ≡ F b (units_of v)
    of_view b m e x = ap D x ∙ at b m e (subst (λ (y : Float). units_of y ≤ 2 ^ 1074) x h) ∙ ap (λ (y : Float). F b (units_of y)) (sym x)

    go : (b : Bool) → lt v zero64 ≡ b → D v ≡ F b (units_of v)
    go true e = ⊎_elim (λ i. absurd (false≢true (sym (ap regular_of i) ∙ r))) (λ x. of_view true (suc x.0) x.1 x.2) (negative_view v e)
    go false e = let x = positive_view v e r in of_view false (suc x.0) x.1 x.2

cos_is : (v : Float) → regular_of v ≡ true → units_of v ≤ 2 ^ 1074 → cos_of v ≡ nearest_cos (lt v zero64) (units_of v)
cos_is = by_sign cos_of nearest_cos at

cos_above : (v : Float) → 2 ^ 1074 < units_of v → cos_of v ≡ nan
unfolding cos_of
cos_above nan h = refl
cos_above (inf s) h = refl
cos_above (fin s m e) h = ap (λ (b : Bool). cond b (nearest_cos s (units_of (fin s m e))) nan) (lt-leb (units_of (fin s m e)) (2 ^ 1074) h)

cos_irregular : (v : Float) → eq v zero64 ≡ false → regular_of v ≡ false → cos_of v ≡ nan
unfolding cos_of
cos_irregular nan z r = refl
cos_irregular (inf s) z r = refl
cos_irregular (fin s zero e) z r = absurd (not_zero s e z)
cos_irregular (fin s (suc m) e) z r = absurd (false≢true (sym r ∙ lt-ltb 0 (suc m) (zero-lt-suc m)))

-- ---- at 0, 1 and -1 the definition computes

at_zero : (s : Bool) → nearest_cos s 0 ≡ odd 54 false 7800463371553962 1021 1074
unfolding cos_units nearest_of greatest round size units odd count_trailing_zeros
at_zero true = refl
at_zero false = refl

at_one : (s : Bool) → nearest_cos s (2 ^ 1074) ≡ odd 54 false (cond s (2 ^ 52) (2 ^ 53)) 1021 1074
unfolding cos_units nearest_of greatest round size units odd count_trailing_zeros
at_one true = refl
at_one false = refl

pub digits_zero : (v : Float) → eq v zero64 ≡ true → CosineDigits (cos_of v) (Some 7800463371553962)
digits_zero v z =
    let x = zero_is v z in
    let none : units_of (fin x.0 0 x.1) ≡ 0 = ap (λ (a : ℕ). a * 2 ^ 1074 / down x.1) (zero-mul (up x.1)) ∙ zero-div (down x.1) in
    all_are_digits _ _ (lit≤ tt) (lit≤ tt)
    (ap cos_of x.2 ∙ at x.0 0 x.1 (subst (λ (a : ℕ). a ≤ 2 ^ 1074) (sym none) (lit≤ tt)) ∙ ap (λ (a : ℕ). nearest_cos x.0 a) none ∙ at_zero x.0)

-- ---- by the digits of v

pub units_lt : (n w k b : ℕ) → Normal n w k → k < b → n < 2 ^ b
units_lt n w k b d l =
    lt_of_mul-lt-mul_right (2 ^ 52)
    (subst (λ (x : ℕ). x < 2 ^ b * 2 ^ 52) d.value (lt_of_lt_of_le (mul-lt-mul_of_pos_right d.short (pow_pos k))
    (subst (λ (x : ℕ). x ≤ 2 ^ b * 2 ^ 52) (pow-add 2 53 k)
    (subst (λ (x : ℕ). 2 ^ (53 + k) ≤ x) (pow-add 2 b 52) (pow_mono (let e : 53 + k ≤ b + 52 = omega arith in e))))))

pub digits_none : (v : Float) → Decoded v None → eq v zero64 ≡ false → CosineDigits (cos_of v) None
digits_none v d e = no_digits _ (cos_irregular v e (decoded_irregular v d))

module _ (v : Float) (d : Digits) (D : Decoded v (Some d)) where
  abbrev w : ℕ
  w = d.w

  abbrev k : ℕ
  k = d.k

  n : Normal (units_of v) d.w d.k
  n = decoded_normal v d D

  r : regular_of v ≡ true
  r = decoded_regular v d D

  units_below : k < 1074 → units_of v < 2 ^ 1074
  units_below l = units_lt (units_of v) w k 1074 n l

  units_one : 1074 ≤ k → k ≤ 1074 → w ≤ 2 ^ 52 → units_of v ≡ 2 ^ 1074
  units_one a b l =
      eq_of_mul-eq-mul_right (2 ^ 52) (pow_pos 52) (units_of v) (2 ^ 1074)
      (sym n.value ∙ ap₂ (λ (x y : ℕ). x * 2 ^ y) (let e : w ≡ 2 ^ 52 = omega (arith, n.led) in e) (let e : k ≡ 1074 = omega arith in e))

  units_above : 1074 ≤ k → (1074 < k) ⊎ (2 ^ 52 < w) → 2 ^ 1074 < units_of v
  units_above a c = lt_of_mul-lt-mul_right (2 ^ 52) (subst (λ (x : ℕ). 2 ^ 1074 * 2 ^ 52 < x) n.value (go c))
    where
      go : (1074 < k) ⊎ (2 ^ 52 < w) → 2 ^ 52 * 2 ^ 1074 < w * 2 ^ k
      go (inl l) = lt_of_lt_of_le (lit< tt) (mul-le-mul {n₁ = 2 ^ 52} {m₁ = 2 ^ 1075} n.led (pow_mono l))
      go (inr l) = lt_of_lt_of_le (mul-lt-mul_of_pos_right l (pow_pos 1074)) (mul-le-mul_left w (pow_mono a))

  pub digits_inside : (s : Bool) → lt v zero64 ≡ s → d.k < 1074 → (m : ℕ) → NearestHalf (cos_le (level_of s d.w d.k)) m → CosineDigits (cos_of v) (Some m)
  digits_inside s e l m q =
      let b = half_bounds _ (monotone (level_of s w k)) (sized (level_of s w k) (level_lt w k n.short l s)) m q in
      all_are_digits _ _ b.0 b.1
      (cos_is v r (le_of_lt (units_below l)) ∙ ap (λ (s : Bool). nearest_cos s (units_of v)) e
      ∙ cos_nearest s (units_of v) w k m n (le_of_lt (units_below l)) l q)

  pub digits_above : 1074 < d.k → CosineDigits (cos_of v) None
  digits_above a = no_digits _ (cos_above v (units_above (omega arith) (inl a)))

  pub digits_over : 1074 ≤ d.k → 2 ^ 52 < d.w → CosineDigits (cos_of v) None
  digits_over a c = no_digits _ (cos_above v (units_above a (inr c)))

  -- both of these
  pub digits_beyond : 1074 ≤ d.k → (1074 < d.k) ⊎ (2 ^ 52 < d.w) → CosineDigits (cos_of v) None
  digits_beyond a c = no_digits _ (cos_above v (units_above a c))

  pub digits_one : (s : Bool) → lt v zero64 ≡ s → 1074 ≤ k → k ≤ 1074 → w ≤ 2 ^ 52 → CosineDigits (cos_of v) (Some (cond s (2 ^ 52) (2 ^ 53)))
  digits_one s e a b l =
      all_are_digits _ _ (low s) (high s)
      (cos_is v r (le_of_eq (units_one a b l)) ∙ ap₂ (λ (s : Bool) (u : ℕ). nearest_cos s u) e (units_one a b l) ∙ at_one s)
    where
      low : (s : Bool) → 2 ^ 52 ≤ cond s (2 ^ 52) (2 ^ 53)
      low true = lit≤ tt
      low false = lit≤ tt

      high : (s : Bool) → cond s (2 ^ 52) (2 ^ 53) ≤ 2 ^ 53
      high true = lit≤ tt
      high false = lit≤ tt

  -- at 1 and -1
  pub digits_up : lt v zero64 ≡ false → 1074 ≤ d.k → d.k ≤ 1074 → d.w ≤ 2 ^ 52 → CosineDigits (cos_of v) (Some (2 ^ 53))
  digits_up e a b l = digits_one false e a b l

  pub digits_down : lt v zero64 ≡ true → 1074 ≤ d.k → d.k ≤ 1074 → d.w ≤ 2 ^ 52 → CosineDigits (cos_of v) (Some (2 ^ 52))
  digits_down e a b l = digits_one true e a b l

-- ---- both, by the digits of c

module _ (c : Float) (m : ℕ) (d : CosineDigits c (Some m)) where
  pub cos_low : 2 ^ 52 ≤ m
  cos_low = (d.some m refl).0

  pub cos_high : m ≤ 2 ^ 53
  cos_high = (d.some m refl).1

numbers : (x : Float) (a : ℕ) → HasValue x false a (2 ^ 1074) → x ≡ nan → ⊥
numbers x a h e = subst (λ (y : Float). HasValue y false a (2 ^ 1074)) e h

-- there is a c exactly where v is from -1 to 1
pub inside : (v : Float) (m : ℕ) → CosineDigits (cos_of v) (Some m) → (is_finite_of v ≡ true) × (units_of v ≤ 2 ^ 1074)
unfolding cos_of is_finite_of
inside v m d = go v (d.some m refl).2
  where
    go : (v : Float) → cos_of v ≡ odd 54 false m 1021 1074 → (is_finite_of v ≡ true) × (units_of v ≤ 2 ^ 1074)
    go nan e = absurd (numbers _ _ (odd_sign 54 false m 1021 1074) (sym e))
    go (inf s) e = absurd (numbers _ _ (odd_sign 54 false m 1021 1074) (sym e))
    go (fin s m e) f = (
      refl,
      ⊎_elim (λ h. h) (λ h. absurd (numbers _ _ (odd_sign 54 false _ 1021 1074) (sym f ∙ cos_above (fin s m e) h)))
          (le_or_lt (units_of (fin s m e)) (2 ^ 1074)),
    )

cos_lt : (s : Bool) (n : ℕ) → cos_units s n < 2 ^ 2000
unfolding cos_units
cos_lt s n = lt_of_lt_of_le (greatest_lt (at_most_solution s n) 1075 0) (lit≤ tt)

outside : (v : Float) → cos_of v ≡ nan → exact_sin_of v ≡ nan
unfolding cos_of exact_sin_of
outside nan f = refl
outside (inf s) f = refl
outside (fin s m e) f =
    let n = units_of (fin s m e) in
    let t = cos_units s n in
    ⊎_elim (λ h. absurd (numbers _ _ (nearest_value t (eqb (left s n t) (right s n t)) (cos_lt s n)) (sym (at s m e h) ∙ f)))
    (λ h. rw (lt-leb n (2 ^ 1074) h) refl) (le_or_lt n (2 ^ 1074))

no_sine : (sine : Sine) (v : Float) → cos_of v ≡ nan → nan ≡ sine_of sine v
unfolding sine_of sin_of
no_sine OfRounded v e = sym (ap sin_of e)
no_sine OfExact v e = sym (outside v e)

pub both : (sine : Sine) (v c s : Float) → c ≡ cos_of v → s ≡ sine_of sine v → angle c s ≡ third_angle_of sine v
unfolding third_angle_of
both sine v c s a b = ap₂ angle a b

pub both_none : (sine : Sine) (v : Float) → CosineDigits (cos_of v) None
    → angle (of_bits binary64 0x7FF8_0000_0000_0000) (of_bits binary64 0x7FF8_0000_0000_0000) ≡ third_angle_of sine v
unfolding of_bits
both_none sine v d = let e = d.none refl in both sine v _ _ (sym e) (no_sine sine v e)

pub both_some : (sine : Sine) (v : Float) (m : ℕ) → CosineDigits (cos_of v) (Some m)
    → ((third_angle_of sine v).cos ≡ odd 54 false m 1021 1074) × ((third_angle_of OfRounded v).sin ≡ sin_of (odd 54 false m 1021 1074))
    × ((third_angle_of OfExact v).sin ≡ exact_sin_of v)
unfolding third_angle_of sine_of
both_some sine v m d = let e = (d.some m refl).2 in (e, ap sin_of e, refl)

-- what `third_digits` rests on
pub ruleset digits = (digits_zero, digits_none, digits_above, digits_over, digits_up, digits_down)
