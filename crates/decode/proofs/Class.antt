-- What comparisons with itself and with zero say of a double, and what `normal_of` reads from its pattern.
use mathlib.Core.Path.{◌≡◌, refl, sym, ap, ap₂, ◌∙◌, subst}
use mathlib.Core.Logic.{◌⊎◌, inl, inr, ⊎_elim}
use mathlib.Core.Bool.{Bool, true, false, not, ◌||◌, beq, false≢true}
use Prim.Native.Nat.{ℕ, zero, suc, ◌+◌, ◌*◌, ◌/◌, ◌%◌, ◌^◌, ◌<◌}
use native.Mathlib.Omega.{arith}
use native.Mathlib.Nat.{mul-one, zero-mul, mul-pos, zero-div, zero-lt-suc, lt_of_lt_of_le, lt_irrefl}
use lib.Dec.{T, eqb, ltb, eqb→eq, ltb→lt}
use borrow.Author.Tests.{lt-ltb, not-true}
use lib.Pow.{pow_pos}
use lib.IntN.{ℤ}
use lib.Ieee.{Float, fin, nan, inf, binary64, up, down, eq, ne, lt, fits, is_nan, level, of_bits}
use lib.Ieee.Fits.{up_pos, and_l}
use Rattle.float.specs.Literals.{zero64}
use Rattle.float.specs.Methods.{is_finite_of}
use Rattle.float.specs.Units.{Finite, units_of}
use Rattle.float.proofs.Bits.{of_true, nan_is}
use Rattle.decode.specs.Exponent.{regular_of}
use Rattle.decode.specs.Shape.{Normal, Decoded}
use Rattle.decode.specs.declared.digits.Digits.{Digits}
use Rattle.std.specs.Prelude.{Some, None}
use Rattle.decode.proofs.Fields.{units_pos, Pattern, pattern, not_top, normal, fraction_is, shifted}

no_product : (a b : ℕ) → 0 < a * b → a * b ≡ 0 → ⊥
no_product a b h e = omega arith

first_zero : (m u : ℕ) → 0 < u → m * u ≡ 0 → m ≡ 0
first_zero zero u h e = refl
first_zero (suc m) u h e = absurd (no_product (suc m) u (mul-pos (zero-lt-suc m) h) e)

-- ---- a comparison with zero

pub zero_is : (x : Float) → eq x zero64 ≡ true → (s : Bool) × (k : ℤ) × (x ≡ fin s 0 k)
unfolding eq of_bits
zero_is nan e = absurd (false≢true e)
zero_is (inf s) e = absurd (false≢true e)
zero_is (fin s m k) e =
    let z : m ≡ 0 =
    first_zero m (up k) (up_pos k)
    (sym (mul-one (m * up k)) ∙ eqb→eq (m * up k * 1) (0 * down k)
    (and_l (eqb (m * up k * 1) (0 * down k)) (beq s false || eqb (m * up k * 1) 0) (subst T (sym e) tt)) ∙ zero-mul (down k)) in
    (s, k, ap (λ (a : ℕ). fin s a k) z)

-- a zero equals +0, whatever its exponent
zero_test : (s : Bool) (k : ℤ) → level s (0 * up k * 1) false (0 * down k) ≡ level s 0 false 0
zero_test s k = ap₂ (λ (a b : ℕ). level s a false b) (mul-one (0 * up k) ∙ zero-mul (up k)) (zero-mul (down k))

pub not_zero : (s : Bool) (k : ℤ) → eq (fin s 0 k) zero64 ≡ false → ⊥
unfolding eq of_bits
not_zero true k e = absurd (false≢true (sym e ∙ zero_test true k))
not_zero false k e = absurd (false≢true (sym e ∙ zero_test false k))

-- a finite double that is not zero has units
pub some_units : (x : Float) → Finite x → ne x zero64 ≡ true → 0 < units_of x
unfolding is_finite_of ne of_bits
some_units nan F h = absurd (false≢true F.finite)
some_units (inf s) F h = absurd (false≢true F.finite)
some_units (fin s zero e) F h = absurd (not_zero s e (not-true (eq (fin s 0 e) zero64) h))
some_units (fin s (suc m) e) F h = units_pos s (suc m) e (of_true F.held) (zero-lt-suc m)

-- ---- a regular value

pub regular_units : (x : Float) → fits binary64 x ≡ true → regular_of x ≡ true → 0 < units_of x
regular_units nan t e = absurd (false≢true e)
regular_units (inf s) t e = absurd (false≢true e)
regular_units (fin s m k) t e = units_pos s m k (subst T (sym t) tt) (ltb→lt 0 m (subst T (sym e) tt))

-- ---- what `normal_of` may answer

pub irregular_units : (x : Float) → regular_of x ≡ false → units_of x ≡ 0
irregular_units nan r = refl
irregular_units (inf s) r = refl
irregular_units (fin s zero e) r = ap (λ (a : ℕ). a * 2 ^ 1074 / down e) (zero-mul (up e)) ∙ zero-div (down e)
irregular_units (fin s (suc m) e) r = absurd (false≢true (sym r ∙ lt-ltb 0 (suc m) (zero-lt-suc m)))

pub decoded_none : (x : Float) → fits binary64 x ≡ true → units_of x ≡ 0 → Decoded x None
decoded_none x f z = record {
  regular = λ r. absurd (lt_irrefl 0 (subst (λ (n : ℕ). 0 < n) z (regular_units x f r)));
  other = λ r. refl;
}

pub decoded_digits : (x : Float) (n : Digits) → Normal (units_of x) n.w n.k → Decoded x (Some n)
decoded_digits x n h = record {
  regular = λ r. (n, refl, h);
  other =
      λ r. absurd (no_product n.w (2 ^ n.k) (mul-pos (lt_of_lt_of_le (pow_pos 52) h.led) (pow_pos n.k))
      (h.value ∙ ap (λ (u : ℕ). u * 2 ^ 52) (irregular_units x r)));
}

-- ---- what it reads from the pattern b of an x without its sign

pub nan_none : (x : Float) → is_nan x ≡ true → Decoded x None
nan_none x e = subst (λ (y : Float). Decoded y None) (nan_is x e) (record { regular = λ r. absurd (false≢true r); other = λ r. refl })

pub self_not_nan : (x : Float) → ne x x ≡ false → T (not (is_nan x))
unfolding ne is_nan
self_not_nan nan e = absurd (false≢true (sym e))
self_not_nan (inf s) e = tt
self_not_nan (fin s m k) e = tt

pub no_nan : (x : Float) → is_nan x ≡ false → T (not (is_nan x))
no_nan x e = subst (λ (b : Bool). T (not b)) (sym e) tt

module _ (x : Float) (f : fits binary64 x ≡ true) (b : ℕ) (p : Pattern x b) where
  pub top_none : b / 2 ^ 52 ≡ 2047 → Decoded x None
  top_none t = ⊎_elim (λ i. decoded_none x f i.1) (λ h. absurd (not_top _ _ _ b h.2 h.3 t)) p

  pub field_digits : (b / 2 ^ 52 ≡ 2047 → ⊥) → (b / 2 ^ 52 ≡ 0 → ⊥) → (n : Digits) → n.w ≡ 2 ^ 52 + b % 2 ^ 52 → n.k ≡ b / 2 ^ 52 + 51 → Decoded x (Some n)
  field_digits t z n W K =
      ⊎_elim (λ i. absurd (t (let e : b / 2 ^ 52 ≡ 2047 = omega (arith, i.0) in e)))
      (λ h. decoded_digits x n (rw (W, K) (normal _ _ _ b h.2 h.3 z))) p

  units_are : b / 2 ^ 52 ≡ 0 → b % 2 ^ 52 ≡ units_of x
  units_are z = ⊎_elim (λ i. absurd (let e : ⊥ = omega (arith, i.0) in e)) (λ h. fraction_is _ _ _ b h.2 h.3 z) p

  pub fraction_none : b / 2 ^ 52 ≡ 0 → b % 2 ^ 52 ≡ 0 → Decoded x None
  fraction_none z n = decoded_none x f (sym (units_are z) ∙ n)

  pub fraction_digits : b / 2 ^ 52 ≡ 0 → (n : Digits) → Normal (b % 2 ^ 52) n.w n.k → Decoded x (Some n)
  fraction_digits z n h = decoded_digits x n (subst (λ (u : ℕ). Normal u n.w n.k) (units_are z) h)

-- ---- what its answer says

pub decoded_irregular : (x : Float) → Decoded x None → regular_of x ≡ false
decoded_irregular x D = go (regular_of x) (λ e. D.regular e)
  where
    go : (b : Bool) → (b ≡ true → (n : Digits) × (None ≡ Some n) × Normal (units_of x) n.w n.k) → b ≡ false
    go true h = let e = (h refl).1 in cc
    go false h = refl

module _ (x : Float) (n : Digits) (D : Decoded x (Some n)) where
  pub decoded_regular : regular_of x ≡ true
  decoded_regular = go (regular_of x) (λ e. D.other e)
    where
      go : (b : Bool) → (b ≡ false → Some n ≡ None) → b ≡ true
      go true h = refl
      go false h = let e = h refl in cc

  pub decoded_normal : Normal (units_of x) n.w n.k
  decoded_normal =
      let h = D.regular decoded_regular in
      let e : h.0 ≡ n = let q = h.1 in cc in
      subst (λ (m : Digits). Normal (units_of x) m.w m.k) e h.2

-- ---- by the sign

not_below_zero : (a k : ℕ) → a < 0 * k → ⊥
not_below_zero a k h = no_less a (subst (λ (x : ℕ). a < x) (zero-mul k) h)
  where
    no_less : (a : ℕ) → a < 0 → ⊥
    no_less a h = omega arith

-- below zero: minus infinity, or finite
pub negative_view : (x : Float) → lt x zero64 ≡ true → (x ≡ inf true) ⊎ ((m : ℕ) × (e : ℤ) × (x ≡ fin true (suc m) e))
unfolding lt of_bits
negative_view nan t = absurd (false≢true t)
negative_view (inf true) t = inl refl
negative_view (inf false) t = absurd (false≢true t)
negative_view (fin true zero e) t =
    absurd (false≢true (sym (ap₂ (λ (a b : ℕ). ltb 0 (a + b)) (mul-one (0 * up e) ∙ zero-mul (up e)) (zero-mul (down e))) ∙ t))
negative_view (fin true (suc m) e) t = inr (m, e, refl)
negative_view (fin false m e) t = absurd (not_below_zero (m * up e * 1) (down e) (ltb→lt (m * up e * 1) (0 * down e) (subst T (sym t) tt)))

-- not below zero, and regular: finite and above zero
pub positive_view : (x : Float) → lt x zero64 ≡ false → regular_of x ≡ true → (m : ℕ) × (e : ℤ) × (x ≡ fin false (suc m) e)
unfolding lt of_bits
positive_view nan t r = absurd (false≢true r)
positive_view (inf s) t r = absurd (false≢true r)
positive_view (fin s zero e) t r = absurd (false≢true r)
positive_view (fin true (suc m) e) t r =
    absurd (false≢true (sym t ∙ lt-ltb 0 (suc m * up e * 1 + 0 * down e)
    (add_pos (suc m * up e * 1) (0 * down e) (mul-pos (mul-pos (zero-lt-suc m) (up_pos e)) (zero-lt-suc 0)))))
  where
    add_pos : (a b : ℕ) → 0 < a → 0 < a + b
    add_pos a b h = omega arith
positive_view (fin false (suc m) e) t r = (m, e, refl)

-- not below zero, no zero and not regular: NaN or infinity
pub special_view : (x : Float) → lt x zero64 ≡ false → eq x zero64 ≡ false → regular_of x ≡ false → (x ≡ nan) ⊎ (x ≡ inf false)
unfolding lt of_bits
special_view nan t z r = inl refl
special_view (inf true) t z r = absurd (false≢true (sym t))
special_view (inf false) t z r = inr refl
special_view (fin s zero e) t z r = absurd (not_zero s e z)
special_view (fin s (suc m) e) t z r = absurd (false≢true (sym r ∙ lt-ltb 0 (suc m) (zero-lt-suc m)))

-- what `normal_of` rests on
pub ruleset read = (pattern, shifted, nan_none, no_nan, top_none, field_digits, fraction_none, fraction_digits)
