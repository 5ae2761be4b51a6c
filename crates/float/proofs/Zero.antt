-- What comparisons with 0, with the infinities and with itself say of a float.
use mathlib.Core.Path.{◌≡◌, refl, sym, ap, subst, ◌∙◌}
use mathlib.Core.Bool.{Bool, true, false, beq, ◌&&◌, ◌||◌, true≢false, false≢true}
use Prim.Native.Nat.{◌+◌, ◌*◌, ◌<◌, ◌≤◌}
use native.Mathlib.Nat.{zero-mul}
use native.Mathlib.Omega.{arith}
use borrow.Author.Tests.{ltb-true, ltb-false, eq-eqb}
use lib.IntN.{pos}
use lib.Dec.{T, eqb, eqb→eq}
use lib.Ieee.{Float, nan, inf, fin, binary64, up, down, neg, lt, eq, ne, fits, is_nan, of_bits, div}
use lib.Ieee.Fits.{and_l}
use lib.Ieee.Back.{whole_unique}
use Rattle.std.specs.Float.{float_is_finite, is_sign_negative}
use Rattle.float.specs.Literals.{zero64, one64, inf64}
use Rattle.float.specs.Methods.{abs_of, is_finite_of, is_sign_negative_of, copysign_of}

-- x differs from itself exactly where it is nan
pub ne_self : (x : Float) → ne x x ≡ is_nan x
unfolding is_nan ne eq
ne_self nan = refl
ne_self (inf true) = refl
ne_self (inf false) = refl
ne_self (fin true m e) = simp (eq-eqb (m * up e * down e) (m * up e * down e) refl)
ne_self (fin false m e) = simp (eq-eqb (m * up e * down e) (m * up e * down e) refl)

-- finite: between the infinities
between : (x : Float) → (lt (neg inf64) x && lt x inf64) ≡ is_finite_of x
unfolding lt neg of_bits is_finite_of
between nan = refl
between (inf true) = refl
between (inf false) = refl
between (fin s m e) = refl

pub finite_is : (x i : Float) → i ≡ inf64 → (lt (neg i) x && lt x i) ≡ is_finite_of x
finite_is x i h = rw h (between x)

-- std's names for what is finite and for the sign
pub finite_as : (x : Float) → float_is_finite x ≡ is_finite_of x
unfolding float_is_finite is_finite_of
finite_as nan = refl
finite_as (inf s) = refl
finite_as (fin s m e) = refl

pub sign_as : (x : Float) → is_sign_negative x ≡ is_sign_negative_of x
unfolding is_sign_negative is_sign_negative_of
sign_as nan = refl
sign_as (inf s) = refl
sign_as (fin s m e) = refl

pub nan_sign : (x : Float) → is_nan x ≡ true → false ≡ is_sign_negative_of x
unfolding is_nan is_sign_negative_of
nan_sign nan h = refl
nan_sign (inf s) h = absurd (false≢true h)
nan_sign (fin s m e) h = absurd (false≢true h)

-- ---- the sign, told by comparisons with 0

-- below 0 it is set
pub below_zero : (x : Float) → lt x zero64 ≡ true → is_sign_negative_of x ≡ true
unfolding lt of_bits is_sign_negative_of
below_zero nan h = absurd (false≢true h)
below_zero (inf true) h = refl
below_zero (inf false) h = absurd (false≢true h)
below_zero (fin true m e) h = refl
below_zero (fin false m e) h = absurd (none (zero-mul (down e)) (ltb-true _ _ h))
  where
    none : 0 * down e ≡ 0 → m * up e * 1 < 0 * down e → ⊥
    none z k = omega arith

-- neither below 0 nor equal to it: it is clear
pub not_below : (x : Float) → lt x zero64 ≡ false → eq x zero64 ≡ false → is_sign_negative_of x ≡ false
unfolding lt eq of_bits is_sign_negative_of
not_below nan h k = refl
not_below (inf true) h k = absurd (true≢false h)
not_below (inf false) h k = refl
not_below (fin false m e) h k = refl
not_below (fin true m e) h k =
    let p : m * up e * 1 + 0 * 1 * down e ≤ 0 = ltb-false _ _ h in
    let q : m * up e * 1 ≡ 0 = omega arith in
    let r : 0 * 1 * down e ≡ 0 = omega arith in
    absurd (true≢false (simp (q, r) at k))

-- equal to 0, and in the format: one of the two zeros
pub level_zero : (x : Float) → T (fits binary64 x) → eq x zero64 ≡ true → x ≡ fin (is_sign_negative_of x) 0 (pos 0)
unfolding eq of_bits fits is_sign_negative_of
level_zero nan t h = absurd (false≢true h)
level_zero (inf s) t h = absurd (false≢true h)
level_zero (fin s m e) t h =
    let level = and_l (eqb (m * up e * 1) (0 * 1 * down e)) (beq s false || eqb (m * up e * 1) 0) (subst T (sym h) tt) in
    whole_unique binary64 (fin s m e) (fin s 0 (pos 0)) s 0 t tt (refl, eqb→eq _ _ level) (refl, refl)

-- 1 / ±0 is an infinity of that sign
over_zero : (s : Bool) → lt (div binary64 one64 (fin s 0 (pos 0))) zero64 ≡ s
unfolding lt div of_bits
over_zero true = refl
over_zero false = refl

-- so a division tells the sign of a zero
pub zero_sign : (x : Float) → T (fits binary64 x) → eq x zero64 ≡ true → lt (div binary64 one64 x) zero64 ≡ is_sign_negative_of x
zero_sign x t h = ap (λ (y : Float). lt (div binary64 one64 y) zero64) (level_zero x t h) ∙ over_zero (is_sign_negative_of x)

-- of anything but a zero, a comparison with 0 does
pub other_sign : (x : Float) → eq x zero64 ≡ false → lt x zero64 ≡ is_sign_negative_of x
other_sign x h = told (lt x zero64) refl
  where
    told : (b : Bool) → lt x zero64 ≡ b → lt x zero64 ≡ is_sign_negative_of x
    told true k = k ∙ sym (below_zero x k)
    told false k = k ∙ sym (not_below x k h)

-- ---- the size, by the sign

pub abs_pos : (x : Float) → is_sign_negative_of x ≡ false → x ≡ abs_of x
unfolding abs_of is_sign_negative_of
abs_pos nan h = refl
abs_pos (inf true) h = absurd (true≢false h)
abs_pos (inf false) h = refl
abs_pos (fin true m e) h = absurd (true≢false h)
abs_pos (fin false m e) h = refl

-- the sign of y on x: |x|, or its negative
pub sign_on : (x y : Float) → is_sign_negative_of y ≡ true → neg (abs_of x) ≡ copysign_of x y
unfolding neg abs_of copysign_of
sign_on nan y h = refl
sign_on (inf s) y h = simp h
sign_on (fin s m e) y h = simp h

pub sign_off : (x y : Float) → is_sign_negative_of y ≡ false → abs_of x ≡ copysign_of x y
unfolding abs_of copysign_of
sign_off nan y h = refl
sign_off (inf s) y h = simp h
sign_off (fin s m e) y h = simp h
