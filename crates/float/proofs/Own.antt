-- A number of the format is its own rounding, so 0 - x is exact, and abs may be computed by it.
use mathlib.Core.Path.{◌≡◌, refl, sym, ap, subst, ◌∙◌}
use mathlib.Core.Bool.{Bool, true, false, ◌&&◌, ◌||◌, true≢false, false≢true}
use Prim.Native.Nat.{ℕ, zero, suc, ◌+◌, ◌*◌, ◌%◌, ◌^◌, ◌<◌}
use native.Mathlib.Nat.{mul_assoc, mul_left_comm, mul-one, one-mul, zero-mul, zero-add, pow-suc, pow-succ'}
use native.Mathlib.Nat.{lt_irrefl, zero-lt-suc, mul-pos, eq_of_mul-eq-mul_right, mul-lt-mul_of_pos_right, lt_of_mul-lt-mul_right, mul_right_comm}
use native.Mathlib.Omega.{arith}
use borrow.Author.Tests.{le-ltb, ne_eqb}
use lib.IntN.{ℤ, pos, negsuc}
use lib.Pow.{pow-add, pow_pos}
use lib.Dec.{T, eqb, ltb, leb, eqb→eq, ltb→lt}
use lib.Ieee.{Float, nan, inf, fin, binary64, up, down, neg, sub, add, sum, lt, eq, le, round, fits, of_bits}
use lib.Ieee.Fits.{and_l, and_r, round-fits, up_pos, down_pos}
use lib.Ieee.Exact.{HasValue, round_exact}
use lib.Ieee.Back.{whole_unique}
use Rattle.rounding.specs.Units.{one_units}
use Rattle.rounding.proofs.Value.{exponent, fits_says}
use Rattle.float.specs.Literals.{zero64}
use Rattle.float.specs.Methods.{abs_of}
use Rattle.float.proofs.Zero.{not_below, abs_pos}

even_odd : (m t : ℕ) → m % 2 ≡ 1 → m ≡ 2 * t → ⊥
even_odd m t o h = omega arith

-- an odd number times a power of two is so in one way
odd_pow : (m n a b : ℕ) → m % 2 ≡ 1 → n % 2 ≡ 1 → m * 2 ^ a ≡ n * 2 ^ b → (m ≡ n) × (a ≡ b)
odd_pow m n zero zero o p h = (sym (mul-one m) ∙ h ∙ mul-one n, refl)
odd_pow m n zero (suc b) o p h = absurd (even_odd m (n * 2 ^ b) o (sym (mul-one m) ∙ h ∙ ap (λ (x : ℕ). n * x) (pow-succ' 2 b) ∙ mul_left_comm n 2 (2 ^ b)))
odd_pow m n (suc a) zero o p h = absurd (even_odd n (m * 2 ^ a) p (sym (mul-one n) ∙ sym h ∙ ap (λ (x : ℕ). m * x) (pow-succ' 2 a) ∙ mul_left_comm m 2 (2 ^ a)))
odd_pow m n (suc a) (suc b) o p h =
    let r = odd_pow m n a b o p (eq_of_mul-eq-mul_right 2 (zero-lt-suc 1) (m * 2 ^ a) (n * 2 ^ b)
    (mul_assoc m (2 ^ a) 2 ∙ ap (λ (x : ℕ). m * x) (sym (pow-suc 2 a)) ∙ h ∙ ap (λ (x : ℕ). n * x) (pow-suc 2 b) ∙ sym (mul_assoc n (2 ^ b) 2))) in
    (r.0, ap suc r.1)

joined : (m a b : ℕ) → m * 2 ^ a * 2 ^ b ≡ m * 2 ^ (a + b)
joined m a b = mul_assoc m (2 ^ a) (2 ^ b) ∙ ap (λ (x : ℕ). m * x) (sym (pow-add 2 a b))

-- two numbers with odd digits and one value are one
same_value : (s : Bool) (m n : ℕ) (e g : ℤ) → m % 2 ≡ 1 → n % 2 ≡ 1 → m * up e * down g ≡ n * up g * down e → fin s m e ≡ fin s n g
same_value s m n (pos a) (pos b) o p h =
    let r = odd_pow m n a b o p (sym (mul-one (m * 2 ^ a)) ∙ h ∙ mul-one (n * 2 ^ b)) in λ i. fin s (r.0 i) (pos (r.1 i))
same_value s m n (pos a) (negsuc b) o p h =
    absurd (none (odd_pow m n (a + suc b) 0 o p (sym (joined m a (suc b)) ∙ h ∙ mul-one (n * 1))).1)
  where
    none : a + suc b ≡ 0 → ⊥
    none z = omega arith
same_value s m n (negsuc a) (pos b) o p h =
    absurd (none (odd_pow m n 0 (b + suc a) o p (sym (mul-one (m * 1)) ∙ h ∙ joined n b (suc a))).1)
  where
    none : 0 ≡ b + suc a → ⊥
    none z = omega arith
same_value s m n (negsuc a) (negsuc b) o p h =
    let r = odd_pow m n (suc b) (suc a) o p (sym (ap (λ (x : ℕ). x * 2 ^ suc b) (mul-one m)) ∙ h ∙ ap (λ (x : ℕ). x * 2 ^ suc a) (mul-one n)) in
    λ i. fin s (r.0 i) (negsuc (less (sym r.1) i))
  where
    less : suc a ≡ suc b → a ≡ b
    less q = omega arith

-- what `fits` says beside `fits_says`
odd_below : (s : Bool) (m : ℕ) (e : ℤ) → T (fits binary64 (fin s (suc m) e)) → (suc m % 2 ≡ 1) × (suc m * up e < 2 ^ 1024 * down e)
unfolding fits
odd_below s m e t =
    let a = eqb (suc m % 2) 1 in
    let b = ltb (suc m) (2 ^ 53) in
    let c = leb (down e) (2 ^ 1074) in
    let d = ltb (suc m * up e) (2 ^ 1024 * down e) in
    (eqb→eq (suc m % 2) 1 (and_l a b (and_l (a && b) c (and_l (a && b && c) d t))), ltb→lt (suc m * up e) (2 ^ 1024 * down e) (and_r (a && b && c) d t))

pub own_round : (s : Bool) (m : ℕ) (e : ℤ) → T (fits binary64 (fin s (suc m) e)) → round binary64 s (suc m * up e) (down e) ≡ fin s (suc m) e
unfolding one_units
own_round s m e t =
    let x = exponent e (fits_says s (suc m) e t).1 in
    let at : suc m * up e * 2 ^ 1074 ≡ suc m * 2 ^ x.0 * down e = mul_assoc (suc m) (up e) (2 ^ 1074) ∙ ap (λ (z : ℕ). suc m * z) x.1
    ∙ sym (mul_assoc (suc m) (2 ^ x.0) (down e)) in
    let most : suc m * 2 ^ x.0 * down e < 2 ^ (1074 + 1024) * down e =
    subst (λ (z : ℕ). z < 2 ^ (1074 + 1024) * down e) at (subst (λ (z : ℕ). suc m * up e * 2 ^ 1074 < z)
    (mul_right_comm (2 ^ 1024) (down e) (2 ^ 1074) ∙ ap (λ (z : ℕ). z * down e) (sym (pow-add 2 1024 1074)))
    (mul-lt-mul_of_pos_right (odd_below s m e t).1 (pow_pos 1074))) in
    is (round binary64 s (suc m * up e) (down e)) (round-fits binary64 s (suc m * up e) (down e))
    (round_exact binary64 s (suc m * up e) (down e) (suc m) x.0 (down_pos e) (fits_says s (suc m) e t).0 (lt_of_mul-lt-mul_right (down e) most) at)
  where
    is : (y : Float) → T (fits binary64 y) → HasValue y s (suc m * up e) (down e) → y ≡ fin s (suc m) e
    is nan f v = absurd v
    is (inf u) f v = absurd v
    is (fin u zero g) f v =
        absurd (lt_irrefl 0 (subst (λ (z : ℕ). 0 < z) (sym (sym (zero-mul (down e)) ∙ sym (ap (λ (z : ℕ). z * down e) (zero-mul (up g)))
        ∙ v.1)) (mul-pos (mul-pos (zero-lt-suc m) (up_pos e)) (down_pos g))))
    is (fin u (suc n) g) f v =
        ap (λ (b : Bool). fin b (suc n) g) v.0 ∙ same_value s (suc n) (suc m) g e (odd_below u n g f).0 (odd_below s m e t).0 v.1

zero_is : (s : Bool) (e : ℤ) → T (fits binary64 (fin s 0 e)) → fin s 0 e ≡ fin s 0 (pos 0)
unfolding fits
zero_is s e t =
    whole_unique binary64 (fin s 0 e) (fin s 0 (pos 0)) s 0 t tt (refl, ap (λ (z : ℕ). z * 1) (zero-mul (up e)) ∙ sym (zero-mul (down e))) (refl, refl)

-- at most 0: 0 - x is the size of x
pub abs_less : (x : Float) → T (fits binary64 x) → le x zero64 ≡ true → sub binary64 zero64 x ≡ abs_of x
unfolding sub add neg sum le of_bits abs_of fits
abs_less nan t h = absurd (false≢true h)
abs_less (inf true) t h = refl
abs_less (inf false) t h = absurd (false≢true h)
abs_less (fin s zero e) t h = ap (sub binary64 zero64) (zero_is s e t) ∙ of s ∙ sym (ap abs_of (zero_is s e t))
  where
    of : (s : Bool) → sub binary64 zero64 (fin s 0 (pos 0)) ≡ abs_of (fin s 0 (pos 0))
    of true = refl
    of false = refl
abs_less (fin true (suc m) e) t h =
    ap (λ (z : ℕ). round binary64 false z (1 * down e)) (ap (λ (z : ℕ). z + suc m * up e * 1) (zero-mul (down e))
    ∙ zero-add (suc m * up e * 1) ∙ mul-one (suc m * up e))
    ∙ ap (round binary64 false (suc m * up e)) (one-mul (down e))
    ∙ own_round false m e t
abs_less (fin false (suc m) e) t h =
    let p = mul-pos (zero-lt-suc m) (up_pos e) in
    let z = zero-mul (down e) in
    absurd (false≢true (simp (le-ltb (suc m * up e * 1) (0 * down e) (omega arith), ne_eqb (suc m * up e * 1) (0 * down e) (λ q. omega arith)) at h))

-- above 0, or NaN: x is its size
pub abs_more : (x : Float) → le x zero64 ≡ false → x ≡ abs_of x
unfolding le
abs_more x h = let p = neither (lt x zero64) (eq x zero64) h in abs_pos x (not_below x p.0 p.1)
  where
    neither : (a b : Bool) → (a || b) ≡ false → (a ≡ false) × (b ≡ false)
    neither false false k = (refl, refl)
    neither false true k = absurd (true≢false k)
    neither true b k = absurd (true≢false k)
