-- The exponent of a double, from the highest set digit of its units.
use mathlib.Core.Path.{◌≡◌, refl, sym, ap, ◌∙◌, subst}
use mathlib.Core.Bool.{true, false, false≢true}
use Prim.Native.Nat.{ℕ, zero, suc, ◌+◌, ◌*◌, ◌/◌, ◌^◌, ◌≤◌, ◌<◌}
use native.Mathlib.Omega.{arith}
use native.Mathlib.Nat.{zero-mul, mul_comm, zero-div, zero-lt-suc, le_antisymm, lt_of_lt_of_le, lt_of_le_of_lt}
use native.Mathlib.Nat.{lt_irrefl, lt_of_not-le, le_of_mul-le-mul_right, lt_of_mul-lt-mul_right, mul-le-mul_right, mul-lt-mul_of_pos_right}
use borrow.Author.Tests.{lt-ltb}
use lib.Pow.{pow-add, pow_pos, pow_mono}
use lib.IntN.{pos, negsuc, ◌-ℤ◌}
use lib.Ieee.{Float, fin, nan, inf, up, down, minus, size, eq}
use lib.Ieee.Digits.{size-lt, size-le}
use Rattle.float.specs.Literals.{zero64}
use Rattle.float.specs.Units.{units_of}
use Rattle.decode.specs.Exponent.{exponent_of, regular_of}
use Rattle.decode.specs.Shape.{Normal}
use Rattle.decode.proofs.Class.{zero_is, not_zero, decoded_irregular, decoded_regular, decoded_normal}
use Rattle.decode.proofs.Difference.{minus_is, machine_fits, machine_is}

pub size_exact : (n j : ℕ) → 2 ^ j ≤ n → n < 2 ^ suc j → size n ≡ suc j
size_exact n j lo hi =
    le_antisymm (size-le n (suc j) hi) (lt_of_not-le (λ (g : size n ≤ j). lt_irrefl (2 ^ j) (lt_of_le_of_lt lo (lt_of_lt_of_le (size-lt n) (pow_mono g)))))

size_of_normal : (n w k : ℕ) → Normal n w k → size n ≡ suc k
size_of_normal n w k h =
    size_exact n k
    (le_of_mul-le-mul_right (subst (λ (x : ℕ). 2 ^ k * 2 ^ 52 ≤ x) h.value
    (subst (λ (x : ℕ). x ≤ w * 2 ^ k) (mul_comm (2 ^ 52) (2 ^ k)) (mul-le-mul_right (2 ^ k) h.led))) (pow_pos 52))
    (lt_of_mul-lt-mul_right (2 ^ 52)
    (subst (λ (x : ℕ). x < 2 ^ suc k * 2 ^ 52) h.value
    (subst (λ (x : ℕ). w * 2 ^ k < x) (sym (pow-add 2 53 k) ∙ ap (λ (x : ℕ). 2 ^ x) (let e : 53 + k ≡ suc k + 52 = omega arith in e)
    ∙ pow-add 2 (suc k) 52) (mul-lt-mul_of_pos_right h.short (pow_pos k)))))

pub exponent_is : (x : Float) (w k : ℕ) → regular_of x ≡ true → Normal (units_of x) w k → exponent_of x ≡ pos k -ℤ pos 1074
unfolding exponent_of
exponent_is nan w k e h = absurd (false≢true e)
exponent_is (inf s) w k e h = absurd (false≢true e)
exponent_is (fin s m e) w k r h = ap (λ (z : ℕ). minus z 1075) (size_of_normal (units_of (fin s m e)) w k h) ∙ minus_is 1073 k

pub exponent_zero : (x : Float) → eq x zero64 ≡ true → exponent_of x ≡ negsuc 1074
unfolding exponent_of size
exponent_zero x e =
    let z = zero_is x e in
    ap exponent_of z.2
    ∙ ap (λ (n : ℕ). minus (size n) 1075) (ap (λ (a : ℕ). a * 2 ^ 1074 / down z.1) (zero-mul (up z.1)) ∙ zero-div (down z.1))

pub exponent_irregular : (x : Float) → eq x zero64 ≡ false → regular_of x ≡ false → exponent_of x ≡ pos 1024
unfolding exponent_of
exponent_irregular nan a b = refl
exponent_irregular (inf s) a b = refl
exponent_irregular (fin s zero k) a b = absurd (not_zero s k a)
exponent_irregular (fin s (suc m) k) a b = absurd (false≢true (sym b ∙ lt-ltb 0 (suc m) (zero-lt-suc m)))

-- what `exponent` rests on
pub ruleset exponents = (decoded_irregular, decoded_regular, decoded_normal, exponent_zero, exponent_irregular, exponent_is, machine_fits, machine_is)
