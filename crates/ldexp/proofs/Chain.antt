-- The chain of products turn by turn, and that a product with a power of two leaves a zero, an infinity and a NaN as they are.
use mathlib.Core.Path.{◌≡◌, refl, sym, ap, ◌∙◌, subst}
use mathlib.Core.Bool.{Bool, true, false, true≢false}
use Prim.Native.Nat.{ℕ, zero, suc, ◌-◌, ◌*◌, ◌≤◌, ◌<◌}
use native.Mathlib.Omega.{arith}
use native.Mathlib.Nat.{zero-mul, mul-pos, zero-lt-suc}
use borrow.Author.Tests.{le-leb, lt-leb, ltb-true, ltb-false}
use lib.Dec.{T, ltb}
use Rattle.std.specs.Int.{abs_diff}
use lib.IntN.{ℤ, pos}
use lib.Ieee.{Float, fin, nan, inf, binary64, mul, round, eq, up, down, minus, fits, unlike, size, units, odd}
use lib.Ieee.Scale.{round_same}
use lib.Ieee.Fits.{down_pos}
use Rattle.float.specs.Literals.{zero64}
use Rattle.float.specs.Methods.{is_finite_of, is_sign_negative_of}
use Rattle.float.proofs.Zero.{level_zero}
use Rattle.ldexp.specs.Scale.{pow2_of, signed, chain, steps, times_power_of, ldexp_of}

-- ---- what a product with a power of two leaves as it is

abbrev pub Steady : Float → Type 0
Steady x = (k : ℤ) → mul binary64 x (pow2_of k) ≡ x

signed_zero : (s : Bool) → round binary64 (unlike s false) 0 1 ≡ fin s 0 (pos 0)
unfolding round size units odd
signed_zero true = refl
signed_zero false = refl

zero_steady : (s : Bool) → Steady (fin s 0 (pos 0))
unfolding mul
zero_steady s k =
    round_same binary64 (unlike s false) (0 * (1 * up k)) (1 * down k) 0 1 (mul-pos (zero-lt-suc 0) (down_pos k)) (zero-lt-suc 0)
    (ap (λ (a : ℕ). a * 1) (zero-mul (1 * up k)) ∙ sym (zero-mul (1 * down k)))
    ∙ signed_zero s

pub steady_zero : (x : Float) → T (fits binary64 x) → eq x zero64 ≡ true → Steady x
steady_zero x t e = subst Steady (sym (level_zero x t e)) (zero_steady (is_sign_negative_of x))

pub steady_special : (x : Float) → is_finite_of x ≡ false → Steady x
unfolding mul is_finite_of
steady_special nan e k = refl
steady_special (inf true) e k = refl
steady_special (inf false) e k = refl
steady_special (fin s m d) e k = absurd (true≢false e)

chain_steady : (j : ℕ) (x : Float) (k : ℤ) → Steady x → chain j (pow2_of k) x ≡ x
unfolding chain
chain_steady zero x k h = refl
chain_steady (suc j) x k h = ap (λ (y : Float). chain j (pow2_of k) y) (h k) ∙ chain_steady j x k h

-- ---- the chain, by the size n that is left

pub all_steady : (s : Bool) (n : ℕ) (x : Float) → Steady x → times_power_of s n x ≡ x
unfolding times_power_of
all_steady s n x h =
    ap (λ (y : Float). mul binary64 y (pow2_of (signed s (n - steps n * 1000)))) (chain_steady (steps n) x (signed s 1000) h)
    ∙ h (signed s (n - steps n * 1000))

pub all_last : (s : Bool) (n : ℕ) (x : Float) → n ≤ 1000 → times_power_of s n x ≡ mul binary64 x (pow2_of (signed s n))
unfolding times_power_of chain
all_last s n x h = let e : steps n ≡ 0 = omega arith in rw (e) (let d : n - 0 * 1000 ≡ n = omega arith in rw d)

pub all_step : (s : Bool) (n : ℕ) (x : Float) → 1000 < n → times_power_of s n x ≡ times_power_of s (n - 1000) (mul binary64 x (pow2_of (signed s 1000)))
unfolding times_power_of chain
all_step s n x h =
    let e : steps n ≡ suc (steps (n - 1000)) = omega arith in
    let d : n - suc (steps (n - 1000)) * 1000 ≡ n - 1000 - steps (n - 1000) * 1000 = omega arith in
    rw (e, d)

-- ---- signed exponents

pub by_sign : (s : Bool) (n : ℕ) (x : Float) → ldexp_of x (signed s n) ≡ times_power_of s n x
unfolding ldexp_of times_power_of chain
by_sign false n x = refl
by_sign true zero x = refl
by_sign true (suc n) x = refl

pub minus_up : (p q : ℕ) → q ≤ p → signed false (p - q) ≡ minus p q
minus_up p q h = rw (le-leb q p h)

pub minus_down : (p q : ℕ) → p < q → signed true (q - p) ≡ minus p q
minus_down p q h = rw (lt-leb q p h) (let e : q - p ≡ suc (q - suc p) = omega arith in ap (λ (n : ℕ). signed true n) e)

pub difference : (p q : ℕ) → signed (ltb p q) (abs_diff p q) ≡ minus p q
difference p q = go (ltb p q) refl
  where
    go : (b : Bool) → ltb p q ≡ b → signed b (abs_diff p q) ≡ minus p q
    go false e = let l = ltb-false p q e in let n : abs_diff p q ≡ p - q = omega arith in ap (λ (n : ℕ). signed false n) n ∙ minus_up p q (omega arith)
    go true e = let l = ltb-true p q e in let n : abs_diff p q ≡ q - p = omega arith in ap (λ (n : ℕ). signed true n) n ∙ minus_down p q (omega arith)
