-- A finite double in whole numbers: its units are 53 digits times a power of two, and fewer than 2^2098.
use mathlib.Core.Path.{◌≡◌, refl, sym, ap, ◌∙◌, subst}
use mathlib.Core.Bool.{Bool, true, false≢true}
use mathlib.Core.Logic.{◌⊎◌, inl, inr}
use Prim.Native.Nat.{ℕ, ◌+◌, ◌*◌, ◌/◌, ◌^◌, ◌≤◌, ◌<◌}
use native.Mathlib.Omega.{arith}
use native.Mathlib.Nat.{lt_of_lt_of_le, mul_assoc, mul-div_cancel}
use borrow.Author.Tests.{le-leb, lt-leb}
use lib.Pow.{pow_mono, shl_lt}
use lib.IntN.{ℤ, nat_abs}
use lib.Ieee.{Float, nan, inf, fin, binary64, fits, minus, size, up, down}
use lib.Ieee.Digits.{size-le}
use lib.Ieee.Fits.{down_pos}
use Rattle.algebra.specs.NatOrder.{le_or_lt}
use Rattle.rounding.specs.Units.{one_units}
use Rattle.rounding.proofs.Value.{exponent, fits_says}
use Rattle.float.specs.Methods.{is_finite_of}
use Rattle.float.specs.Units.{units_of, Finite}
use Rattle.float.proofs.Bits.{of_true}
use Rattle.decode.specs.Exponent.{exponent_of}
use Rattle.decode.specs.Shape.{Significand}
use Rattle.decode.proofs.Fields.{shape}

pub digits : (x : Float) → Finite x → (w : ℕ) × (k : ℕ) × Significand (units_of x) w k
unfolding is_finite_of
digits nan F = absurd (false≢true F.finite)
digits (inf s) F = absurd (false≢true F.finite)
digits (fin s m e) F = let h = shape s m e (of_true F.held) in (h.w, h.k, h.whole)

pub units_under : (x : Float) → Finite x → units_of x < 2 ^ 2098
units_under x F =
    let d = digits x F in
    let h = d.2 in
    subst (λ (n : ℕ). n < 2 ^ 2098) h.value (lt_of_lt_of_le (shl_lt 53 d.1 h.short)
    (pow_mono (let l : 53 + d.1 ≤ 2098 = omega (arith, h.reach) in l)))

-- m * 2^e is its units times 2^-1074
pub units_fraction : (s : Bool) (m : ℕ) (e : ℤ) → fits binary64 (fin s m e) ≡ true → units_of (fin s m e) * down e ≡ m * up e * 2 ^ 1074
unfolding one_units
units_fraction s m e h =
    let x = exponent e (fits_says s m e (of_true h)).1 in
    let i = x.0 in
    let E : m * up e * 2 ^ 1074 ≡ m * 2 ^ i * down e = mul_assoc m (up e) (2 ^ 1074) ∙ ap (λ (z : ℕ). m * z) x.1 ∙ sym (mul_assoc m (2 ^ i) (down e)) in
    ap (λ (v : ℕ). v / down e * down e) E ∙ ap (λ (v : ℕ). v * down e) (mul-div_cancel (m * 2 ^ i) (down_pos e)) ∙ sym E

-- ---- the exponent, from -1075 to 1024
minus_small : (n : ℕ) → n ≤ 2098 → nat_abs (minus n 1075) ≤ 2 ^ 13
minus_small n h = go (le_or_lt 1075 n)
  where
    go : (1075 ≤ n) ⊎ (n < 1075) → nat_abs (minus n 1075) ≤ 2 ^ 13
    go (inl l) = rw (le-leb 1075 n l) (omega arith)
    go (inr l) = rw (lt-leb 1075 n l) (omega arith)

pub exponent_small : (x : Float) → fits binary64 x ≡ true → nat_abs (exponent_of x) ≤ 2 ^ 13
unfolding exponent_of is_finite_of
exponent_small nan f = omega arith
exponent_small (inf s) f = omega arith
exponent_small (fin s m e) f =
    minus_small (size (units_of (fin s m e))) (size-le (units_of (fin s m e)) 2098 (units_under (fin s m e) (record { held = f; finite = refl })))
