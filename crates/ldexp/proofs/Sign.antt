-- A signed number by its sign and its size, and what the machine computes of it.
use mathlib.Core.Path.{◌≡◌, refl, sym, ap, ◌∙◌, subst}
use mathlib.Core.Bool.{Bool, true, false, false≢true}
use Prim.Native.Nat.{ℕ, zero, suc, ◌-◌, ◌^◌, ◌<◌, ◌≤◌}
use native.Mathlib.Omega.{arith}
use borrow.Author.Tests.{le-ltb}
use lib.Dec.{T, leb→le}
use lib.IntN.{ℤ, pos, negsuc, ◌-ℤ◌, nat_abs}
use lib.Signed.{lt_z, non_neg, ◌≤ℤ◌}
use mir.Syntax.{w32, w64}
use mir.Val.{Fits, SFits, to_z, of_z}
use mir.Facts.{to_z-of_z}
use Rattle.ldexp.specs.Scale.{signed}

flip : (n : ℕ) → negsuc 0 -ℤ negsuc n ≡ pos n
flip n = rw (le-ltb (suc n) 1 (omega arith)) (let e : suc n - 1 ≡ n = omega arith in ap pos e)

-- what `-1 - k` is in the machine
abbrev pub flipped : ℤ → ℤ
flipped k = negsuc 0 -ℤ to_z w32 (of_z w32 k)

-- a k below 0 is -(n + 1), and `-1 - k` is n
pub below : (k : ℤ) → SFits w32 k → lt_z (to_z w32 (of_z w32 k)) (pos 0) ≡ true → (n : ℕ) × (k ≡ negsuc n) × (flipped k ≡ pos n) × SFits w32 (pos n)
below k f t = go k f (sym (ap (λ (z : ℤ). lt_z z (pos 0)) (to_z-of_z f)) ∙ t)
  where
    go : (k : ℤ) → SFits w32 k → lt_z k (pos 0) ≡ true → (n : ℕ) × (k ≡ negsuc n) × (flipped k ≡ pos n) × SFits w32 (pos n)
    go (pos zero) f t = absurd (false≢true t)
    go (pos (suc a)) f t = absurd (false≢true (sym (le-ltb (suc a) 0 (omega arith)) ∙ t))
    go (negsuc a) f t = (a, refl, ap (λ (z : ℤ). negsuc 0 -ℤ z) (to_z-of_z f) ∙ flip a, record { sfits = f.sfits })

-- any other k is a natural number
pub not_below : (k : ℤ) → SFits w32 k → lt_z (to_z w32 (of_z w32 k)) (pos 0) ≡ false
    → (n : ℕ) × (k ≡ pos n) × (to_z w32 (of_z w32 k) ≡ pos n) × SFits w32 (pos n)
not_below k f t = go k f (sym (ap (λ (z : ℤ). lt_z z (pos 0)) (to_z-of_z f)) ∙ t)
  where
    go : (k : ℤ) → SFits w32 k → lt_z k (pos 0) ≡ false → (n : ℕ) × (k ≡ pos n) × (to_z w32 (of_z w32 k) ≡ pos n) × SFits w32 (pos n)
    go (pos a) f t = (a, refl, to_z-of_z f, f)
    go (negsuc a) f t = absurd (false≢true (sym t))

-- a natural number that fits an i32 is cast to a u64 as it is
pub cast_pos : (z : ℤ) (n : ℕ) → z ≡ pos n → SFits w32 (pos n) → T (non_neg z) × Fits w64 (nat_abs z)
cast_pos z n e f = subst (λ (y : ℤ). T (non_neg y) × Fits w64 (nat_abs y)) (sym e) (tt, record { fits = wide f.sfits })
  where
    wide : n < 2 ^ 31 → n < 2 ^ 64
    wide h = omega arith

-- the exponents of the normal range, by sign and size
pub range : (b : Bool) (n : ℕ) → negsuc 1021 ≤ℤ signed b n → signed b n ≤ℤ pos 1023 → (n ≤ 1023) × (b ≡ true → n ≤ 1022)
range false n lo hi = (leb→le n 1023 hi.le, λ e. absurd (false≢true e))
range true zero lo hi = (omega arith, λ e. omega arith)
range true (suc n) lo hi = let l : n ≤ 1021 = leb→le n 1021 lo.le in (omega arith, λ e. omega arith)
