-- z / 256 as the machine computes it, by a division of the whole number by 256.0.
use mathlib.Core.Path.{◌≡◌, refl, ap, ◌∙◌}
use mathlib.Core.Bool.{Bool, true, false}
use Prim.Native.Nat.{ℕ, suc, ◌*◌, ◌^◌, ◌<◌}
use native.Mathlib.Omega.{arith}
use native.Mathlib.Nat.{mul_assoc, mul_comm, mul-pos, zero-lt-suc}
use lib.IntN.{ℤ, pos, negsuc}
use lib.Ieee.{Float, nan, inf, fin, binary64, up, down, round, div, of_int, unlike}
use lib.Ieee.Exact.{HasValue}
use lib.Ieee.Back.{round_whole}
use lib.Ieee.Scale.{round_same}
use lib.Ieee.Fits.{down_pos}
use mir.Syntax.{w32}
use mir.Val.{SFits}
use Rattle.log2.specs.Log.{over256}

quotient : (y : Float) (s : Bool) (n : ℕ) → HasValue y s n 1 → div binary64 y (fin false 1 (pos 8)) ≡ round binary64 s n 256
unfolding div
quotient nan s n h = absurd h
quotient (inf t) s n h = absurd h
quotient (fin t m e) s n h =
    ap (λ (b : Bool). round binary64 b (m * up e * 1) (256 * down e)) (same_sign t ∙ h.0)
    ∙ round_same binary64 s (m * up e * 1) (256 * down e) n 256 (mul-pos (zero-lt-suc 255) (down_pos e)) (zero-lt-suc 255)
    (ap (λ (x : ℕ). x * 256) h.1 ∙ mul_assoc n (down e) 256 ∙ ap (λ (x : ℕ). n * x) (mul_comm (down e) 256))
  where
    same_sign : (s : Bool) → unlike s false ≡ s
    same_sign true = refl
    same_sign false = refl

pub over_is : (z : ℤ) → SFits w32 z → div binary64 (of_int binary64 z) (fin false 1 (pos 8)) ≡ over256 z
unfolding of_int over256
over_is (pos n) f = quotient (round binary64 false n 1) false n (round_whole binary64 false n (let h : n < 2 ^ 31 = f.sfits in omega arith))
over_is (negsuc n) f = quotient (round binary64 true (suc n) 1) true (suc n) (round_whole binary64 true (suc n) (let h : n < 2 ^ 31 = f.sfits in omega arith))
