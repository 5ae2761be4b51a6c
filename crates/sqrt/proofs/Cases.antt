-- The cases of the definition.
use Rattle.std.proofs.Common.{◌≡◌, zero, suc, ◌*◌, ◌^◌, true, false, sym, refl, ap, ◌∙◌, ⊎_elim, zero-lt-suc, lt-ltb}
use mathlib.Core.Bool.{false≢true}
use lib.Ieee.{Float, nan, inf, fin, lt, of_bits}
use Rattle.std.specs.Prelude.{None}
use Rattle.float.specs.Literals.{zero64}
use Rattle.float.specs.Units.{units_of}
use Rattle.decode.specs.Exponent.{regular_of}
use Rattle.decode.specs.Shape.{Decoded}
use Rattle.decode.proofs.Class.{negative_view, positive_view, decoded_irregular}
use Rattle.sqrt.specs.Root.{sqrt_of, nearest_sqrt}

pub root_negative : (x : Float) → lt x zero64 ≡ true → nan ≡ sqrt_of x
unfolding sqrt_of of_bits
root_negative x e = sym (⊎_elim (λ i. ap sqrt_of i) (λ v. ap sqrt_of v.2) (negative_view x e))

pub root_same : (x : Float) → lt x zero64 ≡ false → regular_of x ≡ false → sqrt_of x ≡ x
unfolding sqrt_of lt of_bits
root_same nan t r = refl
root_same (inf true) t r = absurd (false≢true (sym t))
root_same (inf false) t r = refl
root_same (fin s zero e) t r = refl
root_same (fin s (suc m) e) t r = absurd (false≢true (sym r ∙ lt-ltb 0 (suc m) (zero-lt-suc m)))

pub root_special : (x : Float) → lt x zero64 ≡ false → Decoded x None → x ≡ sqrt_of x
root_special x t d = sym (root_same x t (decoded_irregular x d))

pub root_positive : (x : Float) → lt x zero64 ≡ false → regular_of x ≡ true → sqrt_of x ≡ nearest_sqrt (units_of x * 2 ^ 1074)
unfolding sqrt_of
root_positive x a r = let v = positive_view x a r in ap sqrt_of v.2 ∙ ap (λ (y : Float). nearest_sqrt (units_of y * 2 ^ 1074)) (sym v.2)
