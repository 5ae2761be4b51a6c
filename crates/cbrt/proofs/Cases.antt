-- The cases of the definition.
use mathlib.Core.Path.{◌≡◌, refl, sym, ap, ◌∙◌}
use mathlib.Core.Logic.{⊎_elim}
use mathlib.Core.Bool.{true, false, false≢true}
use Prim.Native.Nat.{zero, suc, ◌*◌, ◌^◌}
use native.Mathlib.Nat.{zero-lt-suc}
use borrow.Author.Tests.{lt-ltb}
use lib.Ieee.{Float, nan, inf, fin, neg, lt}
use Rattle.float.specs.Literals.{zero64}
use Rattle.float.specs.Units.{units_of}
use Rattle.decode.specs.Exponent.{regular_of}
use Rattle.std.specs.Prelude.{None}
use Rattle.decode.specs.Shape.{Decoded}
use Rattle.decode.proofs.Class.{negative_view, positive_view, decoded_irregular}
use Rattle.cbrt.specs.Root.{cbrt_of, nearest_cbrt}

pub root_special : (x : Float) → regular_of x ≡ false → cbrt_of x ≡ x
unfolding cbrt_of
root_special nan e = refl
root_special (inf s) e = refl
root_special (fin s zero k) e = refl
root_special (fin s (suc m) k) e = absurd (false≢true (sym e ∙ lt-ltb 0 (suc m) (zero-lt-suc m)))

pub root_same : (x : Float) → Decoded x None → x ≡ cbrt_of x
root_same x d = sym (root_special x (decoded_irregular x d))

pub root_positive : (x : Float) → lt x zero64 ≡ false → regular_of x ≡ true → cbrt_of x ≡ nearest_cbrt (units_of x * 2 ^ 2148)
unfolding cbrt_of
root_positive x a r = let v = positive_view x a r in ap cbrt_of v.2 ∙ ap (λ (y : Float). nearest_cbrt (units_of y * 2 ^ 2148)) (sym v.2)

pub root_negative : (x : Float) → lt x zero64 ≡ true → regular_of x ≡ true → cbrt_of x ≡ neg (nearest_cbrt (units_of x * 2 ^ 2148))
unfolding cbrt_of
root_negative x a r =
    ⊎_elim (λ i. absurd (false≢true (sym (ap regular_of i) ∙ r)))
    (λ v. ap cbrt_of v.2 ∙ ap (λ (y : Float). neg (nearest_cbrt (units_of y * 2 ^ 2148))) (sym v.2)) (negative_view x a)
