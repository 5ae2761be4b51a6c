-- Where the confusion is below 0, every reply is no.
use mathlib.Core.Path.{◌≡◌, refl}
use mathlib.Core.Bool.{Bool, true, false, ◌&&◌, ◌||◌, false≢true}
use Prim.Native.Nat.{ℕ, ◌+◌, ◌*◌, ◌<◌}
use native.Mathlib.Nat.{mul-pos}
use native.Mathlib.Omega.{arith}
use borrow.Author.Tests.{eqb-true, ne_eqb, ltb-true}
use lib.Dec.{eqb}
use lib.Ieee.{Float, nan, inf, fin, up, down, lt, eq, le, of_bits}
use lib.Ieee.Fits.{down_pos}
use Rattle.float.specs.Literals.{zero64}
use Rattle.float.specs.Methods.{abs_of, is_sign_negative_of}
use Rattle.float.proofs.Zero.{below_zero}

unlike : (a b : ℕ) → 0 < b → (eqb a b && (false || eqb a 0)) ≡ false
unlike a b h = go (eqb a b) refl
  where
    go : (t : Bool) → eqb a b ≡ t → (t && (false || eqb a 0)) ≡ false
    go false e = refl
    go true e = ne_eqb a 0 (λ z. absurd (omega (arith, h, z, eqb-true a b e)))

-- no size is at most a number below 0
pub none_at_most : (x c : Float) → lt c zero64 ≡ true → le (abs_of x) c ≡ false
unfolding le lt eq abs_of is_sign_negative_of of_bits
none_at_most nan c h = refl
none_at_most (inf s) nan h = refl
none_at_most (inf s) (inf true) h = refl
none_at_most (inf s) (inf false) h = absurd (false≢true h)
none_at_most (inf s) (fin t n d) h = refl
none_at_most (fin s m e) nan h = refl
none_at_most (fin s m e) (inf true) h = refl
none_at_most (fin s m e) (inf false) h = absurd (false≢true h)
none_at_most (fin s m e) (fin false n d) h = absurd (false≢true (below_zero (fin false n d) h))
none_at_most (fin s m e) (fin true n d) h =
    let p : 0 < n * up d * 1 + 0 * 1 * down d = ltb-true _ _ h in
    let q : 0 < n * up d = omega arith in
    unlike (m * up e * down d) (n * up d * down e) (mul-pos q (down_pos e))
