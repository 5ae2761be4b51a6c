-- The root of x's size, beside the roots of x and of -x.
use Rattle.std.proofs.Common.{◌≡◌, zero, suc, ◌+◌, ◌*◌, ◌≤◌, Bool, true, false, ◌&&◌, ◌||◌}
use Rattle.std.proofs.Common.{T, eqb, ltb, sym, refl, subst, true≢false, suc-mul, zero-mul, arith, eqb→eq, ltb-false}
use mathlib.Core.Bool.{false≢true}
use borrow.Author.Tests.{eqb-false}
use lib.Ieee.{Float, nan, inf, fin, up, down, neg, lt, eq, le, of_bits}
use lib.Ieee.Fits.{and_l, up_pos}
use Rattle.float.specs.Literals.{zero64}
use Rattle.float.specs.Methods.{abs_of, copysign_of}
use Rattle.sqrt.specs.Root.{sqrt_of}

-- a number not below 0 and its size have one root but for the sign of a zero
pub signed_root : (x y : Float) → lt x zero64 ≡ false → copysign_of (sqrt_of (abs_of x)) y ≡ copysign_of (sqrt_of x) y
unfolding copysign_of sqrt_of abs_of lt of_bits
signed_root nan y h = refl
signed_root (inf true) y h = absurd (true≢false h)
signed_root (inf false) y h = refl
signed_root (fin false m e) y h = refl
signed_root (fin true zero e) y h = refl
signed_root (fin true (suc m) e) y h =
    let p : suc m * up e * 1 + 0 * 1 * down e ≤ 0 = ltb-false _ _ h in
    absurd (omega (arith, suc-mul m (up e), up_pos e))

-- so where a test says that 0 is at most x
pub least_root : (x y : Float) → le zero64 x ≡ true → copysign_of (sqrt_of (abs_of x)) y ≡ copysign_of (sqrt_of x) y
unfolding copysign_of sqrt_of abs_of le lt eq of_bits
least_root nan y h = refl
least_root (inf true) y h = absurd (false≢true h)
least_root (inf false) y h = refl
least_root (fin false m e) y h = refl
least_root (fin true zero e) y h = refl
least_root (fin true (suc m) e) y h =
    let q = eqb→eq (0 * 1 * down e) (suc m * up e * 1) (and_l (eqb (0 * 1 * down e) (suc m * up e * 1)) (eqb (0 * 1 * down e) 0) (subst T (sym h) tt)) in
    absurd (omega (arith, q, zero-mul (down e), suc-mul m (up e), up_pos e))

neither : (a b : Bool) → (a || (b && true)) ≡ false → (a ≡ false) × (b ≡ false)
neither false false h = (refl, refl)
neither false true h = absurd (true≢false h)
neither true b h = absurd (true≢false h)

-- and where not, -x is its size, or it is a NaN
pub below_root : (x : Float) → le zero64 x ≡ false → sqrt_of (neg x) ≡ sqrt_of (abs_of x)
unfolding sqrt_of abs_of neg le lt eq of_bits
below_root nan h = refl
below_root (inf true) h = refl
below_root (inf false) h = absurd (true≢false h)
below_root (fin true m e) h = refl
below_root (fin false m e) h =
    let p = neither (ltb (0 * 1 * down e) (m * up e * 1)) (eqb (0 * 1 * down e) (m * up e * 1)) h in
    absurd (most (ltb-false _ _ p.0) (eqb-false _ _ p.1) (zero-mul (down e)))
  where
    most : m * up e * 1 ≤ 0 * 1 * down e → (0 * 1 * down e ≡ m * up e * 1 → ⊥) → 0 * down e ≡ 0 → ⊥
    most l d z = d (omega arith)
