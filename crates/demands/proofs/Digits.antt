-- The exponent and L, by the digits of a number: 2^z ≤ n / 2^l < 2^(z + 1) where n has z + l + 1 digits.
use mathlib.Core.Path.{◌≡◌, sym, subst}
use mathlib.Core.Bool.{true}
use Prim.Native.Nat.{ℕ, zero, suc, ◌*◌, ◌^◌, ◌≤◌, ◌<◌}
use native.Mathlib.Omega.{arith}
use native.Mathlib.Nat.{le_refl, mul-le-mul_right, mul-lt-mul_of_pos_right, one-le-pow, pow-succ'}
use lib.Dec.{T}
use lib.IntN.{ℤ, pos, negsuc}
use lib.Ieee.{Float, fin, up, down, minus, size}
use lib.Ieee.Digits.{size-lt, size_reaches, minus_val}
use lib.Ieee.Fits.{down_pos}
use lib.Ieee.Positive.{positive}
use Rattle.float.specs.Methods.{is_sign_negative_of}
use Rattle.float.specs.Units.{units_of, Finite}
use Rattle.float.proofs.Bits.{of_true}
use Rattle.decode.specs.Exponent.{exponent_of, regular_of}
use Rattle.decode.proofs.Class.{regular_units}
use Rattle.log2.specs.Log.{grid_of, log2_grid_of}
use Rattle.log2.proofs.Floor.{Over256, log2_floor}
use Rattle.demands.specs.Demands.{Between, Ratio}
use Rattle.demands.proofs.Nearest.{regular_is}

between : (n l : ℕ) → 0 < n → Between (minus (size n) (suc l)) n (2 ^ l)
between n l p = go (size n) (size-lt n) (size_reaches n)
  where
    go : (a : ℕ) → n < 2 ^ a → ((j : ℕ) → j < a → 2 ^ j ≤ n) → Between (minus a (suc l)) n (2 ^ l)
    go zero h r = absurd (omega arith)
    go (suc j) h r =
        let z = minus (suc j) (suc l) in
        let e : up z * 2 ^ l ≡ 2 ^ j * down z = halves (up z) (2 ^ l) (2 ^ j) (down z) (rw (pow-succ' 2 l, pow-succ' 2 j) at (minus_val 1 (suc j) (suc l))) in
        record {
          low = rw e (mul-le-mul_right (down z) (r j (le_refl (suc j))));
          high = rw e (twice (2 ^ j) (down z) (n * down z) (rw (pow-succ' 2 j) at (mul-lt-mul_of_pos_right h (down_pos z))));
        }
      where
        halves : (P L J D : ℕ) → 1 * P * (2 * L) ≡ 1 * (2 * J) * D → P * L ≡ J * D
        halves P L J D e = omega arith

        twice : (J D m : ℕ) → m < 2 * J * D → m < 2 * (J * D)
        twice J D m h = omega arith

pub exponent_between : (x : Float) → Finite x → regular_of x ≡ true → Between (exponent_of x) (units_of x) (2 ^ 1074)
unfolding exponent_of
exponent_between x f p =
    let v = regular_is x p in
    rw v.2 (between (units_of (fin (is_sign_negative_of x) (suc v.0) v.1)) 1074 (rw v.2 at (regular_units x f.held p)))

pub grid_between : (n : ℕ) → 0 < n → Between (grid_of n) (n ^ 256) (2 ^ (1074 * 256))
unfolding grid_of
grid_between n p = between (n ^ 256) (1074 * 256) (one-le-pow 256 n p)

ratio : (x : Float) (z : ℤ) → Over256 x z → Ratio x z 256
ratio x (pos n) h = h
ratio x (negsuc n) h = h

pub grid_ratio : (x : Float) → Finite x → positive x ≡ true → Ratio (log2_grid_of x) (grid_of (units_of x)) 256
grid_ratio x f p = ratio (log2_grid_of x) (grid_of (units_of x)) (log2_floor x (of_true f.held) (subst T (sym p) tt)).1
