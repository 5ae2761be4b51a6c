-- The size of a difference: it bounds the difference, goes with multiples, and is no larger than that of a near one and the distance (`size_near`).
use mathlib.Core.Path.{◌≡◌, sym, ap}
use mathlib.Core.Bool.{Bool, true, false}
use Prim.Native.Nat.{ℕ, ◌+◌, ◌*◌, ◌≤◌}
use native.Mathlib.Nat.{le_trans, le_of_eq}
use native.Mathlib.Omega.{arith}
use lib.Ieee.{Float}
use Rattle.algebra.specs.NatOrder.{dist_mul_right}
use Rattle.float.specs.Methods.{is_sign_negative_of}
use Rattle.float.specs.Units.{units_of}
use Rattle.rounding.specs.Diff.{Diff, ◌⊡◌, Apart, SizeAtMost, magnitude}
use Rattle.accuracy.specs.Terms.{signed_diff, signed_units, size_of}

pub within_size : (x : Diff) → SizeAtMost x (size_of x)
within_size x = (omega arith, omega arith)

pub size_times : (x : Diff) (D : ℕ) → size_of (x ⊡ D) ≡ size_of x * D
size_times x D = dist_mul_right D x.p x.n

pub size_near : (x z : Diff) (a b c : ℕ) → Apart (x ⊡ a) (z ⊡ b) c → size_of x * a ≤ size_of z * b + c
size_near x z a b c h =
    le_trans (le_of_eq (sym (size_times x a))) (le_trans (go (x ⊡ a) (z ⊡ b) h) (le_of_eq (ap (λ (s : ℕ). s + c) (size_times z b))))
  where
    go : (x z : Diff) → Apart x z c → size_of x ≤ size_of z + c
    go x z h = omega arith

-- ---- of a signed number and of a double
pub signed_size : (s : Bool) (a : ℕ) → size_of (signed_diff s a) ≡ a
signed_size true a = omega arith
signed_size false a = omega arith

pub signed_magnitude : (s : Bool) (a : ℕ) → magnitude (signed_diff s a) ≡ a
signed_magnitude true a = omega arith
signed_magnitude false a = omega arith

pub units_size : (x : Float) → size_of (signed_units x) ≡ units_of x
units_size x = signed_size (is_sign_negative_of x) (units_of x)
