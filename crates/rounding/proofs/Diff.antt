-- Bounds, distances and products of differences: how they go with sums, multiples and products.
use mathlib.Core.Path.{◌≡◌, ap, subst}
use mathlib.Core.Logic.{inl, inr}
use Prim.Native.Nat.{ℕ, ◌+◌, ◌*◌, ◌≤◌, ◌<◌}
use native.Mathlib.Nat.{le_trans, le_of_eq, le_of_lt, add_comm, mul-le-mul, mul-le-mul_left, mul-le-mul_right, le_of_mul-le-mul_right, le_dest}
use native.Mathlib.Omega.{arith}
use Rattle.algebra.specs.NatOrder.{le_or_lt}
use Rattle.rounding.specs.Diff.{Diff, ◌⊞◌, ◌⊠◌, ◌⊡◌, ◌≈◌, Apart, SizeAtMost, OneSided, magnitude}

pub same_parts : (a b c d : ℕ) → a ≡ c → b ≡ d → a + d ≡ b + c
same_parts a b c d x y = omega arith

pub same_trans : (x y z : Diff) → x ≈ y → y ≈ z → x ≈ z
same_trans x y z e f = omega arith

-- ---- bounds
pub within_le : (x : Diff) (a b : ℕ) → a ≤ b → SizeAtMost x a → SizeAtMost x b
within_le x a b h w = (omega arith, omega arith)

pub within_times : (x : Diff) (b k : ℕ) → SizeAtMost x b → SizeAtMost (x ⊡ k) (b * k)
within_times x b k h = (omega (arith, mul-le-mul_right k h.0), omega (arith, mul-le-mul_right k h.1))

pub within_cancel : (x : Diff) (a k : ℕ) → 0 < k → SizeAtMost (x ⊡ k) (a * k) → SizeAtMost x a
within_cancel x a k h w = (le_of_mul-le-mul_right (omega arith) h, le_of_mul-le-mul_right (omega arith) h)

pub within_sum : (x y : Diff) (a b c : ℕ) → SizeAtMost x a → SizeAtMost y b → a + b ≤ c → SizeAtMost (x ⊞ y) c
within_sum x y a b c h w l = (omega arith, omega arith)

pub within_near : (x y : Diff) (a b c : ℕ) → Apart x y a → SizeAtMost y b → a + b ≤ c → SizeAtMost x c
within_near x y a b c h w l = (omega arith, omega arith)

-- the parts' sum bounds the size, and is the size where one of them is 0
pub within_magnitude : (x : Diff) → SizeAtMost x (magnitude x)
within_magnitude x = (omega arith, omega arith)

pub magnitude_le : (x : Diff) (b : ℕ) → OneSided x → SizeAtMost x b → magnitude x ≤ b
magnitude_le x b o w = elim o [
  | inl z ↦ go x.n x.p z w.1
  | inr z ↦ le_trans (le_of_eq (add_comm x.p x.n)) (go x.p x.n z w.0)
]
  where
    go : (p n : ℕ) → n ≡ 0 → p ≤ n + b → n + p ≤ b
    go p n z h = omega arith

-- ---- distances
pub apart_le : (x y : Diff) (a b : ℕ) → a ≤ b → Apart x y a → Apart x y b
apart_le x y a b h w = (omega arith, omega arith)

pub apart_sym : (x y : Diff) (b : ℕ) → Apart x y b → Apart y x b
apart_sym x y b h = (omega arith, omega arith)

pub apart_times : (x y : Diff) (b k : ℕ) → Apart x y b → Apart (x ⊡ k) (y ⊡ k) (b * k)
apart_times x y b k h = (omega (arith, mul-le-mul_right k h.0), omega (arith, mul-le-mul_right k h.1))

-- ---- products. On natural numbers, |x1 - x2| ≤ X and |y1 - y2| ≤ Y give (x1 - x2) (y1 - y2) ≤ X Y
product_bound : (x1 x2 y1 y2 X Y : ℕ) → x1 ≤ x2 + X → x2 ≤ x1 + X → y1 ≤ y2 + Y → y2 ≤ y1 + Y → x1 * y1 + x2 * y2 ≤ x1 * y2 + x2 * y1 + X * Y
product_bound x1 x2 y1 y2 X Y h h' g g' = elim (le_or_lt x1 x2) [
  | inl l ↦ elim (le_or_lt y1 y2) [ inl m ↦ omega (arith, same_signs x2 x1 y2 y1 h' g' l m) | inr m ↦ other_signs x2 x1 y1 y2 l (le_of_lt m) ]
  | inr l ↦ elim (le_or_lt y1 y2) [
    | inl m ↦ omega (arith, other_signs x1 x2 y2 y1 (le_of_lt l) m)
    | inr m ↦ same_signs x1 x2 y1 y2 h g (le_of_lt l) (le_of_lt m)
  ]
]
  where
    -- of the two differences
    same_signs : (x1 x2 y1 y2 : ℕ) → x1 ≤ x2 + X → y1 ≤ y2 + Y → x2 ≤ x1 → y2 ≤ y1 → x1 * y1 + x2 * y2 ≤ x1 * y2 + x2 * y1 + X * Y
    same_signs x1 x2 y1 y2 h g l m =
        let s = le_dest l in
        let t = le_dest m in
        let u : s.0 * t.0 ≤ X * Y = mul-le-mul (omega (arith, s.1)) (omega (arith, t.1)) in
        subst (λ (z : ℕ). z * y1 + x2 * y2 ≤ z * y2 + x2 * y1 + X * Y) s.1
        (subst (λ (z : ℕ). (x2 + s.0) * z + x2 * y2 ≤ (x2 + s.0) * y2 + x2 * z + X * Y) t.1 (omega arith))

    other_signs : (x1 x2 y1 y2 : ℕ) → x2 ≤ x1 → y2 ≤ y1 → x2 * y1 + x1 * y2 ≤ x2 * y2 + x1 * y1 + X * Y
    other_signs x1 x2 y1 y2 l m =
        let s = le_dest l in
        subst (λ (z : ℕ). x2 * y1 + z * y2 ≤ x2 * y2 + z * y1 + X * Y) s.1 (omega (arith, mul-le-mul_left s.0 m))

pub product_within : (x y : Diff) (a b : ℕ) → SizeAtMost x a → SizeAtMost y b → SizeAtMost (x ⊠ y) (a * b)
product_within x y a b h k = (
  product_bound x.p x.n y.p y.n a b h.0 h.1 k.0 k.1,
  flipped (product_bound x.n x.p y.p y.n a b h.1 h.0 k.0 k.1),
)
  where
    flipped : x.n * y.p + x.p * y.n ≤ x.n * y.n + x.p * y.p + a * b → x.p * y.n + x.n * y.p ≤ x.p * y.p + x.n * y.n + a * b
    flipped h = omega arith

pub product_same : (x y a b : Diff) → x ≈ a → y ≈ b → x ⊠ y ≈ a ⊠ b
product_same x y a b e f =
    omega (arith, ap (λ (z : ℕ). z * y.p) e, ap (λ (z : ℕ). z * y.n) e, ap (λ (z : ℕ). a.p * z) f, ap (λ (z : ℕ). a.n * z) f)

pub product_split : (a b ah al bh bl : Diff) → a ≈ ah ⊞ al → b ≈ bh ⊞ bl → a ⊠ b ≈ ah ⊠ bh ⊞ ah ⊠ bl ⊞ al ⊠ bh ⊞ al ⊠ bl
product_split a b ah al bh bl e f =
    same_trans (a ⊠ b) ((ah ⊞ al) ⊠ (bh ⊞ bl)) (ah ⊠ bh ⊞ ah ⊠ bl ⊞ al ⊠ bh ⊞ al ⊠ bl) (product_same a b (ah ⊞ al) (bh ⊞ bl) e f) (omega arith)

pub product_units : (x y a b : Diff) (K L : ℕ) → x ≈ a ⊡ K → y ≈ b ⊡ L → x ⊠ y ≈ (a ⊠ b) ⊡ (K * L)
product_units x y a b K L e f = same_trans (x ⊠ y) ((a ⊡ K) ⊠ (b ⊡ L)) ((a ⊠ b) ⊡ (K * L)) (product_same x y (a ⊡ K) (b ⊡ L) e f) (omega arith)
