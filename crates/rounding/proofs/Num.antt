-- An operation on finite values with bounded sizes does not overflow: it gives the exact result, rounded once, with a bound on its size (`add_num`, `sub_num`,
-- `mul_num`). `Num x k`: x is a value of binary64, and at most k in size. Where the bounds of the operands are numerals, so is the result's,
-- and that nothing overflows is a comparison of numerals.
use mathlib.Core.Path.{◌≡◌, sym, ap, ◌∙◌}
use mathlib.Core.Logic.{inl, inr}
use Prim.Native.Nat.{ℕ, ◌+◌, ◌*◌, ◌^◌, ◌≤◌, ◌<◌}
use native.Mathlib.Nat.{le_refl, le_trans, le_of_eq, le_of_mul-le-mul_right, mul-le-mul_right, mul-le-mul, add_comm, mul_assoc, zero-mul}
use native.Mathlib.Omega.{arith}
use lib.Dec.{T, lit≤}
use lib.Ieee.{Float, binary64, add, sub, mul, neg, fits}
use lib.Ieee.Fits.{add-fits, neg-fits, mul-fits}
use Rattle.rounding.specs.Units.{one_units}
use Rattle.rounding.specs.Diff.{Diff, ◌⊞◌, ◌⊟◌, ◌⊠◌, SizeAtMost, OneSided, magnitude}
use Rattle.rounding.proofs.Value.{limit, one_pos, Val, neg_val, Near, near_flip, add_near, mul_near}
use Rattle.rounding.proofs.Exact.{relative, relative_sum}
use Rattle.rounding.proofs.Diff.{magnitude_le}
use Rattle.rounding.proofs.Moved.{Rounds}

limit_room : 2 ^ 120 * one_units ≤ limit
unfolding one_units limit
limit_room = lit≤ tt

-- ---- x is v units, and no more than k in size
pub record Num (x : Float) (k : ℕ) : Type 0 where
  pub v : Diff
  pub is : Val x v.p v.n
  pub held : T (fits binary64 x)
  pub bound : magnitude v ≤ k * one_units

-- z is x / d, rounded
pub record Op (z : Float) (k : ℕ) (x : Diff) (d : ℕ) : Type 0 where
  pub result : Num z k
  pub rounds : Rounds x d result.v

-- ---- how large a rounded number is: no more than twice as large, in all
sum_size : (P N p n B : ℕ) → Near P N 1 p n → P ≤ N + B → N ≤ P + B → p + n ≤ 2 * B
sum_size P N p n B R h l = elim R.side [
  | inl o ↦ go P N p n o.1 h (relative_sum R B h l).0
  | inr o ↦ le_trans (le_of_eq (add_comm p n)) (go N P n p o.1 l (relative_sum (near_flip R) B l h).0)
]
  where
    go : (P N p n : ℕ) → n ≡ 0 → P ≤ N + B → 2 ^ 53 * p + 2 ^ 53 * N ≤ 2 ^ 53 * P + 2 ^ 53 * n + B → p + n ≤ 2 * B
    go P N p n o h m = omega arith

product_size : (P N d p n B : ℕ) → 0 < d → Near P N d p n → P ≤ N + B * d → N ≤ P + B * d → p + n ≤ 2 * B + 1
product_size P N d p n B D R h l = elim R.side [
  | inl o ↦ cancelled p n (go P N (p * d) (n * d) (B * d) d (none o.1) h (relative D R (B * d) h l).0)
  | inr o ↦ le_trans (le_of_eq (add_comm p n)) (cancelled n p (go N P (n * d) (p * d) (B * d) d (none o.1) l (relative D (near_flip R) (B * d) l h).0))
]
  where
    none : {x : ℕ} → x ≡ 0 → x * d ≡ 0
    none o = ap (λ (z : ℕ). z * d) o ∙ zero-mul d

    go : (P N p n C d : ℕ) → n ≡ 0 → P ≤ N + C → 2 ^ 53 * p + 2 ^ 53 * N ≤ 2 ^ 53 * P + 2 ^ 53 * n + C + 2 ^ 52 * d → p + n ≤ 2 * C + d
    go P N p n C d o h m = omega arith

    cancelled : (p n : ℕ) → p * d + n * d ≤ 2 * (B * d) + d → p + n ≤ 2 * B + 1
    cancelled p n h = le_of_mul-le-mul_right (omega arith) D

-- ---- the operations
module _ {x y : Float} {k l : ℕ} (X : Num x k) (Y : Num y l) where
  pub add_num : k + l ≤ 2 ^ 118 → Op (add binary64 x y) (2 * (k + l)) (X.v ⊞ Y.v) 1
  add_num h =
      let B = (k + l) * one_units in
      let b : B ≤ limit = le_trans (mul-le-mul_right one_units (le_trans h (lit≤ tt))) limit_room in
      let s = sum_within B (le_refl B) in
      let w = sum_within limit b in
      let r = add_near X.is Y.is w.0 w.1 in
      record {
        result = record {
          v = record { p = r.p; n = r.n };
          is = r.is;
          held = add-fits binary64 x y;
          bound =
              le_trans (sum_size (X.v.p + Y.v.p) (X.v.n + Y.v.n) r.p r.n B r.near s.0 s.1)
              (le_of_eq (sym (mul_assoc 2 (k + l) one_units)));
        };
        rounds = r.near;
      }
    where
      sum_within : (b : ℕ) → (k + l) * one_units ≤ b → SizeAtMost (X.v ⊞ Y.v) b
      sum_within b h = go X.v Y.v (omega (arith, X.bound, Y.bound))
        where
          go : (x y : Diff) → magnitude x + magnitude y ≤ b → SizeAtMost (x ⊞ y) b
          go x y h = (omega arith, omega arith)

  pub mul_num : k * l ≤ 2 ^ 118 → Op (mul binary64 x y) (2 * (k * l) + 1) (X.v ⊠ Y.v) one_units
  mul_num h =
      let a = (X.v ⊠ Y.v).p in
      let b = (X.v ⊠ Y.v).n in
      let B = k * l * one_units in
      let w : a + b ≤ B * one_units = le_trans (le_of_eq (factored X.v Y.v))
      (le_trans (mul-le-mul X.bound Y.bound) (le_of_eq (regrouped k l one_units))) in
      let c : B * one_units ≤ limit * one_units = mul-le-mul_right one_units (le_trans (mul-le-mul_right one_units (le_trans h (lit≤ tt))) limit_room) in
      let r = mul_near X.is Y.is (le_trans w c) in
      record {
        result = record {
          v = record { p = r.p; n = r.n };
          is = r.is;
          held = mul-fits binary64 x y;
          bound = le_trans
              (product_size a b one_units r.p r.n B one_pos r.near (side a b (B * one_units) w)
              (side b a (B * one_units) (le_trans (le_of_eq (add_comm b a)) w)))
              (spare (k * l) one_units one_pos);
        };
        rounds = r.near;
      }
    where
      factored : (x y : Diff) → magnitude (x ⊠ y) ≡ magnitude x * magnitude y
      factored x y = omega arith

      regrouped : (k l s : ℕ) → k * s * (l * s) ≡ k * l * s * s
      regrouped k l s = omega arith

      side : (a b c : ℕ) → a + b ≤ c → a ≤ b + c
      side a b c h = omega arith

      spare : (m s : ℕ) → 0 < s → 2 * (m * s) + 1 ≤ (2 * m + 1) * s
      spare m s h = omega arith

pub neg_num : {x : Float} {k : ℕ} → Num x k → Num (neg x) k
neg_num {x} X =
    record {
      v = record { p = X.v.n; n = X.v.p };
      is = neg_val X.is;
      held = neg-fits binary64 x X.held;
      bound = le_trans (le_of_eq (add_comm X.v.n X.v.p)) X.bound;
    }

pub sub_num : {x y : Float} {k l : ℕ} (X : Num x k) (Y : Num y l) → k + l ≤ 2 ^ 118 → Op (sub binary64 x y) (2 * (k + l)) (X.v ⊟ Y.v) 1
unfolding sub neg_num
sub_num X Y h = add_num X (neg_num Y) h

-- ---- the bound on the size, and another one
pub sized : {x : Float} {k : ℕ} (X : Num x k) → SizeAtMost X.v (k * one_units)
sized X = (omega (arith, X.bound), omega (arith, X.bound))

abbrev pub weaken : {x : Float} {k : ℕ} (m : ℕ) → k ≤ m → Num x k → Num x m
weaken m h X = record { v = X.v; is = X.is; held = X.held; bound = le_trans X.bound (mul-le-mul_right one_units h) }

pub rounded_side : {P N d : ℕ} (r : Diff) → Near P N d r.p r.n → OneSided r
rounded_side r R = elim R.side [ inl o ↦ inr o.1 | inr o ↦ inl o.1 ]

abbrev pub resize : {z : Float} {k : ℕ} {x : Diff} {d : ℕ} (m : ℕ) (O : Op z k x d) → SizeAtMost O.result.v (m * one_units) → Num z m
resize m O w =
    record {
      v = O.result.v;
      is = O.result.is;
      held = O.result.held;
      bound = magnitude_le O.result.v (m * one_units) (rounded_side O.result.v O.rounds) w;
    }
