-- The compensated value of a polynomial of degree 4 at most, with coefficients of size 2 at most, at a place of size 4 at most, is near to the exact one
-- (`accurate`). x is the value plus its correction, not rounded, w the same rounded, Q the exact value, all in units. Four turns leave 2 ^ 53 |x - Q| ≤ 200 h +
-- 2 ^ 125 = e, where 2 ^ 53 h ≤ M + 2 ^ 53 * 341, and rounding leaves 2 ^ 53 |w - x| ≤ |x|. So
--   2 ^ 106 |w - Q| ≤ 2 ^ 53 |x| + 2 ^ 53 e ≤ 2 ^ 53 P + (2 ^ 53 + 1) e ≤ 2 ^ 53 P + 201 M + 2 ^ 179
-- Q, P and M are here times S = one_units ^ d, and so is all else in the statements below.
use mathlib.Core.Path.{◌≡◌, sym, ap, subst}
use mathlib.Core.Bool.{true}
use mathlib.Core.List.{List}
use Prim.Native.Nat.{ℕ, zero, suc, ◌+◌, ◌*◌, ◌^◌, ◌≤◌}
use native.Mathlib.Nat.{le_trans, le_of_eq, add-le-add, mul-le-mul_right, mul-le-mul_left}
use native.Mathlib.Omega.{arith}
use lib.Dec.{lit≤}
use lib.Ieee.{Float}
use Rattle.float.specs.Literals.{two64, four64}
use Rattle.rounding.specs.Units.{one_units}
use Rattle.rounding.specs.Diff.{Diff, ◌⊞◌, ◌⊡◌, Apart}
use Rattle.rounding.proofs.Diff.{apart_le}
use Rattle.rounding.proofs.Moved.{Rounds, sum_relative}
use Rattle.rounding.proofs.Num.{add_num}
use Rattle.horner.specs.Horner.{compensated_of, value_slope_compensated_of}
use Rattle.accuracy.specs.Terms.{size_of, exact_of, P, M}
use Rattle.accuracy.specs.Claims.{at_most, AllAtMost, distance_of, Accurate}
use Rattle.accuracy.proofs.Terms.{sizes_are}
use Rattle.accuracy.proofs.Sizes.{within_size, size_times, size_near}
use Rattle.accuracy.proofs.Units.{num_units, val_finite}
use Rattle.accuracy.proofs.Horner.{Loss, loss, State}
use Rattle.accuracy.proofs.Evaluated.{evaluated}

-- ---- the value and its correction, rounded once more: they are x, which is e / (S W) from Q / S, and w is x / W from x
twice_side : (x x' w w' q q' S W s p e : ℕ) → s * S * W ≤ p * W + e → w * W + x' * W ≤ w' * W + x * W + s → x * S * W + q' * W ≤ x' * S * W + q * W + e
    → w * (W * W * S) + q' * (W * W) ≤ w' * (W * W * S) + q * (W * W) + (W * p + (W + 1) * e)
twice_side x x' w w' q q' S W s p e h a c =
    let b : (w * W + x' * W) * (S * W) ≤ (w' * W + x * W + s) * (S * W) = mul-le-mul_right (S * W) a in
    let t : (x * S * W + q' * W) * W ≤ (x' * S * W + q * W + e) * W = mul-le-mul_right W c in
    omega arith

twice_near : (x w Q : Diff) (S W s p e : ℕ) → s * S * W ≤ p * W + e → Apart (w ⊡ W) (x ⊡ W) s → Apart (x ⊡ S ⊡ W) (Q ⊡ W) e
    → Apart (w ⊡ (W * W * S)) (Q ⊡ (W * W)) (W * p + (W + 1) * e)
twice_near x w Q S W s p e h a c = (
  twice_side x.p x.n w.p w.n Q.p Q.n S W s p e h a.0 c.0,
  twice_side x.n x.p w.n w.p Q.n Q.p S W s p e h a.1 c.1,
)

module _ (x w Q : Diff) (S e : ℕ) (R : Rounds x 1 w) (close : Apart (x ⊡ S ⊡ 2 ^ 53) (Q ⊡ 2 ^ 53) e) where
  exact_size : size_of x * S * 2 ^ 53 ≤ size_of Q * 2 ^ 53 + e
  exact_size = le_trans (le_of_eq (ap (λ (z : ℕ). z * 2 ^ 53) (sym (size_times x S)))) (size_near (x ⊡ S) Q (2 ^ 53) (2 ^ 53) e close)

  sum_near : Apart (w ⊡ (2 ^ 106 * S)) (Q ⊡ 2 ^ 106) (2 ^ 53 * size_of Q + (2 ^ 53 + 1) * e)
  sum_near = twice_near x w Q S (2 ^ 53) (size_of x) (size_of Q) e exact_size (sum_relative x w (size_of x) R (within_size x)) close

-- ---- e, by the sum of the sizes of the terms
error_le : (h m S B c K p : ℕ) → 2 ^ 53 * (h * S) ≤ m + 2 ^ 53 * (341 * S) → 201 ≤ c → (2 ^ 53 + 1) * B + 2 ^ 53 * (201 * 341) ≤ K
    → p + (2 ^ 53 + 1) * ((200 * h + B) * S) ≤ p + c * m + K * S
error_le h m S B c K p l j k =
    let f = mul-le-mul_right m j in
    let g = mul-le-mul_right S k in
    omega arith

-- ---- what four turns at most have lost
abbrev Lost : Loss → Type 0
Lost L = (L.κ ≤ 200) × (L.b ≤ 2 ^ 125) × (L.ε ≤ 341) × (L.kv + L.ke ≤ 2 ^ 118)

lost : (n : ℕ) → n ≤ 4 → Lost (loss n)
lost zero h = (lit≤ tt, lit≤ tt, lit≤ tt, lit≤ tt)
lost (suc zero) h = (lit≤ tt, lit≤ tt, lit≤ tt, lit≤ tt)
lost (suc (suc zero)) h = (lit≤ tt, lit≤ tt, lit≤ tt, lit≤ tt)
lost (suc (suc (suc zero))) h = (lit≤ tt, lit≤ tt, lit≤ tt, lit≤ tt)
lost (suc (suc (suc (suc zero)))) h = (lit≤ tt, lit≤ tt, lit≤ tt, lit≤ tt)
lost (suc (suc (suc (suc (suc n))))) h = absurd (omega arith)

-- ---- the law
module _ (f : List Float) (d : ℕ) (y : Float) where
  from_state : (L : Loss) → Lost L → (h : ℕ) → State (compensated_of f d y) (exact_of f d y) (one_units ^ d) h L → Accurate f d y
  unfolding value_slope_compensated_of P
  from_state L few h St =
      let S = one_units ^ d in
      let Q = exact_of f d y in
      let x : Diff = St.vn.v ⊞ St.rn.v in
      let O = add_num St.vn St.rn few.3 in
      let e = (200 * h + 2 ^ 125) * S in
      let c : Apart (x ⊡ S ⊡ 2 ^ 53) (Q ⊡ 2 ^ 53) e =
      apart_le (x ⊡ S ⊡ 2 ^ 53) (Q ⊡ 2 ^ 53) ((L.κ * h + L.b) * S) e (mul-le-mul_right S (add-le-add (mul-le-mul_right h few.0) few.1)) St.close in
      let b : 2 ^ 53 * (h * S) ≤ M f d y + 2 ^ 53 * (341 * S) =
      le_trans St.bound (add-le-add (le_of_eq (sym (sizes_are f d y))) (mul-le-mul_left (2 ^ 53) (mul-le-mul_right S few.2))) in
      record {
        finite = val_finite O.result.is;
        near = subst (λ (w : Diff). Apart (w ⊡ (2 ^ 106 * S)) (Q ⊡ 2 ^ 106) (distance_of f d y)) (sym (num_units O.result))
            (apart_le (O.result.v ⊡ (2 ^ 106 * S)) (Q ⊡ 2 ^ 106) (2 ^ 53 * size_of Q + (2 ^ 53 + 1) * e) (distance_of f d y)
            (error_le h (M f d y) S _ _ _ (2 ^ 53 * size_of Q) b (lit≤ tt) (lit≤ tt)) (sum_near x O.result.v Q S e O.rounds c));
      }

  -- At a place of size 4 at most, with coefficients of size 2 at most, the value of `value_slope_compensated` is finite, and within
  -- 2^-53·P + 201·2^-106·M + 2^-1001 of the exact value.
  pub accurate : d ≤ 4 → AllAtMost two64 f d → at_most four64 y ≡ true → Accurate f d y
  accurate degree coefficients place = let s = evaluated f d y degree coefficients place in from_state (loss d) (lost d degree) s.0 s.1
