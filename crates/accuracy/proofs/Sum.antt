-- The rounding error of a sum, as `sum_error` works it out, is the true one within 7 h / 2 ^ 53, where 2 ^ 53 h units bound the sizes of the two summands
-- (`sum_num`). With s = p + c, b = s - p and t = s - b, each rounded, only t has to be exact; the argument is that of rounding's TwoSum.
use Prim.Native.Nat.{ℕ, ◌+◌, ◌*◌, ◌^◌, ◌≤◌}
use native.Mathlib.Nat.{le_trans}
use native.Mathlib.Omega.{arith}
use lib.Dec.{lit≤}
use lib.Ieee.{Float, binary64, add}
use Rattle.rounding.specs.Diff.{Diff, ◌⊞◌, ◌⊟◌, ◌⊡◌, Apart, magnitude}
use Rattle.rounding.proofs.Value.{on_grid}
use Rattle.rounding.proofs.TwoSum.{error_near}
use Rattle.rounding.proofs.Num.{Num, Op, add_num, sub_num, weaken}
use Rattle.horner.specs.Horner.{sum_error}

-- `add` and `sum_error`, of values of sizes k and l at most
pub record SumError (p c : Float) (x y : Diff) (k l : ℕ) : Type 0 where
  pub sum : Op (add binary64 p c) (2 * (k + l)) (x ⊞ y) 1
  pub err : Num (sum_error p c (add binary64 p c)) (96 * (k + l))
  pub close : (h : ℕ) → magnitude x + magnitude y ≤ 2 ^ 53 * h → Apart (err.v ⊡ 2 ^ 53) ((x ⊞ y ⊟ sum.result.v) ⊡ 2 ^ 53) (7 * h)

-- how large b = s - p, t = s - b, v = p - t and w = c - b are, where p is at most k and c at most l
abbrev b_bound : ℕ → ℕ → ℕ
b_bound k l = 2 * (2 * (k + l) + k)

abbrev t_bound : ℕ → ℕ → ℕ
t_bound k l = 2 * (2 * (k + l) + b_bound k l)

abbrev v_bound : ℕ → ℕ → ℕ
v_bound k l = 2 * (k + t_bound k l)

abbrev w_bound : ℕ → ℕ → ℕ
w_bound k l = 2 * (l + b_bound k l)

pub sum_num : {p c : Float} {k l : ℕ} (P : Num p k) (C : Num c l) → k + l ≤ 2 ^ 100 → SumError p c P.v C.v k l
unfolding sum_error
sum_num {p} {c} {k} {l} P C h =
    let s = add_num P C (le_trans h (lit≤ tt)) in
    let b = sub_num s.result P (b_room k l h) in
    let t = sub_num s.result b.result (t_room k l h) in
    let v = sub_num P t.result (v_room k l h) in
    let w = sub_num C b.result (w_room k l h) in
    let e = add_num v.result w.result (e_room k l h) in
    record {
      sum = s;
      err = weaken (96 * (k + l)) (e_size k l) e.result;
      close = λ g m.
          let n = error_near (on_grid P.held P.is) (on_grid C.held C.is) s.rounds b.rounds t.rounds v.rounds
          w.rounds e.rounds g m in
          restate e.result.v P.v C.v s.result.v (7 * g) n.0 n.1;
    }
  where
    b_room : (k l : ℕ) → k + l ≤ 2 ^ 100 → 2 * (k + l) + k ≤ 2 ^ 118
    b_room k l h = omega arith

    t_room : (k l : ℕ) → k + l ≤ 2 ^ 100 → 2 * (k + l) + b_bound k l ≤ 2 ^ 118
    t_room k l h = omega arith

    v_room : (k l : ℕ) → k + l ≤ 2 ^ 100 → k + t_bound k l ≤ 2 ^ 118
    v_room k l h = omega arith

    w_room : (k l : ℕ) → k + l ≤ 2 ^ 100 → l + b_bound k l ≤ 2 ^ 118
    w_room k l h = omega arith

    e_room : (k l : ℕ) → k + l ≤ 2 ^ 100 → v_bound k l + w_bound k l ≤ 2 ^ 118
    e_room k l h = omega arith

    e_size : (k l : ℕ) → 2 * (v_bound k l + w_bound k l) ≤ 96 * (k + l)
    e_size k l = omega arith

    restate : (e x y s : Diff) (g : ℕ) → 2 ^ 53 * (e.p + (x.n + y.n + s.p)) ≤ 2 ^ 53 * (e.n + (x.p + y.p + s.n)) + g
        → 2 ^ 53 * (e.n + (x.p + y.p + s.n)) ≤ 2 ^ 53 * (e.p + (x.n + y.n + s.p)) + g → Apart (e ⊡ 2 ^ 53) ((x ⊞ y ⊟ s) ⊡ 2 ^ 53) g
    restate e x y s g h k = (omega arith, omega arith)
