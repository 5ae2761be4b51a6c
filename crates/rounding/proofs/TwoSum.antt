-- The error of a sum, worked out after it: with s = p + c, b = s - p, t = s - b and e = (p - t) + (c - b), each rounded, e is p + c - s within 7 h / 2 ^ 53
-- (`error_near`). Here |p| + |c| ≤ 2 ^ 53 h, and a number p is the difference p1 - p2. Only t has to be exact (`rest_short`); the rest may round.
-- The sizes of p and c are not compared, only the units 2 ^ i of p, 2 ^ j of c, and 2 ^ k of the rounding of s:
--   j ≤ i               s - p is a multiple of a power of two by at most 2 ^ 53 (`difference_short`), so b is s - p, and t is p
--   i < j and k ≤ i     p + c is exact, so b is c, and t is p
--   i < j and i < k     the same lemma at s and -p: s - b needs no rounding
-- Then (p - t) + (c - b) is p + c - s, whatever b is. p - t and c - b are at most 2 h and 3 h, and their sum 2 h:
-- rounding moves each by 2 ^ -53 of that, 7 h / 2 ^ 53 in all.
use mathlib.Core.Path.{◌≡◌, sym, ap, ◌∙◌, subst}
use mathlib.Core.Logic.{inl, inr}
use Prim.Native.Nat.{ℕ, suc, ◌+◌, ◌-◌, ◌*◌, ◌^◌, ◌≤◌, ◌<◌, zero-le}
use native.Mathlib.Nat.{le_trans, le_of_eq, le_of_lt, le_of_suc-le-suc, lt_of_le_of_lt, lt_irrefl, lt_of_not-le, le_antisymm, mul-le-mul_right, pow-succ'}
use native.Mathlib.Omega.{arith}
use lib.Pow.{pow_pos, pow_mono}
use Rattle.algebra.specs.NatOrder.{le_or_lt, pow2_finer, pow2_twice}
use Rattle.rounding.proofs.Value.{Near, Grid}
use Rattle.rounding.proofs.Exact.{exact_at, relative_sum, Short, unchanged}

-- ---- s is a + b, rounded at the unit 2 ^ k: s - a needs no rounding, where b's unit 2 ^ j is no coarser than a's, 2 ^ i.
-- k ≤ j: s is exact, and s - a is b. j < k ≤ i: it is a multiple of 2 ^ k, at most |b| and the half of 2 ^ k.
-- i < k: then k is i + 1, and it is a multiple of 2 ^ i, at most |b| and 2 ^ i.
module _ {a1 a2 b1 b2 s1 s2 : ℕ} (R : Near (a1 + b1) (a2 + b2) 1 s1 s2) (i j A1 A2 B1 B2 : ℕ)
    (a1-is : a1 ≡ A1 * 2 ^ i) (a2-is : a2 ≡ A2 * 2 ^ i) (b1-is : b1 ≡ B1 * 2 ^ j) (b2-is : b2 ≡ B2 * 2 ^ j)
    (A : A1 + A2 ≤ 2 ^ 53) (B : B1 + B2 < 2 ^ 53) (l : j ≤ i) where
  b_le : (b1 + b2) + 2 ^ j ≤ 2 ^ 53 * 2 ^ j
  b_le = omega (arith, mul-le-mul_right (2 ^ j) B)

  a_le : a1 + a2 ≤ 2 ^ 53 * 2 ^ i
  a_le = omega (arith, mul-le-mul_right (2 ^ i) A)

  fine_unit : R.k ≤ j → Short (s1 + a2) (s2 + a1)
  fine_unit h =
      let k = R.k in
      let x : A1 * 2 ^ i ≡ A1 * 2 ^ (i - k) * 2 ^ k = pow2_finer A1 (le_trans h l) in
      let x' : A2 * 2 ^ i ≡ A2 * 2 ^ (i - k) * 2 ^ k = pow2_finer A2 (le_trans h l) in
      let y : B1 * 2 ^ j ≡ B1 * 2 ^ (j - k) * 2 ^ k = pow2_finer B1 h in
      let y' : B2 * 2 ^ j ≡ B2 * 2 ^ (j - k) * 2 ^ k = pow2_finer B2 h in
      let e : a1 + b1 + s2 * 1 ≡ a2 + b2 + s1 * 1 =
      exact_at (pow_pos 0) R (A1 * 2 ^ (i - k) + B1 * 2 ^ (j - k)) (A2 * 2 ^ (i - k) + B2 * 2 ^ (j - k)) (omega arith) in
      record { g = j; a = B1; b = B2; is = omega arith; few = (omega (arith, b_le), omega (arith, b_le)) }

  middle_unit : j < R.k → R.k ≤ i → Short (s1 + a2) (s2 + a1)
  middle_unit h h' =
      let k = R.k in
      let x : A1 * 2 ^ i ≡ A1 * 2 ^ (i - k) * 2 ^ k = pow2_finer A1 h' in
      let x' : A2 * 2 ^ i ≡ A2 * 2 ^ (i - k) * 2 ^ k = pow2_finer A2 h' in
      let w : 2 * 2 ^ j ≤ 2 ^ k = pow2_twice h in
      record {
        g = k;
        a = R.a + A2 * 2 ^ (i - k);
        b = R.b + A1 * 2 ^ (i - k);
        is = omega (arith, R.p_is, R.n_is);
        few = (omega (arith, R.lo, b_le), omega (arith, R.hi, b_le));
      }

  next_unit : i < R.k → R.k ≡ suc i
  next_unit h = le_antisymm (le_of_suc-le-suc (lt_of_not-le (λ (g : suc (suc i) ≤ R.k). far g))) h
    where
      far : suc (suc i) ≤ R.k → ⊥
      far g =
          let v : 2 ^ j ≤ 2 ^ i = pow_mono l in
          let w : 2 * (2 * 2 ^ i) ≤ 2 ^ R.k = le_trans (le_of_eq (ap (λ (z : ℕ). 2 * z) (sym (pow-succ' 2 i)))) (pow2_twice g) in
          elim R.least [
            | inl o ↦ lt_irrefl 0 (lt_of_le_of_lt zero-le (subst (λ (z : ℕ). i < z) o h))
            | inr (inl o) ↦ omega (arith, a_le, b_le, pow_pos i)
            | inr (inr o) ↦ omega (arith, a_le, b_le, pow_pos i)
          ]

  coarse_unit : i < R.k → Short (s1 + a2) (s2 + a1)
  coarse_unit h =
      let w : 2 ^ R.k ≡ 2 * 2 ^ i = ap (λ (z : ℕ). 2 ^ z) (next_unit h) ∙ pow-succ' 2 i in
      let x : R.a * 2 ^ R.k ≡ 2 * R.a * 2 ^ i = ap (λ (z : ℕ). R.a * z) w ∙ omega arith in
      let y : R.b * 2 ^ R.k ≡ 2 * R.b * 2 ^ i = ap (λ (z : ℕ). R.b * z) w ∙ omega arith in
      let v : 2 ^ j ≤ 2 ^ i = pow_mono l in
      record {
        g = i;
        a = 2 * R.a + A2;
        b = 2 * R.b + A1;
        is = omega (arith, R.p_is, R.n_is);
        few = (omega (arith, R.lo, b_le), omega (arith, R.hi, b_le));
      }

  pub difference_short : Short (s1 + a2) (s2 + a1)
  difference_short = elim (le_or_lt R.k j) [
    | inl h ↦ fine_unit h
    | inr h ↦ elim (le_or_lt R.k i) [ inl h' ↦ middle_unit h h' | inr h' ↦ coarse_unit h' ]
  ]

-- ---- p and c with their units, s = p + c and b = s - p, each rounded: s - b needs no rounding
module _ {p1 p2 c1 c2 s1 s2 b1 b2 : ℕ} (P : Grid p1 p2) (C : Grid c1 c2) (S : Near (p1 + c1) (p2 + c2) 1 s1 s2) (B : Near (s1 + p2) (s2 + p1) 1 b1 b2) where
  -- b is s - p
  back_exact : Short (s1 + p2) (s2 + p1) → Short (s1 + b2) (s2 + b1)
  back_exact h =
      let e : s1 + p2 + b2 ≡ s2 + p1 + b1 = unchanged B h in
      let f : p1 + p2 ≤ 2 ^ 53 * 2 ^ P.i = omega (arith, mul-le-mul_right (2 ^ P.i) P.few, P.p_is, P.n_is) in
      record { g = P.i; a = P.a; b = P.b; is = omega (arith, P.p_is, P.n_is); few = (omega arith, omega arith) }

  -- the sum is exact
  sum_exact : P.i < C.i → S.k ≤ P.i → Short (s1 + p2) (s2 + p1)
  sum_exact l h =
      let k = S.k in
      let i = P.i in
      let j = C.i in
      let x : P.a * 2 ^ i ≡ P.a * 2 ^ (i - k) * 2 ^ k = pow2_finer P.a h in
      let x' : P.b * 2 ^ i ≡ P.b * 2 ^ (i - k) * 2 ^ k = pow2_finer P.b h in
      let y : C.a * 2 ^ j ≡ C.a * 2 ^ (j - k) * 2 ^ k = pow2_finer C.a (le_trans h (le_of_lt l)) in
      let y' : C.b * 2 ^ j ≡ C.b * 2 ^ (j - k) * 2 ^ k = pow2_finer C.b (le_trans h (le_of_lt l)) in
      let e : p1 + c1 + s2 * 1 ≡ p2 + c2 + s1 * 1 =
      exact_at (pow_pos 0) S (P.a * 2 ^ (i - k) + C.a * 2 ^ (j - k)) (P.b * 2 ^ (i - k) + C.b * 2 ^ (j - k))
      (omega (arith, P.p_is, P.n_is, C.p_is, C.n_is)) in
      let f : c1 + c2 ≤ 2 ^ 53 * 2 ^ j = omega (arith, mul-le-mul_right (2 ^ j) C.few, C.p_is, C.n_is) in
      record { g = j; a = C.a; b = C.b; is = omega (arith, C.p_is, C.n_is); few = (omega arith, omega arith) }

  coarse_sum : P.i < S.k → Short (s1 + b2) (s2 + b1)
  coarse_sum h =
      let d =
      difference_short B S.k P.i S.a S.b P.b P.a S.p_is S.n_is P.n_is P.p_is S.few (omega (arith, P.few)) (le_of_lt h) in
      record { g = d.g; a = d.b; b = d.a; is = omega (arith, d.is); few = (omega (arith, d.few), omega (arith, d.few)) }

  pub rest_short : Short (s1 + b2) (s2 + b1)
  rest_short = elim (le_or_lt C.i P.i) [
    | inl h ↦
        back_exact
        (difference_short S P.i C.i P.a P.b C.a C.b P.p_is P.n_is C.p_is C.n_is (le_of_lt P.few) C.few h)
    | inr h ↦ elim (le_or_lt S.k P.i) [ inl h' ↦ back_exact (sum_exact h h') | inr h' ↦ coarse_sum h' ]
  ]

  -- ---- t = s - b and e = (p - t) + (c - b), each rounded
  module _ {t1 t2 v1 v2 w1 w2 e1 e2 : ℕ} (RT : Near (s1 + b2) (s2 + b1) 1 t1 t2) (RV : Near (p1 + t2) (p2 + t1) 1 v1 v2)
      (RW : Near (c1 + b2) (c2 + b1) 1 w1 w2) (RE : Near (v1 + w1) (v2 + w2) 1 e1 e2) where
    pub error_near : (h : ℕ) → p1 + p2 + (c1 + c2) ≤ 2 ^ 53 * h
        → (2 ^ 53 * (e1 + (p2 + c2 + s1)) ≤ 2 ^ 53 * (e2 + (p1 + c1 + s2)) + 7 * h)
        × (2 ^ 53 * (e2 + (p1 + c1 + s2)) ≤ 2 ^ 53 * (e1 + (p2 + c2 + s1)) + 7 * h)
    error_near h l =
        let t = unchanged RT rest_short in
        let d = relative_sum S (2 ^ 53 * h) (omega arith) (omega arith) in
        let b = relative_sum B (2 ^ 54 * h) (omega arith) (omega arith) in
        let v = relative_sum RV (2 * h) (omega arith) (omega arith) in
        let w = relative_sum RW (3 * h) (omega arith) (omega arith) in
        let e = relative_sum RE (2 * h) (omega arith) (omega arith) in
        (omega arith, omega arith)
