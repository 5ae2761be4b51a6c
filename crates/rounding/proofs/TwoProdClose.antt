-- Dekker's product where it is not exact: p + e is within 2 ^ 64 units of a b, as long as no product is above 2 ^ 110 units (`error_close`).
-- That is where al bl is no whole number of units, or a factor is subnormal. Each of the nine operations moves by its relative error:
-- the products by 2 ^ 57 + 1 units, the sums by 2 ^ 59, 2 ^ 60, 2 ^ 61 and 2 ^ 62.
use Prim.Native.Nat.{ℕ, ◌+◌, ◌*◌, ◌^◌, ◌≤◌, ◌<◌}
use native.Mathlib.Omega.{arith}
use lib.Dec.{lit≤}
use Rattle.rounding.specs.Diff.{Diff, ◌⊞◌, ◌⊟◌, ◌⊠◌, ◌⊡◌, ◌≈◌, Apart, SizeAtMost}
use Rattle.rounding.proofs.Diff.{within_cancel, within_sum, within_near, apart_times, product_split}
use Rattle.rounding.proofs.Moved.{Rounds, sum_moved, product_moved}

-- ---- a rounded product, and the partial sums. D is how many units a unit of the exact products is
product_near : (q x : Diff) (D : ℕ) → 0 < D → Rounds x D q → SizeAtMost x (2 ^ 110 * D) → Apart (q ⊡ D) x ((2 ^ 57 + 1) * D)
product_near q x D h R w = product_moved x q (2 ^ 57) D h R (omega arith, omega arith)

product_few : (q x : Diff) (D : ℕ) → 0 < D → Rounds x D q → SizeAtMost x (2 ^ 110 * D) → SizeAtMost q (2 ^ 111)
product_few q x D h R w =
    within_cancel q (2 ^ 111) D h
    (within_near (q ⊡ D) x ((2 ^ 57 + 1) * D) (2 ^ 110 * D) (2 ^ 111 * D) (product_near q x D h R w) w (room D))
  where
    room : (D : ℕ) → (2 ^ 57 + 1) * D + 2 ^ 110 * D ≤ 2 ^ 111 * D
    room D = omega arith

less_few : (x y : Diff) → SizeAtMost x (2 ^ 111) → SizeAtMost y (2 ^ 111) → SizeAtMost (x ⊟ y) (2 ^ 112)
less_few x y h k = (omega arith, omega arith)

-- a rounded sum x of y, and the next product z
next_few : (b c d : ℕ) (x y z : Diff) → Apart x y b → SizeAtMost y c → SizeAtMost z (2 ^ 111) → b + c + 2 ^ 111 ≤ d → SizeAtMost (x ⊞ z) d
next_few b c d x y z h k m l = within_sum x z (b + c) (2 ^ 111) d (within_near x y b c (b + c) h k (omega arith)) m l

sums_near : (qa qb qc ql p r s t e : Diff) → Apart r (qa ⊟ p) (2 ^ 59) → Apart s (r ⊞ qb) (2 ^ 60) → Apart t (s ⊞ qc) (2 ^ 61) → Apart e (t ⊞ ql) (2 ^ 62)
    → Apart (p ⊞ e) (qa ⊞ qb ⊞ qc ⊞ ql) (2 ^ 63)
sums_near qa qb qc ql p r s t e h i j k = (omega arith, omega arith)

all_near : (x y q a b c l : Diff) (D : ℕ) → x ≈ a ⊞ b ⊞ c ⊞ l → Apart y q (2 ^ 63 * D)
    → (qa qb qc ql : Diff) → q ≈ qa ⊞ qb ⊞ qc ⊞ ql → Apart qa a ((2 ^ 57 + 1) * D) → Apart qb b ((2 ^ 57 + 1) * D)
    → Apart qc c ((2 ^ 57 + 1) * D) → Apart ql l ((2 ^ 57 + 1) * D) → Apart y x (2 ^ 64 * D)
all_near x y q a b c l D e h qa qb qc ql f i j k m = (omega arith, omega arith)

module _ (D : ℕ) (D-pos : 0 < D) (a b ah al bh bl p qa qb qc ql r s t e : Diff) (a-is : a ≈ ah ⊞ al) (b-is : b ≈ bh ⊞ bl)
    (A-few : SizeAtMost (ah ⊠ bh) (2 ^ 110 * D)) (B-few : SizeAtMost (ah ⊠ bl) (2 ^ 110 * D)) (C-few : SizeAtMost (al ⊠ bh) (2 ^ 110 * D))
    (L-few : SizeAtMost (al ⊠ bl) (2 ^ 110 * D)) (T-few : SizeAtMost (a ⊠ b) (2 ^ 110 * D))
    (P : Rounds (a ⊠ b) D p) (QA : Rounds (ah ⊠ bh) D qa) (QB : Rounds (ah ⊠ bl) D qb) (QC : Rounds (al ⊠ bh) D qc) (QL : Rounds (al ⊠ bl) D ql)
    (R : Rounds (qa ⊟ p) 1 r) (S : Rounds (r ⊞ qb) 1 s) (T : Rounds (s ⊞ qc) 1 t) (E : Rounds (t ⊞ ql) 1 e) where
  -- each partial sum, before it is rounded
  qa_p_few : SizeAtMost (qa ⊟ p) (2 ^ 112)
  qa_p_few = less_few qa p (product_few qa (ah ⊠ bh) D D-pos QA A-few) (product_few p (a ⊠ b) D D-pos P T-few)

  r_near : Apart r (qa ⊟ p) (2 ^ 59)
  r_near = sum_moved (qa ⊟ p) r (2 ^ 59) R qa_p_few

  r_qb_few : SizeAtMost (r ⊞ qb) (2 ^ 113)
  r_qb_few = next_few (2 ^ 59) (2 ^ 112) (2 ^ 113) r (qa ⊟ p) qb r_near qa_p_few (product_few qb (ah ⊠ bl) D D-pos QB B-few) (lit≤ tt)

  s_near : Apart s (r ⊞ qb) (2 ^ 60)
  s_near = sum_moved (r ⊞ qb) s (2 ^ 60) S r_qb_few

  s_qc_few : SizeAtMost (s ⊞ qc) (2 ^ 114)
  s_qc_few = next_few (2 ^ 60) (2 ^ 113) (2 ^ 114) s (r ⊞ qb) qc s_near r_qb_few (product_few qc (al ⊠ bh) D D-pos QC C-few) (lit≤ tt)

  t_near : Apart t (s ⊞ qc) (2 ^ 61)
  t_near = sum_moved (s ⊞ qc) t (2 ^ 61) T s_qc_few

  t_ql_few : SizeAtMost (t ⊞ ql) (2 ^ 115)
  t_ql_few = next_few (2 ^ 61) (2 ^ 114) (2 ^ 115) t (s ⊞ qc) ql t_near s_qc_few (product_few ql (al ⊠ bl) D D-pos QL L-few) (lit≤ tt)

  e_near : Apart e (t ⊞ ql) (2 ^ 62)
  e_near = sum_moved (t ⊞ ql) e (2 ^ 62) E t_ql_few

  pub error_close : Apart ((p ⊞ e) ⊡ D) (a ⊠ b) (2 ^ 64 * D)
  error_close =
      all_near (a ⊠ b) ((p ⊞ e) ⊡ D) ((qa ⊞ qb ⊞ qc ⊞ ql) ⊡ D) (ah ⊠ bh) (ah ⊠ bl) (al ⊠ bh) (al ⊠ bl) D (product_split a b ah al bh bl a-is b-is)
      (apart_times (p ⊞ e) (qa ⊞ qb ⊞ qc ⊞ ql) (2 ^ 63) D (sums_near qa qb qc ql p r s t e r_near s_near t_near e_near))
      (qa ⊡ D) (qb ⊡ D) (qc ⊡ D) (ql ⊡ D) (omega arith)
      (product_near qa (ah ⊠ bh) D D-pos QA A-few) (product_near qb (ah ⊠ bl) D D-pos QB B-few)
      (product_near qc (al ⊠ bh) D D-pos QC C-few) (product_near ql (al ⊠ bl) D D-pos QL L-few)
