-- The rounding error of a product, as `product_error` works it out, is the true one within 2 ^ 64 units: |p + e - a b| ≤ 2 ^ 64 (`product_num`).
-- a = A U and b = B W full, where U W is a whole number of units: with A = 2 ^ 27 H + L and B = 2 ^ 27 G + M all eight operations after the product are exact,
-- and so is the error. Otherwise, exponents being too low or a factor below 2 ^ 52 units, |a b| ≤ 2 ^ 106 units: each operation goes by its relative error, in
-- all by less than 2 ^ 64 units.
use mathlib.Core.Path.{◌≡◌, sym, ap, ◌∙◌, subst}
use mathlib.Core.Logic.{◌⊎◌, inl, inr}
use Prim.Native.Nat.{ℕ, ◌+◌, ◌-◌, ◌*◌, ◌^◌, ◌≤◌, ◌<◌}
use native.Mathlib.Nat.{le_trans, le_of_eq, le_of_lt, le_of_mul-le-mul_right, mul-le-mul_right, mul-le-mul_left, mul-le-mul}
use native.Mathlib.Nat.{add_comm, mul_assoc, mul_comm, zero-mul, mul-zero, mul_left_comm}
use native.Mathlib.Omega.{arith}
use lib.Dec.{lit≤}
use lib.Pow.{pow-add, pow_mono}
use lib.Ieee.{Float, binary64, mul}
use Rattle.algebra.specs.NatOrder.{le_or_lt, pow2_split}
use Rattle.rounding.specs.Units.{one_units}
use Rattle.rounding.specs.Diff.{Diff, ◌⊞◌, ◌⊟◌, ◌⊠◌, ◌⊡◌, ◌≈◌, Apart, SizeAtMost, magnitude}
use Rattle.rounding.proofs.Value.{one_pos, one_large}
use Rattle.rounding.proofs.Exact.{restated}
use Rattle.rounding.proofs.Diff.{same_parts, within_le, product_within, product_units, product_split}
use Rattle.rounding.proofs.Moved.{Rounds}
use Rattle.rounding.proofs.Split.{Full}
use Rattle.rounding.proofs.TwoProd.{error_exact}
use Rattle.rounding.proofs.TwoProdClose.{error_close}
use Rattle.rounding.proofs.Num.{Num, Op, sized, add_num, sub_num, mul_num, weaken, resize}
use Rattle.horner.specs.Product.{product_error}
use Rattle.accuracy.proofs.Parts.{hi_bound, lo_bound, Pieces, pieces, Cut, digits_of, Loose, loose_full, parted}

-- ---- the operations of `product_error`, on the parts of a and b
record Chain (a b ah al bh bl p e : Diff) : Type 0 where
  qa : Diff
  qb : Diff
  qc : Diff
  ql : Diff
  r : Diff
  s : Diff
  t : Diff
  P : Rounds (a ⊠ b) one_units p
  QA : Rounds (ah ⊠ bh) one_units qa
  QB : Rounds (ah ⊠ bl) one_units qb
  QC : Rounds (al ⊠ bh) one_units qc
  QL : Rounds (al ⊠ bl) one_units ql
  R : Rounds (qa ⊟ p) 1 r
  S : Rounds (r ⊞ qb) 1 s
  T : Rounds (s ⊞ qc) 1 t
  E : Rounds (t ⊞ ql) 1 e

-- ---- products by digits
-- a product of two multiples, by the unit 2 ^ g of the product
in_units : (x y a b q : Diff) (K L g : ℕ) → K * L ≡ 2 ^ g * one_units → x ≈ a ⊡ K → y ≈ b ⊡ L → Rounds (x ⊠ y) one_units q → Rounds ((a ⊠ b) ⊡ 2 ^ g) 1 q
in_units x y a b q K L g k e f R =
    restated ((a ⊠ b).p * 2 ^ g) ((a ⊠ b).n * 2 ^ g) one_pos
    (ap (λ (z : ℕ). (x ⊠ y).p + z) (mul_assoc (a ⊠ b).n (2 ^ g) one_units)
    ∙ subst (λ (z : ℕ). (x ⊠ y).p + (a ⊠ b).n * z ≡ (x ⊠ y).n + (a ⊠ b).p * z) k (product_units x y a b K L e f)
    ∙ ap (λ (z : ℕ). (x ⊠ y).n + z) (sym (mul_assoc (a ⊠ b).p (2 ^ g) one_units))) R

digit_split : (A B H L G M : Diff) → A ≈ H ⊡ 2 ^ 27 ⊞ L → B ≈ G ⊡ 2 ^ 27 ⊞ M
    → A ⊠ B ≈ (H ⊠ G) ⊡ 2 ^ 54 ⊞ (H ⊠ M) ⊡ 2 ^ 27 ⊞ (L ⊠ G) ⊡ 2 ^ 27 ⊞ L ⊠ M
digit_split A B H L G M e f = let s = product_split A B (H ⊡ 2 ^ 27) L (G ⊡ 2 ^ 27) M e f in omega arith

unit_split : (π α β γ μ : Diff) (Z X Y : ℕ) → Y ≡ 2 ^ 54 * Z → X ≡ 2 ^ 27 * Z
    → π ≈ α ⊡ 2 ^ 54 ⊞ β ⊡ 2 ^ 27 ⊞ γ ⊡ 2 ^ 27 ⊞ μ → π ⊡ Z ≈ α ⊡ Y ⊞ β ⊡ X ⊞ γ ⊡ X ⊞ μ ⊡ Z
unit_split π α β γ μ Z X Y y x e =
    subst (λ (W : ℕ). π ⊡ Z ≈ α ⊡ W ⊞ β ⊡ X ⊞ γ ⊡ X ⊞ μ ⊡ Z) (sym y)
    (subst (λ (W : ℕ). π ⊡ Z ≈ α ⊡ (2 ^ 54 * Z) ⊞ β ⊡ W ⊞ γ ⊡ W ⊞ μ ⊡ Z) (sym x) (go π α β γ μ Z e))
  where
    go : (π α β γ μ : Diff) (Z : ℕ) → π ≈ α ⊡ 2 ^ 54 ⊞ β ⊡ 2 ^ 27 ⊞ γ ⊡ 2 ^ 27 ⊞ μ
        → π ⊡ Z ≈ α ⊡ (2 ^ 54 * Z) ⊞ β ⊡ (2 ^ 27 * Z) ⊞ γ ⊡ (2 ^ 27 * Z) ⊞ μ ⊡ Z
    go π α β γ μ Z e = omega (arith, ap (λ (z : ℕ). z * Z) e)

digits_few : {x1 x2 : ℕ} (F : Full x1 x2) → SizeAtMost (digits_of F) (2 ^ 53)
digits_few F = (omega (arith, F.few), omega (arith, F.few))

digits_are : {x : Diff} (F : Full x.p x.n) → x ≈ digits_of F ⊡ 2 ^ F.i
digits_are {x} F = same_parts x.p x.n (F.a * 2 ^ F.i) (F.b * 2 ^ F.i) F.p_is F.n_is

-- the sign and the size of a product of full numbers
product_many : {x1 x2 y1 y2 : ℕ} (F : Full x1 x2) (G : Full y1 y2) → let π = digits_of F ⊠ digits_of G in (2 ^ 104 + π.n ≤ π.p) ⊎ (2 ^ 104 + π.p ≤ π.n)
product_many F G = elim F.many [
  | inl f ↦ elim G.many [
    | inl g ↦ inl (many F.a F.b G.a G.b f.0 g.0 f.1 g.1)
    | inr g ↦ inr (many F.a F.b G.b G.a f.0 g.0 f.1 g.1)
  ]
  | inr f ↦ elim G.many [
    | inl g ↦ inr (many' F.b F.a G.a G.b f.0 g.0 f.1 g.1)
    | inr g ↦ inl (many' F.b F.a G.b G.a f.0 g.0 f.1 g.1)
  ]
]
  where
    many : (a b c d : ℕ) → b ≡ 0 → d ≡ 0 → 2 ^ 52 ≤ a → 2 ^ 52 ≤ c → 2 ^ 104 + (a * d + b * c) ≤ a * c + b * d
    many a b c d x y h k =
        let m : 2 ^ 52 * 2 ^ 52 ≤ a * c = mul-le-mul h k in
        let z : b * c ≡ 0 = ap (λ (v : ℕ). v * c) x ∙ zero-mul c in
        let w : a * d ≡ 0 = ap (λ (v : ℕ). a * v) y ∙ mul-zero a in
        omega arith

    many' : (a b c d : ℕ) → b ≡ 0 → d ≡ 0 → 2 ^ 52 ≤ a → 2 ^ 52 ≤ c → 2 ^ 104 + (b * c + a * d) ≤ b * d + a * c
    many' a b c d x y h k = let r = many a b c d x y h k in omega arith

-- ---- full numbers whose product is a whole number of units: the error is exact
module _ (a b ah al bh bl p e : Diff) (Ch : Chain a b ah al bh bl p e) (F : Full a.p a.n) (G : Full b.p b.n)
    (CF : Cut (digits_of F) ah al (2 ^ F.i)) (CG : Cut (digits_of G) bh bl (2 ^ G.i)) (z : ℕ) (unit : 2 ^ F.i * 2 ^ G.i ≡ 2 ^ z * one_units) where
  unit_times : (j : ℕ) → 2 ^ j * (2 ^ F.i * 2 ^ G.i) ≡ 2 ^ (j + z) * one_units
  unit_times j = ap (λ (x : ℕ). 2 ^ j * x) unit ∙ sym (mul_assoc (2 ^ j) (2 ^ z) one_units) ∙ ap (λ (x : ℕ). x * one_units) (sym (pow-add 2 j z))

  unit54 : 2 ^ 27 * 2 ^ F.i * (2 ^ 27 * 2 ^ G.i) ≡ 2 ^ (54 + z) * one_units
  unit54 = regroup (2 ^ F.i) (2 ^ G.i) ∙ unit_times 54
    where
      regroup : (u v : ℕ) → 2 ^ 27 * u * (2 ^ 27 * v) ≡ 2 ^ 54 * (u * v)
      regroup u v = omega arith

  digits_exact : digits_of F ⊠ digits_of G ⊡ 2 ^ z ≈ p ⊞ e
  digits_exact =
      let HH = CF.H ⊠ CG.H in
      let HL = CF.H ⊠ CG.L in
      let LH = CF.L ⊠ CG.H in
      let LL = CF.L ⊠ CG.L in
      error_exact z HH HL LH LL (digits_of F ⊠ digits_of G) p Ch.qa Ch.qb Ch.qc Ch.ql Ch.r Ch.s Ch.t e
      (unit_split (digits_of F ⊠ digits_of G) HH HL LH LL (2 ^ z) (2 ^ (27 + z)) (2 ^ (54 + z)) (pow-add 2 54 z) (pow-add 2 27 z)
      (digit_split (digits_of F) (digits_of G) CF.H CF.L CG.H CG.L CF.whole CG.whole))
      (within_le HH (2 ^ 52) (2 ^ 53) (lit≤ tt) (product_within CF.H CG.H (2 ^ 26) (2 ^ 26) CF.H_few CG.H_few))
      (within_le HL (2 ^ 52) (3 * 2 ^ 51) (lit≤ tt) (product_within CF.H CG.L (2 ^ 26) (2 ^ 26) CF.H_few CG.L_few))
      (within_le LH (2 ^ 52) (3 * 2 ^ 51) (lit≤ tt) (product_within CF.L CG.H (2 ^ 26) (2 ^ 26) CF.L_few CG.H_few))
      (product_within CF.L CG.L (2 ^ 26) (2 ^ 26) CF.L_few CG.L_few)
      (product_within (digits_of F) (digits_of G) (2 ^ 53) (2 ^ 53) (digits_few F) (digits_few G))
      (product_many F G)
      (in_units a b (digits_of F) (digits_of G) p (2 ^ F.i) (2 ^ G.i) z unit (digits_are F) (digits_are G) Ch.P)
      (in_units ah bh CF.H CG.H Ch.qa (2 ^ 27 * 2 ^ F.i) (2 ^ 27 * 2 ^ G.i) (54 + z) unit54 CF.hi CG.hi Ch.QA)
      (in_units ah bl CF.H CG.L Ch.qb (2 ^ 27 * 2 ^ F.i) (2 ^ G.i) (27 + z) (mul_assoc (2 ^ 27) (2 ^ F.i) (2 ^ G.i) ∙ unit_times 27)
      CF.hi CG.lo Ch.QB)
      (in_units al bh CF.L CG.H Ch.qc (2 ^ F.i) (2 ^ 27 * 2 ^ G.i) (27 + z) (mul_left_comm (2 ^ F.i) (2 ^ 27) (2 ^ G.i) ∙ unit_times 27)
      CF.lo CG.hi Ch.QC)
      (in_units al bl CF.L CG.L Ch.ql (2 ^ F.i) (2 ^ G.i) z unit CF.lo CG.lo Ch.QL)
      Ch.R Ch.S Ch.T Ch.E

  exact_close : Apart ((p ⊞ e) ⊡ one_units) (a ⊠ b) (2 ^ 64 * one_units)
  exact_close =
      let s = product_units a b (digits_of F) (digits_of G) (2 ^ F.i) (2 ^ G.i) (digits_are F) (digits_are G) in
      equal ((p ⊞ e) ⊡ one_units) (a ⊠ b) (2 ^ 64 * one_units)
      (chained (a ⊠ b) (digits_of F ⊠ digits_of G) (p ⊞ e) (2 ^ F.i * 2 ^ G.i) (2 ^ z) one_units unit s digits_exact)
    where
      chained : (x π q : Diff) (W Z s : ℕ) → W ≡ Z * s → x ≈ π ⊡ W → π ⊡ Z ≈ q → x ≈ q ⊡ s
      chained x π q W Z s w e f = omega (arith, ap (λ (y : ℕ). π.p * y) w, ap (λ (y : ℕ). π.n * y) w, ap (λ (y : ℕ). y * s) f)

      equal : (x y : Diff) (b : ℕ) → y ≈ x → Apart x y b
      equal x y b e = (omega arith, omega arith)

-- ---- the error is close wherever sizes X and Y of a and b have a product of no more than 2 ^ 106 units
loose_close : (a b ah al bh bl p e : Diff) (X Y : ℕ) → Chain a b ah al bh bl p e → Loose a ah al X → Loose b bh bl Y → X * Y ≤ 2 ^ 106 * one_units
    → Apart ((p ⊞ e) ⊡ one_units) (a ⊠ b) (2 ^ 64 * one_units)
loose_close a b ah al bh bl p e X Y Ch A B h =
    error_close one_units one_pos a b ah al bh bl p Ch.qa Ch.qb Ch.qc Ch.ql Ch.r Ch.s Ch.t e A.whole B.whole
    (within (ah ⊠ bh) (product_within ah bh (3 * X) (3 * Y) A.high B.high))
    (within (ah ⊠ bl) (product_within ah bl (3 * X) (3 * Y) A.high B.low))
    (within (al ⊠ bh) (product_within al bh (3 * X) (3 * Y) A.low B.high))
    (within (al ⊠ bl) (product_within al bl (3 * X) (3 * Y) A.low B.low))
    (within_le (a ⊠ b) (X * Y) (2 ^ 110 * one_units) (le_trans h (mul-le-mul_right one_units (lit≤ tt))) (product_within a b X Y A.self B.self))
    Ch.P Ch.QA Ch.QB Ch.QC Ch.QL Ch.R Ch.S Ch.T Ch.E
  where
    nine : 3 * X * (3 * Y) ≤ 2 ^ 110 * one_units
    nine = go (X * Y) (3 * X * (3 * Y)) one_units (omega arith) h
      where
        go : (m n s : ℕ) → n ≡ 9 * m → m ≤ 2 ^ 106 * s → n ≤ 2 ^ 110 * s
        go m n s e h = omega arith

    within : (x : Diff) → SizeAtMost x (3 * X * (3 * Y)) → SizeAtMost x (2 ^ 110 * one_units)
    within x h = within_le x (3 * X * (3 * Y)) (2 ^ 110 * one_units) nine h

-- ---- every case
units_meet : (i j : ℕ) → 1074 ≤ i + j → 2 ^ i * 2 ^ j ≡ 2 ^ (i + j - 1074) * one_units
unfolding one_units
units_meet i j h = sym (pow-add 2 i j) ∙ pow2_split h

units_miss : (i j : ℕ) → i + j < 1074 → 2 ^ 53 * 2 ^ i * (2 ^ 53 * 2 ^ j) ≤ 2 ^ 106 * one_units
unfolding one_units
units_miss i j h =
    le_trans (le_of_eq (regroup (2 ^ i) (2 ^ j))) (mul-le-mul_left (2 ^ 106) (le_trans (le_of_eq (sym (pow-add 2 i j))) (pow_mono (le_of_lt h))))
  where
    regroup : (u v : ℕ) → 2 ^ 53 * u * (2 ^ 53 * v) ≡ 2 ^ 106 * (u * v)
    regroup u v = omega arith

-- a full number's unit, by its size
full_size : {x1 x2 : ℕ} (F : Full x1 x2) (k : ℕ) → x1 + x2 ≤ k * one_units → k ≤ 2 ^ 20 → 2 ^ 53 * 2 ^ F.i ≤ 2 ^ 21 * one_units
full_size {x1} {x2} F k h l =
    let m : 2 ^ 52 ≤ F.a + F.b = elim F.many [ inl o ↦ omega (arith, o.1) | inr o ↦ omega (arith, o.1) ] in
    go (x1 + x2) (F.a + F.b) (2 ^ F.i) k one_units (omega (arith, F.p_is, F.n_is)) (mul-le-mul_right (2 ^ F.i) m) h (mul-le-mul_right one_units l)
  where
    go : (x a U k s : ℕ) → x ≡ a * U → 2 ^ 52 * U ≤ a * U → x ≤ k * s → k * s ≤ 2 ^ 20 * s → 2 ^ 53 * U ≤ 2 ^ 21 * s
    go x a U k s e f h l = omega arith

mixed : (X Y s : ℕ) → X ≤ 2 ^ 21 * s → Y < 2 ^ 52 → X * Y ≤ 2 ^ 106 * s
mixed X Y s h l = le_trans (mul-le-mul h (le_of_lt l)) (go s)
  where
    go : (s : ℕ) → 2 ^ 21 * s * 2 ^ 52 ≤ 2 ^ 106 * s
    go s = omega arith

tiny : (X Y s : ℕ) → 0 < s → X < 2 ^ 52 → Y < 2 ^ 52 → X * Y ≤ 2 ^ 106 * s
tiny X Y s p h l = le_trans (mul-le-mul (le_of_lt h) (le_of_lt l)) (go s p)
  where
    go : (s : ℕ) → 0 < s → 2 ^ 52 * 2 ^ 52 ≤ 2 ^ 106 * s
    go s p = omega arith

module _ {a b ha la hb lb : Float} {k l : ℕ} (A : Num a k) (B : Num b l) (k-few : k ≤ 2 ^ 20) (l-few : l ≤ 2 ^ 20)
    (PA : Pieces A.v ha la k) (PB : Pieces B.v hb lb l) (p e : Diff) (Ch : Chain A.v B.v PA.hi.v PA.lo.v PB.hi.v PB.lo.v p e) where
  loosely : (X Y : ℕ) → Loose A.v PA.hi.v PA.lo.v X → Loose B.v PB.hi.v PB.lo.v Y → X * Y ≤ 2 ^ 106 * one_units
      → Apart ((p ⊞ e) ⊡ one_units) (A.v ⊠ B.v) (2 ^ 64 * one_units)
  loosely X Y = loose_close A.v B.v PA.hi.v PA.lo.v PB.hi.v PB.lo.v p e X Y Ch

  product_close : Apart ((p ⊞ e) ⊡ one_units) (A.v ⊠ B.v) (2 ^ 64 * one_units)
  product_close = elim (parted A PA) [
    | inl (F, c) ↦ elim (parted B PB) [
      | inl (G, g) ↦ elim (le_or_lt 1074 (F.i + G.i)) [
        | inl m ↦
            exact_close A.v B.v PA.hi.v PA.lo.v PB.hi.v PB.lo.v p e Ch F G c g (F.i + G.i - 1074) (units_meet F.i G.i m)
        | inr m ↦ loosely (2 ^ 53 * 2 ^ F.i) (2 ^ 53 * 2 ^ G.i) (loose_full F c) (loose_full G g) (units_miss F.i G.i m)
      ]
      | inr (t, y) ↦
          loosely (2 ^ 53 * 2 ^ F.i) (magnitude B.v) (loose_full F c) y
          (mixed (2 ^ 53 * 2 ^ F.i) (magnitude B.v) one_units (full_size F k A.bound k-few) t)
    ]
    | inr (s, x) ↦ elim (parted B PB) [
      | inl (G, g) ↦
          loosely (magnitude A.v) (2 ^ 53 * 2 ^ G.i) x (loose_full G g)
          (le_trans (le_of_eq (mul_comm (magnitude A.v) (2 ^ 53 * 2 ^ G.i)))
          (mixed (2 ^ 53 * 2 ^ G.i) (magnitude A.v) one_units (full_size G l B.bound l-few) s))
      | inr (t, y) ↦ loosely (magnitude A.v) (magnitude B.v) x y (tiny (magnitude A.v) (magnitude B.v) one_units one_pos s t)
    ]
  ]

-- ---- `mul` and `product_error`, of values of sizes k and l at most
pub record ProductError (a b : Float) (x : Diff) (k l : ℕ) : Type 0 where
  pub prod : Op (mul binary64 a b) (2 * (k * l) + 1) x one_units
  pub err : Num (product_error a b (mul binary64 a b)) (3 * (k * l) + 3)
  pub close : Apart ((prod.result.v ⊞ err.v) ⊡ one_units) x (2 ^ 64 * one_units)

pub product_num : {a b : Float} {k l : ℕ} (A : Num a k) (B : Num b l) → k ≤ 2 ^ 20 → l ≤ 2 ^ 20 → ProductError a b (A.v ⊠ B.v) k l
unfolding product_error
product_num {a} {b} {k} {l} A B h m =
    let kl : k * l ≤ 2 ^ 40 = mul-le-mul h m in
    let PA = pieces A (le_trans h (lit≤ tt)) in
    let PB = pieces B (le_trans m (lit≤ tt)) in
    let ah = weaken (2 ^ 51) (high_size k h) PA.hi in
    let al = weaken (2 ^ 52) (low_size k h) PA.lo in
    let bh = weaken (2 ^ 51) (high_size l m) PB.hi in
    let bl = weaken (2 ^ 52) (low_size l m) PB.lo in
    let p = mul_num A B (le_trans kl (lit≤ tt)) in
    let qa = mul_num ah bh (lit≤ tt) in
    let qb = mul_num ah bl (lit≤ tt) in
    let qc = mul_num al bh (lit≤ tt) in
    let ql = mul_num al bl (lit≤ tt) in
    let r = sub_num qa.result (weaken (2 ^ 42) (product_size k l kl) p.result) (lit≤ tt) in
    let s = add_num r.result qb.result (lit≤ tt) in
    let t = add_num s.result qc.result (lit≤ tt) in
    let e = add_num t.result ql.result (lit≤ tt) in
    let c : Apart ((p.result.v ⊞ e.result.v) ⊡ one_units) (A.v ⊠ B.v) (2 ^ 64 * one_units) =
    product_close A B h m PA PB p.result.v e.result.v (record {
      qa = qa.result.v;
      qb = qb.result.v;
      qc = qc.result.v;
      ql = ql.result.v;
      r = r.result.v;
      s = s.result.v;
      t = t.result.v;
      P = p.rounds;
      QA = qa.rounds;
      QB = qb.rounds;
      QC = qc.rounds;
      QL = ql.rounds;
      R = r.rounds;
      S = s.rounds;
      T = t.rounds;
      E = e.rounds;
    }) in
    record {
      prod = p;
      err = resize (3 * (k * l) + 3) e
          (error_size (A.v ⊠ B.v) p.result.v e.result.v k l one_units one_pos one_large
          (product_within A.v B.v (k * one_units) (l * one_units) (sized A) (sized B)) p.result.bound c);
      close = c;
    }
  where
    high_size : (k : ℕ) → k ≤ 2 ^ 20 → hi_bound k ≤ 2 ^ 51
    high_size k h = omega arith

    low_size : (k : ℕ) → k ≤ 2 ^ 20 → lo_bound k ≤ 2 ^ 52
    low_size k h = omega arith

    product_size : (k l : ℕ) → k * l ≤ 2 ^ 40 → 2 * (k * l) + 1 ≤ 2 ^ 42
    product_size k l h = omega arith

    error_size : (x p e : Diff) (k l s : ℕ) → 0 < s → 2 ^ 64 ≤ s → SizeAtMost x (k * s * (l * s)) → magnitude p ≤ (2 * (k * l) + 1) * s
        → Apart ((p ⊞ e) ⊡ s) x (2 ^ 64 * s) → SizeAtMost e ((3 * (k * l) + 3) * s)
    error_size x p e k l s S b X P c = (
      half x.p x.n p.p p.n e.p e.n (mul-le-mul_right s b) X.0 (mul-le-mul_right s P) c.0,
      half x.n x.p p.n p.p e.n e.p (mul-le-mul_right s b) X.1 (mul-le-mul_right s (le_trans (le_of_eq (add_comm p.n p.p)) P)) c.1,
    )
      where
        half : (x y p q e f : ℕ) → 2 ^ 64 * s ≤ s * s → x ≤ y + k * s * (l * s) → (p + q) * s ≤ (2 * (k * l) + 1) * s * s
            → (p + e) * s + y ≤ (q + f) * s + x + 2 ^ 64 * s → e ≤ f + (3 * (k * l) + 3) * s
        half x y p q e f b X P c = le_of_mul-le-mul_right (omega arith) S
