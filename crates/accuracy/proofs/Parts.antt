-- A double in the two parts that `two_prod` takes, hi = `split_high` x and lo = x - hi: they add up to x, and where x has all of its 53 digits in use, each
-- part has 26. x = X U with U = 2 ^ i units and 2 ^ 52 ≤ |X| < 2 ^ 53 (`Full`): hi = H 2 ^ 27 U and lo = L U, with X = 2 ^ 27 H + L and |H|, |L| ≤ 2 ^ 26
-- (`Cut`). Else x is below 2 ^ 52 units, and neither part is above 3 |x| (`Loose`). The argument on the four roundings is that of rounding's Split.
use mathlib.Core.Path.{◌≡◌, refl, sym, ap, ◌∙◌, subst}
use mathlib.Core.Logic.{◌⊎◌, inl, inr}
use Prim.Native.Nat.{ℕ, ◌+◌, ◌-◌, ◌*◌, ◌^◌, ◌≤◌, ◌<◌}
use native.Mathlib.Nat.{le_trans, le_of_eq, le_of_lt, lt_of_lt_of_le, le_of_mul-le-mul_right, mul-le-mul_right}
use native.Mathlib.Nat.{mul_assoc, mul_comm, zero-mul, eq-zero-or-pos, eq_of_mul-eq-mul_right}
use native.Mathlib.Omega.{arith}
use lib.Dec.{T, lit<}
use lib.Pow.{pow-add, pow_pos, pow_mono, shl_lt}
use lib.IntN.{pos}
use lib.Ieee.{Float, binary64, size, sub, fits, of_bits}
use lib.Ieee.Digits.{size-lt, size_reaches, size-le}
use Rattle.algebra.specs.NatOrder.{le_or_lt, pow2_split}
use Rattle.float.specs.Literals.{split64}
use Rattle.rounding.specs.Units.{one_units}
use Rattle.rounding.specs.Diff.{Diff, ◌⊞◌, ◌⊟◌, ◌⊡◌, ◌≈◌, SizeAtMost, magnitude}
use Rattle.rounding.proofs.Value.{one_pos, Val, plus_sign, minus_sign, Grid, on_grid}
use Rattle.rounding.proofs.Exact.{restated}
use Rattle.rounding.proofs.Diff.{same_parts, within_magnitude}
use Rattle.rounding.proofs.Moved.{Rounds}
use Rattle.rounding.proofs.Split.{Full, halves, small_whole, small_high, small_low}
use Rattle.rounding.proofs.Num.{Num, sub_num, mul_num}
use Rattle.horner.specs.Product.{split_high}

-- ---- a number of at most 53 digits at the unit 2 ^ i has all 53 digits at a finer unit, or is below 2 ^ 52
record Digits (x : ℕ) : Type 0 where
  i : ℕ
  a : ℕ
  is : x ≡ a * 2 ^ i
  few : a < 2 ^ 53
  many : 2 ^ 52 ≤ a

normal : (m i : ℕ) → m < 2 ^ 53 → (m * 2 ^ i < 2 ^ 52) ⊎ Digits (m * 2 ^ i)
normal m i h = elim (eq-zero-or-pos m) [
  | inl o ↦ inl (subst (λ (z : ℕ). z < 2 ^ 52) (sym (ap (λ (z : ℕ). z * 2 ^ i) o ∙ zero-mul (2 ^ i))) (lit< tt))
  | inr o ↦ elim (le_or_lt (53 - size m) i) [
    | inl l ↦
        let j = 53 - size m in
        inr (record {
          i = i - j;
          a = m * 2 ^ j;
          is = ap (λ (z : ℕ). m * z) (pow2_split l ∙ mul_comm (2 ^ (i - j)) (2 ^ j)) ∙ sym (mul_assoc m (2 ^ j) (2 ^ (i - j)));
          few = lt_of_lt_of_le (shl_lt (size m) j (size-lt m)) (pow_mono (le_of_eq (whole (size m) (size-le m 53 h))));
          many = le_trans (pow_mono (reach (size m) (size-le m 53 h) (positive o)))
              (le_trans (le_of_eq (pow-add 2 (size m - 1) j)) (mul-le-mul_right (2 ^ j) (size_reaches m (size m - 1) (pred (size m) (positive o)))));
        })
    | inr l ↦ inl (lt_of_lt_of_le (shl_lt (size m) i (size-lt m)) (pow_mono (short (size m) i l)))
  ]
]
  where
    whole : (z : ℕ) → z ≤ 53 → z + (53 - z) ≡ 53
    whole z h = omega arith

    reach : (z : ℕ) → z ≤ 53 → 0 < z → 52 ≤ z - 1 + (53 - z)
    reach z h l = omega arith

    pred : (z : ℕ) → 0 < z → z - 1 < z
    pred z h = omega arith

    short : (z i : ℕ) → i < 53 - z → z + i ≤ 52
    short z i h = omega arith

    positive : 0 < m → 0 < size m
    positive o = elim (eq-zero-or-pos (size m)) [ inl z ↦ absurd (none (lt_of_lt_of_le (size-lt m) (le_of_eq (ap (λ (s : ℕ). 2 ^ s) z)))) | inr z ↦ z ]
      where
        none : m < 1 → ⊥
        none g = omega arith

full_or_small : {x : Float} {p n : ℕ} → T (fits binary64 x) → Val x p n → Full p n ⊎ (p + n < 2 ^ 52)
full_or_small F X = go (on_grid F X) X
  where
    go : {x : Float} {p n : ℕ} → Grid p n → Val x p n → Full p n ⊎ (p + n < 2 ^ 52)
    go G (plus_sign {p = p} h) = elim (normal G.a G.i (omega (arith, G.few))) [
      | inl o ↦ inr (omega (arith, G.p_is))
      | inr d ↦ inl (record {
        i = d.i;
        a = d.a;
        b = 0;
        p_is = G.p_is ∙ d.is;
        n_is = sym (zero-mul (2 ^ d.i));
        few = omega (arith, d.few);
        many = inl (refl, d.many);
      })
    ]
    go G (minus_sign {n = n} h) = elim (normal G.b G.i (omega (arith, G.few))) [
      | inl o ↦ inr (omega (arith, G.n_is))
      | inr d ↦ inl (record {
        i = d.i;
        a = 0;
        b = d.a;
        p_is = sym (zero-mul (2 ^ d.i));
        n_is = G.n_is ∙ d.is;
        few = omega (arith, d.few);
        many = inr (refl, d.many);
      })
    ]

-- ---- the four roundings that give the parts. 134217729 is 2 ^ 27 + 1
split_num : Num split64 134217729
unfolding of_bits
split_num =
    record {
      v = record { p = 134217729 * one_units; n = 0 };
      is = plus_sign {m = 134217729} {p = 134217729 * one_units} {e = pos 0} (omega arith);
      held = unfold fits in tt;
      bound = le_of_eq (omega arith);
    }

-- how large c = (2 ^ 27 + 1) x, w = c - x, hi = c - w and lo = x - hi are, where x is at most k
abbrev c_bound : ℕ → ℕ
c_bound k = 2 * (134217729 * k) + 1

abbrev w_bound : ℕ → ℕ
w_bound k = 2 * (c_bound k + k)

abbrev pub hi_bound : ℕ → ℕ
hi_bound k = 2 * (c_bound k + w_bound k)

abbrev pub lo_bound : ℕ → ℕ
lo_bound k = 2 * (k + hi_bound k)

-- the parts' values, and how they came about
pub record Pieces (x : Diff) (h l : Float) (k : ℕ) : Type 0 where
  pub hi : Num h (hi_bound k)
  pub lo : Num l (lo_bound k)
  c : Diff
  w : Diff
  C : Rounds (x ⊡ 134217729) 1 c
  W : Rounds (c ⊟ x) 1 w
  H : Rounds (c ⊟ w) 1 hi.v
  L : Rounds (x ⊟ hi.v) 1 lo.v

pub pieces : {x : Float} {k : ℕ} (X : Num x k) → k ≤ 2 ^ 30 → Pieces X.v (split_high x) (sub binary64 x (split_high x)) k
unfolding split_high split_num
pieces {x} {k} X h =
    let c = mul_num split_num X (c_room k h) in
    let w = sub_num c.result X (w_room k h) in
    let hi = sub_num c.result w.result (hi_room k h) in
    let lo = sub_num X hi.result (lo_room k h) in
    record {
      hi = hi.result;
      lo = lo.result;
      c = c.result.v;
      w = w.result.v;
      C = restated (X.v.p * 134217729) (X.v.n * 134217729) one_pos (same X.v.p X.v.n one_units) c.rounds;
      W = w.rounds;
      H = hi.rounds;
      L = lo.rounds;
    }
  where
    c_room : (k : ℕ) → k ≤ 2 ^ 30 → 134217729 * k ≤ 2 ^ 118
    c_room k h = omega arith

    w_room : (k : ℕ) → k ≤ 2 ^ 30 → c_bound k + k ≤ 2 ^ 118
    w_room k h = omega arith

    hi_room : (k : ℕ) → k ≤ 2 ^ 30 → c_bound k + w_bound k ≤ 2 ^ 118
    hi_room k h = omega arith

    lo_room : (k : ℕ) → k ≤ 2 ^ 30 → k + hi_bound k ≤ 2 ^ 118
    lo_room k h = omega arith

    same : (p n s : ℕ) → 134217729 * s * p + 0 * n + n * 134217729 * s ≡ 134217729 * s * n + 0 * p + p * 134217729 * s
    same p n s = omega arith

-- ---- a full number A U, by digits: H 2 ^ 27 + L is A, with 26 digits each
pub record Cut (A h l : Diff) (U : ℕ) : Type 0 where
  pub H : Diff
  pub L : Diff
  pub hi : h ≈ H ⊡ (2 ^ 27 * U)
  pub lo : l ≈ L ⊡ U
  pub whole : A ≈ H ⊡ 2 ^ 27 ⊞ L
  pub H_few : SizeAtMost H (2 ^ 26)
  pub L_few : SizeAtMost L (2 ^ 26)

-- its digits A
abbrev pub digits_of : {x1 x2 : ℕ} → Full x1 x2 → Diff
digits_of F = record { p = F.a; n = F.b }

whole_of : (x h l A H L : Diff) (U : ℕ) → 0 < U → x ≈ A ⊡ U → h ≈ H ⊡ (2 ^ 27 * U) → l ≈ L ⊡ U → x ≈ h ⊞ l → A ≈ H ⊡ 2 ^ 27 ⊞ L
whole_of x h l A H L U u e f g k = eq_of_mul-eq-mul_right U u (A.p + (H.n * 2 ^ 27 + L.n)) (A.n + (H.p * 2 ^ 27 + L.p)) (omega arith)

low_few : (l L : Diff) (U : ℕ) → 0 < U → l ≈ L ⊡ U → (2 * l.p ≤ 2 * l.n + 2 ^ 27 * U) × (2 * l.n ≤ 2 * l.p + 2 ^ 27 * U) → SizeAtMost L (2 ^ 26)
low_few l L U u e h = (halved L.p L.n (le_of_mul-le-mul_right (omega arith) u), halved L.n L.p (le_of_mul-le-mul_right (omega arith) u))
  where
    halved : (a b : ℕ) → 2 * a ≤ 2 * b + 2 ^ 27 → a ≤ b + 2 ^ 26
    halved a b h = omega arith

high_few : (A H L : Diff) → A ≈ H ⊡ 2 ^ 27 ⊞ L → magnitude A < 2 ^ 53 → SizeAtMost L (2 ^ 26) → SizeAtMost H (2 ^ 26)
high_few A H L e a l = (omega arith, omega arith)

-- ---- a number in two parts, neither of them more than 3 X in size
pub record Loose (x h l : Diff) (X : ℕ) : Type 0 where
  pub whole : x ≈ h ⊞ l
  pub self : SizeAtMost x X
  pub high : SizeAtMost h (3 * X)
  pub low : SizeAtMost l (3 * X)

module _ {x : Diff} {h l : Float} {k : ℕ} (S : Pieces x h l k) where
  pub cut : (F : Full x.p x.n) → Cut (digits_of F) S.hi.v S.lo.v (2 ^ F.i)
  cut F =
      let U = 2 ^ F.i in
      let s = halves (restated (134217729 * x.p) (134217729 * x.n) (pow_pos 0) (omega arith) S.C) S.W S.H S.L F in
      let A : Diff = digits_of F in
      let H : Diff = record { p = s.a; n = s.b } in
      let L : Diff = record { p = s.a'; n = s.b' } in
      let lf = low_few S.lo.v L U (pow_pos F.i) s.lo s.lo_few in
      let e =
      whole_of x S.hi.v S.lo.v A H L U (pow_pos F.i) (same_parts x.p x.n (F.a * U) (F.b * U) F.p_is F.n_is) s.hi
      s.lo s.adds_up in
      record { H = H; L = L; hi = s.hi; lo = s.lo; whole = e; H_few = high_few A H L e F.few lf; L_few = lf }

  pub loose_small : magnitude x < 2 ^ 52 → Loose x S.hi.v S.lo.v (magnitude x)
  loose_small s =
      let X = magnitude x in
      let i = within_magnitude x in
      record {
        whole = small_whole x S.c S.w S.hi.v S.lo.v X s i S.C S.W S.H S.L;
        self = i;
        high = small_high x S.c S.w S.hi.v S.lo.v X s i S.C S.W S.H S.L;
        low = small_low x S.c S.w S.hi.v S.lo.v X s i S.C S.W S.H S.L;
      }

pub loose_full : {x h l : Diff} (F : Full x.p x.n) → Cut (digits_of F) h l (2 ^ F.i) → Loose x h l (2 ^ 53 * 2 ^ F.i)
loose_full {x} {h} {l} F c =
    let U = 2 ^ F.i in
    let s : magnitude x ≤ 2 ^ 53 * U = le_trans (le_of_eq (sums x.p x.n F.a F.b U F.p_is F.n_is)) (mul-le-mul_right U (le_of_lt F.few)) in
    let hh = grow h c.H (2 ^ 26) (2 ^ 27 * U) c.hi c.H_few in
    let ll = grow l c.L (2 ^ 26) U c.lo c.L_few in
    record {
      whole = joined x h l F.a F.b c.H c.L U F.p_is F.n_is c.hi c.lo c.whole;
      self = (omega (arith, s), omega (arith, s));
      high = (hi_room h.p h.n U hh.0, hi_room h.n h.p U hh.1);
      low = (lo_room l.p l.n U ll.0, lo_room l.n l.p U ll.1);
    }
  where
    sums : (x y a b U : ℕ) → x ≡ a * U → y ≡ b * U → x + y ≡ (a + b) * U
    sums x y a b U e f = omega arith

    grow : (x a : Diff) (k U : ℕ) → x ≈ a ⊡ U → SizeAtMost a k → SizeAtMost x (k * U)
    grow x a k U e h = (omega (arith, mul-le-mul_right U h.0), omega (arith, mul-le-mul_right U h.1))

    hi_room : (a b U : ℕ) → a ≤ b + 2 ^ 26 * (2 ^ 27 * U) → a ≤ b + 3 * (2 ^ 53 * U)
    hi_room a b U h = omega arith

    lo_room : (a b U : ℕ) → a ≤ b + 2 ^ 26 * U → a ≤ b + 3 * (2 ^ 53 * U)
    lo_room a b U h = omega arith

    joined : (x h l : Diff) (a b : ℕ) (H L : Diff) (U : ℕ) → x.p ≡ a * U → x.n ≡ b * U → h ≈ H ⊡ (2 ^ 27 * U) → l ≈ L ⊡ U
        → a + (H.n * 2 ^ 27 + L.n) ≡ b + (H.p * 2 ^ 27 + L.p) → x ≈ h ⊞ l
    joined x h l a b H L U e f g k w = omega (arith, ap (λ (z : ℕ). z * U) w)

-- ---- which of the two a value is, with its parts
pub parted : {x h l : Float} {k : ℕ} (X : Num x k) (S : Pieces X.v h l k)
    → ((F : Full X.v.p X.v.n) × Cut (digits_of F) S.hi.v S.lo.v (2 ^ F.i))
    ⊎ ((magnitude X.v < 2 ^ 52) × Loose X.v S.hi.v S.lo.v (magnitude X.v))
parted X S = elim (full_or_small X.held X.is) [ inl F ↦ inl (F, cut S F) | inr s ↦ inr (s, loose_small S s) ]
