-- What a rounded number is, from what the exact number is: where rounding changes nothing (`exact`), how far it goes (`half_unit`, `relative`),
-- and of what it gives a multiple (`coarse`). The exact number is (P - N) / d, and p - n is that, rounded at the unit 2 ^ k (`Near P N d p n`).
use mathlib.Core.Path.{◌≡◌, sym, ap, ◌∙◌, subst}
use mathlib.Core.Logic.{◌⊎◌, inl, inr}
use Prim.Native.Nat.{ℕ, suc, ◌+◌, ◌-◌, ◌*◌, ◌^◌, ◌≤◌, ◌<◌, zero-le}
use native.Mathlib.Nat.{le_trans, le_of_eq, le_of_suc-le-suc, lt_of_le_of_lt, lt_irrefl, mul_assoc, mul_comm}
use native.Mathlib.Nat.{mul-one, mul-pos, mul-le-mul_left, le_of_mul-le-mul_right, lt_of_mul-lt-mul_right, le_antisymm}
use native.Mathlib.Omega.{arith}
use lib.Pow.{pow_pos, pow_mono}
use Rattle.algebra.specs.NatOrder.{le_or_lt, pow2_split, pow2_twice}
use Rattle.rounding.proofs.Value.{Near}

-- ---- two multiples of U that differ by the half of U at most are one
same_multiple : (a b a' b' U : ℕ) → 0 < U → 2 * (a' * U) + 2 * (b * U) ≤ 2 * (a * U) + 2 * (b' * U) + U → a' + b ≤ a + b'
same_multiple a b a' b' U h l = le_of_suc-le-suc (half (a' + b) (a + b') (le_of_mul-le-mul_right (omega arith) h))
  where
    half : (x y : ℕ) → 2 * x ≤ 2 * y + 1 → x < suc y
    half x y g = omega arith

module _ {P N d p n : ℕ} (D : 0 < d) (R : Near P N d p n) where
  unit_pos : 0 < d * 2 ^ R.k
  unit_pos = mul-pos D (pow_pos R.k)

  -- the exact number is a multiple of the unit at which it is rounded
  pub exact_at : (a b : ℕ) → P + b * (d * 2 ^ R.k) ≡ N + a * (d * 2 ^ R.k) → P + n * d ≡ N + p * d
  exact_at a b e =
      let U = d * 2 ^ R.k in
      let x : p * d ≡ R.a * U = in_units R.a R.p_is in
      let y : n * d ≡ R.b * U = in_units R.b R.n_is in
      let s : R.a + b ≤ a + R.b = same_multiple a b R.a R.b U unit_pos (omega (arith, R.lo)) in
      let t : a + R.b ≤ R.a + b = same_multiple R.a R.b a b U unit_pos (omega (arith, R.hi)) in
      omega (arith, ap (λ (z : ℕ). z * U) (le_antisymm s t))
    where
      in_units : {x : ℕ} (a : ℕ) → x ≡ a * 2 ^ R.k → x * d ≡ a * (d * 2 ^ R.k)
      in_units a e = ap (λ (z : ℕ). z * d) e ∙ mul_assoc a (2 ^ R.k) d ∙ ap (λ (z : ℕ). a * z) (mul_comm (2 ^ R.k) d)

  -- it is 2 ^ 53 times a smaller unit at most: then it is just that
  at_top : (g : ℕ) → g < R.k → P ≤ N + 2 ^ 53 * (d * 2 ^ g) → N ≤ P + 2 ^ 53 * (d * 2 ^ g) → P + n * d ≡ N + p * d
  at_top g l h h' =
      let w : 2 * (d * 2 ^ g) ≤ d * 2 ^ R.k = le_trans (le_of_eq (omega arith)) (mul-le-mul_left d (pow2_twice l)) in
      elim R.least [
        | inl o ↦ absurd (lt_irrefl 0 (lt_of_le_of_lt zero-le (subst (λ (z : ℕ). g < z) o l)))
        | inr (inl o) ↦ exact_at (2 ^ 52) 0 (omega arith)
        | inr (inr o) ↦ exact_at 0 (2 ^ 52) (omega arith)
      ]

  -- ---- a multiple of 2 ^ g by no more than 2 ^ 53 is not changed
  pub exact : (g a b : ℕ) → P + b * (d * 2 ^ g) ≡ N + a * (d * 2 ^ g)
      → P ≤ N + 2 ^ 53 * (d * 2 ^ g) → N ≤ P + 2 ^ 53 * (d * 2 ^ g) → P + n * d ≡ N + p * d
  exact g a b e h h' = elim (le_or_lt R.k g) [
    | inl l ↦
        exact_at (a * 2 ^ (g - R.k)) (b * 2 ^ (g - R.k))
        (omega (arith, ap (λ (z : ℕ). a * d * z) (pow2_split l), ap (λ (z : ℕ). b * d * z) (pow2_split l)))
    | inr l ↦ at_top g l h h'
  ]

  -- ---- a number of no more than 2 ^ 53 times 2 ^ g is moved by no more than the half of 2 ^ g
  pub half_unit : (g : ℕ) → P ≤ N + 2 ^ 53 * (d * 2 ^ g) → N ≤ P + 2 ^ 53 * (d * 2 ^ g)
      → (2 * (p * d) + 2 * N ≤ 2 * P + 2 * (n * d) + d * 2 ^ g) × (2 * P + 2 * (n * d) ≤ 2 * (p * d) + 2 * N + d * 2 ^ g)
  half_unit g h h' = elim (le_or_lt R.k g) [
    | inl l ↦ let w : d * 2 ^ R.k ≤ d * 2 ^ g = mul-le-mul_left d (pow_mono l) in (omega (arith, R.lo), omega (arith, R.hi))
    | inr l ↦ let e = at_top g l h h' in (omega arith, omega arith)
  ]

  -- ---- a number of 2 ^ 52 times 2 ^ g or more becomes a multiple of 2 ^ g
  pub coarse : (g : ℕ) → (2 ^ 52 * (d * 2 ^ g) + N ≤ P) ⊎ (2 ^ 52 * (d * 2 ^ g) + P ≤ N) → g ≤ R.k
  coarse g h = elim (le_or_lt g R.k) [
    | inl l ↦ l
    | inr l ↦
        let w : 2 * (d * 2 ^ R.k) ≤ d * 2 ^ g = le_trans (le_of_eq (omega arith)) (mul-le-mul_left d (pow2_twice l)) in
        absurd (elim h [ inl o ↦ omega (arith, R.most) | inr o ↦ omega (arith, R.most) ])
  ]

  -- ---- a number of size B or less is moved by no more than B / 2 ^ 53, and a half
  pub relative : (B : ℕ) → P ≤ N + B → N ≤ P + B
      → (2 ^ 53 * (p * d) + 2 ^ 53 * N ≤ 2 ^ 53 * P + 2 ^ 53 * (n * d) + B + 2 ^ 52 * d)
      × (2 ^ 53 * P + 2 ^ 53 * (n * d) ≤ 2 ^ 53 * (p * d) + 2 ^ 53 * N + B + 2 ^ 52 * d)
  relative B h h' = elim R.least [
    | inl o ↦ let w : d * 2 ^ R.k ≡ d = ap (λ (z : ℕ). d * 2 ^ z) o ∙ mul-one d in (omega (arith, R.lo), omega (arith, R.hi))
    | inr (inl o) ↦ (omega (arith, R.lo), omega (arith, R.hi))
    | inr (inr o) ↦ (omega (arith, R.lo), omega (arith, R.hi))
  ]

-- ---- the same for sums, whose exact value is a whole number of units: the half is not there
module _ {P N p n : ℕ} (R : Near P N 1 p n) where
  pub relative_sum : (B : ℕ) → P ≤ N + B → N ≤ P + B
      → (2 ^ 53 * p + 2 ^ 53 * N ≤ 2 ^ 53 * P + 2 ^ 53 * n + B) × (2 ^ 53 * P + 2 ^ 53 * n ≤ 2 ^ 53 * p + 2 ^ 53 * N + B)
  relative_sum B h h' = elim R.least [
    | inl o ↦ let w : 1 * 2 ^ R.k ≡ 1 = ap (λ (z : ℕ). 1 * 2 ^ z) o in (omega (arith, R.lo), omega (arith, R.hi))
    | inr (inl o) ↦ (omega (arith, R.lo), omega (arith, R.hi))
    | inr (inr o) ↦ (omega (arith, R.lo), omega (arith, R.hi))
  ]

  pub exact_sum : (g a b : ℕ) → P + b * 2 ^ g ≡ N + a * 2 ^ g → P ≤ N + 2 ^ 53 * 2 ^ g → N ≤ P + 2 ^ 53 * 2 ^ g → P + n ≡ N + p
  exact_sum g a b e h h' = omega (arith, exact (pow_pos 0) R g a b (omega arith) (omega arith) (omega arith))

-- ---- a difference that a sum can hold: a multiple of 2 ^ g by no more than 2 ^ 53
pub record Short (P N : ℕ) : Type 0 where
  pub g : ℕ
  pub a : ℕ
  pub b : ℕ
  pub is : P + b * 2 ^ g ≡ N + a * 2 ^ g
  pub few : (P ≤ N + 2 ^ 53 * 2 ^ g) × (N ≤ P + 2 ^ 53 * 2 ^ g)

pub unchanged : {P N p n : ℕ} → Near P N 1 p n → Short P N → P + n ≡ N + p
unchanged R S = exact_sum R S.g S.a S.b S.is S.few.0 S.few.1

-- ---- the same exact number in other words: (P - N) / c is P' - N'
pub restated : {P N c p n : ℕ} (P' N' : ℕ) → 0 < c → P + N' * c ≡ N + P' * c → Near P N c p n → Near P' N' 1 p n
restated {P} {N} {c} {p} {n} P' N' C e R =
    let K = 2 ^ R.k in
    record {
      k = R.k;
      a = R.a;
      b = R.b;
      p_is = R.p_is;
      n_is = R.n_is;
      few = R.few;
      lo = le_of_mul-le-mul_right (lo_holds P N c P' N' p n K e R.lo) C;
      hi = le_of_mul-le-mul_right (hi_holds P N c P' N' p n K e R.hi) C;
      most = (
        lt_of_mul-lt-mul_right c (most_holds P N c P' N' K e R.most.0),
        lt_of_mul-lt-mul_right c (most_holds N P c N' P' K (sym e) R.most.1),
      );
      least = elim R.least [
        | inl o ↦ inl o
        | inr (inl o) ↦ inr (inl (le_of_mul-le-mul_right (least_holds P N c P' N' K e o) C))
        | inr (inr o) ↦ inr (inr (le_of_mul-le-mul_right (least_holds N P c N' P' K (sym e) o) C))
      ];
      side = elim R.side [
        | inl o ↦ inl (le_of_mul-le-mul_right (side_holds P N c P' N' e o.0) C, o.1)
        | inr o ↦ inr (le_of_mul-le-mul_right (side_holds N P c N' P' (sym e) o.0) C, o.1)
      ];
    }
  where
    lo_holds : (P N c P' N' p n K : ℕ) → P + N' * c ≡ N + P' * c
        → 2 * (p * c) + 2 * N ≤ 2 * P + 2 * (n * c) + c * K → (2 * (p * 1) + 2 * N') * c ≤ (2 * P' + 2 * (n * 1) + 1 * K) * c
    lo_holds P N c P' N' p n K e h = omega arith

    hi_holds : (P N c P' N' p n K : ℕ) → P + N' * c ≡ N + P' * c
        → 2 * P + 2 * (n * c) ≤ 2 * (p * c) + 2 * N + c * K → (2 * P' + 2 * (n * 1)) * c ≤ (2 * (p * 1) + 2 * N' + 1 * K) * c
    hi_holds P N c P' N' p n K e h = omega arith

    most_holds : (P N c P' N' K : ℕ) → P + N' * c ≡ N + P' * c → P < N + 2 ^ 53 * (c * K) → P' * c < (N' + 2 ^ 53 * (1 * K)) * c
    most_holds P N c P' N' K e h = omega arith

    least_holds : (P N c P' N' K : ℕ) → P + N' * c ≡ N + P' * c → 2 ^ 52 * (c * K) + N ≤ P → (2 ^ 52 * (1 * K) + N') * c ≤ P' * c
    least_holds P N c P' N' K e h = omega arith

    side_holds : (P N c P' N' : ℕ) → P + N' * c ≡ N + P' * c → N ≤ P → N' * c ≤ P' * c
    side_holds P N c P' N' e h = omega arith
