-- What `round` does to a fraction: the laws of `Compared`, `Half` and `Rounded`.
use Rattle.std.specs.Prelude.{◌≡◌, refl, not, T, eqb}
use Rattle.std.proofs.Common.{sym, ap, ◌∙◌, subst, inl, inr, le_trans, le_of_eq, lt_of_lt_of_le, eq-zero-or-pos, arith, leb→le, eqb→eq}
use Rattle.std.proofs.Common.{mul_assoc, mul_comm, mul-pos, mul-le-mul_right, mul-lt-mul_of_pos_right, le_of_mul-le-mul_right, lt_of_mul-lt-mul_right}
use Rattle.std.proofs.Common.{mod-lt, div-add-mod', div-lt_iff_lt-mul, le-div_iff_mul-le, pow-add, pow_pos, pow_mono}
use Prim.Native.Nat.{ℕ, zero, suc, ◌+◌, ◌-◌, ◌*◌, ◌/◌, ◌%◌, ◌^◌, ◌≤◌, ◌<◌, compare, Ordering}
use Rattle.std.proofs.Math.Nat.{div-div-eq-div-mul}
use Rattle.std.proofs.Math.Dec.{is_le, compare_is_eq, nleb→lt, eqb_refl}
use Rattle.std.proofs.Math.Arith.{lt_of_le-ne}
use Rattle.std.specs.Float.Ieee.{size, nearest}
use Rattle.std.specs.Float.Ieee.Digits.{size-lt, size_reaches}
use Rattle.std.specs.Float.Ieee.Fits.{kept-lt, nearest-le}
use Rattle.std.specs.Float.Ieee.Nearest.{closest}
use Rattle.std.specs.Float.Ieee.Order.{drop, kept}
use Rattle.rounding.specs.Rounded.{Compared, Half, Rounded}

-- ---- what `compare` says
pub compared : (a b : ℕ) → Compared (compare a b) a b
compared a b = go (compare a b) (leb→le a b) (nleb→lt a b) (eqb→eq a b) (λ (e : a ≡ b). subst (λ (x : ℕ). T (eqb a x)) e (eqb_refl a))
  where
    go : (o : Ordering) → (T (is_le o) → a ≤ b) → (T (not (is_le o)) → b < a) → (T (compare_is_eq o) → a ≡ b) → (a ≡ b → T (compare_is_eq o)) → Compared o a b
    go Ordering.lt h k e n = lt_of_le-ne (h tt) n
    go Ordering.eq h k e n = e tt
    go Ordering.gt h k e n = k tt

-- ---- the nearest whole number is within a half
tie : (a b q r t : ℕ) → q * b + r ≡ a → r * 2 ≡ b → t ≤ 1 → Half a b (q + t)
tie a b q r zero e h l = omega arith
tie a b q r (suc t) e h l = let z : t ≡ 0 = omega arith in subst (λ (x : ℕ). Half a b (q + suc x)) (sym z) (omega arith)

nearest_half : (a b q r : ℕ) (o : Ordering) → q * b + r ≡ a → r < b → Compared o (r * 2) b → Half a b (nearest q o)
nearest_half a b q r Ordering.lt e l c = omega arith
nearest_half a b q r Ordering.eq e l c = tie a b q r (q % 2) e c (omega arith)
nearest_half a b q r Ordering.gt e l c = omega arith

pub closest_half : (a b : ℕ) → 0 < b → Half a b (closest a b)
closest_half a b h =
    nearest_half a b (a / b) (a % b) (compare (a % b * 2) b) (div-add-mod' a b) (mod-lt a h) (compared (a % b * 2) b)

-- ---- what `round` keeps
pub rounded : (n d : ℕ) → 0 < d → Rounded n d (kept 53 n d * 2 ^ drop 53 n d)
rounded n d D =
    let z = size (n / d) in
    let k = z - 53 in
    let u = d * 2 ^ k in
    let h : Half n u (closest n u) = closest_half n u (mul-pos D (pow_pos k)) in
    let short : n < 2 ^ (53 + k) * d = (div-lt_iff_lt-mul D).0 (lt_of_lt_of_le (size-lt (n / d)) (pow_mono (room z))) in
    record {
      k = k;
      q = closest n u;
      is = refl;
      few = le_trans (nearest-le (n / u) (compare (n % u * 2) u)) (subst (λ (x : ℕ). x < 2 ^ 53) (div-div-eq-div-mul n d (2 ^ k)) (kept-lt 53 (n / d)));
      lo = omega (arith, h.0);
      hi = omega (arith, h.1);
      most = subst (λ (x : ℕ). n < x) (regrouped 53 k) short;
      least = elim (eq-zero-or-pos k) [
        | inl o ↦ inl o
        | inr o ↦ inr (le_trans (le_of_eq (sym (regrouped 52 k))) ((le-div_iff_mul-le D).0 (size_reaches (n / d) (52 + k) (full z o))))
      ];
    }
  where
    regrouped : (j k : ℕ) → 2 ^ (j + k) * d ≡ 2 ^ j * (d * 2 ^ k)
    regrouped j k = ap (λ (x : ℕ). x * d) (pow-add 2 j k) ∙ mul_assoc (2 ^ j) (2 ^ k) d ∙ ap (λ (x : ℕ). 2 ^ j * x) (mul_comm (2 ^ k) d)

    room : (z : ℕ) → z ≤ 53 + (z - 53)
    room z = omega arith

    full : (z : ℕ) → 0 < z - 53 → 52 + (z - 53) < z
    full z h = omega arith

-- ---- equal fractions are rounded alike
pub same_fraction : {n d r : ℕ} (n' d' : ℕ) → 0 < d → 0 < d' → n * d' ≡ n' * d → Rounded n d r → Rounded n' d' r
same_fraction {n} {d} {r} n' d' D D' e R =
    record {
      k = R.k;
      q = R.q;
      is = R.is;
      few = R.few;
      lo = le_of_mul-le-mul_right (omega (arith, mul-le-mul_right d' R.lo)) D;
      hi = le_of_mul-le-mul_right (omega (arith, mul-le-mul_right d' R.hi)) D;
      most = lt_of_mul-lt-mul_right d (omega (arith, mul-lt-mul_of_pos_right R.most D'));
      least = elim R.least [ inl o ↦ inl o | inr o ↦ inr (le_of_mul-le-mul_right (omega (arith, mul-le-mul_right d' o)) D) ];
    }
