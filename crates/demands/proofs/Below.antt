-- ldexp downwards: each product is exact, or at most 2^-1021 and off by at most half a unit of 2^-1074; so all of them are off by at most three quarters.
use mathlib.Core.Path.{◌≡◌, refl, sym, ap, ap₂, ◌∙◌, subst}
use mathlib.Core.Logic.{◌⊎◌, inl, inr, ⊎_elim}
use mathlib.Core.Bool.{Bool, true}
use Prim.Native.Nat.{ℕ, zero, suc, ◌+◌, ◌-◌, ◌*◌, ◌^◌, ◌≤◌, ◌<◌}
use native.Mathlib.Omega.{arith}
use native.Mathlib.Nat.{le_trans, le_of_eq, lt_of_le_of_lt, mul_assoc, mul_comm, mul-one, one-mul, mul-pos, sub-add_cancel}
use native.Mathlib.Nat.{mul-le-mul_left, mul-le-mul_right, mul-lt-mul_of_pos_right, le_of_mul-le-mul_right}
use lib.Dec.{lit<, lit≤}
use lib.Pow.{pow-add, pow_pos, pow_mono}
use lib.IntN.{negsuc}
use lib.Ieee.{Float, binary64, up, down, round, mul}
use lib.Ieee.Bits.{is_true}
use lib.Ieee.Exact.{HasValue, units_val}
use lib.Ieee.Fits.{round_is, round-fits}
use lib.Ieee.Order.{drop, kept}
use Rattle.float.specs.Methods.{is_sign_negative_of}
use Rattle.float.specs.Units.{units_of, Finite}
use Rattle.rounding.specs.Rounded.{Rounded}
use Rattle.rounding.proofs.Rounded.{rounded, same_fraction}
use Rattle.nearest.proofs.Best.{units_are}
use Rattle.ldexp.specs.Scale.{pow2_of, signed, times_power_of, ldexp_of}
use Rattle.ldexp.proofs.Chain.{all_last, all_step}
use Rattle.demands.proofs.Nearest.{has_sign}
use Rattle.demands.proofs.Doubles.{double_of, Held, held, double_value, itself, less_or}
use Rattle.demands.proofs.Scale.{product_is}

-- ---- n units over 2 ^ b, rounded: exact, or at most 2 ^ 53 units and off by at most half a one

same_multiple : (q v U : ℕ) → 0 < U → 2 * (q * U) ≤ 2 * (v * U) + U → 2 * (v * U) ≤ 2 * (q * U) + U → q ≡ v
same_multiple q v U p lo hi =
    let a : 2 * q ≤ 2 * v + 1 = le_of_mul-le-mul_right {k = U} (omega arith) p in
    let b : 2 * v ≤ 2 * q + 1 = le_of_mul-le-mul_right {k = U} (omega arith) p in
    omega arith

-- a double of 2 ^ (52 + m) units or more is a multiple of 2 ^ m units
pub whole_digits : (n m : ℕ) → Held n → 2 ^ 52 * 2 ^ m ≤ n → (v : ℕ) × (n ≡ v * 2 ^ m)
whole_digits n m h g = ⊎_elim few enough (less_or h.j m)
  where
    few : h.j < m → (v : ℕ) × (n ≡ v * 2 ^ m)
    few l =
        let under : n < 2 ^ 53 * 2 ^ h.j = lt_of_le_of_lt (le_of_eq h.is) (mul-lt-mul_of_pos_right h.short (pow_pos h.j)) in
        let twice : 2 * 2 ^ h.j ≤ 2 ^ m = le_trans (le_of_eq (sym (pow-add 2 1 h.j))) (pow_mono {i = 1 + h.j} (omega arith)) in
        absurd (apart n (2 ^ h.j) (2 ^ m) under twice g)
      where
        apart : (n N M : ℕ) → n < 2 ^ 53 * N → 2 * N ≤ M → 2 ^ 52 * M ≤ n → ⊥
        apart n N M a b c = omega arith

    enough : m ≤ h.j → (v : ℕ) × (n ≡ v * 2 ^ m)
    enough l =
        let e : 2 ^ h.j ≡ 2 ^ (h.j - m) * 2 ^ m = ap (λ (i : ℕ). 2 ^ i) (sym (sub-add_cancel l)) ∙ pow-add 2 (h.j - m) m in
        (h.w * 2 ^ (h.j - m), h.is ∙ ap (λ (x : ℕ). h.w * x) e ∙ sym (mul_assoc h.w (2 ^ (h.j - m)) (2 ^ m)))

abbrev Half : ℕ → ℕ → ℕ → Type 0
Half n B r = (2 * (r * B) ≤ 2 * n + B) × (2 * n ≤ 2 * (r * B) + B)

exact_or_half : (n b r : ℕ) → Held n → Rounded n (2 ^ b) r → (r * 2 ^ b ≡ n) ⊎ ((r ≤ 2 ^ 53) × Half n (2 ^ b) r)
exact_or_half n b r h R = elim R.least [
  | inl o ↦
      let one : 2 ^ R.k ≡ 1 = ap (λ (i : ℕ). 2 ^ i) o in
      inr (
        le_trans (le_of_eq (R.is ∙ ap (λ (x : ℕ). R.q * x) one ∙ mul-one R.q)) R.few,
        (rw (one, mul-one (2 ^ b)) at R.lo, rw (one, mul-one (2 ^ b)) at R.hi),
      )
  | inr o ↦
      let U = 2 ^ (b + R.k) in
      let u : 2 ^ b * 2 ^ R.k ≡ U = sym (pow-add 2 b R.k) in
      let w = whole_digits n (b + R.k) h (le_trans (le_of_eq (ap (λ (x : ℕ). 2 ^ 52 * x) (sym u))) o) in
      let t : r * 2 ^ b ≡ R.q * U =
      ap (λ (x : ℕ). x * 2 ^ b) R.is ∙ mul_assoc R.q (2 ^ R.k) (2 ^ b) ∙ ap (λ (x : ℕ). R.q * x) (mul_comm (2 ^ R.k) (2 ^ b) ∙ u) in
      let same = same_multiple R.q w.0 U (pow_pos (b + R.k)) (rw (t, u, w.1) at R.lo) (rw (t, u, w.1) at R.hi) in
      inl (t ∙ ap (λ (x : ℕ). x * U) same ∙ sym w.1)
]

-- ---- the product with 2 ^ -b

module _ (s : Bool) (n b : ℕ) (h : Held n) where
  abbrev num : ℕ
  num = n * up (signed true b)

  abbrev den : ℕ
  den = 2 ^ 1074 * down (signed true b)

  abbrev cut : ℕ
  cut = kept 53 (num * 2 ^ 1074) den * 2 ^ drop 53 (num * 2 ^ 1074) den

  powers : (b : ℕ) → (up (signed true b) ≡ 1) × (down (signed true b) ≡ 2 ^ b)
  powers zero = (refl, refl)
  powers (suc b) = (refl, refl)

  den_pos : 0 < den
  den_pos = rw (powers b).1 (mul-pos (pow_pos 1074) (pow_pos b))

  cut_rounded : Rounded n (2 ^ b) cut
  cut_rounded =
      same_fraction n (2 ^ b) den_pos (pow_pos b) (rw ((powers b).0, (powers b).1) (moved n (2 ^ 1074) (2 ^ b))) (rounded (num * 2 ^ 1074) den den_pos)
    where
      moved : (n U B : ℕ) → n * 1 * U * B ≡ n * (U * B)
      moved n U B = omega arith

  cut_so : (cut * 2 ^ b ≡ n) ⊎ ((cut ≤ 2 ^ 53) × Half n (2 ^ b) cut)
  cut_so = exact_or_half n b cut h cut_rounded

  cut_under : cut < 2 ^ 2098
  cut_under =
      ⊎_elim (λ e. lt_of_le_of_lt (le_trans (le_trans (le_of_eq (sym (mul-one cut))) (mul-le-mul_left cut (pow_pos b))) (le_of_eq e)) h.reach)
      (λ l. lt_of_le_of_lt l.0 (lit< tt)) cut_so

  abbrev product : Float
  product = mul binary64 (double_of s n) (pow2_of (signed true b))

  product_rounded : product ≡ round binary64 s num den
  product_rounded = product_is (double_of s n) s n (signed true b) (double_value s n h)

  cut_value : HasValue product s cut (2 ^ 1074)
  cut_value =
      rw (product_rounded, round_is binary64 s num den)
      (units_val binary64 s (kept 53 (num * 2 ^ 1074) den) (drop 53 (num * 2 ^ 1074) den) cut_under)

  cut_finite : Finite product
  cut_finite = record {
    held = rw product_rounded (is_true _ (round-fits binary64 s num den));
    finite = (has_sign product s cut (2 ^ 1074) cut_value).0;
  }

  cut_is : product ≡ double_of s cut
  cut_is = itself product cut_finite ∙ ap₂ double_of (has_sign product s cut (2 ^ 1074) cut_value).1 (units_are product s cut cut_value)

  cut_held : Held cut
  cut_held = subst Held (units_are product s cut cut_value) (held product cut_finite)

-- ---- all products

-- r units are n / I, off by at most c quarters of a unit
abbrev pub Off : ℕ → ℕ → ℕ → ℕ → Type 0
Off c n I r = (4 * (r * I) ≤ 4 * n + c * I) × (4 * n ≤ 4 * (r * I) + c * I)

-- so after whole steps of 1000: exact, or small and off by at most two
abbrev Kept : ℕ → ℕ → ℕ → Type 0
Kept n I r = (r * I ≡ n) ⊎ ((r ≤ 2 ^ 53) × Off 2 n I r)

module _ (n I r t B : ℕ) where
  exact_exact : r * I ≡ n → t * B ≡ r → t * (I * B) ≡ n
  exact_exact e x = omega (arith, ap (λ (y : ℕ). y * I) x)

  exact_half : r * I ≡ n → Half r B t → Off 2 n (I * B) t
  exact_half e x = (omega (arith, mul-le-mul_right I x.0), omega (arith, mul-le-mul_right I x.1))

  half_exact : 2 ≤ B → Off 2 n I r → t * B ≡ r → Off 3 n (I * B) t
  half_exact b o x =
      let m = ap (λ (y : ℕ). y * I) x in
      let l = mul-le-mul_left I b in
      (omega (arith, o.0), omega (arith, o.1))

  half_half : 2 ≤ B → Off 2 n I r → Half r B t → Off 3 n (I * B) t
  half_half b o x =
      let l = mul-le-mul_left I b in
      (omega (arith, o.0, mul-le-mul_right I x.0), omega (arith, o.1, mul-le-mul_right I x.1))

  -- what is off is too small to count after 1000 more
  nothing_left : 2 ^ 55 ≤ B → r ≤ 2 ^ 53 → Off 2 n I r → 2 * (t * B) ≤ 2 * r + B → (t ≤ 2 ^ 53) × Off 2 n (I * B) t
  nothing_left big small o lo =
      let c = mul-le-mul_left I big in
      let d = mul-le-mul_right I small in
      subst (λ (u : ℕ). (u ≤ 2 ^ 53) × Off 2 n (I * B) u) (sym (empty t lo)) (lit≤ tt, (omega arith, omega (arith, o.1)))
    where
      empty : (t : ℕ) → 2 * (t * B) ≤ 2 * r + B → t ≡ 0
      empty zero h = refl
      empty (suc t) h = absurd (omega (arith, h, big, small))

off_more : (n I r : ℕ) → Off 2 n I r → Off 3 n I r
off_more n I r o = (omega (arith, o.0), omega (arith, o.1))

off_none : (n I r : ℕ) → r * I ≡ n → Off 3 n I r
off_none n I r e = (omega arith, omega arith)

is_too_large : (B K r : ℕ) → 2 ^ 55 ≤ B → 0 < K → 2 ^ 52 * (B * K) ≤ r → r ≤ 2 ^ 53 → ⊥
is_too_large B K r b k h l = omega (arith, mul-le-mul_left B k)

-- one more step of 1000
step_kept : (n i r t : ℕ) → Held r → Kept n (2 ^ i) r → Rounded r (2 ^ 1000) t → Kept n (2 ^ i * 2 ^ 1000) t
step_kept n i r t h (inl e) R =
    ⊎_elim (λ x. inl (exact_exact n (2 ^ i) r t (2 ^ 1000) e x)) (λ x. inr (x.0, exact_half n (2 ^ i) r t (2 ^ 1000) e x.1)) (exact_or_half r 1000 t h R)
step_kept n i r t h (inr o) R = elim R.least [
  | inl k ↦
      let one : 2 ^ R.k ≡ 1 = ap (λ (j : ℕ). 2 ^ j) k in
      inr (nothing_left n (2 ^ i) r t (2 ^ 1000) (pow_mono {i = 55} {j = 1000} (lit≤ tt)) o.0 o.1 (rw (one, mul-one (2 ^ 1000)) at R.lo))
  | inr l ↦ absurd (is_too_large (2 ^ 1000) (2 ^ R.k) r (pow_mono {i = 55} {j = 1000} (lit≤ tt)) (pow_pos R.k) l o.0)
]

-- the last, of 1 to 1000
last_off : (n i r b t : ℕ) → 0 < b → Held r → Kept n (2 ^ i) r → Rounded r (2 ^ b) t → Off 3 n (2 ^ i * 2 ^ b) t
last_off n i r b t p h (inl e) R =
    ⊎_elim (λ x. off_none n (2 ^ i * 2 ^ b) t (exact_exact n (2 ^ i) r t (2 ^ b) e x))
    (λ x. off_more n (2 ^ i * 2 ^ b) t (exact_half n (2 ^ i) r t (2 ^ b) e x.1))
    (exact_or_half r b t h R)
last_off n i r b t p h (inr o) R =
    let two : 2 ≤ 2 ^ b = pow_mono {i = 1} p in
    ⊎_elim (λ x. half_exact n (2 ^ i) r t (2 ^ b) two o.1 x) (λ x. half_half n (2 ^ i) r t (2 ^ b) two o.1 x.1) (exact_or_half r b t h R)

abbrev Lowered : Bool → ℕ → ℕ → ℕ → ℕ → Type 0
Lowered s m n I r = (t : ℕ) × (times_power_of true m (double_of s r) ≡ double_of s t) × Held t × Off 3 n (I * 2 ^ m) t

lowered_from : (f m i n r : ℕ) (s : Bool) → m ≤ f → 0 < m → Held r → Kept n (2 ^ i) r → Lowered s m n (2 ^ i) r
lowered_from zero m i n r s l p h g = absurd (omega (arith, l, p))
lowered_from (suc f) m i n r s l p h g =
    ⊎_elim last
    (λ d. more d (lowered_from f (m - 1000) (i + 1000) n (cut s r 1000 h) s (omega arith) (omega arith) (cut_held s r 1000 h) kept_so))
    (less_or m 1001)
  where
    kept_so : Kept n (2 ^ (i + 1000)) (cut s r 1000 h)
    kept_so = rw (pow-add 2 i 1000) (step_kept n i r (cut s r 1000 h) h g (cut_rounded s r 1000 h))

    last : m < 1001 → Lowered s m n (2 ^ i) r
    last d =
        let t = cut s r m h in
        (t, all_last true m (double_of s r) (omega arith) ∙ cut_is s r m h, cut_held s r m h, last_off n i r m t p h g (cut_rounded s r m h))

    more : 1001 ≤ m → Lowered s (m - 1000) n (2 ^ (i + 1000)) (cut s r 1000 h) → Lowered s m n (2 ^ i) r
    more d rest = (
      rest.0,
      all_step true m (double_of s r) d ∙ ap (times_power_of true (m - 1000)) (cut_is s r 1000 h) ∙ rest.1,
      rest.2,
      subst (λ (I : ℕ). Off 3 n I rest.0) (powers_add i m d) rest.3,
    )
      where
        powers_add : (i m : ℕ) → 1001 ≤ m → 2 ^ (i + 1000) * 2 ^ (m - 1000) ≡ 2 ^ i * 2 ^ m
        powers_add i m d =
            let e : i + 1000 + (m - 1000) ≡ i + m = omega arith in
            sym (pow-add 2 (i + 1000) (m - 1000)) ∙ ap (λ (j : ℕ). 2 ^ j) e ∙ pow-add 2 i m

pub lowered_is : (x : Float) (N : ℕ) → Finite x
    → (t : ℕ) × (ldexp_of x (negsuc N) ≡ double_of (is_sign_negative_of x) t) × Held t × Off 3 (units_of x) (2 ^ suc N) t
unfolding ldexp_of
lowered_is x N f =
    let a = units_of x in
    let l = lowered_from (suc N) (suc N) 0 a a (is_sign_negative_of x) (omega arith) (omega arith) (held x f) (inl (mul-one a)) in
    (l.0, ap (times_power_of true (suc N)) (itself x f) ∙ l.1, l.2, subst (λ (I : ℕ). Off 3 a I l.0) (one-mul (2 ^ suc N)) l.3)
