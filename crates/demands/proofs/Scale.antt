-- ldexp is exact where x * 2^k is a double: the doubles on the way are those of the units on the way, and from 2^1024 on infinities.
use mathlib.Core.Path.{◌≡◌, refl, sym, ap, ap₂, ◌∙◌}
use mathlib.Core.Logic.{⊎_elim}
use mathlib.Core.Bool.{Bool, true, false}
use Prim.Native.Nat.{ℕ, zero, suc, ◌+◌, ◌-◌, ◌*◌, ◌^◌, ◌≤◌, ◌<◌}
use native.Mathlib.Omega.{arith}
use native.Mathlib.Nat.{le_trans, lt_of_le_of_lt, le-add_right, mul-one, mul_assoc, mul-pos, mul-le-mul_left, add-zero, zero-add, sub-le, sub-zero, sub_self}
use lib.Pow.{pow-add, pow_pos, pow_mono}
use lib.IntN.{ℤ, pos, negsuc}
use lib.Ieee.{Float, nan, inf, fin, binary64, up, down, unlike, round, mul}
use lib.Ieee.Exact.{HasValue}
use lib.Ieee.Fits.{down_pos}
use lib.Ieee.Scale.{round_same}
use Rattle.float.specs.Methods.{is_finite_of, is_sign_negative_of}
use Rattle.float.specs.Units.{units_of, Finite}
use Rattle.ldexp.specs.Scale.{pow2_of, signed, chain, steps, times_power_of, ldexp_of}
use Rattle.ldexp.proofs.Chain.{steady_special}
use Rattle.scaled.proofs.Digits.{units_under}
use Rattle.demands.specs.Demands.{TimesPower}
use Rattle.demands.proofs.Doubles.{double_of, Held, held, double_value, itself, less_or, beyond}

-- ---- a product with a power of two that is a double is that double

cross : (a U n G Z D : ℕ) → a * U ≡ n * G → a * (1 * Z) * (U * D) ≡ n * Z * (G * D)
cross a U n G Z D h = omega (arith, ap (λ (x : ℕ). x * (Z * D)) h)

pub product_is : (x : Float) (s : Bool) (n : ℕ) (z : ℤ) → HasValue x s n (2 ^ 1074)
    → mul binary64 x (pow2_of z) ≡ round binary64 s (n * up z) (2 ^ 1074 * down z)
unfolding mul
product_is nan s n z h = absurd h
product_is (inf t) s n z h = absurd h
product_is (fin t p g) s n z h =
    ap (λ (b : Bool). round binary64 b (p * up g * (1 * up z)) (down g * down z)) (like t ∙ h.0)
    ∙ round_same binary64 s (p * up g * (1 * up z)) (down g * down z) (n * up z) (2 ^ 1074 * down z)
    (mul-pos (down_pos g) (down_pos z)) (mul-pos (pow_pos 1074) (down_pos z)) (cross (p * up g) (2 ^ 1074) n (down g) (up z) (down z) h.1)
  where
    like : (t : Bool) → unlike t false ≡ t
    like true = refl
    like false = refl

product : (s : Bool) (n m : ℕ) (z : ℤ) → Held n → m * down z ≡ n * up z → mul binary64 (double_of s n) (pow2_of z) ≡ double_of s m
unfolding double_of
product s n m z h e =
    product_is (double_of s n) s n z (double_value s n h)
    ∙ round_same binary64 s (n * up z) (2 ^ 1074 * down z) m (2 ^ 1074) (mul-pos (pow_pos 1074) (down_pos z)) (pow_pos 1074)
    (moved (n * up z) (2 ^ 1074) m (down z) e)
  where
    moved : (a U m D : ℕ) → m * D ≡ a → a * U ≡ m * (U * D)
    moved a U m D e = omega (arith, ap (λ (x : ℕ). x * U) e)

-- ---- a chain of such products: E i is the double after i of the N powers
module _ (below : Bool) (N : ℕ) (E : ℕ → Float) (step : (i b : ℕ) → i + b ≤ N → mul binary64 (E i) (pow2_of (signed below b)) ≡ E (i + b)) where
  along : (j i : ℕ) → i + j * 1000 ≤ N → chain j (pow2_of (signed below 1000)) (E i) ≡ E (i + j * 1000)
  unfolding chain
  along zero i h = ap E (let q : i ≡ i + 0 * 1000 = omega arith in q)
  along (suc j) i h =
      ap (chain j (pow2_of (signed below 1000))) (step i 1000 (omega arith)) ∙ along j (i + 1000) (omega arith)
      ∙ ap E (let q : i + 1000 + j * 1000 ≡ i + suc j * 1000 = omega arith in q)

  whole : times_power_of below N (E 0) ≡ E N
  unfolding times_power_of
  whole =
      let l : steps N * 1000 ≤ N = omega arith in
      ap (λ (x : Float). mul binary64 x (pow2_of (signed below (N - steps N * 1000)))) (along (steps N) 0 (rw zero-add l) ∙ ap E (zero-add (steps N * 1000)))
      ∙ step (steps N * 1000) (N - steps N * 1000) (omega arith)
      ∙ ap E (let q : steps N * 1000 + (N - steps N * 1000) ≡ N = omega arith in q)

-- ---- from the double of a units to that of a * 2 ^ N, and back
module _ (s : Bool) (a : ℕ) (h : Held a) where
  pub between : (i : ℕ) → a * 2 ^ i < 2 ^ 2098 → Held (a * 2 ^ i)
  between i top = record {
    w = h.w;
    j = h.j + i;
    is = ap (λ (x : ℕ). x * 2 ^ i) h.is ∙ mul_assoc h.w (2 ^ h.j) (2 ^ i) ∙ ap (λ (x : ℕ). h.w * x) (sym (pow-add 2 h.j i));
    short = h.short;
    reach = top;
  }

  -- upwards every product is exact, until it is an infinity and stays one
  raised_by : (i b : ℕ) → mul binary64 (double_of s (a * 2 ^ i)) (pow2_of (pos b)) ≡ double_of s (a * 2 ^ (i + b))
  unfolding is_finite_of
  raised_by i b = ⊎_elim
      (λ top. product s (a * 2 ^ i) (a * 2 ^ (i + b)) (pos b) (between i top)
      (mul-one (a * 2 ^ (i + b)) ∙ ap (λ (x : ℕ). a * x) (pow-add 2 i b) ∙ sym (mul_assoc a (2 ^ i) (2 ^ b))))
      (λ top. ap (λ (x : Float). mul binary64 x (pow2_of (pos b))) (beyond s (a * 2 ^ i) top) ∙ steady_special (inf s) (infinite s) (pos b)
      ∙ sym (beyond s (a * 2 ^ (i + b)) (le_trans top (mul-le-mul_left a (pow_mono (le-add_right i b))))))
      (less_or (a * 2 ^ i) (2 ^ 2098))
    where
      infinite : (s : Bool) → is_finite_of (inf s) ≡ false
      infinite s = refl

  pub raised : (N : ℕ) → times_power_of false N (double_of s (a * 2 ^ 0)) ≡ double_of s (a * 2 ^ N)
  raised N = whole false N (λ i. double_of s (a * 2 ^ i)) (λ i b l. raised_by i b)

  lowered : (N : ℕ) → a * 2 ^ N < 2 ^ 2098 → times_power_of true N (double_of s (a * 2 ^ (N - 0))) ≡ double_of s (a * 2 ^ (N - N))
  lowered N top =
      whole true N (λ i. double_of s (a * 2 ^ (N - i)))
      (λ i b l. product s (a * 2 ^ (N - i)) (a * 2 ^ (N - (i + b))) (signed true b)
      (between (N - i) (lt_of_le_of_lt (mul-le-mul_left a (pow_mono (sub-le N i))) top)) (down_by b (N - (i + b)) (N - i) (omega arith)))
    where
      down_by : (b c d : ℕ) → c + b ≡ d → a * 2 ^ c * down (signed true b) ≡ a * 2 ^ d * up (signed true b)
      down_by zero c d e = ap (λ (x : ℕ). a * 2 ^ x * 1) (sym (add-zero c) ∙ e)
      down_by (suc b) c d e =
          mul_assoc a (2 ^ c) (2 ^ suc b) ∙ ap (λ (x : ℕ). a * x) (sym (pow-add 2 c (suc b)) ∙ ap (λ (x : ℕ). 2 ^ x) e) ∙ sym (mul-one (a * 2 ^ d))

-- for a k from 0 on
pub raised_is : (x : Float) (N : ℕ) → Finite x → ldexp_of x (pos N) ≡ double_of (is_sign_negative_of x) (units_of x * 2 ^ N)
unfolding ldexp_of
raised_is x N f =
    let b = is_sign_negative_of x in
    let a = units_of x in
    ap (times_power_of false N) (itself x f ∙ ap (double_of b) (sym (mul-one a))) ∙ raised b a (held x f) N

pub scale : (x : Float) (k : ℤ) (y : Float) → TimesPower x k y → ldexp_of x k ≡ y
unfolding ldexp_of
scale x (pos N) y t =
    let q : units_of y ≡ units_of x * 2 ^ N = sym (mul-one (units_of y)) ∙ t.amount in
    raised_is x N t.from ∙ sym (itself y t.to ∙ ap₂ double_of (sym t.sign) q)
scale x (negsuc N) y t =
    let b = is_sign_negative_of y in
    let a = units_of y in
    let q : units_of x ≡ a * 2 ^ suc N = sym (mul-one (units_of x)) ∙ sym t.amount in
    ap (times_power_of true (suc N)) (itself x t.from ∙ ap₂ double_of t.sign (q ∙ ap (λ (n : ℕ). a * 2 ^ n) (sym (sub-zero (suc N)))))
    ∙ lowered b a (held y t.to) (suc N) (rw q at (units_under x t.from))
    ∙ ap (double_of b) (ap (λ (n : ℕ). a * 2 ^ n) (sub_self (suc N)) ∙ mul-one a)
    ∙ sym (itself y t.to)
