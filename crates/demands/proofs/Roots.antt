-- √x, ∛x and √(1 - c²), by one law: the number whose power f is N.
use mathlib.Core.Path.{◌≡◌, refl, sym, ap, ◌∙◌, subst}
use mathlib.Core.Logic.{⊎_elim}
use mathlib.Core.Bool.{true, false, cond, true≢false}
use Prim.Native.Nat.{ℕ, suc, ◌+◌, ◌-◌, ◌*◌, ◌/◌, ◌^◌, ◌≤◌, ◌<◌, zero-le}
use native.Mathlib.Omega.{arith}
use native.Mathlib.Nat.{le_trans, le_of_eq, le_of_lt, le_of_suc-le-suc, lt_of_not-le, not-le_of_lt, lt_of_lt_of_le}
use native.Mathlib.Nat.{lt_of_le_of_lt, zero-add, one-mul, mul-lt-mul_of_pos_right, mul-le-mul, mul-le-mul_left, mul-le-mul_right}
use native.Mathlib.Nat.{mul-add, mul_comm, sub-le, sub-add_cancel, eq-or-lt_of_le, div-add-mod', mod-lt}
use lib.Arith.{lt_of_le-ne}
use lib.Dec.{T, lit<, lit≤, eqb, leb→le, le→leb, nleb→lt, eqb→eq, eqb_refl, not_T}
use lib.Pow.{pow_mono, pow_pos}
use lib.Ieee.{Float, neg, size}
use lib.Ieee.Bits.{is_true}
use lib.Ieee.Digits.{size-lt}
use lib.Ieee.Positive.{positive}
use Rattle.float.specs.Methods.{is_sign_negative_of}
use Rattle.float.specs.Units.{units_of, Finite}
use Rattle.decode.specs.Exponent.{regular_of}
use Rattle.nearest.specs.Greatest.{greatest, nearest_of}
use Rattle.nearest.proofs.Search.{found}
use Rattle.nearest.proofs.Powers.{Power, at_root}
use Rattle.sqrt.specs.Root.{floor_sqrt, nearest_sqrt, sqrt_of}
use Rattle.sqrt.proofs.Squares.{squares}
use Rattle.cbrt.specs.Root.{floor_cbrt, nearest_cbrt, cbrt_of}
use Rattle.cbrt.proofs.Cubes.{cubes}
use Rattle.scaled.proofs.Digits.{units_under}
use Rattle.demands.specs.Demands.{Nearest}
use Rattle.demands.proofs.Nearest.{nearest_is, in_words, regular_is, positive_is}

-- k is 2 to the power e
module _ (e : ℕ) (f : ℕ → ℕ) (P : Power e f) (k : ℕ) (twice : (a : ℕ) → f (2 * a) ≡ k * f a) where
  back : (a b : ℕ) → f a < f b → a < b
  back a b h = lt_of_not-le (λ (g : b ≤ a). not-le_of_lt h (P.ordered b a g))

  top : (n : ℕ) → n < f (2 ^ (size n / e + 1))
  top n =
      rw (P.twos (size n / e + 1)) (lt_of_lt_of_le (size-lt n)
      (pow_mono (omega (arith, div-add-mod' (size n) e, mod-lt (size n) P.degree, mul_comm e (size n / e)))))

  root : (N : ℕ) → N < f (2 ^ 2000) → (0 < N → f (2 ^ 53) ≤ N)
      → let t = greatest (at_root f N) (size N / e + 1) 0 in Nearest false (λ h. f h ≤ k * N) (λ h. k * N ≤ f h) (nearest_of t (eqb (f t) N))
  root N small big =
      let K = size N / e + 1 in
      let p = at_root f N in
      let t = greatest p K 0 in
      let g = found p K 0 (le→leb (f 0) N (rw P.none zero-le))
      (not_T (p (0 + 2 ^ K)) (λ y. not-le_of_lt (top N) (rw (zero-add (2 ^ K)) at (leb→le (f (0 + 2 ^ K)) N y)))) in
      let lo : f t ≤ N = leb→le (f t) N g.0 in
      let hi : N < f (suc t) = nleb→lt (f (suc t)) N g.1 in
      nearest_is t (eqb (f t) N)
      (back t (2 ^ 2000) (lt_of_le_of_lt lo small))
      (λ e. le_of_suc-le-suc (back (2 ^ 53) (suc t) (lt_of_le_of_lt (big (some (f t) N lo e)) hi)))
      (λ h. f h ≤ k * N) (λ h. k * N ≤ f h)
      (λ a b l u. le_trans (P.ordered a b l) u) (λ a b l u. le_trans u (P.ordered a b l))
      (rw (twice t) (mul-le-mul_left k lo))
      (λ e. rw (twice t) (mul-le-mul_left k (le_of_eq (sym (eqb→eq (f t) N e)))))
      (rw (twice (suc t)) (mul-le-mul_left k (le_of_lt hi)))
    where
      some : (a b : ℕ) → a ≤ b → eqb a b ≡ false → 0 < b
      some a b l e = lt_of_le_of_lt zero-le (lt_of_le-ne l (λ q. true≢false (sym (is_true (eqb a b) (subst (λ x. T (eqb a x)) q (eqb_refl a))) ∙ e)))

pub square_nearest : (k : ℕ) → ((a : ℕ) → 2 * a * (2 * a) ≡ k * (a * a)) → (N : ℕ) → N < 2 ^ 4000 → (0 < N → 2 ^ 106 ≤ N)
    → Nearest false (λ h. h * h ≤ k * N) (λ h. k * N ≤ h * h) (nearest_sqrt N)
unfolding floor_sqrt
square_nearest k twice N small big = root 2 (λ t. t * t) squares k twice N small big

pub cube_nearest : (k : ℕ) → ((a : ℕ) → 2 * a * (2 * a) * (2 * a) ≡ k * (a * a * a)) → (N : ℕ) → N < 2 ^ 6000 → (0 < N → 2 ^ 159 ≤ N)
    → Nearest false (λ h. h * h * h ≤ k * N) (λ h. k * N ≤ h * h * h) (nearest_cbrt N)
unfolding floor_cbrt
cube_nearest k twice N small big = root 3 (λ t. t * t * t) cubes k twice N small big

-- ---- N is n units times 2 ^ l

pub scaled_most : (x : Float) (l m : ℕ) → Finite x → 2 ^ 2098 * 2 ^ l ≤ m → units_of x * 2 ^ l < m
scaled_most x l m f h = lt_of_lt_of_le (mul-lt-mul_of_pos_right (units_under x f) (pow_pos l)) h

pub scaled_least : (n l m : ℕ) → 0 < n → m ≤ 2 ^ l → m ≤ n * 2 ^ l
scaled_least n l m p h = le_trans h (subst (λ (a : ℕ). a ≤ n * 2 ^ l) (one-mul (2 ^ l)) (mul-le-mul_right (2 ^ l) p))

-- ---- N is 1 - c², with U for 1

-- where c is not 1, U * U - c * c is U at least
rest_least : (U c : ℕ) → c ≤ U → 0 < U * U - c * c → U ≤ U * U - c * c
rest_least U c l p =
    ⊎_elim (λ e. absurd (none (subst (λ (a : ℕ). 0 < U * U - a * a) e p))) (λ g. omega (arith, mul-le-mul_right U g, mul-le-mul_left c l)) (eq-or-lt_of_le l)
  where
    none : 0 < U * U - U * U → ⊥
    none p = omega arith

-- c * c moved to the other side
moved : (k W q : ℕ) → q ≤ W → (h : ℕ) → (h * h ≤ k * (W - q) → h * h + k * q ≤ k * W) × (k * (W - q) ≤ h * h → k * W ≤ h * h + k * q)
moved k W q l h =
    let e : k * (W - q) + k * q ≡ k * W = sym (mul-add k (W - q) q) ∙ ap (λ (a : ℕ). k * a) (sub-add_cancel l) in
    (λ a. omega arith, λ a. omega arith)

pub rest_nearest : (k : ℕ) → ((a : ℕ) → 2 * a * (2 * a) ≡ k * (a * a)) → (c : ℕ) → c ≤ 2 ^ 1074
    → Nearest false (λ h. h * h + k * (c * c) ≤ k * 2 ^ 2148) (λ h. k * 2 ^ 2148 ≤ h * h + k * (c * c)) (nearest_sqrt (2 ^ 2148 - c * c))
rest_nearest k twice c l =
    let m = moved k (2 ^ 2148) (c * c) (mul-le-mul l l) in
    in_words _ _ (λ h. (m h).0) (λ h. (m h).1)
    (square_nearest k twice (2 ^ 2148 - c * c) (lt_of_le_of_lt (sub-le (2 ^ 2148) (c * c)) (lit< tt)) (λ p. le_trans (lit≤ tt) (rest_least (2 ^ 1074) c l p)))

-- ---- the definitions at a number that is not zero

pub sqrt_is : (x : Float) → positive x ≡ true → sqrt_of x ≡ nearest_sqrt (units_of x * 2 ^ 1074)
unfolding sqrt_of
sqrt_is x p = rw (positive_is x p).2 refl

pub cbrt_is : (x : Float) → regular_of x ≡ true → cbrt_of x ≡ let r = nearest_cbrt (units_of x * 2 ^ 2148) in cond (is_sign_negative_of x) (neg r) r
unfolding cbrt_of is_sign_negative_of
cbrt_is x p = rw (regular_is x p).2 refl
