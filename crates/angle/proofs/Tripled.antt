-- The tripled sine in four words, and the gap.
use mathlib.Core.Path.{◌≡◌, sym, ap, ◌∙◌, subst}
use mathlib.Core.Bool.{Bool, true, false, not, cond}
use Prim.Native.Nat.{ℕ, ◌+◌, ◌-◌, ◌*◌, ◌%◌, ◌^◌, ◌≤◌, ◌<◌}
use native.Mathlib.Omega.{arith}
use native.Mathlib.Nat.{le_trans, le_of_lt, lt_of_le_of_lt, lt_of_lt_of_le, eq-sub_of_add-eq, mul_assoc, mul-le-mul, mul-le-mul_left, mul-le-mul_right}
use native.Mathlib.Nat.{mul-lt-mul_of_pos_right, mul-mul-mul_comm, mod-eq_of_lt}
use borrow.Author.Tests.{le-leb, lt-leb, le-ltb}
use lib.Dec.{ltb, lit<, lit≤}
use lib.Pow.{pow-add, pow_pos, pow_mono}
use Rattle.std.proofs.lemmas.Nat.{mul-lt}
use Rattle.algebra.specs.NatOrder.{sub_mul, pow2_join}
use Rattle.algebra.specs.RingNat.{ring, #, ◌:*◌, ◌:=◌}
use Rattle.angle.specs.Parts.{tripled, gap_of, within}
use Rattle.angle.proofs.Levels.{bit}
use Rattle.angle.proofs.Gap.{below_one}

-- ---- the tripled sine, times X

pub tripled_is : (h t X r : ℕ) → r + t * t * (t * X) ≡ t * (3 * (h * h) * X) → r ≡ tripled h t * X
tripled_is h t X r e =
    eq-sub_of_add-eq r (t * t * (t * X)) e
    ∙ ap (λ (x : ℕ). x - t * t * (t * X)) (ring 3 (λ h t X. t :* (# 3 :* (h :* h) :* X) := # 3 :* (h :* h) :* (t :* X)) tt h t X)
    ∙ sym (sub_mul (3 * (h * h)) (t * t) (t * X))
    ∙ ring 3 (λ t X e. e :* (t :* X) := t :* e :* X) tt t X (3 * (h * h) - t * t)

pub tripled_fits : (h t X : ℕ) → t * t ≤ 3 * (h * h) → t * t * (t * X) ≤ t * (3 * (h * h) * X)
tripled_fits h t X l =
    subst (λ (x : ℕ). t * t * (t * X) ≤ x) (ring 3 (λ h t X. # 3 :* (h :* h) :* (t :* X) := t :* (# 3 :* (h :* h) :* X)) tt h t X) (mul-le-mul_right (t * X) l)

module _ (t k : ℕ) (a : t ≤ 2 ^ 54) (b : 60 < k) (c : k ≤ 81) where
  h : ℕ
  h = 2 ^ (k - 1)

  X : ℕ
  X = 2 ^ (244 - 3 * k)

  pub small_cube : 1 * 2 ^ (244 - 3 * k) % 2 ^ 64 ≡ 2 ^ (244 - 3 * k)
  small_cube = bit (244 - 3 * k) (let q : 244 - 3 * k < 64 = omega arith in q)

  small_line : 3 * 2 ^ (114 - k) % 2 ^ 64 * 2 ^ 128 ≡ 3 * (h * h) * X
  unfolding h X
  small_line =
      ap (λ (x : ℕ). x * 2 ^ 128)
      (mod-eq_of_lt (lt_of_le_of_lt (mul-le-mul_left 3 (pow_mono (let q : 114 - k ≤ 53 = omega arith in q))) (let q : 3 * 2 ^ 53 < 2 ^ 64 = lit< tt in q)))
      ∙ pow2_join 3 (114 - k) 128
      ∙ ap (λ (x : ℕ). 3 * 2 ^ x) (let q : 114 - k + 128 ≡ k - 1 + (k - 1) + (244 - 3 * k) = omega arith in q)
      ∙ sym (pow2_join 3 (k - 1 + (k - 1)) (244 - 3 * k))
      ∙ ap (λ (x : ℕ). 3 * x * 2 ^ (244 - 3 * k)) (pow-add 2 (k - 1) (k - 1))

  fits : t * t ≤ 3 * (h * h)
  unfolding h
  fits =
      let p : 2 ^ 60 ≤ 2 ^ (k - 1) = pow_mono (let q : 60 ≤ k - 1 = omega arith in q) in
      le_trans (mul-le-mul a a) (le_trans (let q : 2 ^ 54 * 2 ^ 54 ≤ 3 * (2 ^ 60 * 2 ^ 60) = lit≤ tt in q) (mul-le-mul_left 3 (mul-le-mul p p)))

  module _ (B : ℕ) (e : B ≡ t * (1 * 2 ^ (244 - 3 * k) % 2 ^ 64)) where
    cube : B ≡ t * X
    unfolding X
    cube = e ∙ ap (λ (x : ℕ). t * x) small_cube

    line : t * (3 * 2 ^ (114 - k) % 2 ^ 64) * 2 ^ 128 ≡ t * (3 * (h * h) * X)
    line = mul_assoc t _ (2 ^ 128) ∙ ap (λ (x : ℕ). t * x) small_line

    pub small_fits : t * t * B ≤ t * (3 * 2 ^ (114 - k) % 2 ^ 64) * 2 ^ 128
    small_fits =
        subst (λ (x : ℕ). t * t * x ≤ t * (3 * 2 ^ (114 - k) % 2 ^ 64) * 2 ^ 128) (sym cube)
        (subst (λ (x : ℕ). t * t * (t * X) ≤ x) (sym line) (tripled_fits h t X fits))

    pub small_is : (r : ℕ) → r + t * t * B ≡ t * (3 * 2 ^ (114 - k) % 2 ^ 64) * 2 ^ 128 → r ≡ tripled (2 ^ (k - 1)) t * 2 ^ (244 - 3 * k)
    unfolding h X
    small_is r f = tripled_is (2 ^ (k - 1)) t (2 ^ (244 - 3 * k)) r (ap (λ (x : ℕ). r + t * t * x) (sym cube) ∙ f ∙ line)

pub large_fits : (t : ℕ) → t * t ≤ 3 * 2 ^ 118 → t * t * (t * 2 ^ 64 + 0) ≤ t * (3 * 2 ^ 54) * 2 ^ 128
large_fits t l = omega (arith, tripled_fits (2 ^ 59) t (2 ^ 64) l)

pub large_is : (t r : ℕ) → r + t * t * (t * 2 ^ 64 + 0) ≡ t * (3 * 2 ^ 54) * 2 ^ 128 → r ≡ tripled (2 ^ 59) t * 2 ^ 64
large_is t r e = tripled_is (2 ^ 59) t (2 ^ 64) r (omega (arith, e))

-- ---- the gap

module _ (w k x p : ℕ) (a : w < 2 ^ 53) (b : 1012 ≤ k) (c : k < 1074) (e : x ≡ w * (1 * 2 ^ (k - 1012) % 2 ^ 64)) (f : p ≡ x * x) where
  size : x ≡ w * 2 ^ (k - 1012)
  size = e ∙ ap (λ (y : ℕ). w * y) (bit (k - 1012) (let q : k - 1012 < 64 = omega arith in q))

  gap_fits : p ≤ 2 ^ 228
  gap_fits = let l : x ≤ 2 ^ 114 = subst (λ (y : ℕ). y ≤ 2 ^ 114) (sym size) (below_one w k a c) in subst (λ (y : ℕ). y ≤ 2 ^ 228) (sym f) (mul-le-mul l l)

  pub gap_is : (r : ℕ) (over : Bool) → r + p ≡ 2 ^ 228 + cond over (2 ^ 256) 0 → over ≡ ltb (2 ^ 228) p → r ≡ gap_of w k
  gap_is r over g h =
      eq-sub_of_add-eq r p (g ∙ ap (λ (o : Bool). 2 ^ 228 + cond o (2 ^ 256) 0) (h ∙ le-ltb (2 ^ 228) p gap_fits))
      ∙ ap (λ (y : ℕ). 2 ^ 228 - y) (f ∙ ap (λ (y : ℕ). y * y) size)

-- ---- the comparison by the upper words A of q

module _ (A r q g : ℕ) (e : q ≡ A * 2 ^ 128 + r) where
  over : g < A * A → g * 2 ^ 256 < q * q
  over l =
      lt_of_lt_of_le (subst (λ (x : ℕ). g * 2 ^ 256 < x) (mul-mul-mul_comm A A (2 ^ 128) (2 ^ 128)) (mul-lt-mul_of_pos_right l (pow_pos 256)))
      (mul-le-mul (let k : A * 2 ^ 128 ≤ q = omega arith in k) (let k : A * 2 ^ 128 ≤ q = omega arith in k))

  under : A < 2 ^ 128 → r < 2 ^ 128 → A * A + 2 ^ 129 ≤ g → q * q < g * 2 ^ 256
  under a b l =
      let k : q < (A + 1) * 2 ^ 128 = omega arith in
      lt_of_lt_of_le (mul-lt q q ((A + 1) * 2 ^ 128) ((A + 1) * 2 ^ 128) k k)
      (subst (λ (x : ℕ). x ≤ g * 2 ^ 256) (mul-mul-mul_comm (A + 1) (A + 1) (2 ^ 128) (2 ^ 128))
      (mul-le-mul_right (2 ^ 256) (let z : (A + 1) * (A + 1) ≤ g = omega arith in z)))

  pub over_is : (s : Bool) → g < A * A → s ≡ within s (g * 2 ^ 256) (q * q)
  over_is true l = sym (le-leb _ _ (le_of_lt (over l)))
  over_is false l = sym (lt-leb _ _ (over l))

  pub under_is : (s : Bool) → A < 2 ^ 128 → r < 2 ^ 128 → A * A + 2 ^ 129 ≤ g → not s ≡ within s (g * 2 ^ 256) (q * q)
  under_is true a b l = sym (lt-leb _ _ (under a b l))
  under_is false a b l = sym (le-leb _ _ (le_of_lt (under a b l)))
