-- How far what is made of two polynomials reaches: whole numbers have no zero divisors, so the degree of a product is the sum of the degrees.
use mathlib.Core.Path.{◌≡◌, refl, sym, ap, ap₂, ◌∙◌}
use mathlib.Core.Logic.{⊎_elim}
use Prim.Native.Nat.{ℕ, zero, suc, ◌+◌, ◌-◌, ◌*◌, ◌≤◌, ◌<◌}
use native.Mathlib.Nat.{eq-or-lt_of_le, mul-le-mul}
use native.Mathlib.Omega.{arith}
use lib.IntN.{ℤ, pos, negsuc, neg_ℤ, nat_abs, ◌+ℤ◌, ◌*ℤ◌, +ℤ_idl, +ℤ_idr, zero-*ℤ, *ℤ-zero}
use Rattle.algebra.specs.NatOrder.{le_or_lt}
use Rattle.algebra.specs.IntOrder.{nat_abs_mul}
use Rattle.parts.specs.declared.Operator.{Operator}
use Rattle.parts.specs.declared.Operator.TheVariants.{Sum, Difference, Product}
use Rattle.parts.specs.Products.{products_to, made_of, made_length}

-- ---- no zero divisors
size_over_zero : (x : ℤ) → (x ≡ pos 0 → ⊥) → 1 ≤ nat_abs x
size_over_zero (pos zero) f = absurd (f refl)
size_over_zero (pos (suc n)) f = omega arith
size_over_zero (negsuc n) f = omega arith

product_no_zero : (x y : ℤ) → (x ≡ pos 0 → ⊥) → (y ≡ pos 0 → ⊥) → x *ℤ y ≡ pos 0 → ⊥
product_no_zero x y f g e =
    let h : 1 ≤ nat_abs x * nat_abs y = mul-le-mul (size_over_zero x f) (size_over_zero y g) in
    omega (arith, sym (nat_abs_mul x y) ∙ ap nat_abs e)

zero_first : (x y : ℤ) → x ≡ pos 0 → x *ℤ y ≡ pos 0
zero_first x y e = ap (λ (z : ℤ). z *ℤ y) e ∙ zero-*ℤ y

zero_second : (x y : ℤ) → y ≡ pos 0 → x *ℤ y ≡ pos 0
zero_second x y e = ap (λ (z : ℤ). x *ℤ z) e ∙ *ℤ-zero x

-- ---- products that are zeros
products_same : (a b : ℕ → ℤ) (k i j : ℕ) → i ≤ j → ((l : ℕ) → i ≤ l → l < j → a l *ℤ b (k - l) ≡ pos 0) → products_to a b k j ≡ products_to a b k i
products_same a b k i zero h z = ap (products_to a b k) (let e : 0 ≡ i = omega arith in e)
products_same a b k i (suc j) h z =
    ⊎_elim (λ (q : i ≡ suc j). ap (products_to a b k) (sym q))
    (λ (q : i < suc j). ap₂ ◌+ℤ◌ (products_same a b k i j (omega arith) (λ l g t. z l g (omega arith))) (z j (omega arith) (omega arith))
    ∙ +ℤ_idr (products_to a b k i))
    (eq-or-lt_of_le h)

-- ---- two polynomials of m and n coefficients
module _ (a b : ℕ → ℤ) (m n : ℕ) (y : (k : ℕ) → m ≤ k → a k ≡ pos 0) (z : (k : ℕ) → n ≤ k → b k ≡ pos 0) where
  pub made_none : (op : Operator) (k : ℕ) → made_length op m n ≤ k → made_of op a b k ≡ pos 0
  made_none Sum k h = ap₂ ◌+ℤ◌ (y k (omega arith)) (z k (omega arith))
  made_none Difference k h = ap₂ (λ (u v : ℤ). u +ℤ neg_ℤ v) (y k (omega arith)) (z k (omega arith))
  made_none Product k h = products_same a b k 0 (suc k) (omega arith) λ l g t.
      ⊎_elim (λ (q : m ≤ l). zero_first (a l) (b (k - l)) (y l q)) (λ (q : l < m). zero_second (a l) (b (k - l)) (z (k - l) (omega arith))) (le_or_lt m l)

  -- the products for t^k from the i-th on where m ends, and up to the i-th where n ends
  pub products_behind : (k i : ℕ) → i ≤ k + 1 → (i < k + 1 → m ≤ i) → products_to a b k (suc k) ≡ products_to a b k i
  products_behind k i h g = products_same a b k i (suc k) (omega arith) (λ l t u. zero_first (a l) (b (k - l)) (y l (omega (arith, g (omega arith)))))

  pub products_before : (k i : ℕ) → i ≡ k + 1 - n → products_to a b k i ≡ pos 0
  products_before k i e = products_same a b k 0 i (omega arith) (λ l t u. zero_second (a l) (b (k - l)) (z (k - l) (omega arith)))

module _ (a b : ℕ → ℤ) (i j : ℕ) (y : (k : ℕ) → suc i ≤ k → a k ≡ pos 0) (z : (k : ℕ) → suc j ≤ k → b k ≡ pos 0) where
  leading : products_to a b (i + j) (suc (i + j)) ≡ a i *ℤ b j
  leading =
      products_behind a b (suc i) (suc j) y z (i + j) (suc i) (omega arith) (λ h. omega arith)
      ∙ ap₂ ◌+ℤ◌ (products_before a b (suc i) (suc j) y z (i + j) i (omega arith)) (ap (λ (k : ℕ). a i *ℤ b k) rest)
      ∙ +ℤ_idl (a i *ℤ b j)
    where
      rest : i + j - i ≡ j
      rest = omega arith

pub made_high : (op : Operator) (a b : ℕ → ℤ) (m n : ℕ) → ((k : ℕ) → m ≤ k → a k ≡ pos 0) → ((k : ℕ) → n ≤ k → b k ≡ pos 0)
    → ((i : ℕ) → m ≡ suc i → a i ≡ pos 0 → ⊥) → ((j : ℕ) → n ≡ suc j → b j ≡ pos 0 → ⊥) → m ≤ 5 → n ≤ 5 → 5 < made_length op m n
    → (k : ℕ) × (5 ≤ k) × (made_of op a b k ≡ pos 0 → ⊥)
made_high Sum a b m n y z f g s t h = absurd (omega arith)
made_high Difference a b m n y z f g s t h = absurd (omega arith)
made_high Product a b zero n y z f g s t h = absurd (omega arith)
made_high Product a b (suc i) zero y z f g s t h = absurd (omega arith)
made_high Product a b (suc i) (suc j) y z f g s t h =
    (i + j, omega arith, λ e. product_no_zero (a i) (b j) (f i refl) (g j refl) (sym (leading a b i j y z) ∙ e))
