-- The coefficients of a sum, of a product and of a polynomial without the zeros at its end; such a polynomial is known by its coefficients.
use mathlib.Core.Path.{◌≡◌, refl, sym, ap, ap₂, ◌∙◌}
use mathlib.Core.Bool.{Bool, true, false, cond}
use mathlib.Core.List.{List, [], ◌∷◌, map}
use Prim.Native.Nat.{ℕ, zero, suc, ◌-◌, ◌≤◌}
use native.Mathlib.Omega.{arith}
use lib.Dec.{T, eqb, eqb→eq}
use lib.ListN.{length, get_or-eq_default, get_or-map}
use lib.IntN.{ℤ, pos, negsuc, neg_ℤ, nat_abs, ◌+ℤ◌, ◌*ℤ◌, +ℤ_idl, +ℤ_idr, +ℤ_assoc, zero-*ℤ, *ℤ-zero}
use Rattle.parts.specs.declared.Operator.{Operator}
use Rattle.parts.specs.declared.Operator.TheVariants.{Sum, Difference, Product}
use Rattle.parts.specs.Polynomial.{coefficient_of, added, subtracted, multiplied, led, trimmed}
use Rattle.parts.specs.Products.{products_to, made_of, operator_of}

-- ---- sums and products
added_at : (p q : List ℤ) (k : ℕ) → coefficient_of (added p q) k ≡ coefficient_of p k +ℤ coefficient_of q k
added_at [] q k = sym (+ℤ_idl (coefficient_of q k))
added_at (a ∷ p) [] k = sym (+ℤ_idr (coefficient_of (a ∷ p) k))
added_at (a ∷ p) (b ∷ q) zero = refl
added_at (a ∷ p) (b ∷ q) (suc k) = added_at p q k

subtracted_at : (p q : List ℤ) (k : ℕ) → coefficient_of (subtracted p q) k ≡ coefficient_of p k +ℤ neg_ℤ (coefficient_of q k)
subtracted_at p q k = added_at p (map neg_ℤ q) k ∙ ap (λ (x : ℤ). coefficient_of p k +ℤ x) (get_or-map neg_ℤ q k (pos 0))

scaled_at : (a : ℤ) (q : List ℤ) (k : ℕ) → coefficient_of (map (λ b. a *ℤ b) q) k ≡ a *ℤ coefficient_of q k
scaled_at a [] k = sym (*ℤ-zero a)
scaled_at a (b ∷ q) zero = refl
scaled_at a (b ∷ q) (suc k) = scaled_at a q k

products_none : (b : ℕ → ℤ) (k n : ℕ) → products_to (λ i. pos 0) b k n ≡ pos 0
products_none b k zero = refl
products_none b k (suc n) = ap₂ ◌+ℤ◌ (products_none b k n) (zero-*ℤ (b (k - n)))

-- the first product apart
products_front : (a b : ℕ → ℤ) (k n : ℕ) → products_to a b (suc k) (suc n) ≡ a 0 *ℤ b (suc k) +ℤ products_to (λ i. a (suc i)) b k n
products_front a b k zero = +ℤ_idl (a 0 *ℤ b (suc k - 0)) ∙ ap (λ (j : ℕ). a 0 *ℤ b j) whole ∙ sym (+ℤ_idr (a 0 *ℤ b (suc k)))
  where
    whole : suc k - 0 ≡ suc k
    whole = omega arith
products_front a b k (suc n) =
    ap₂ ◌+ℤ◌ (products_front a b k n) (ap (λ (j : ℕ). a (suc n) *ℤ b j) less)
    ∙ +ℤ_assoc (a 0 *ℤ b (suc k)) (products_to (λ i. a (suc i)) b k n) (a (suc n) *ℤ b (k - n))
  where
    less : suc k - suc n ≡ k - n
    less = omega arith

multiplied_at : (p q : List ℤ) (k : ℕ) → coefficient_of (multiplied p q) k ≡ products_to (coefficient_of p) (coefficient_of q) k (suc k)
multiplied_at [] q k = sym (products_none (coefficient_of q) k (suc k))
multiplied_at (a ∷ p) q zero =
    added_at (map (λ b. a *ℤ b) q) (pos 0 ∷ multiplied p q) zero ∙ ap (λ (x : ℤ). x +ℤ pos 0) (scaled_at a q zero)
    ∙ +ℤ_idr (a *ℤ coefficient_of q 0) ∙ sym (+ℤ_idl (a *ℤ coefficient_of q 0))
multiplied_at (a ∷ p) q (suc k) =
    added_at (map (λ b. a *ℤ b) q) (pos 0 ∷ multiplied p q) (suc k) ∙ ap₂ ◌+ℤ◌ (scaled_at a q (suc k)) (multiplied_at p q k)
    ∙ sym (products_front (coefficient_of (a ∷ p)) (coefficient_of q) k (suc k))

pub made_at : (op : Operator) (p q : List ℤ) (k : ℕ) → coefficient_of (operator_of op p q) k ≡ made_of op (coefficient_of p) (coefficient_of q) k
made_at Sum p q k = added_at p q k
made_at Difference p q k = subtracted_at p q k
made_at Product p q k = multiplied_at p q k

-- ---- zeros at the end
pub zero_is : (a : ℤ) → T (eqb (nat_abs a) 0) → a ≡ pos 0
zero_is (pos n) t = ap pos (eqb→eq n 0 t)
zero_is (negsuc n) t = let e : suc n ≡ 0 = eqb→eq (suc n) 0 t in absurd (omega arith)

led_at : (a : ℤ) (p : List ℤ) (k : ℕ) → coefficient_of (led a p) k ≡ coefficient_of (a ∷ p) k
led_at a [] k = go (eqb (nat_abs a) 0) (zero_is a) k
  where
    go : (t : Bool) → (T t → a ≡ pos 0) → (k : ℕ) → coefficient_of (cond t [] (a ∷ [])) k ≡ coefficient_of (a ∷ []) k
    go true z zero = sym (z tt)
    go true z (suc k) = refl
    go false z k = refl
led_at a (b ∷ p) k = refl

pub trimmed_at : (p : List ℤ) (k : ℕ) → coefficient_of (trimmed p) k ≡ coefficient_of p k
trimmed_at [] k = refl
trimmed_at (a ∷ p) zero = led_at a (trimmed p) zero
trimmed_at (a ∷ p) (suc k) = led_at a (trimmed p) (suc k) ∙ trimmed_at p k

pub trimmed_same : (p q : List ℤ) → ((k : ℕ) → coefficient_of p k ≡ coefficient_of q k) → trimmed p ≡ trimmed q
trimmed_same [] [] e = refl
trimmed_same [] (b ∷ q) e = ap₂ led (e 0) (trimmed_same [] q (λ k. e (suc k)))
trimmed_same (a ∷ p) [] e = ap₂ led (e 0) (trimmed_same p [] (λ k. e (suc k)))
trimmed_same (a ∷ p) (b ∷ q) e = ap₂ led (e 0) (trimmed_same p q (λ k. e (suc k)))

-- ---- how many coefficients are left
led_length : (a : ℤ) (p : List ℤ) → length (led a p) ≤ suc (length p)
led_length a [] = go (eqb (nat_abs a) 0)
  where
    go : (t : Bool) → length (cond t [] (a ∷ [])) ≤ 1
    go true = omega arith
    go false = omega arith
led_length a (b ∷ p) = omega arith

pub trimmed_short : (n : ℕ) (p : List ℤ) → ((k : ℕ) → n ≤ k → coefficient_of p k ≡ pos 0) → length (trimmed p) ≤ n
trimmed_short zero p e = omega (arith, ap (λ (q : List ℤ). length q) (trimmed_same p [] (λ k. e k (omega arith))))
trimmed_short (suc n) [] e = omega arith
trimmed_short (suc n) (a ∷ p) e = omega (arith, led_length a (trimmed p), trimmed_short n p (λ k h. e (suc k) (omega arith)))

pub trimmed_long : (n : ℕ) (p : List ℤ) → length (trimmed p) ≤ n → (k : ℕ) → n ≤ k → coefficient_of p k ≡ pos 0
trimmed_long n p h k l = sym (trimmed_at p k) ∙ get_or-eq_default (trimmed p) (pos 0) {n = k} (omega arith)
