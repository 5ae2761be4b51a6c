-- What a polynomial is refused for, by its coefficients alone: `limited_ways`. Zeros at the end of two polynomials do not change what their sum, difference or
-- product comes to: `made_trimmed`.
use mathlib.Core.Path.{◌≡◌, refl, sym, ap, ap₂, subst, fun_ext, ◌∙◌}
use mathlib.Core.Bool.{Bool, true, false, cond, ◌||◌, true≢false}
use mathlib.Core.List.{List, [], ◌∷◌}
use Prim.Native.Nat.{ℕ, suc, ◌^◌, ◌≤◌, ◌<◌}
use native.Mathlib.Omega.{arith}
use lib.Dec.{T, eqb, ltb}
use lib.ListN.{length}
use lib.IntN.{ℤ, pos, nat_abs}
use borrow.Author.Tests.{ltb-true, ltb-false}
use Rattle.std.specs.Prelude.{Ok, Err}
use Rattle.refusals.specs.declared.Refusal.TheVariants.{DegreeTooHigh, CoefficientTooLarge}
use Rattle.parts.specs.declared.Operator.{Operator}
use Rattle.parts.specs.Polynomial.{coefficient_of, led, trimmed}
use Rattle.parts.specs.Products.{made_of, operator_of}
use Rattle.parts.specs.Value.{Value, too_large, limited}
use Rattle.parts.proofs.Coefficients.{made_at, trimmed_at, trimmed_same, trimmed_long}
use Rattle.parts.proofs.Limits.{Limits, limited_limits}

-- ---- the last coefficient that is left is no zero
pub trimmed_last : (p : List ℤ) → 0 < length (trimmed p) → (k : ℕ) × (length (trimmed p) ≡ suc k) × (coefficient_of p k ≡ pos 0 → ⊥)
trimmed_last [] h = absurd (omega arith)
trimmed_last (a ∷ p) h = go (trimmed p) (trimmed_last p) h
  where
    alone : (t : Bool) → (a ≡ pos 0 → T t) → let q = cond t [] (a ∷ []) in 0 < length q → (k : ℕ) × (length q ≡ suc k) × (coefficient_of (a ∷ p) k ≡ pos 0 → ⊥)
    alone true z l = absurd (omega arith)
    alone false z l = (0, refl, z)

    go : (q : List ℤ) → (0 < length q → (k : ℕ) × (length q ≡ suc k) × (coefficient_of p k ≡ pos 0 → ⊥))
        → 0 < length (led a q) → (k : ℕ) × (length (led a q) ≡ suc k) × (coefficient_of (a ∷ p) k ≡ pos 0 → ⊥)
    go [] rest l = alone (eqb (nat_abs a) 0) (λ e. subst (λ (x : ℤ). T (eqb (nat_abs x) 0)) (sym e) tt) l
    go (b ∷ q) rest l = let w = rest (omega arith) in (suc w.0, ap suc w.1, w.2)

-- ---- the three ways
large_at : (p : List ℤ) → too_large p ≡ true → (k : ℕ) × (2 ^ 53 < nat_abs (coefficient_of p k))
large_at [] e = absurd (true≢false (sym e))
large_at (a ∷ p) e = go (ltb (2 ^ 53) (nat_abs a)) refl e (large_at p)
  where
    go : (b : Bool) → ltb (2 ^ 53) (nat_abs a) ≡ b → (b || too_large p) ≡ true → (too_large p ≡ true → (k : ℕ) × (2 ^ 53 < nat_abs (coefficient_of p k)))
        → (k : ℕ) × (2 ^ 53 < nat_abs (coefficient_of (a ∷ p) k))
    go true d e rest = (0, ltb-true (2 ^ 53) (nat_abs a) d)
    go false d e rest = let w = rest e in (suc w.0, w.1)

pub limited_ways : (C : Value → Type 0) (p : List ℤ)
    → ((k : ℕ) → 5 ≤ k → (coefficient_of p k ≡ pos 0 → ⊥) → C (Err DegreeTooHigh))
    → (((k : ℕ) → 5 ≤ k → coefficient_of p k ≡ pos 0) → (k : ℕ) → 2 ^ 53 < nat_abs (coefficient_of p k) → C (Err CoefficientTooLarge))
    → (((k : ℕ) → 5 ≤ k → coefficient_of p k ≡ pos 0) → ((k : ℕ) → nat_abs (coefficient_of p k) ≤ 2 ^ 53) → C (Ok (trimmed p)))
    → C (limited p)
unfolding limited
limited_ways C p high large meets = go (ltb 5 (length (trimmed p))) (too_large (trimmed p)) refl refl
  where
    go : (b c : Bool) → ltb 5 (length (trimmed p)) ≡ b → too_large (trimmed p) ≡ c
        → C (cond b (Err DegreeTooHigh) (cond c (Err CoefficientTooLarge) (Ok (trimmed p))))
    go true c d e = let l = ltb-true 5 (length (trimmed p)) d in let w = trimmed_last p (omega arith) in high w.0 (omega (arith, w.1)) w.2
    go false true d e =
        let w = large_at (trimmed p) e in
        large (trimmed_long 5 p (ltb-false 5 (length (trimmed p)) d)) w.0 (subst (λ (a : ℤ). 2 ^ 53 < nat_abs a) (trimmed_at p w.0) w.1)
    go false false d e =
        let w : Limits (Ok (trimmed p)) = rw (d, e) at (limited_limits p) in
        meets (trimmed_long 5 p w.0) (λ k. subst (λ (a : ℤ). nat_abs a ≤ 2 ^ 53) (trimmed_at p k) (w.1 k))

-- ---- zeros at the end
limited_same : (p q : List ℤ) → ((k : ℕ) → coefficient_of p k ≡ coefficient_of q k) → limited p ≡ limited q
unfolding limited
limited_same p q e =
    ap (λ (r : List ℤ). cond (ltb 5 (length r)) (Err DegreeTooHigh) (cond (too_large r) (Err CoefficientTooLarge) (Ok r))) (trimmed_same p q e)

pub made_trimmed : (op : Operator) (p q : List ℤ) → limited (operator_of op (trimmed p) (trimmed q)) ≡ limited (operator_of op p q)
made_trimmed op p q = limited_same (operator_of op (trimmed p) (trimmed q)) (operator_of op p q) same
  where
    same : (k : ℕ) → coefficient_of (operator_of op (trimmed p) (trimmed q)) k ≡ coefficient_of (operator_of op p q) k
    same k =
        made_at op (trimmed p) (trimmed q) k
        ∙ ap₂ (λ (a b : ℕ → ℤ). made_of op a b k) (fun_ext (trimmed_at p)) (fun_ext (trimmed_at q))
        ∙ sym (made_at op p q k)
