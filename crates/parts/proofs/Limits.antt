-- What is refused, by the coefficients: 14 where one beyond t^4 is no zero, 15 where none is and one is too large, and nothing else.
use mathlib.Core.Path.{◌≡◌, refl, sym, ap, subst, ◌∙◌}
use mathlib.Core.Bool.{Bool, true, false, cond, ◌||◌, true≢false}
use mathlib.Core.List.{List, [], ◌∷◌}
use mathlib.Core.Logic.{◌⊎◌, inl, inr, ⊎_elim}
use Prim.Native.Nat.{ℕ, zero, suc, ◌^◌, ◌≤◌, ◌<◌}
use Rattle.algebra.specs.NatOrder.{le_or_lt}
use native.Mathlib.Omega.{arith}
use lib.Dec.{ltb, lit≤}
use lib.ListN.{length, get_or-eq_default}
use lib.IntN.{ℤ, pos, nat_abs}
use borrow.Author.Tests.{lt-ltb, le-ltb, ltb-false}
use Rattle.std.specs.Prelude.{Ok, Err}
use Rattle.refusals.specs.declared.Refusal.TheVariants.{DegreeTooHigh, CoefficientTooLarge}
use Rattle.parts.specs.Polynomial.{coefficient_of, trimmed}
use Rattle.parts.specs.Value.{Value, too_large, limited}
use Rattle.parts.proofs.Coefficients.{trimmed_at, trimmed_same, trimmed_short, trimmed_long}

-- ---- too large
none_large : (p : List ℤ) → ((k : ℕ) → nat_abs (coefficient_of p k) ≤ 2 ^ 53) → too_large p ≡ false
none_large [] h = refl
none_large (a ∷ p) h = rw (le-ltb (2 ^ 53) (nat_abs a) (h 0)) (none_large p (λ k. h (suc k)))

some_large : (p : List ℤ) (k : ℕ) → 2 ^ 53 < nat_abs (coefficient_of p k) → too_large p ≡ true
some_large [] k h = absurd (omega arith)
some_large (a ∷ p) zero h = rw (lt-ltb (2 ^ 53) (nat_abs a) h)
some_large (a ∷ p) (suc k) h = go (ltb (2 ^ 53) (nat_abs a)) (some_large p k h)
  where
    go : (b : Bool) → too_large p ≡ true → (b || too_large p) ≡ true
    go true e = refl
    go false e = e

-- ---- the three ways
pub limited_high : (p : List ℤ) (k : ℕ) → 5 ≤ k → (coefficient_of p k ≡ pos 0 → ⊥) → limited p ≡ Err DegreeTooHigh
unfolding limited
limited_high p k h f = ⊎_elim (λ l. absurd (f (trimmed_long 5 p l k h))) (λ l. rw (lt-ltb 5 (length (trimmed p)) l)) (le_or_lt (length (trimmed p)) 5)

pub limited_large : (p : List ℤ) (k : ℕ) → ((j : ℕ) → 5 ≤ j → coefficient_of p j ≡ pos 0) → 2 ^ 53 < nat_abs (coefficient_of p k)
    → limited p ≡ Err CoefficientTooLarge
unfolding limited
limited_large p k z h =
    let large : 2 ^ 53 < nat_abs (coefficient_of (trimmed p) k) = subst (λ (a : ℤ). 2 ^ 53 < nat_abs a) (sym (trimmed_at p k)) h in
    rw (le-ltb 5 (length (trimmed p)) (trimmed_short 5 p z), some_large (trimmed p) k large)

pub limited_exact : (p q : List ℤ) → ((k : ℕ) → coefficient_of p k ≡ coefficient_of q k) → length q ≤ 5 → ((k : ℕ) → nat_abs (coefficient_of q k) ≤ 2 ^ 53)
    → limited p ≡ Ok (trimmed q)
unfolding limited
limited_exact p q e l h =
    let small : (k : ℕ) → nat_abs (coefficient_of (trimmed p) k) ≤ 2 ^ 53 = λ k. subst (λ (a : ℤ). nat_abs a ≤ 2 ^ 53) (sym (trimmed_at p k ∙ e k)) (h k) in
    let z : (k : ℕ) → 5 ≤ k → coefficient_of p k ≡ pos 0 = λ k m. e k ∙ get_or-eq_default q (pos 0) {n = k} (omega arith) in
    rw (le-ltb 5 (length (trimmed p)) (trimmed_short 5 p z), none_large (trimmed p) small) (ap Ok (trimmed_same p q e))

-- ---- what is not refused meets the limits
neither_first : (a b : Bool) → (a || b) ≡ false → a ≡ false
neither_first true b e = e
neither_first false b e = refl

neither_second : (a b : Bool) → (a || b) ≡ false → b ≡ false
neither_second true b e = absurd (true≢false e)
neither_second false b e = e

not_large : (p : List ℤ) → too_large p ≡ false → (k : ℕ) → nat_abs (coefficient_of p k) ≤ 2 ^ 53
not_large [] e k = lit≤ tt
not_large (a ∷ p) e zero = ltb-false (2 ^ 53) (nat_abs a) (neither_first (ltb (2 ^ 53) (nat_abs a)) (too_large p) e)
not_large (a ∷ p) e (suc k) = not_large p (neither_second (ltb (2 ^ 53) (nat_abs a)) (too_large p) e) k

abbrev pub Limits : Value → Type 0
Limits (Ok p) = (length p ≤ 5) × ((k : ℕ) → nat_abs (coefficient_of p k) ≤ 2 ^ 53) × (trimmed p ≡ p)
Limits (Err refusal) = (refusal ≡ DegreeTooHigh) ⊎ (refusal ≡ CoefficientTooLarge)

pub limited_limits : (p : List ℤ) → Limits (limited p)
unfolding limited
limited_limits p = go (ltb 5 (length (trimmed p))) (too_large (trimmed p)) refl refl
  where
    go : (b c : Bool) → ltb 5 (length (trimmed p)) ≡ b → too_large (trimmed p) ≡ c
        → Limits (cond b (Err DegreeTooHigh) (cond c (Err CoefficientTooLarge) (Ok (trimmed p))))
    go true c d e = inl refl
    go false true d e = inr refl
    go false false d e = (ltb-false 5 (length (trimmed p)) d, not_large (trimmed p) e, trimmed_same (trimmed p) p (trimmed_at p))
