-- The coefficients that are kept, and what a part is worth by them.
use mathlib.Core.Path.{◌≡◌, refl, sym, subst}
use mathlib.Core.List.{List, [], ◌∷◌}
use mathlib.Core.Logic.{⊎_elim}
use Prim.Native.Nat.{ℕ, zero, suc, ◌+◌, ◌^◌, ◌≤◌, ◌<◌}
use native.Mathlib.Nat.{eq-or-lt_of_le}
use native.Mathlib.Omega.{arith}
use lib.Dec.{lit≤}
use lib.ListN.{length, get_or-eq_default}
use lib.IntN.{ℤ, pos}
use Rattle.std.specs.Prelude.{Ok}
use Rattle.algebra.specs.NatOrder.{le_or_lt}
use Rattle.parts.specs.Polynomial.{coefficient_of, trimmed}
use Rattle.parts.specs.Value.{Value, limited}
use Rattle.parts.specs.Kept.{Small, Ends}
use Rattle.parts.proofs.Coefficients.{trimmed_short, trimmed_long}
use Rattle.parts.proofs.Limits.{limited_exact}

-- ---- five coefficients
module _ (l : List ℤ) where
  -- up to the last that is no zero
  zeros_behind : (n k : ℕ) → length (trimmed l) ≤ n → n ≤ k → coefficient_of l k ≡ pos 0
  zeros_behind n k h g = trimmed_long n l h k g

  module _ (five : length l ≡ 5) where
    pub coefficient_none : (k : ℕ) → 5 ≤ k → coefficient_of l k ≡ pos 0
    coefficient_none k h = get_or-eq_default l (pos 0) {n = k} (omega (arith, five))

    pub ended : (m : ℕ) → Small l → m ≡ length (trimmed l) → Ends l m
    ended m s e = record {
      five = five;
      few = omega (arith, e, trimmed_short 5 l coefficient_none);
      small = s;
      zeros = λ k h. zeros_behind m k (omega arith) h;
    }

  pub last_no_zero : (m : ℕ) → length (trimmed l) ≡ suc m → coefficient_of l m ≡ pos 0 → ⊥
  last_no_zero m e z = let h : length (trimmed l) ≤ m = trimmed_short m l zeros in omega arith
    where
      zeros : (k : ℕ) → m ≤ k → coefficient_of l k ≡ pos 0
      zeros k h =
          ⊎_elim (λ (q : m ≡ k). subst (λ (j : ℕ). coefficient_of l j ≡ pos 0) q z) (λ (q : m < k). zeros_behind (suc m) k (omega arith) (omega arith))
          (eq-or-lt_of_le h)

  -- that of t^i is no zero, and those behind it are
  pub length_is : length l ≡ 5 → (i : ℕ) → (coefficient_of l i ≡ pos 0 → ⊥) → ((k : ℕ) → i + 1 ≤ k → k < 5 → coefficient_of l k ≡ pos 0)
      → i + 1 ≡ length (trimmed l)
  length_is five i f z =
      let all = trimmed_short (i + 1) l (λ k h. ⊎_elim (coefficient_none five k) (z k h) (le_or_lt 5 k)) in
      ⊎_elim (λ (q : length (trimmed l) ≤ i). absurd (f (zeros_behind i i q (omega arith)))) (λ (q : i < length (trimmed l)). omega arith)
      (le_or_lt (length (trimmed l)) i)

  pub length_none : length l ≡ 5 → ((k : ℕ) → k < 5 → coefficient_of l k ≡ pos 0) → 0 ≡ length (trimmed l)
  length_none five z = let most = trimmed_short 0 l (λ k h. ⊎_elim (coefficient_none five k) (z k) (le_or_lt 5 k)) in omega arith

-- ---- a polynomial by its coefficients
-- what is not refused
abbrev pub worth : List ℤ → Value
worth l = Ok (trimmed l)

pub worth_is : (l : List ℤ) → length l ≡ 5 → Small l → (p : List ℤ) → ((k : ℕ) → coefficient_of p k ≡ coefficient_of l k) → worth l ≡ limited p
worth_is l five s p e = sym (limited_exact p l e (omega (arith, five)) s)

-- ---- the smallest parts
abbrev constant : ℕ → List ℤ
constant n = pos n ∷ pos 0 ∷ pos 0 ∷ pos 0 ∷ pos 0 ∷ []

pub number_small : (n : ℕ) → n ≤ 2 ^ 53 → Small (constant n)
number_small n h zero = h
number_small n h (suc zero) = lit≤ tt
number_small n h (suc (suc zero)) = lit≤ tt
number_small n h (suc (suc (suc zero))) = lit≤ tt
number_small n h (suc (suc (suc (suc zero)))) = lit≤ tt
number_small n h (suc (suc (suc (suc (suc k))))) = lit≤ tt

pub number_is : (n : ℕ) → n ≤ 2 ^ 53 → worth (constant n) ≡ limited (pos n ∷ [])
number_is n h = worth_is (constant n) refl (number_small n h) (pos n ∷ []) at
  where
    at : (k : ℕ) → coefficient_of (pos n ∷ []) k ≡ coefficient_of (constant n) k
    at zero = refl
    at (suc zero) = refl
    at (suc (suc zero)) = refl
    at (suc (suc (suc zero))) = refl
    at (suc (suc (suc (suc zero)))) = refl
    at (suc (suc (suc (suc (suc k))))) = refl
