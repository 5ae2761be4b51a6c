-- A text of one or two bytes has no power of t but t itself; so a text has at most two coefficients more than bytes: `short_text`.
use mathlib.Core.Path.{◌≡◌, refl, subst, subst⁻¹}
use mathlib.Core.List.{List, [], ◌∷◌, ◌++◌}
use mathlib.Core.Logic.{⊎_elim}
use Prim.Native.Nat.{ℕ, zero, suc, ◌+◌, ◌≤◌, ◌<◌}
use native.Mathlib.Omega.{arith}
use lib.Dec.{T}
use lib.ListN.{length, length-append}
use lib.IntN.{ℤ, pos}
use Rattle.algebra.specs.NatOrder.{le_or_lt}
use Rattle.parts.specs.Polynomial.{coefficient_of, trimmed}
use Rattle.std.specs.Prelude.{Ok, Err}
use Rattle.parts.specs.Value.{Value}
use Rattle.parts.proofs.Coefficients.{trimmed_short}
use Rattle.formula.specs.Grammar.{is_number, plain, power, Sum, term, join, Term, factor, times, Factor, number, letter, bracket}
use Rattle.formula.specs.Grammar.{sign_byte, power_text, sum_text, term_text, factor_text, Derives}
use Rattle.formula.specs.Formula.{formula_of}
use Rattle.formula.specs.Parts.{digits_from, sum_polynomial, factor_polynomial, Meets}
use Rattle.formula.proofs.Texts.{meets_short, Way, no_sum, high, large, meets, way}

-- ---- how long a text is, at least
join_length : (s u : List ℕ) (b : ℕ) → length (s ++ b ∷ u) ≡ length s + suc (length u)
join_length s u b = length-append s (b ∷ u)

number_length : (d : List ℕ) → T (is_number d) → 0 < length d
number_length [] t = absurd t
number_length (b ∷ d) t = omega arith

mutual
  sum_length : (a : Sum) → 0 < length (sum_text a)
  sum_length (term a) = term_length a
  sum_length (join a g b) = omega (arith, join_length (sum_text a) (term_text b) (sign_byte g))

  term_length : (a : Term) → 0 < length (term_text a)
  term_length (factor a) = factor_length a
  term_length (times a b) = omega (arith, join_length (term_text a) (factor_text b) 42)

  factor_length : (a : Factor) → 0 < length (factor_text a)
  factor_length (number n p) = omega (arith, length-append n.digits (power_text p), number_length n.digits n.number)
  factor_length (letter p) = omega arith
  factor_length (bracket a p) = omega arith

-- ---- no power but the first
abbrev Linear : List ℤ → Type 0
Linear p = (k : ℕ) → 2 ≤ k → coefficient_of p k ≡ pos 0

two_linear : (a b : ℤ) → Linear (a ∷ b ∷ [])
two_linear a b zero l = absurd (omega arith)
two_linear a b (suc zero) l = absurd (omega arith)
two_linear a b (suc (suc k)) l = refl

one_linear : (a : ℤ) → Linear (a ∷ [])
one_linear a zero l = absurd (omega arith)
one_linear a (suc k) l = refl

short_factor : (a : Factor) → length (factor_text a) ≤ 2 → Linear (factor_polynomial a)
short_factor (number n plain) h = one_linear (pos (digits_from 0 n.digits))
short_factor (number n (power d t)) h = absurd (omega (arith, length-append n.digits (94 ∷ d ∷ []), number_length n.digits n.number))
short_factor (letter plain) h = two_linear (pos 0) (pos 1)
short_factor (letter (power d t)) h = absurd (omega arith)
short_factor (bracket a p) h = absurd (omega (arith, join_length (sum_text a) (power_text p) 41, sum_length a))

short_linear : (a : Sum) → length (sum_text a) ≤ 2 → Linear (sum_polynomial a)
short_linear (term (factor a)) h = short_factor a h
short_linear (term (times a b)) h = absurd (omega (arith, join_length (term_text a) (factor_text b) 42, term_length a, factor_length b))
short_linear (join a g b) h = absurd (omega (arith, join_length (sum_text a) (term_text b) (sign_byte g), sum_length a, term_length b))

-- ---- how many coefficients a text has
pub short_text : (s : List ℕ) (p : List ℤ) → formula_of s ≡ Ok p → length p ≤ length s + 2
short_text s p e = subst Few e (go (way s))
  where
    Few : Value → Type 0
    Few (Ok q) = length q ≤ length s + 2
    Few (Err n) = Unit {0}

    of_tree : (a : Sum) → Derives s a → Meets (sum_polynomial a) → length (trimmed (sum_polynomial a)) ≤ length s + 2
    of_tree a d m = ⊎_elim
        (λ h. omega (arith, trimmed_short 2 (sum_polynomial a) (short_linear a (subst⁻¹ (λ (u : List ℕ). length u ≤ 2) d h))))
        (λ h. omega (arith, meets_short (sum_polynomial a) m)) (le_or_lt (length s) 2)

    go : Way s → Few (formula_of s)
    go (no_sum f q) = subst⁻¹ Few q tt
    go (high a d w q) = subst⁻¹ Few q tt
    go (large a d w q) = subst⁻¹ Few q tt
    go (meets a d h m q) = subst⁻¹ Few q (of_tree a d m)
