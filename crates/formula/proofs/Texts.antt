-- What a text is worth: 13 where no tree has it, and else 14, 15 or the polynomial of its tree, by the parts: `way`.
use mathlib.Core.Path.{◌≡◌, refl, sym, ap, subst, subst⁻¹, ◌∙◌}
use mathlib.Core.List.{List}
use mathlib.Core.Logic.{inl, inr, ⊎_elim}
use mathlib.Core.Option.{Option, none, some, none-ne-some}
use Prim.Native.Nat.{ℕ, zero, suc, ◌^◌, ◌≤◌}
use native.Mathlib.Omega.{arith}
use lib.ListN.{length}
use lib.IntN.{ℤ, pos, negsuc, nat_abs}
use Rattle.algebra.specs.NatOrder.{le_or_lt}
use Rattle.std.specs.Prelude.{Ok, Err, IfOk}
use Rattle.refusals.specs.declared.Refusal.{Refusal}
use Rattle.refusals.specs.Refusals.{number_of}
use Rattle.refusals.specs.declared.Refusal.TheVariants.{NotASum, DegreeTooHigh, CoefficientTooLarge}
use Rattle.parts.specs.Polynomial.{coefficient_of, trimmed}
use Rattle.parts.specs.Value.{Value}
use Rattle.parts.proofs.Coefficients.{trimmed_short}
use Rattle.formula.specs.Grammar.{Sum, Derives}
use Rattle.formula.specs.Expansion.{sum_of}
use Rattle.formula.specs.Reading.{if_some, reading_of}
use Rattle.formula.specs.declared.Expanded.{Expanded}
use Rattle.formula.specs.Formula.{formula_of, expanded_of, answered_of, expand_of}
use Rattle.formula.specs.Parts.{sum_polynomial, sum_parts, Meets, AllMeet, FirstHigh, FirstLarge}
use Rattle.formula.proofs.Sound.{reading_is}
use Rattle.formula.proofs.Complete.{reading_of_is}
use Rattle.formula.proofs.Parts.{Judged, sum_judged}

-- ---- what meets the limits, by its coefficients
zero_unless : (a : ℤ) → ((a ≡ pos 0 → ⊥) → ⊥) → a ≡ pos 0
zero_unless (pos zero) f = refl
zero_unless (pos (suc n)) f = absurd (f (λ e. let m : suc n ≡ 0 = ap nat_abs e in omega arith))
zero_unless (negsuc n) f = absurd (f (λ e. let m : suc n ≡ 0 = ap nat_abs e in omega arith))

pub meets_short : (p : List ℤ) → Meets p → length (trimmed p) ≤ 5
meets_short p m = trimmed_short 5 p (λ k l. zero_unless (coefficient_of p k) (λ f. m.0 (k, l, f)))

pub meets_small : (p : List ℤ) → Meets p → (k : ℕ) → nat_abs (coefficient_of p k) ≤ 2 ^ 53
meets_small p m k = ⊎_elim (λ l. l) (λ l. absurd (m.1 (k, l))) (le_or_lt (nat_abs (coefficient_of p k)) (2 ^ 53))

-- ---- the four ways
pub data Way (s : List ℕ) : Type 0 where
  no_sum : ((a : Sum) → Derives s a → ⊥) → formula_of s ≡ Err NotASum → Way s
  high : (a : Sum) → Derives s a → FirstHigh (sum_parts a) → formula_of s ≡ Err DegreeTooHigh → Way s
  large : (a : Sum) → Derives s a → FirstLarge (sum_parts a) → formula_of s ≡ Err CoefficientTooLarge → Way s
  meets : (a : Sum) → Derives s a → AllMeet (sum_parts a) → Meets (sum_polynomial a) → formula_of s ≡ Ok (trimmed (sum_polynomial a)) → Way s

module _ (s : List ℕ) where
  derived_reads : (a : Sum) → Derives s a → reading_of s ≡ some a
  derived_reads a d = ap reading_of (sym d) ∙ reading_of_is a

  pub derived_judged : (a : Sum) → Derives s a → Judged (sum_parts a) (sum_polynomial a) (formula_of s)
  unfolding formula_of
  derived_judged a d =
      subst⁻¹ (λ (o : Option Sum). Judged (sum_parts a) (sum_polynomial a) (if_some o (Err NotASum) sum_of)) (derived_reads a d) (sum_judged a)

  tree_way : (a : Sum) → Derives s a → (v : Value) → formula_of s ≡ v → Judged (sum_parts a) (sum_polynomial a) v → Way s
  tree_way a d (Ok q) e w = meets a d w.0 w.1 (e ∙ ap Ok w.2)
  tree_way a d (Err n) e (inl w) = high a d w.1 (e ∙ ap Err w.0)
  tree_way a d (Err n) e (inr w) = large a d w.1 (e ∙ ap Err w.0)

  pub way : Way s
  unfolding formula_of
  way = go (reading_of s) refl
    where
      go : (o : Option Sum) → reading_of s ≡ o → Way s
      go none e = no_sum (λ a d. none-ne-some a (sym e ∙ derived_reads a d)) (ap (λ (o : Option Sum). if_some o (Err NotASum) sum_of) e)
      go (some a) e = let d = reading_is s a e in tree_way a d (formula_of s) refl (derived_judged a d)

  -- what holds of the values of all texts
  by_way : (C : Value → Type 0) → C (Err NotASum) → C (Err DegreeTooHigh) → C (Err CoefficientTooLarge)
      → ((p : List ℤ) → Meets p → C (Ok (trimmed p))) → C (formula_of s)
  by_way C c d e f = go way
    where
      go : Way s → C (formula_of s)
      go (no_sum n q) = subst⁻¹ C q c
      go (high a t w q) = subst⁻¹ C q d
      go (large a t w q) = subst⁻¹ C q e
      go (meets a t w m q) = subst⁻¹ C q (f (sum_polynomial a) m)

  -- ---- for callers: what is answered stands in the array, and a refusal has a number from 13 to 15
  pub few : IfOk (expand_of s) (λ (e : Expanded). e.len ≤ 5)
  unfolding expand_of answered_of expanded_of
  few = by_way (λ (v : Value). IfOk (answered_of v) (λ (e : Expanded). e.len ≤ 5)) tt tt tt meets_short

  pub refused_number : (n : Refusal) → formula_of s ≡ Err n → (13 ≤ number_of n) × (number_of n ≤ 15)
  refused_number n e = subst Numbered e (by_way Numbered (omega arith, omega arith) (omega arith, omega arith) (omega arith, omega arith) (λ p m. tt))
    where
      Numbered : Value → Type 0
      Numbered (Ok p) = Unit {0}
      Numbered (Err n) = (13 ≤ number_of n) × (number_of n ≤ 15)
