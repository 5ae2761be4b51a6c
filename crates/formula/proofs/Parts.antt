-- What a tree expands to, by its parts alone: `sum_judged`. It is refused under 14 exactly where the first part that does not meet the limits is high, under 15
-- exactly where that is large and not high, and where all parts meet the limits it is the polynomial of the tree.
use mathlib.Core.Path.{◌≡◌, refl, ap, ap₂, subst, subst⁻¹, ◌∙◌}
use mathlib.Core.List.{List, [], ◌∷◌, ◌++◌, append-nil, append_assoc}
use mathlib.Core.Logic.{◌⊎◌, inl, inr, ⊎_elim}
use Prim.Native.Nat.{ℕ, zero, suc, ◌-◌, ◌^◌, ◌≤◌, ◌<◌}
use native.Mathlib.Nat.{eq-or-lt_of_le}
use native.Mathlib.Omega.{arith}
use lib.ListN.{get_or}
use lib.IntN.{ℤ, pos, nat_abs}
use Rattle.algebra.specs.NatOrder.{le_or_lt}
use Rattle.std.specs.Prelude.{Ok, Err}
use Rattle.refusals.specs.declared.Refusal.{Refusal}
use Rattle.refusals.specs.declared.Refusal.TheVariants.{DegreeTooHigh, CoefficientTooLarge}
use Rattle.parts.specs.declared.Operator.{Operator}
use Rattle.parts.specs.declared.Operator.TheVariants.{Sum as Added, Difference, Product}
use Rattle.parts.specs.Polynomial.{coefficient_of, trimmed}
use Rattle.parts.specs.Products.{operator_of}
use Rattle.parts.specs.Value.{Value, limited, joined, power_of}
use Rattle.parts.proofs.Trimmed.{limited_ways, made_trimmed}
use Rattle.formula.specs.Grammar.{Sign, plus, minus, Power, plain, power, Sum, term, join, Term, factor, times, Factor, number, letter, bracket}
use Rattle.formula.specs.Expansion.{powered_of, sum_of, term_of, factor_of}
use Rattle.formula.specs.Parts.{sign_of, constant, variable, repeated, power_polynomial, sum_polynomial, term_polynomial, factor_polynomial}
use Rattle.formula.specs.Parts.{products, power_parts, sum_parts, term_parts, factor_parts}
use Rattle.formula.specs.Parts.{High, Large, Meets, OnlyLarge, AllMeet, First, FirstHigh, FirstLarge}

-- ---- parts behind others
all_none : AllMeet []
all_none i h = absurd (omega arith)

all_behind : (p : List ℤ) (xs : List (List ℤ)) → Meets p → AllMeet xs → AllMeet (p ∷ xs)
all_behind p xs m h zero l = m
all_behind p xs m h (suc i) l = h i (omega arith)

all_join : (xs ys : List (List ℤ)) → AllMeet xs → AllMeet ys → AllMeet (xs ++ ys)
all_join [] ys h g = g
all_join (p ∷ xs) ys h g = all_behind p (xs ++ ys) (h 0 (omega arith)) (all_join xs ys (λ i l. h (suc i) (omega arith)) g)

module _ (Such : List ℤ → Type 0) where
  first_behind : (p : List ℤ) (xs : List (List ℤ)) → Meets p → First Such xs → First Such (p ∷ xs)
  first_behind p xs m w = (suc w.0, omega (arith, w.1), w.2, before)
    where
      before : (j : ℕ) → j < suc w.0 → Meets (get_or (p ∷ xs) j [])
      before zero l = m
      before (suc j) l = w.3 j (omega arith)

  first_more : (xs ys : List (List ℤ)) → First Such xs → First Such (xs ++ ys)
  first_more [] ys w = absurd (omega (arith, w.1))
  first_more (p ∷ xs) ys (zero, l, s, before) = (0, omega arith, s, λ j g. absurd (omega arith))
  first_more (p ∷ xs) ys (suc i, l, s, before) =
      first_behind p (xs ++ ys) (before 0 (omega arith)) (first_more xs ys (i, omega arith, s, λ j g. before (suc j) (omega arith)))

  first_after : (xs ys : List (List ℤ)) → AllMeet xs → First Such ys → First Such (xs ++ ys)
  first_after [] ys h w = w
  first_after (p ∷ xs) ys h w = first_behind p (xs ++ ys) (h 0 (omega arith)) (first_after xs ys (λ i l. h (suc i) (omega arith)) w)

-- ---- a value by the parts it was made of, and the polynomial it would be with no limit
abbrev pub Judged : List (List ℤ) → List ℤ → Value → Type 0
Judged xs p (Ok q) = AllMeet xs × Meets p × (q ≡ trimmed p)
Judged xs p (Err n) = ((n ≡ DegreeTooHigh) × FirstHigh xs) ⊎ ((n ≡ CoefficientTooLarge) × FirstLarge xs)

refused_more : (xs ys : List (List ℤ)) (p q : List ℤ) (n : Refusal) → Judged xs p (Err n) → Judged (xs ++ ys) q (Err n)
refused_more xs ys p q n (inl w) = inl (w.0, first_more High xs ys w.1)
refused_more xs ys p q n (inr w) = inr (w.0, first_more OnlyLarge xs ys w.1)

judged_after : (xs ys : List (List ℤ)) (p : List ℤ) (v : Value) → AllMeet xs → Judged ys p v → Judged (xs ++ ys) p v
judged_after xs ys p (Ok q) h w = (all_join xs ys h w.0, w.1, w.2)
judged_after xs ys p (Err n) h (inl w) = inl (w.0, first_after High xs ys h w.1)
judged_after xs ys p (Err n) h (inr w) = inr (w.0, first_after OnlyLarge xs ys h w.1)

-- one part
alone : (p : List ℤ) → Meets p → AllMeet (p ∷ [])
alone p m = all_behind p [] m all_none

first_alone : (Such : List ℤ → Type 0) (p : List ℤ) → Such p → First Such (p ∷ [])
first_alone Such p s = (0, omega arith, s, λ j g. absurd (omega arith))

limited_judged : (p : List ℤ) → Judged (p ∷ []) p (limited p)
limited_judged p = limited_ways (Judged (p ∷ []) p) p high large meets
  where
    high : (k : ℕ) → 5 ≤ k → (coefficient_of p k ≡ pos 0 → ⊥) → Judged (p ∷ []) p (Err DegreeTooHigh)
    high k l f = inl (refl, first_alone High p (k, omega arith, f))

    large : ((k : ℕ) → 5 ≤ k → coefficient_of p k ≡ pos 0) → (k : ℕ) → 2 ^ 53 < nat_abs (coefficient_of p k) → Judged (p ∷ []) p (Err CoefficientTooLarge)
    large z k l = inr (refl, first_alone OnlyLarge p ((k, omega arith), λ w. absurd (w.2 (z w.0 (omega (arith, w.1))))))

    meets : ((k : ℕ) → 5 ≤ k → coefficient_of p k ≡ pos 0) → ((k : ℕ) → nat_abs (coefficient_of p k) ≤ 2 ^ 53) → Judged (p ∷ []) p (Ok (trimmed p))
    meets z s = let m : Meets p = (λ w. w.2 (z w.0 (omega (arith, w.1))), λ w. omega (arith, w.1, s w.0)) in (alone p m, m, refl)

-- ---- joins
module _ (op : Operator) (xs : List (List ℤ)) (p q : List ℤ) where
  abbrev made : List ℤ
  made = operator_of op p q

  -- the right operand needs no part of its own here
  join_last : (v : Value) (s : List ℤ) → Judged xs p v → s ≡ trimmed q → Judged (xs ++ made ∷ []) made (joined (operator_of op) v (Ok s))
  unfolding joined
  join_last (Err n) s h e = refused_more xs (made ∷ []) p made n h
  join_last (Ok r) s h e =
      let same : limited (operator_of op r s) ≡ limited made = ap₂ (λ (a b : List ℤ). limited (operator_of op a b)) h.2 e ∙ made_trimmed op p q in
      judged_after xs (made ∷ []) made (limited (operator_of op r s)) h.0 (subst⁻¹ (Judged (made ∷ []) made) same (limited_judged made))

join_judged : (op : Operator) (xs ys : List (List ℤ)) (p q : List ℤ) (v w : Value) → Judged xs p v → Judged ys q w
    → Judged (xs ++ ys ++ operator_of op p q ∷ []) (operator_of op p q) (joined (operator_of op) v w)
unfolding joined
join_judged op xs ys p q (Err n) w h g = refused_more (xs ++ ys) (operator_of op p q ∷ []) p (operator_of op p q) n (refused_more xs ys p p n h)
join_judged op xs ys p q (Ok r) (Err n) h g =
    refused_more (xs ++ ys) (operator_of op p q ∷ []) q (operator_of op p q) n (judged_after xs ys q (Err n) h.0 g)
join_judged op xs ys p q (Ok r) (Ok s) h g = join_last op (xs ++ ys) p q (Ok r) s (all_join xs ys h.0 g.0, h.1, h.2) g.2

sign_judged : (g : Sign) (xs ys : List (List ℤ)) (p q : List ℤ) (v w : Value) → Judged xs p v → Judged ys q w
    → Judged (xs ++ ys ++ sign_of g p q ∷ []) (sign_of g p q) (joined (sign_of g) v w)
sign_judged plus = join_judged Added
sign_judged minus = join_judged Difference

-- ---- powers
one_meets : Meets (pos 1 ∷ [])
one_meets = (high, large)
  where
    high : High (pos 1 ∷ []) → ⊥
    high (zero, l, f) = omega arith
    high (suc k, l, f) = f refl

    large : Large (pos 1 ∷ []) → ⊥
    large (zero, l) = omega arith
    large (suc k, l) = omega arith

repeated_judged : (xs : List (List ℤ)) (p : List ℤ) (v : Value) (k : ℕ) → Judged xs p v → Judged (xs ++ products p k) (repeated p k) (power_of v k)
unfolding power_of
repeated_judged xs p (Err n) k h = refused_more xs (products p k) p (repeated p k) n h
repeated_judged xs p (Ok q) zero h = (all_join xs [] h.0 all_none, one_meets, refl)
repeated_judged xs p (Ok q) (suc k) h =
    subst (λ (ys : List (List ℤ)). Judged ys (repeated p (suc k)) (power_of (Ok q) (suc k))) (append_assoc xs (products p k) (repeated p (suc k) ∷ []))
    (join_last Product (xs ++ products p k) (repeated p k) p (power_of (Ok q) k) q (repeated_judged xs p (Ok q) k h) h.2)

powered_judged : (a : Power) (xs : List (List ℤ)) (p : List ℤ) (v : Value) → Judged xs p v
    → Judged (xs ++ power_parts a p) (power_polynomial a p) (powered_of a v)
powered_judged plain xs p v h = subst⁻¹ (λ (ys : List (List ℤ)). Judged ys p v) (append-nil xs) h
powered_judged (power d t) xs p v h = repeated_judged xs p v (d - 48) h

-- a bracket is a part, like what is in it
closed_judged : (xs : List (List ℤ)) (p : List ℤ) (v : Value) → Judged xs p v → Judged (xs ++ p ∷ []) p v
closed_judged xs p (Ok q) h = (all_join xs (p ∷ []) h.0 (alone p h.1), h.1, h.2)
closed_judged xs p (Err n) h = refused_more xs (p ∷ []) p p n h

bracket_judged : (a : Power) (xs : List (List ℤ)) (p : List ℤ) (v : Value) → Judged xs p v
    → Judged (xs ++ p ∷ power_parts a p) (power_polynomial a p) (powered_of a v)
bracket_judged a xs p v h =
    subst (λ (ys : List (List ℤ)). Judged ys (power_polynomial a p) (powered_of a v)) (append_assoc xs (p ∷ []) (power_parts a p))
    (powered_judged a (xs ++ p ∷ []) p v (closed_judged xs p v h))

-- ---- trees
variable_judged : Judged (variable ∷ []) variable (Ok variable)
unfolding limited
variable_judged = limited_judged variable

mutual
  unfolding sum_of

  pub sum_judged : (a : Sum) → Judged (sum_parts a) (sum_polynomial a) (sum_of a)
  sum_judged (term a) = term_judged a
  sum_judged (join a g b) =
      sign_judged g (sum_parts a) (term_parts b) (sum_polynomial a) (term_polynomial b) (sum_of a) (term_of b) (sum_judged a) (term_judged b)

  term_judged : (a : Term) → Judged (term_parts a) (term_polynomial a) (term_of a)
  term_judged (factor a) = factor_judged a
  term_judged (times a b) =
      join_judged Product (term_parts a) (factor_parts b) (term_polynomial a) (factor_polynomial b) (term_of a) (factor_of b) (term_judged a) (factor_judged b)

  factor_judged : (a : Factor) → Judged (factor_parts a) (factor_polynomial a) (factor_of a)
  factor_judged (number n p) = powered_judged p (constant n ∷ []) (constant n) (limited (constant n)) (limited_judged (constant n))
  factor_judged (letter p) = powered_judged p (variable ∷ []) variable (Ok variable) variable_judged
  factor_judged (bracket a p) = bracket_judged p (sum_parts a) (sum_polynomial a) (sum_of a) (sum_judged a)

-- ---- each of the three stands for one of the three values
high_or_all : (xs : List (List ℤ)) → FirstHigh xs → AllMeet xs → ⊥
high_or_all xs w h = (h w.0 w.1).0 w.2

large_or_all : (xs : List (List ℤ)) → FirstLarge xs → AllMeet xs → ⊥
large_or_all xs w h = (h w.0 w.1).1 w.2.0

high_or_large : (xs : List (List ℤ)) → FirstHigh xs → FirstLarge xs → ⊥
high_or_large xs w u = ⊎_elim (λ l. ⊎_elim same before (eq-or-lt_of_le l)) (λ l. (w.3 u.0 l).1 u.2.0) (le_or_lt w.0 u.0)
  where
    same : w.0 ≡ u.0 → ⊥
    same e = u.2.1 (subst (λ (i : ℕ). High (get_or xs i [])) e w.2)

    before : w.0 < u.0 → ⊥
    before l = (u.3 w.0 l).0 w.2

module _ (xs : List (List ℤ)) (p : List ℤ) where
  pub all_exact : (v : Value) → Judged xs p v → AllMeet xs → Meets p × (v ≡ Ok (trimmed p))
  all_exact (Ok q) w h = (w.1, ap Ok w.2)
  all_exact (Err n) (inl w) h = absurd (high_or_all xs w.1 h)
  all_exact (Err n) (inr w) h = absurd (large_or_all xs w.1 h)

  pub high_refused : (v : Value) → Judged xs p v → FirstHigh xs → v ≡ Err DegreeTooHigh
  high_refused (Ok q) w h = absurd (high_or_all xs h w.0)
  high_refused (Err n) (inl w) h = ap Err w.0
  high_refused (Err n) (inr w) h = absurd (high_or_large xs h w.1)

  pub large_refused : (v : Value) → Judged xs p v → FirstLarge xs → v ≡ Err CoefficientTooLarge
  large_refused (Ok q) w h = absurd (large_or_all xs h w.0)
  large_refused (Err n) (inl w) h = absurd (high_or_large xs w.1 h)
  large_refused (Err n) (inr w) h = ap Err w.0
