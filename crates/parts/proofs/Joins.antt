-- Two parts joined: what is refused, and what the result is worth; powers.
use mathlib.Core.Path.{◌≡◌, refl, sym, ap, ap₂, subst, fun_ext, ◌∙◌}
use mathlib.Core.Bool.{Bool, true, false, cond}
use mathlib.Core.List.{List}
use mathlib.Core.Logic.{◌⊎◌, inl, inr, ⊎_elim}
use Prim.Native.Nat.{ℕ, suc, ◌+◌, ◌^◌, ◌≤◌, ◌<◌}
use native.Mathlib.Nat.{eq-or-lt_of_le}
use native.Mathlib.Numerals.{add-one}
use native.Mathlib.Omega.{arith}
use lib.Dec.{ltb}
use lib.ListN.{length, set, length-set}
use lib.Seq.{get_or-set_same, get_or-set_other}
use lib.IntN.{ℤ, pos, nat_abs}
use borrow.Author.Tests.{ltb-true, ltb-false}
use Rattle.algebra.specs.NatOrder.{le_or_lt}
use Rattle.std.specs.Prelude.{Result, Ok, Err}
use Rattle.refusals.specs.declared.Refusal.{Refusal}
use Rattle.refusals.specs.declared.Refusal.TheVariants.{DegreeTooHigh, CoefficientTooLarge}
use Rattle.parts.specs.declared.Operator.{Operator}
use Rattle.parts.specs.declared.Operator.TheVariants.{Product}
use Rattle.parts.specs.Polynomial.{coefficient_of, trimmed, multiplied}
use Rattle.parts.specs.Value.{Value, limited, joined, power_of}
use Rattle.parts.specs.Products.{made_of, made_length, operator_of}
use Rattle.parts.specs.Kept.{Small, small_of, Ends}
use Rattle.parts.proofs.Coefficients.{trimmed_at, made_at}
use Rattle.parts.proofs.Limits.{limited_high, limited_large}
use Rattle.parts.proofs.Entries.{last_no_zero, worth, worth_is}
use Rattle.parts.proofs.Degrees.{made_none, made_high}
use Rattle.parts.proofs.Products.{word, word_is}

-- ---- what is made so far: the coefficients below t^k, and zeros behind them
pub record Made (op : Operator) (a b : List ℤ) (k : ℕ) (l : List ℤ) : Type 0 where
  pub five : length l ≡ 5
  pub small : Small l
  pub below : (j : ℕ) → j < k → coefficient_of l j ≡ made_of op (coefficient_of a) (coefficient_of b) j
  pub behind : (j : ℕ) → k ≤ j → coefficient_of l j ≡ pos 0

-- what is known of one that is not refused, and of one that is
abbrev pub kept : ℤ → Result ℤ Refusal
kept x = Ok x

abbrev pub not_kept : Refusal → Result ℤ Refusal
not_kept refusal = Err refusal

kept_is : (z x : ℤ) → kept x ≡ small_of z → (nat_abs z ≤ 2 ^ 53) × (x ≡ z)
unfolding small_of
kept_is z x = go (ltb (2 ^ 53) (nat_abs z)) refl
  where
    go : (b : Bool) → ltb (2 ^ 53) (nat_abs z) ≡ b → kept x ≡ cond b (not_kept CoefficientTooLarge) (kept z) → (nat_abs z ≤ 2 ^ 53) × (x ≡ z)
    go true d e = absurd cc
    go false d e = (ltb-false (2 ^ 53) (nat_abs z) d, cc)

not_kept_is : (z : ℤ) (refusal : Refusal) → not_kept refusal ≡ small_of z → (2 ^ 53 < nat_abs z) × (refusal ≡ CoefficientTooLarge)
unfolding small_of
not_kept_is z refusal = go (ltb (2 ^ 53) (nat_abs z)) refl
  where
    go : (b : Bool) → ltb (2 ^ 53) (nat_abs z) ≡ b → not_kept refusal ≡ cond b (not_kept CoefficientTooLarge) (kept z)
        → (2 ^ 53 < nat_abs z) × (refusal ≡ CoefficientTooLarge)
    go true d e = (ltb-true (2 ^ 53) (nat_abs z) d, cc)
    go false d e = absurd cc

same_or_not : (j k : ℕ) → (j ≡ k) ⊎ (j ≡ k → ⊥)
same_or_not j k =
    ⊎_elim (λ (h : j ≤ k). ⊎_elim (λ (q : j ≡ k). inl q) (λ (q : j < k). inr (λ e. omega arith)) (eq-or-lt_of_le h))
    (λ (h : k < j). inr (λ e. omega arith)) (le_or_lt j k)

module _ (op : Operator) (a b : List ℤ) (k : ℕ) (l : List ℤ) (w : Made op a b k l) (inside : k < 5) (c : ℤ) (h : nat_abs c ≤ 2 ^ 53)
    (e : c ≡ made_of op (coefficient_of a) (coefficient_of b) k) where
  at_k : (j : ℕ) → j ≡ k → coefficient_of (set l k c) j ≡ c
  at_k j q = ap (coefficient_of (set l k c)) q ∙ get_or-set_same l k c (pos 0) (omega (arith, w.five))

  at_other : (j : ℕ) → (j ≡ k → ⊥) → coefficient_of (set l k c) j ≡ coefficient_of l j
  at_other j q = get_or-set_other l k j c (pos 0) q

  made_with : Made op a b (k + 1) (set l k c)
  made_with = record {
    five = length-set l k c ∙ w.five;
    small = λ j. ⊎_elim (λ (q : j ≡ k). rw (at_k j q) h) (λ (q : j ≡ k → ⊥). rw (at_other j q) (w.small j)) (same_or_not j k);
    below = λ j g. ⊎_elim (λ (q : j ≡ k). at_k j q ∙ e ∙ ap (made_of op (coefficient_of a) (coefficient_of b)) (sym q))
        (λ (q : j ≡ k → ⊥). at_other j q ∙ w.below j (omega arith)) (same_or_not j k);
    behind = λ j g. at_other j (λ q. omega arith) ∙ w.behind j (omega arith);
  }

pub made_next : (op : Operator) (a b : List ℤ) (k : ℕ) (l : List ℤ) → Made op a b k l → k < 5 → (z x : ℤ) → kept x ≡ small_of z
    → z ≡ made_of op (coefficient_of a) (coefficient_of b) k → Made op a b (k + 1) (set l k (word x))
made_next op a b k l w inside z x q e =
    let is = kept_is z x q in
    subst (λ (y : ℤ). Made op a b (k + 1) (set l k y)) (sym (ap word is.1 ∙ word_is z is.0)) (made_with op a b k l w inside z is.0 e)

-- ---- all of it
module _ (op : Operator) (a b : List ℤ) (m n : ℕ) (A : Ends a m) (B : Ends b n) where
  abbrev whole : List ℤ
  whole = operator_of op (trimmed a) (trimmed b)

  abbrev made : ℕ → ℤ
  made k = made_of op (coefficient_of a) (coefficient_of b) k

  whole_at : (k : ℕ) → coefficient_of whole k ≡ made k
  whole_at k =
      made_at op (trimmed a) (trimmed b) k ∙ ap₂ (λ (f g : ℕ → ℤ). made_of op f g k) (fun_ext (trimmed_at a)) (fun_ext (trimmed_at b))

  none : (k : ℕ) → made_length op m n ≤ k → made k ≡ pos 0
  none k h = made_none (coefficient_of a) (coefficient_of b) m n A.zeros B.zeros op k h

  module _ (end : ℕ) (d : end ≡ made_length op m n) where
    pub high : m ≡ length (trimmed a) → n ≡ length (trimmed b) → 5 < end → limited whole ≡ Err DegreeTooHigh
    high e f h =
        let last-a : (i : ℕ) → m ≡ suc i → coefficient_of a i ≡ pos 0 → ⊥ = λ i q. last_no_zero a i (sym e ∙ q) in
        let last-b : (j : ℕ) → n ≡ suc j → coefficient_of b j ≡ pos 0 → ⊥ = λ j q. last_no_zero b j (sym f ∙ q) in
        let w = made_high op (coefficient_of a) (coefficient_of b) m n A.zeros B.zeros last-a last-b A.few B.few (omega arith) in
        limited_high whole w.0 w.1 (λ q. w.2 (sym (whole_at w.0) ∙ q))

    pub large : end ≤ 5 → (k : ℕ) (z : ℤ) → z ≡ made k → (refusal : Refusal) → not_kept refusal ≡ small_of z → limited whole ≡ Err refusal
    large few k z e refusal q =
        let is = not_kept_is z refusal q in
        limited_large whole k (λ j g. whole_at j ∙ none j (omega arith)) (subst (λ (x : ℤ). 2 ^ 53 < nat_abs x) (e ∙ sym (whole_at k)) is.0)
        ∙ ap Err (sym is.1)

    pub all_made : (k : ℕ) → end ≤ k → (l : List ℤ) → Made op a b k l → worth l ≡ limited whole
    all_made k h l w = worth_is l w.five w.small whole (λ j. whole_at j ∙ ⊎_elim (behind j) (λ (g : j < k). sym (w.below j g)) (le_or_lt k j))
      where
        behind : (j : ℕ) → k ≤ j → made j ≡ coefficient_of l j
        behind j g = none j (omega arith) ∙ sym (w.behind j g)

-- where the degree is too high
pub join_high : (op : Operator) (a b : List ℤ) → Ends a (length (trimmed a)) → Ends b (length (trimmed b))
    → 5 < made_length op (length (trimmed a)) (length (trimmed b)) → limited (operator_of op (trimmed a) (trimmed b)) ≡ Err DegreeTooHigh
join_high op a b A B h = high op _ _ _ _ A B _ refl refl refl h

-- ---- powers
pub power_next : (p : List ℤ) (k : ℕ) (x : Value) → x ≡ power_of (Ok p) k → joined (operator_of Product) x (Ok p) ≡ power_of (Ok p) (k + 1)
unfolding power_of
power_next p k x e = ap (λ (v : Value). joined multiplied v (Ok p)) e ∙ ap (power_of (Ok p)) (sym (add-one k))
