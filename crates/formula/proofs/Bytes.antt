-- What comes next in a text, by the byte at a place.
use mathlib.Core.Path.{◌≡◌, refl, sym, ap, ap₂, ◌∙◌}
use mathlib.Core.Bool.{Bool, true, false, cond, ◌&&◌, ◌||◌, true≢false}
use mathlib.Core.List.{List, [], ◌∷◌, ◌++◌}
use mathlib.Core.Logic.{⊎_elim}
use mathlib.Core.Option.{Option, none, some}
use Prim.Native.Nat.{ℕ, ◌+◌, ◌≤◌, ◌<◌}
use lib.Dec.{ltb, eqb, leb}
use lib.ListN.{length, get_or, drop, drop_of_length-le}
use borrow.Author.Tests.{ltb-true, lt-ltb, le-ltb, leb-true}
use Rattle.algebra.specs.NatOrder.{le_or_lt}
use Rattle.facts.specs.Cond.{first_holds, second_holds}
use Rattle.facts.specs.Lists.{drop_next}
use Rattle.parts.specs.declared.Operator.TheVariants.{Sum, Difference}
use Rattle.parts.specs.Products.{operator_of}
use Rattle.formula.specs.Grammar.{is_digit, Sign, plus, minus}
use Rattle.formula.specs.Parts.{sign_of}
use Rattle.formula.specs.Reading.{if_some, after, after_sign, digits_of, behind_digits}
use Rattle.std.specs.Option.{is_some}
use Rattle.std.specs.Prelude as Prelude
use Rattle.std.specs.Prelude.{Some, None}
use Rattle.parts.specs.declared.Operator.{Operator}
use Rattle.formula.specs.Readers.{is_at, sign_at, digit_at, operator_at, sign_operator}
use Rattle.formula.proofs.Sound.{digits_are}

-- ---- inside the text
pub at_inside : (s : List ℕ) (i b : ℕ) → is_at s i b ≡ true → i < length s
unfolding is_at
at_inside s i b e = ltb-true i (length s) (first_holds (ltb i (length s)) (eqb (get_or s i 0) b) e)

pub digit_inside : (s : List ℕ) (i : ℕ) → digit_at s i ≡ true → i < length s
unfolding digit_at
digit_inside s i e = ltb-true i (length s) (first_holds (ltb i (length s)) (is_digit (get_or s i 0)) e)

pub digit_is : (s : List ℕ) (i : ℕ) → digit_at s i ≡ true → is_digit (get_or s i 0) ≡ true
unfolding digit_at
digit_is s i e = second_holds (ltb i (length s)) (is_digit (get_or s i 0)) e

pub digit_low : (s : List ℕ) (i : ℕ) → digit_at s i ≡ true → 48 ≤ get_or s i 0
digit_low s i e =
    let b = get_or s i 0 in leb-true 48 b (first_holds (leb 48 b) (leb b 57) (digit_is s i e))

pub digit_high : (s : List ℕ) (i : ℕ) → digit_at s i ≡ true → get_or s i 0 ≤ 57
digit_high s i e =
    let b = get_or s i 0 in leb-true b 57 (second_holds (leb 48 b) (leb b 57) (digit_is s i e))

-- ---- a byte
after_at : (s : List ℕ) (i b : ℕ) → after b (drop i s) ≡ cond (is_at s i b) (some (drop (i + 1) s)) none
unfolding is_at
after_at s i b = ⊎_elim past within (le_or_lt (length s) i)
  where
    past : length s ≤ i → after b (drop i s) ≡ cond (ltb i (length s) && eqb (get_or s i 0) b) (some (drop (i + 1) s)) none
    past h = rw (le-ltb i (length s) h) (ap (after b) (drop_of_length-le s {i = i} h))

    within : i < length s → after b (drop i s) ≡ cond (ltb i (length s) && eqb (get_or s i 0) b) (some (drop (i + 1) s)) none
    within h = rw (lt-ltb i (length s) h) (ap (after b) (drop_next s i 0 h))

pub after_true : (s : List ℕ) (i b : ℕ) → is_at s i b ≡ true → after b (drop i s) ≡ some (drop (i + 1) s)
after_true s i b e = after_at s i b ∙ ap (λ (t : Bool). cond t (some (drop (i + 1) s)) none) e

pub after_false : (s : List ℕ) (i b : ℕ) → is_at s i b ≡ false → after b (drop i s) ≡ none
after_false s i b e = after_at s i b ∙ ap (λ (t : Bool). cond t (some (drop (i + 1) s)) none) e

-- ---- a sign
abbrev sign_in : Bool → Sign
sign_in true = plus
sign_in false = minus

-- what `after_sign` makes of the two bytes
abbrev either_sign : Option (List ℕ) → Option (List ℕ) → Option (Sign × List ℕ)
either_sign o p = if_some o (if_some p none (λ v. some (minus, v))) (λ v. some (plus, v))

sign_either : (a b : Bool) (u : List ℕ) → (a || b) ≡ true → either_sign (cond a (some u) none) (cond b (some u) none) ≡ some (sign_in a, u)
sign_either true b u e = refl
sign_either false true u e = refl
sign_either false false u e = absurd (true≢false (sym e))

sign_neither : (a b : Bool) (u : List ℕ) → (a || b) ≡ false → either_sign (cond a (some u) none) (cond b (some u) none) ≡ none
sign_neither true b u e = absurd (true≢false e)
sign_neither false true u e = absurd (true≢false e)
sign_neither false false u e = refl

abbrev pub sign_next : List ℕ → ℕ → Sign
sign_next s i = sign_in (is_at s i 43)

pub sign_true : (s : List ℕ) (i : ℕ) → sign_at s i ≡ true → after_sign (drop i s) ≡ some (sign_next s i, drop (i + 1) s)
unfolding sign_at
sign_true s i e =
    ap₂ either_sign (after_at s i 43) (after_at s i 45)
    ∙ sign_either (is_at s i 43) (is_at s i 45) (drop (i + 1) s) e

pub sign_false : (s : List ℕ) (i : ℕ) → sign_at s i ≡ false → after_sign (drop i s) ≡ none
unfolding sign_at
sign_false s i e =
    ap₂ either_sign (after_at s i 43) (after_at s i 45)
    ∙ sign_neither (is_at s i 43) (is_at s i 45) (drop (i + 1) s) e

pub sign_inside : (s : List ℕ) (i : ℕ) → sign_at s i ≡ true → i < length s
unfolding sign_at
sign_inside s i = go (is_at s i 43) (is_at s i 45) (at_inside s i 43) (at_inside s i 45)
  where
    go : (a b : Bool) → (a ≡ true → i < length s) → (b ≡ true → i < length s) → (a || b) ≡ true → i < length s
    go true b f g e = f refl
    go false b f g e = g e

pub operator_is : (s : List ℕ) (i : ℕ) → operator_of (operator_at s i) ≡ sign_of (sign_next s i)
operator_is s i = go (is_at s i 43)
  where
    go : (b : Bool) → operator_of (cond b Sum Difference) ≡ sign_of (sign_in b)
    go true = refl
    go false = refl

-- the operator that was found, or none
pub sign_some : (s : List ℕ) (i : ℕ) (op : Operator) → Some op ≡ sign_operator s i → (sign_at s i ≡ true) × (op ≡ operator_at s i)
sign_some s i op = go (sign_at s i)
  where
    go : (b : Bool) → Some op ≡ cond b (Some (operator_at s i)) None → (b ≡ true) × (op ≡ operator_at s i)
    go true e = (refl, cc)
    go false e = absurd cc

pub sign_none : (s : List ℕ) (i : ℕ) → None ≡ sign_operator s i → sign_at s i ≡ false
sign_none s i = go (sign_at s i)
  where
    go : (b : Bool) → None ≡ cond b (Some (operator_at s i)) None → b ≡ false
    go true e = absurd cc
    go false e = refl

pub sign_missing : (s : List ℕ) (i : ℕ) (o : Prelude.Option Operator) → o ≡ sign_operator s i → is_some o ≡ false → sign_at s i ≡ false
sign_missing s i None e h = sign_none s i e
sign_missing s i (Some op) e h = absurd (true≢false h)

-- ---- a digit
pub digits_true : (s : List ℕ) (i : ℕ) → digit_at s i ≡ true → digits_of (drop i s) ≡ get_or s i 0 ∷ digits_of (drop (i + 1) s)
digits_true s i e =
    ap digits_of (drop_next s i 0 (digit_inside s i e))
    ∙ ap (λ (t : Bool). cond t (get_or s i 0 ∷ digits_of (drop (i + 1) s)) []) (digit_is s i e)

pub behind_true : (s : List ℕ) (i : ℕ) → digit_at s i ≡ true → behind_digits (drop i s) ≡ behind_digits (drop (i + 1) s)
behind_true s i e =
    ap behind_digits (drop_next s i 0 (digit_inside s i e))
    ∙ ap (λ (t : Bool). cond t (behind_digits (drop (i + 1) s)) (get_or s i 0 ∷ drop (i + 1) s)) (digit_is s i e)

pub no_digit : (s : List ℕ) (i : ℕ) → digit_at s i ≡ false → i < length s → is_digit (get_or s i 0) ≡ false
unfolding digit_at
no_digit s i e h = ap (λ (t : Bool). t && is_digit (get_or s i 0)) (sym (lt-ltb i (length s) h)) ∙ e

pub digits_false : (s : List ℕ) (i : ℕ) → digit_at s i ≡ false → digits_of (drop i s) ≡ []
digits_false s i e = ⊎_elim (λ (h : length s ≤ i). ap digits_of (drop_of_length-le s {i = i} h))
    (λ (h : i < length s). ap digits_of (drop_next s i 0 h) ∙ ap (λ (t : Bool). cond t (get_or s i 0 ∷ digits_of (drop (i + 1) s)) []) (no_digit s i e h))
    (le_or_lt (length s) i)

pub behind_false : (s : List ℕ) (i : ℕ) → digit_at s i ≡ false → behind_digits (drop i s) ≡ drop i s
behind_false s i e = ap (λ (u : List ℕ). u ++ behind_digits (drop i s)) (sym (digits_false s i e)) ∙ digits_are (drop i s)
