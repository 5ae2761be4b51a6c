-- What is read has the text that was read: `reading_is`.
use mathlib.Core.Path.{◌≡◌, refl, sym, ap, subst, ◌∙◌}
use mathlib.Core.Bool.{Bool, true, false, cond}
use mathlib.Core.List.{List, [], ◌∷◌, ◌++◌, append-nil, append_assoc}
use mathlib.Core.Option.{Option, none, some, some-injective, none-ne-some}
use Prim.Native.Nat.{ℕ, zero, suc, ◌+◌, ◌*◌}
use lib.Dec.{T, eqb, eqb→eq}
use lib.ListN.{length}
use Rattle.formula.specs.Grammar.{is_digit, is_number, Number, Sign, plus, minus, Power, plain, power, sign_byte, power_text, sum_text, term_text, factor_text}
use Rattle.formula.specs.Grammar.{Sum, term, join, Term, factor, times, Factor, number, letter, bracket}
use Rattle.formula.specs.Reading.{Read, fails, reads, and_then, if_some, after, after_sign, digits_of, behind_digits, checked, number_of, read_digit}
use Rattle.formula.specs.Reading.{read_power, read_number, read_unit, read_closed, read_sum, more_terms, read_term, more_factors, read_factor}
use Rattle.formula.specs.Reading.{whole, reading_of}

-- ---- what was read and what is left are the text s
abbrev Held : {A : Type 0} → (A → List ℕ) → List ℕ → Read A → Type 0
Held text s fails = Unit {0}
Held text s (reads a rest) = text a ++ rest ≡ s

module _ {A B : Type 0} (read : A → List ℕ) (text : B → List ℕ) (s t : List ℕ) where
  held_then : (x : Read A) (k : A → List ℕ → Read B) → Held read s x
      → ((a : A) (rest : List ℕ) → read a ++ rest ≡ s → Held text t (k a rest)) → Held text t (and_then x k)
  held_then fails k h f = tt
  held_then (reads a rest) k h f = f a rest h

module _ {A B : Type 0} (text : B → List ℕ) (s : List ℕ) where
  held_if : (o : Option A) (x : Read B) (k : A → Read B) → (o ≡ none → Held text s x) → ((u : A) → o ≡ some u → Held text s (k u)) → Held text s (if_some o x k)
  held_if none x k f g = f refl
  held_if (some u) x k f g = g u refl

-- ---- what comes next
some_when : {A : Type 0} (b : Bool) (x u : A) → cond b (some x) none ≡ some u → T b × (x ≡ u)
some_when true x u e = (tt, some-injective x u e)
some_when false x u e = absurd (none-ne-some u e)

after_is : (b : ℕ) (s u : List ℕ) → after b s ≡ some u → s ≡ b ∷ u
after_is b [] u e = absurd (none-ne-some u e)
after_is b (c ∷ s) u e =
    let w = some_when (eqb c b) s u e in
    ap (λ (x : ℕ). x ∷ s) (eqb→eq c b w.0) ∙ ap (λ (v : List ℕ). b ∷ v) w.1

sign_is : (s : List ℕ) (w : Sign × List ℕ) → after_sign s ≡ some w → s ≡ sign_byte w.0 ∷ w.1
sign_is s w = go (after 43 s) (after 45 s) refl refl
  where
    go : (o p : Option (List ℕ)) → after 43 s ≡ o → after 45 s ≡ p
        → if_some o (if_some p none (λ u. some (minus, u))) (λ u. some (plus, u)) ≡ some w → s ≡ sign_byte w.0 ∷ w.1
    go none none d e f = absurd (none-ne-some w f)
    go none (some u) d e f =
        let g : (minus, u) ≡ w = some-injective (minus, u) w f in
        after_is 45 s u e ∙ ap (λ (x : Sign × List ℕ). sign_byte x.0 ∷ x.1) g
    go (some u) p d e f =
        let g : (plus, u) ≡ w = some-injective (plus, u) w f in
        after_is 43 s u d ∙ ap (λ (x : Sign × List ℕ). sign_byte x.0 ∷ x.1) g

pub digits_are : (s : List ℕ) → digits_of s ++ behind_digits s ≡ s
digits_are [] = refl
digits_are (b ∷ s) = go (is_digit b) (digits_are s)
  where
    go : (t : Bool) → digits_of s ++ behind_digits s ≡ s → cond t (b ∷ digits_of s) [] ++ cond t (behind_digits s) (b ∷ s) ≡ b ∷ s
    go true e = ap (λ (u : List ℕ). b ∷ u) e
    go false e = refl

checked_is : {A : Type 0} (b : Bool) (f : T b → A) (x : A) → checked b f ≡ some x → (q : T b) × (f q ≡ x)
checked_is true f x e = (tt, some-injective (f tt) x e)
checked_is false f x e = absurd (none-ne-some x e)

-- ---- factors: a part `front` was read, and its power comes
module _ (make : Power → Factor) (front : List ℕ) (made : (p : Power) → factor_text (make p) ≡ front ++ power_text p) where
  digit_held : (u : List ℕ) → Held factor_text (front ++ 94 ∷ u) (read_digit make u)
  digit_held [] = tt
  digit_held (b ∷ v) = held_if factor_text (front ++ 94 ∷ b ∷ v) (checked (is_digit b) (power b)) fails (λ p. reads (make p) v) (λ e. tt) λ p e.
      let w = checked_is (is_digit b) (power b) p e in
      ap (λ (x : List ℕ). x ++ v) (made p ∙ ap (λ (x : Power). front ++ power_text x) (sym w.1)) ∙ append_assoc front (94 ∷ b ∷ []) v

  power_held : (s : List ℕ) → Held factor_text (front ++ s) (read_power make s)
  power_held s = held_if factor_text (front ++ s) (after 94 s) (reads (make plain) s) (read_digit make)
      (λ e. ap (λ (x : List ℕ). x ++ s) (made plain ∙ append-nil front))
      (λ u e. subst (λ (x : List ℕ). Held factor_text (front ++ x) (read_digit make u)) (sym (after_is 94 s u e)) (digit_held u))

number_held : (s : List ℕ) → Held factor_text s (read_number s)
number_held s = held_if factor_text s (number_of (digits_of s)) fails (λ n. read_power (number n) (behind_digits s)) (λ e. tt) λ n e.
    let w = checked_is {A = Number} (is_number (digits_of s)) (λ t. record { digits = digits_of s; number = t }) n e in
    let d : digits_of s ≡ n.digits = ap (λ (x : Number). x.digits) w.1 in
    subst (λ (x : List ℕ). Held factor_text x (read_power (number n) (behind_digits s))) (ap (λ (x : List ℕ). x ++ behind_digits s) (sym d) ∙ digits_are s)
    (power_held (number n) n.digits (λ p. refl) (behind_digits s))

unit_held : (s : List ℕ) → Held factor_text s (read_unit s)
unit_held s = held_if factor_text s (after 116 s) (read_number s) (read_power letter) (λ e. number_held s) λ u e.
    subst (λ (x : List ℕ). Held factor_text x (read_power letter u)) (sym (after_is 116 s u e)) (power_held letter (116 ∷ []) (λ p. refl) u)

closed_held : (a : Sum) (s : List ℕ) → Held factor_text (40 ∷ sum_text a ++ s) (read_closed a s)
closed_held a s = held_if factor_text (40 ∷ sum_text a ++ s) (after 41 s) fails (read_power (bracket a)) (λ e. tt) λ u e.
    subst (λ (x : List ℕ). Held factor_text x (read_power (bracket a) u))
    (append_assoc (40 ∷ sum_text a) (41 ∷ []) u ∙ ap (λ (x : List ℕ). 40 ∷ sum_text a ++ x) (sym (after_is 41 s u e)))
    (power_held (bracket a) (40 ∷ sum_text a ++ 41 ∷ []) (λ p. sym (append_assoc (40 ∷ sum_text a) (41 ∷ []) (power_text p))) u)

-- ---- sums, terms and factors, by the number of steps
mutual
  unfolding read_sum

  sum_held : (f : ℕ) (s : List ℕ) → Held sum_text s (read_sum f s)
  sum_held zero s = tt
  sum_held (suc f) s = held_then term_text sum_text s s (read_term f s) (λ a rest. more_terms f (term a) rest) (term_held f s)
      (λ a rest e. subst (λ (x : List ℕ). Held sum_text x (more_terms f (term a) rest)) e (terms_held f (term a) rest))

  terms_held : (f : ℕ) (a : Sum) (s : List ℕ) → Held sum_text (sum_text a ++ s) (more_terms f a s)
  terms_held zero a s = tt
  terms_held (suc f) a s =
      held_if sum_text (sum_text a ++ s) (after_sign s) (reads a s) (λ w. and_then (read_term f w.1) (λ b rest. more_terms f (join a w.0 b) rest)) (λ e. refl)
      (λ w e. held_then term_text sum_text w.1 (sum_text a ++ s) (read_term f w.1) (λ b rest. more_terms f (join a w.0 b) rest) (term_held f w.1)
      (λ b rest d. subst (λ (x : List ℕ). Held sum_text x (more_terms f (join a w.0 b) rest))
      (append_assoc (sum_text a) (sign_byte w.0 ∷ term_text b) rest ∙ ap (λ (x : List ℕ). sum_text a ++ sign_byte w.0 ∷ x) d
      ∙ ap (λ (x : List ℕ). sum_text a ++ x) (sym (sign_is s w e)))
      (terms_held f (join a w.0 b) rest)))

  term_held : (f : ℕ) (s : List ℕ) → Held term_text s (read_term f s)
  term_held zero s = tt
  term_held (suc f) s = held_then factor_text term_text s s (read_factor f s) (λ a rest. more_factors f (factor a) rest) (factor_held f s)
      (λ a rest e. subst (λ (x : List ℕ). Held term_text x (more_factors f (factor a) rest)) e (factors_held f (factor a) rest))

  factors_held : (f : ℕ) (a : Term) (s : List ℕ) → Held term_text (term_text a ++ s) (more_factors f a s)
  factors_held zero a s = tt
  factors_held (suc f) a s =
      held_if term_text (term_text a ++ s) (after 42 s) (reads a s) (λ u. and_then (read_factor f u) (λ b rest. more_factors f (times a b) rest)) (λ e. refl)
      (λ u e. held_then factor_text term_text u (term_text a ++ s) (read_factor f u) (λ b rest. more_factors f (times a b) rest) (factor_held f u)
      (λ b rest d. subst (λ (x : List ℕ). Held term_text x (more_factors f (times a b) rest))
      (append_assoc (term_text a) (42 ∷ factor_text b) rest ∙ ap (λ (x : List ℕ). term_text a ++ 42 ∷ x) d
      ∙ ap (λ (x : List ℕ). term_text a ++ x) (sym (after_is 42 s u e)))
      (factors_held f (times a b) rest)))

  factor_held : (f : ℕ) (s : List ℕ) → Held factor_text s (read_factor f s)
  factor_held zero s = tt
  factor_held (suc f) s = held_if factor_text s (after 40 s) (read_unit s) (λ u. and_then (read_sum f u) read_closed) (λ e. unit_held s)
      (λ u e. held_then sum_text factor_text u s (read_sum f u) read_closed (sum_held f u)
      (λ a rest d. subst (λ (x : List ℕ). Held factor_text x (read_closed a rest)) (ap (λ (x : List ℕ). 40 ∷ x) d ∙ sym (after_is 40 s u e))
      (closed_held a rest)))

pub reading_is : (s : List ℕ) (a : Sum) → reading_of s ≡ some a → sum_text a ≡ s
unfolding reading_of
reading_is s a = go (read_sum (3 * length s + 3) s) (sum_held (3 * length s + 3) s)
  where
    go : (x : Read Sum) → Held sum_text s x → whole x ≡ some a → sum_text a ≡ s
    go fails h e = absurd (none-ne-some a e)
    go (reads b []) h e = ap sum_text (sym (some-injective b a e)) ∙ sym (append-nil (sum_text b)) ∙ h
    go (reads b (c ∷ u)) h e = absurd (none-ne-some a e)
