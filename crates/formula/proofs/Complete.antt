-- The text of a tree is read as that tree: `reading_of_is`. So a text has one reading at most: `one_reading`.
use mathlib.Core.Path.{◌≡◌, refl, sym, ap, subst, ◌∙◌}
use mathlib.Core.Bool.{Bool, true, false, cond}
use mathlib.Core.List.{List, [], ◌∷◌, ◌++◌, append-nil, append_assoc}
use mathlib.Core.Option.{Option, none, some, some-injective}
use Prim.Native.Nat.{ℕ, zero, suc, ◌+◌, ◌*◌, ◌≤◌}
use native.Mathlib.Omega.{arith}
use lib.Dec.{T, eqb, eqb→eq}
use lib.ListN.{length, length-append}
use lib.Ieee.Bits.{is_true}
use lib.Ieee.Fits.{and_l, and_r}
use Rattle.formula.specs.Grammar.{is_digit, all_digits, is_number, Number, Sign, plus, minus, Power, plain, power, sign_byte}
use Rattle.formula.specs.Grammar.{Sum, term, join, Term, factor, times, Factor, number, letter, bracket, power_text, sum_text, term_text, factor_text}
use Rattle.formula.specs.Reading.{Read, fails, reads, and_then, if_some, after, after_sign, digits_of, behind_digits, checked, number_of, read_digit}
use Rattle.formula.specs.Reading.{read_power, read_number, read_unit, read_closed, read_sum, more_terms, read_term, more_factors, read_factor}
use Rattle.formula.specs.Reading.{whole, reading_of}
use Rattle.formula.proofs.Sound.{digits_are}

-- no digit and no ^ comes next
record Ends (s : List ℕ) : Type 0 where
  no_power : after 94 s ≡ none
  no_digit : digits_of s ≡ []

-- ---- what comes next
pub checked_true : {A : Type 0} (b : Bool) (f : T b → A) (t : T b) → checked b f ≡ some (f t)
checked_true true f t = refl
checked_true {A = A} false f t = elim t [ ]

unlike_digit : (c b : ℕ) (s : List ℕ) → is_digit c ≡ false → T (is_digit b) → after c (b ∷ s) ≡ none
unlike_digit c b s e d = go (eqb b c) (λ t. subst T (ap is_digit (eqb→eq b c t) ∙ e) d)
  where
    go : (t : Bool) → (T t → ⊥) → cond t (some s) none ≡ none
    go true f = absurd (f tt)
    go false f = refl

digits_all : (d rest : List ℕ) → T (all_digits d) → digits_of rest ≡ [] → digits_of (d ++ rest) ≡ d
digits_all [] rest t e = e
digits_all (b ∷ d) rest t e =
    ap (λ (x : Bool). cond x (b ∷ digits_of (d ++ rest)) []) (is_true (is_digit b) (and_l (is_digit b) (all_digits d) t))
    ∙ ap (λ (x : List ℕ). b ∷ x) (digits_all d rest (and_r (is_digit b) (all_digits d) t) e)

behind_of : (d rest : List ℕ) → T (all_digits d) → digits_of rest ≡ [] → behind_digits (d ++ rest) ≡ rest
behind_of [] rest t e = ap (λ (x : List ℕ). x ++ behind_digits rest) (sym e) ∙ digits_are rest
behind_of (b ∷ d) rest t e =
    ap (λ (x : Bool). cond x (behind_digits (d ++ rest)) (b ∷ d ++ rest)) (is_true (is_digit b) (and_l (is_digit b) (all_digits d) t))
    ∙ behind_of d rest (and_r (is_digit b) (all_digits d) t) e

-- ---- factors
power_read : (make : Power → Factor) (p : Power) (rest : List ℕ) → after 94 rest ≡ none → read_power make (power_text p ++ rest) ≡ reads (make p) rest
power_read make plain rest e = ap (λ (o : Option (List ℕ)). if_some o (reads (make plain) rest) (read_digit make)) e
power_read make (power d t) rest e = ap (λ (o : Option Power). if_some o fails (λ p. reads (make p) rest)) (checked_true (is_digit d) (power d) t)

power_ends : (p : Power) (rest : List ℕ) → Ends rest → digits_of (power_text p ++ rest) ≡ []
power_ends plain rest e = e.no_digit
power_ends (power d t) rest e = refl

number_read : (n : Number) (p : Power) (rest : List ℕ) → Ends rest → read_number (n.digits ++ (power_text p ++ rest)) ≡ reads (number n p) rest
number_read n p rest e =
    let all : T (all_digits n.digits) = and_l (all_digits n.digits) _ n.number in
    ap (λ (d : List ℕ). if_some (number_of d) fails (λ m. read_power (number m) (behind_digits (n.digits ++ (power_text p ++ rest)))))
    (digits_all n.digits (power_text p ++ rest) all (power_ends p rest e))
    ∙ ap (λ (o : Option Number). if_some o fails (λ m. read_power (number m) (behind_digits (n.digits ++ (power_text p ++ rest)))))
    (checked_true {A = Number} (is_number n.digits) (λ t. record { digits = n.digits; number = t }) n.number)
    ∙ ap (λ (s : List ℕ). read_power (number n) s) (behind_of n.digits (power_text p ++ rest) all (power_ends p rest e))
    ∙ power_read (number n) p rest e.no_power

-- a number's first byte is neither a bracket nor the letter
number_first : (d u : List ℕ) → T (is_number d) → (f : ℕ) → read_factor (suc f) (d ++ u) ≡ read_number (d ++ u)
unfolding read_factor
number_first [] u t f = absurd t
number_first (b ∷ d) u t f =
    let is : T (is_digit b) = and_l (is_digit b) _ (and_l (all_digits (b ∷ d)) _ t) in
    ap (λ (o : Option (List ℕ)). if_some o (read_unit (b ∷ d ++ u)) (λ v. and_then (read_sum f v) read_closed)) (unlike_digit 40 b (d ++ u) refl is)
    ∙ ap (λ (o : Option (List ℕ)). if_some o (read_number (b ∷ d ++ u)) (read_power letter)) (unlike_digit 116 b (d ++ u) refl is)

-- ---- one more step of a term and of a sum, and the last
left_over : (s u : List ℕ) (c f : ℕ) → 3 * length (s ++ u) + c ≤ f → 3 * length u + c ≤ f
left_over s u c f h = omega (arith, length-append s u)

times_step : (a : Term) (b : Factor) (rest : List ℕ) (g : ℕ) → 3 * length (42 ∷ factor_text b ++ rest) + 1 ≤ g
    → ((f : ℕ) → 3 * length (factor_text b ++ rest) + 1 ≤ f → read_factor f (factor_text b ++ rest) ≡ reads b rest)
    → (h : ℕ) × (3 * length rest + 1 ≤ h) × (more_factors g a (42 ∷ factor_text b ++ rest) ≡ more_factors h (times a b) rest)
unfolding read_factor
times_step a b rest zero l r = absurd (omega arith)
times_step a b rest (suc g) l r =
    let m : 3 * length (factor_text b ++ rest) + 1 ≤ g = omega arith in
    (g, left_over (factor_text b) rest 1 g m, ap (λ (x : Read Factor). and_then x (λ c u. more_factors g (times a c) u)) (r g m))

pub factors_end : (g : ℕ) (a : Term) (s : List ℕ) → 1 ≤ g → after 42 s ≡ none → more_factors g a s ≡ reads a s
unfolding read_factor
factors_end zero a s l e = absurd (omega arith)
factors_end (suc g) a s l e =
    ap (λ (o : Option (List ℕ)). if_some o (reads a s) (λ u. and_then (read_factor g u) (λ b rest. more_factors g (times a b) rest))) e

sign_read : (g : Sign) (u : List ℕ) → after_sign (sign_byte g ∷ u) ≡ some (g, u)
sign_read plus u = refl
sign_read minus u = refl

join_step : (a : Sum) (g : Sign) (b : Term) (rest : List ℕ) (n : ℕ) → 3 * length (sign_byte g ∷ term_text b ++ rest) + 1 ≤ n
    → ((f : ℕ) → 3 * length (term_text b ++ rest) + 2 ≤ f → read_term f (term_text b ++ rest) ≡ reads b rest)
    → (h : ℕ) × (3 * length rest + 1 ≤ h) × (more_terms n a (sign_byte g ∷ term_text b ++ rest) ≡ more_terms h (join a g b) rest)
unfolding read_sum
join_step a g b rest zero l r = absurd (omega arith)
join_step a g b rest (suc n) l r =
    let m : 3 * length (term_text b ++ rest) + 2 ≤ n = omega arith in
    let k : 3 * length rest + 2 ≤ n = left_over (term_text b) rest 2 n m in (
      n,
      omega arith,
      ap (λ (o : Option (Sign × List ℕ)).
          if_some o (reads a (sign_byte g ∷ term_text b ++ rest)) (λ w. and_then (read_term n w.1) (λ c u. more_terms n (join a w.0 c) u)))
          (sign_read g (term_text b ++ rest))
          ∙ ap (λ (x : Read Term). and_then x (λ c u. more_terms n (join a g c) u)) (r n m),
    )

pub terms_end : (n : ℕ) (a : Sum) (s : List ℕ) → 1 ≤ n → after_sign s ≡ none → more_terms n a s ≡ reads a s
unfolding read_sum
terms_end zero a s l e = absurd (omega arith)
terms_end (suc n) a s l e =
    ap (λ (o : Option (Sign × List ℕ)). if_some o (reads a s) (λ w. and_then (read_term n w.1) (λ b rest. more_terms n (join a w.0 b) rest))) e

sign_ends : (g : Sign) (u : List ℕ) → Ends (sign_byte g ∷ u)
sign_ends plus u = record { no_power = refl; no_digit = refl }
sign_ends minus u = record { no_power = refl; no_digit = refl }

sign_no_times : (g : Sign) (u : List ℕ) → after 42 (sign_byte g ∷ u) ≡ none
sign_no_times plus u = refl
sign_no_times minus u = refl

-- ---- every tree, with anything behind it that ends it
mutual
  unfolding read_sum

  sum_then : (a : Sum) (rest : List ℕ) → Ends rest → after 42 rest ≡ none → (f : ℕ) → 3 * length (sum_text a ++ rest) + 3 ≤ f
      → (g : ℕ) × (3 * length rest + 1 ≤ g) × (read_sum f (sum_text a ++ rest) ≡ more_terms g a rest)
  sum_then (term a) rest e n zero h = absurd (omega arith)
  sum_then (term a) rest e n (suc f) h =
      let l : 3 * length (term_text a ++ rest) + 2 ≤ f = omega arith in
      let k : 3 * length rest + 2 ≤ f = left_over (term_text a) rest 2 f l in
      let w = term_then a rest e f l in
      (f, omega arith, ap (λ (x : Read Term). and_then x (λ b u. more_terms f (term b) u)) (w.2 ∙ factors_end w.0 a rest (omega (arith, w.1)) n))
  sum_then (join a g b) rest e n f h =
      let s = sign_byte g ∷ term_text b ++ rest in
      let same = append_assoc (sum_text a) (sign_byte g ∷ term_text b) rest in
      let k = subst (λ (x : List ℕ). 3 * length x + 3 ≤ f) same h in
      let w = sum_then a s (sign_ends g (term_text b ++ rest)) (sign_no_times g (term_text b ++ rest)) f k in
      let v = join_step a g b rest w.0 w.1 (λ m l. let t = term_then b rest e m l in t.2 ∙ factors_end t.0 b rest (omega (arith, t.1)) n) in
      (v.0, v.1, ap (λ (x : List ℕ). read_sum f x) same ∙ w.2 ∙ v.2)

  term_then : (a : Term) (rest : List ℕ) → Ends rest → (f : ℕ) → 3 * length (term_text a ++ rest) + 2 ≤ f
      → (g : ℕ) × (3 * length rest + 1 ≤ g) × (read_term f (term_text a ++ rest) ≡ more_factors g a rest)
  term_then (factor a) rest e zero h = absurd (omega arith)
  term_then (factor a) rest e (suc f) h =
      let l : 3 * length (factor_text a ++ rest) + 1 ≤ f = omega arith in
      (f, left_over (factor_text a) rest 1 f l, ap (λ (x : Read Factor). and_then x (λ b u. more_factors f (factor b) u)) (factor_read a rest e f l))
  term_then (times a b) rest e f h =
      let same = append_assoc (term_text a) (42 ∷ factor_text b) rest in
      let w = term_then a (42 ∷ factor_text b ++ rest) (record { no_power = refl; no_digit = refl }) f (subst (λ (x : List ℕ). 3 * length x + 2 ≤ f) same h) in
      let v = times_step a b rest w.0 w.1 (λ m l. factor_read b rest e m l) in
      (v.0, v.1, ap (λ (x : List ℕ). read_term f x) same ∙ w.2 ∙ v.2)

  factor_read : (a : Factor) (rest : List ℕ) → Ends rest → (f : ℕ) → 3 * length (factor_text a ++ rest) + 1 ≤ f
      → read_factor f (factor_text a ++ rest) ≡ reads a rest
  factor_read (number n p) rest e zero h = absurd (omega arith)
  factor_read (number n p) rest e (suc f) h =
      let same = append_assoc n.digits (power_text p) rest in
      ap (λ (x : List ℕ). read_factor (suc f) x) same ∙ number_first n.digits (power_text p ++ rest) n.number f ∙ number_read n p rest e
  factor_read (letter p) rest e zero h = absurd (omega arith)
  factor_read (letter p) rest e (suc f) h = power_read letter p rest e.no_power
  factor_read (bracket a p) rest e zero h = absurd (omega arith)
  factor_read (bracket a p) rest e (suc f) h =
      let same = append_assoc (sum_text a) (41 ∷ power_text p) rest in
      let l : 3 * length ((sum_text a ++ 41 ∷ power_text p) ++ rest) + 3 ≤ f = omega arith in
      let ends : Ends (41 ∷ power_text p ++ rest) = record { no_power = refl; no_digit = refl } in
      let w = sum_then a (41 ∷ power_text p ++ rest) ends refl f (subst (λ (x : List ℕ). 3 * length x + 3 ≤ f) same l) in
      ap (λ (x : List ℕ). and_then (read_sum f x) read_closed) same
      ∙ ap (λ (x : Read Sum). and_then x read_closed) (w.2 ∙ terms_end w.0 a (41 ∷ power_text p ++ rest) (omega (arith, w.1)) refl)
      ∙ power_read (bracket a) p rest e.no_power

pub reading_of_is : (a : Sum) → reading_of (sum_text a) ≡ some a
unfolding reading_of
reading_of_is a =
    let s = sum_text a in
    let f = 3 * length s + 3 in
    let same = append-nil s in
    let l : 3 * length s + 3 ≤ f = omega arith in
    let w = sum_then a [] (record { no_power = refl; no_digit = refl }) refl f (subst (λ (x : List ℕ). 3 * length x + 3 ≤ f) (sym same) l) in
    ap (λ (x : List ℕ). whole (read_sum f x)) (sym same) ∙ ap whole (w.2 ∙ terms_end w.0 a [] (omega (arith, w.1)) refl)

pub one_reading : (a b : Sum) → sum_text a ≡ sum_text b → a ≡ b
one_reading a b e = some-injective a b (sym (reading_of_is a) ∙ ap reading_of e ∙ reading_of_is b)
