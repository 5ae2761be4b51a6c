-- Every claim about pin contacts, for all bits.
use mathlib.Core.Path.{◌≡◌, refl, sym, ap, ◌∙◌, subst, subst⁻¹}
use mathlib.Core.Logic.{◌⊎◌, inl, inr}
use mathlib.Core.Bool.{Bool, true, false, cond}
use mathlib.Core.List.{List, []}
use Prim.Native.Nat.{ℕ, zero, suc, ◌≤◌, ◌<◌}
use native.Mathlib.Omega.{arith}
use borrow.Author.Tests.{leb-true, leb-false, le-leb, lt-leb}
use lib.Dec.{T, leb}
use lib.Ieee.{Float, binary64, sub, lt}
use lib.Ieee.Fits.{add-fits, sub-fits, mul-fits}
use Rattle.std.specs.Prelude.{Result, Ok, Err}
use Rattle.refusals.specs.declared.Refusal.{Refusal}
use Rattle.refusals.specs.declared.Refusal.TheVariants.{TooFew, RecordNotFinite, NoRadius, MadeNotFinite}
use Rattle.refusals.specs.Refusals.{outcome_of, and_then}
use Rattle.facts.specs.Cond.{either_way}
use Rattle.float.specs.Literals.{zero64}
use Rattle.float.specs.Methods.{all_finite_of}
use Rattle.roots.specs.declared.Roots.{Roots}
use Rattle.roots.specs.Roots.{list_of, roots_of, no_roots}
use Rattle.roots.specs.Listed.{Within, Fits}
use Rattle.roots.proofs.Laws.{list_roots, roots_fit}
use Rattle.roots.proofs.Sums.{within_none, within_more}
use Rattle.angle.specs.declared.Sine.{Sine}
use Rattle.poly.specs.Coefficients.{trimmed_of, counted_by, counted_of, refusal_of, degree_left}
use Rattle.poly.specs.RealRoots.{roots_in}
use Rattle.poly.specs.Conditions.{AllDoubles, Exactly}
use Rattle.poly.proofs.Refusals.{then_number, solved_number}
use Rattle.poly.proofs.Coefficients.{trimmed_most, counted_when}
use Rattle.inquiry.specs.Start.{real_roots_touching_of}
use Rattle.inquiry.proofs.Theorem.{start_fed, start_few, start_most, start_list}
use Rattle.contact.specs.declared.Path.{Path}
use Rattle.contact.specs.declared.Circle.{Circle}
use Rattle.contact.specs.Contact.{numbers_of, seen_of, coefficients_of, distance_of, touches_of, listed_of, made_of, pin_contact_of}
use Rattle.contact.specs.Claims.{Numbers, replies_of, Contacts}
use Rattle.contact.proofs.Negative.{none_at_most}

-- ---- the number, by four tests: finite, above 0, coefficients finite, at most one left
abbrev number_by : Bool → Bool → Bool → Bool → ℕ
number_by f a b c = cond f (cond a (cond b (cond c 2 0) 12) 11) 10

ten_only : (f a b c : Bool) → number_by f a b c ≡ 10 → f ≡ false
ten_only false a b c e = refl
ten_only true false b c e = absurd (omega (arith, e))
ten_only true true false c e = absurd (omega (arith, e))
ten_only true true true true e = absurd (omega (arith, e))
ten_only true true true false e = absurd (omega (arith, e))

eleven_only : (f a b c : Bool) → number_by f a b c ≡ 11 → (f ≡ true) × (a ≡ false)
eleven_only false a b c e = absurd (omega (arith, e))
eleven_only true false b c e = (refl, refl)
eleven_only true true false c e = absurd (omega (arith, e))
eleven_only true true true true e = absurd (omega (arith, e))
eleven_only true true true false e = absurd (omega (arith, e))

twelve_only : (f a b c : Bool) → number_by f a b c ≡ 12 → (f ≡ true) × (a ≡ true) × (b ≡ false)
twelve_only false a b c e = absurd (omega (arith, e))
twelve_only true false b c e = absurd (omega (arith, e))
twelve_only true true false c e = (refl, refl, refl)
twelve_only true true true true e = absurd (omega (arith, e))
twelve_only true true true false e = absurd (omega (arith, e))

two_only : (f a b c : Bool) → number_by f a b c ≡ 2 → (f ≡ true) × (a ≡ true) × (b ≡ true) × (c ≡ true)
two_only false a b c e = absurd (omega (arith, e))
two_only true false b c e = absurd (omega (arith, e))
two_only true true false c e = absurd (omega (arith, e))
two_only true true true true e = (refl, refl, refl, refl)
two_only true true true false e = absurd (omega (arith, e))

zero_only : (f a b c : Bool) → number_by f a b c ≡ 0 → (f ≡ true) × (a ≡ true) × (b ≡ true) × (c ≡ false)
zero_only false a b c e = absurd (omega (arith, e))
zero_only true false b c e = absurd (omega (arith, e))
zero_only true true false c e = absurd (omega (arith, e))
zero_only true true true true e = absurd (omega (arith, e))
zero_only true true true false e = (refl, refl, refl, refl)

no_other_by : (f a b c : Bool) → let n = number_by f a b c in (n ≡ 0) ⊎ ((n ≡ 2) ⊎ ((10 ≤ n) × (n ≤ 12)))
no_other_by false a b c = inr (inr (omega arith, omega arith))
no_other_by true false b c = inr (inr (omega arith, omega arith))
no_other_by true true false c = inr (inr (omega arith, omega arith))
no_other_by true true true true = inr (inl refl)
no_other_by true true true false = inl refl

-- ---- coefficients are sums and products, and so doubles
yes_is : (b : Bool) → T b → b ≡ true
yes_is true t = refl
yes_is false t = absurd t

made_doubles : (p : Path) (r : Float) → AllDoubles (coefficients_of p r)
unfolding coefficients_of
made_doubles p r zero h = yes_is _ (sub-fits binary64 _ _)
made_doubles p r (suc zero) h = yes_is _ (mul-fits binary64 _ _)
made_doubles p r (suc (suc zero)) h = yes_is _ (add-fits binary64 _ _)
made_doubles p r (suc (suc (suc zero))) h = yes_is _ (mul-fits binary64 _ _)
made_doubles p r (suc (suc (suc (suc zero)))) h = yes_is _ (add-fits binary64 _ _)
made_doubles p r (suc (suc (suc (suc (suc i))))) h = absurd (omega (arith, h))

-- a refusal has no root
refused_none : (answer : Result Roots Refusal) → 0 < outcome_of answer → roots_in answer ≡ no_roots
refused_none (Ok l) h = absurd (omega (arith, h))
refused_none (Err refusal) h = refl

module _ (sine : Sine) (confusion : Float) (path : Path) (circle : Circle) where
  abbrev coeffs : List Float
  coeffs = made_of path circle

  abbrev touches : Float → Bool
  touches = replies_of confusion path circle

  abbrev answer : Result Roots Refusal
  answer = pin_contact_of sine confusion path circle

  five : trimmed_of coeffs ≤ 5
  unfolding trimmed_of coefficients_of
  five = trimmed_most coeffs 5

  -- ---- the tests, and the answer by the first three
  abbrev finite : Bool
  finite = all_finite_of (numbers_of confusion path circle)

  abbrev above : Bool
  above = lt zero64 circle.r

  abbrev sound : Bool
  sound = all_finite_of coeffs

  abbrev short : Bool
  short = leb (trimmed_of coeffs) 1

  abbrev roots : Roots
  roots = roots_of (real_roots_touching_of sine touches coeffs confusion)

  abbrev list : Result Roots Refusal
  list = listed_of sine confusion (seen_of path circle) circle.r coeffs

  abbrev answer_by : Bool → Bool → Bool → Result Roots Refusal
  answer_by f a b = cond f (cond a (cond b list (Err MadeNotFinite)) (Err NoRadius)) (Err RecordNotFinite)

  -- the roots are none, or those of the list
  by_tests : (P : Roots → Type 0) → P no_roots → P roots → P (roots_in answer)
  unfolding pin_contact_of listed_of
  by_tests P none some =
      let Q : Result Roots Refusal → Type 0 = λ a. P (roots_in a) in
      either_way Q finite (either_way Q above (either_way Q sound (counted (counted_of coeffs)) none) none) none
    where
      counted : (n : Result ℕ Refusal) → P (roots_in (and_then n (λ n. Ok roots)))
      counted (Ok n) = some
      counted (Err refusal) = none

  -- ---- the numbers
  counted_number : sound ≡ true → refusal_of coeffs ≡ cond short 2 0
  unfolding counted_by
  counted_number g = rw (g, le-leb (trimmed_of coeffs) 5 five) (go short)
    where
      go : (b : Bool) → outcome_of (cond b (Err TooFew) (Ok (trimmed_of coeffs))) ≡ cond b 2 0
      go true = refl
      go false = refl

  list_number : outcome_of list ≡ refusal_of coeffs
  unfolding listed_of
  list_number = then_number (λ n. roots) (counted_of coeffs)

  number_is : outcome_of answer ≡ number_by finite above sound short
  unfolding pin_contact_of
  number_is = go finite above sound refl
    where
      go : (f a b : Bool) → sound ≡ b → outcome_of (answer_by f a b) ≡ number_by f a b short
      go false a b h = refl
      go true false b h = refl
      go true true false h = refl
      go true true true h = list_number ∙ counted_number h

  exactly : (n : ℕ) (A : Type 0) → (A → number_by finite above sound short ≡ n) → (number_by finite above sound short ≡ n → A)
      → Exactly (outcome_of answer ≡ n) A
  exactly n A f g = record { where_it_holds = λ t. number_is ∙ f t; only_there = λ e. g (sym number_is ∙ e) }

  numbers : Numbers (outcome_of answer) (numbers_of confusion path circle) circle.r coeffs
  numbers =
      record {
        zero =
            exactly 0 _ (λ t. rw (t.0, t.1, t.2, lt-leb (trimmed_of coeffs) 1 t.3))
            (λ e. let t = zero_only finite above sound short e in (t.0, t.1, t.2, leb-false (trimmed_of coeffs) 1 t.3));
        ten = exactly 10 _ (λ t. rw t) (ten_only finite above sound short);
        eleven = exactly 11 _ (λ t. rw (t.0, t.1)) (eleven_only finite above sound short);
        twelve = exactly 12 _ (λ t. rw (t.0, t.1, t.2)) (twelve_only finite above sound short);
        two =
            exactly 2 _ (λ t. rw (t.0, t.1, t.2, le-leb (trimmed_of coeffs) 1 t.3))
            (λ e. let t = two_only finite above sound short e in (t.0, t.1, t.2, leb-true (trimmed_of coeffs) 1 t.3));
        no_other = rw number_is (no_other_by finite above sound short);
      }

  -- ---- the list
  counted : outcome_of answer ≡ 0 → refusal_of coeffs ≡ 0
  counted e = let t = numbers.zero.only_there e in counted_number t.2 ∙ rw (lt-leb (trimmed_of coeffs) 1 t.3)

  listed : outcome_of answer ≡ 0 → roots_in answer ≡ roots
  unfolding pin_contact_of listed_of
  listed e = let t = numbers.zero.only_there e in rw (counted_when coeffs (counted e), t.0, t.1, t.2)

  never : lt confusion zero64 ≡ true → (t : Float) → touches t ≡ false
  unfolding touches_of
  never h t = none_at_most (sub binary64 (distance_of (seen_of path circle) t) circle.r) confusion h

  pub contacts : Contacts sine confusion path circle
  contacts =
      record {
        numbers = numbers;
        list = listed;
        refused = refused_none answer;
        fed = start_fed sine touches coeffs confusion;
        negative = never;
        degree = omega (arith, five);
        most = start_most sine touches coeffs confusion;
        questions = start_few sine touches coeffs confusion;
        roots =
            by_tests (λ (l : Roots). Within (degree_left coeffs) (list_of l)) (within_more 0 (degree_left coeffs) [] (omega arith) within_none)
            (subst (Within (degree_left coeffs)) (sym (list_roots (real_roots_touching_of sine touches coeffs confusion)))
            (start_list sine touches coeffs confusion));
        array =
            by_tests Fits (refl, omega arith)
            (roots_fit (real_roots_touching_of sine touches coeffs confusion) (start_list sine touches coeffs confusion).four);
        solved = λ e. solved_number sine coeffs confusion ∙ counted e;
        doubles = made_doubles (seen_of path circle) circle.r;
      }

  pub holds : {a : Result Roots Refusal} → a ≡ answer → (a ≡ answer) × Within (degree_left coeffs) (list_of (roots_in a))
  holds is = (is, subst⁻¹ (λ (a : Result Roots Refusal). Within (degree_left coeffs) (list_of (roots_in a))) is contacts.roots)

  -- what passes the three tests is answered as its list
  pub listed_so : (p : Path) (made : List Float) {a : Result Roots Refusal} → p ≡ seen_of path circle → made ≡ coefficients_of p circle.r → finite ≡ true
      → above ≡ true → all_finite_of made ≡ true → a ≡ listed_of sine confusion p circle.r made → a ≡ answer
  unfolding pin_contact_of
  listed_so p made is-p is-made h g m is =
      let told : made ≡ coeffs = is-made ∙ ap (λ (q : Path). coefficients_of q circle.r) is-p in
      is ∙ rw (told, is-p, h, g, sym (ap all_finite_of told) ∙ m) refl
