-- What an answer to lent bytes says and stores, where a test of them may refuse them first; and that an answered list has no more than its places.
use mathlib.Core.Path.{◌≡◌, refl, sym, ap, ◌∙◌, subst}
use mathlib.Core.Bool.{Bool, false, true}
use mathlib.Core.List.{List}
use Prim.Native.Nat.{ℕ, ◌≤◌, ◌<◌}
use native.Mathlib.Omega.{arith}
use lib.Ieee.{Float}
use Rattle.std.specs.Prelude.{Result, Ok, IfOk}
use Rattle.angle.specs.declared.Sine.{Sine}
use Rattle.refusals.specs.declared.Refusal.{Refusal}
use Rattle.tally.specs.declared.Tallied.{Tallied}
use Rattle.tally.specs.Tally.{answer_in}
use Rattle.roots.specs.declared.Roots.{Roots}
use Rattle.roots.specs.Listed.{Fits}
use Rattle.poly.specs.RealRoots.{real_roots_of, real_roots_systems_of, roots_in}
use Rattle.poly.specs.Short.{short_of}
use Rattle.poly.proofs.Sums.{answer_fits}
use Rattle.poly.proofs.Short.{short_lists}
use Rattle.poly.proofs.Systems.{short_systems}
use Rattle.contact.specs.declared.Path.{Path}
use Rattle.contact.specs.declared.Circle.{Circle}
use Rattle.contact.specs.Contact.{pin_contact_of}
use Rattle.contact.proofs.Theorem.{contacts}
use Rattle.formula.specs.declared.Expanded.{Expanded}
use Rattle.formula.specs.Formula.{expand_of}
use Rattle.formula.proofs.Texts.{few}
use Rattle.formula_roots.specs.FormulaRoots.{formula_roots_of}
use Rattle.formula_roots.proofs.Solved.{formula_fits}
use Rattle.lent_bytes.specs.Bytes.{unless, Answered}
use Rattle.lent_bytes.proofs.Whole.{answered_as, answered_if, is_given, refused, is_other}
use Rattle.pongewaru.proofs.Answers.{told_list, told_coefficients}
use Rattle.pongewaru.proofs.Once.{inquired_fits}

-- ---- of bytes that may be refused: whatever is not stored, and the answer where they are not
pub unstored : (n : ℕ) (xs ys : List Float) {l : List ℕ} {r : ℕ} {m : List ℕ} → 0 < n → Answered n xs l r m → Answered n ys l r m
unstored n xs ys h w = answered_if refl (λ z. absurd (omega (arith, z, h))) w

pub answered_then : (n k : ℕ) (ys : List Float) {l : List ℕ} {p b : Bool} {r : ℕ} {m : List ℕ} → b ≡ p → b ≡ false → Answered k ys l r m
    → Answered (unless n p k) ys l r m
answered_then n k ys e t w = answered_as (is_given n k e t refl) refl w

-- what is said and stored of bytes that are refused, under n
module _ (n k : ℕ) (ys : List Float) (l : List ℕ) {p b : Bool} (e : b ≡ p) where
  pub refused_first : 0 < n → b ≡ true → Answered (unless n p k) ys l n l
  refused_first h t =
      answered_as (is_other n k e t) refl (refused ys l n (λ z. omega (arith, z, h)))

-- ---- an answered list
module _ {answer : Result Roots Refusal} {s : Result (Tallied Roots) Refusal} {x : Tallied Roots} (fits : Fits (roots_in answer)) (is : answer_in s ≡ answer)
    (e : s ≡ Ok x) where
  answered_fits : Fits x.value
  answered_fits = subst (λ (a : Result Roots Refusal). Fits (roots_in a)) (sym is ∙ ap answer_in e) fits

module _ {s : Result (Tallied Roots) Refusal} {x : Tallied Roots} where
  pub contact_fits : (sine : Sine) (confusion : Float) (path : Path) (circle : Circle) → answer_in s ≡ pin_contact_of sine confusion path circle → s ≡ Ok x
      → Fits x.value
  contact_fits sine confusion path circle is e = answered_fits (contacts sine confusion path circle).array is e

  pub list_fits : (sine : Sine) (coeffs : List Float) (tol : Float) → answer_in s ≡ real_roots_of sine coeffs tol → s ≡ Ok x → Fits x.value
  list_fits sine coeffs tol is e = answered_fits (answer_fits sine coeffs tol) is e

  pub text_fits : (sine : Sine) (text : List ℕ) (tol : Float) → answer_in s ≡ formula_roots_of sine text tol → s ≡ Ok x → Fits x.value
  text_fits sine text tol is e = answered_fits (formula_fits sine text tol) is e

module _ (sine : Sine) (coeffs short : List Float) (tol : Float) (h : short ≡ short_of coeffs) where
  pub list_short : {answer : Result Roots Refusal} → answer ≡ real_roots_of sine short tol → answer ≡ real_roots_of sine coeffs tol
  list_short is = rw h at is ∙ short_lists sine coeffs tol

  pub count_short : {systems : ℕ} → systems ≡ real_roots_systems_of sine short tol → systems ≡ real_roots_systems_of sine coeffs tol
  count_short is = rw h at is ∙ short_systems sine coeffs tol

pub few_coefficients : (text : List ℕ) {s : Result Expanded Refusal} {x : Expanded} → s ≡ expand_of text → s ≡ Ok x → x.len ≤ 5
few_coefficients text is e = subst (λ (r : Result Expanded Refusal). IfOk r (λ (e : Expanded). e.len ≤ 5)) (sym is ∙ e) (few text)

-- ---- for `using`
pub ruleset contact_told = (told_list, contact_fits)

pub ruleset list_told = (unstored, told_list, list_fits, list_short, count_short)

pub ruleset inquiry_told = (unstored, inquired_fits)

pub ruleset text_told = (unstored, told_list, text_fits)

pub ruleset coefficients_told = (unstored, told_coefficients, few_coefficients)
