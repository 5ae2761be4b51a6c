-- Request Six: what is refused, and under which number, does not depend on the mode; nor does a line that says a refusal.
use mathlib.Core.Path.{◌≡◌, refl, sym, ap, ◌∙◌}
use mathlib.Core.Bool.{Bool, true, false, cond}
use mathlib.Core.List.{List, [], ◌∷◌, ◌++◌}
use Prim.Native.Nat.{ℕ, zero, suc, ◌+◌}
use native.Mathlib.Omega.{arith}
use lib.Dec.{ltb}
use lib.ListN.{length, get_or}
use lib.Ieee.{Float, lt}
use Rattle.std.specs.Prelude.{Option, Some, None, Result, Ok, Err}
use Rattle.angle.specs.declared.Sine.{Sine}
use Rattle.refusals.specs.declared.Refusal.{Refusal}
use Rattle.refusals.specs.declared.Refusal.TheVariants.{RecordNotFinite, NoRadius, MadeNotFinite, FileTooLong}
use Rattle.refusals.specs.Refusals.{outcome_of, and_then}
use Rattle.refusals.proofs.Numbers.{number_bounds}
use Rattle.float.specs.Literals.{zero64}
use Rattle.float.specs.Methods.{all_finite_of}
use Rattle.roots.specs.declared.Roots.{Roots}
use Rattle.roots.specs.Roots.{roots_of}
use Rattle.poly.specs.Coefficients.{counted_of}
use Rattle.poly.specs.RealRoots.{real_roots_of}
use Rattle.poly.proofs.Refusals.{then_number, number_is}
use Rattle.inquiry.specs.Start.{real_roots_touching_of, start_of}
use Rattle.inquiry.proofs.Fresh.{start_number}
use Rattle.trig_quartic.specs.declared.TrigEquation.{TrigEquation}
use Rattle.trig_quartic.specs.declared.Crank.{Crank as Front}
use Rattle.trig_quartic.specs.Crank.{crank_front_of}
use Rattle.crank.specs.declared.CrankInquiry.{CrankInquiry}
use Rattle.crank.specs.declared.CrankAnswer.{CrankAnswer}
use Rattle.crank.specs.Crank.{solve_trig_of, crank_start_of, crank_of}
use Rattle.contact.specs.declared.Path.{Path}
use Rattle.contact.specs.declared.Circle.{Circle}
use Rattle.contact.specs.Contact.{numbers_of, seen_of, touches_of, made_of, listed_of, pin_contact_of}
use Rattle.parts.specs.Value.{Value}
use Rattle.formula.specs.Formula.{formula_of, floats_of}
use Rattle.formula_roots.specs.FormulaRoots.{solved_of, formula_roots_of}
use Rattle.records.specs.declared.Kind.{Kind}
use Rattle.records.specs.declared.Kind.TheVariants.{Polynomial, Quadratic, Crank, Contact, Formula, Unknown}
use Rattle.records.specs.declared.Record.{Record}
use Rattle.records.specs.Records.{ended_of, record_at}
use Rattle.listing.specs.Answers.{polynomial_at, crank_at, contact_at, formula_at}
use Rattle.listing.specs.Lines.{refused_text, or_refused, polynomial_text, crank_text, answer_text, words_of, head_of}
use Rattle.demands.specs.Example.{ascii}
use Rattle.demands.specs.ByHand.{begun_by, cut_at, words, word}
use Rattle.demands.specs.Demands.{record_line, lines_before}
use Rattle.demands.proofs.Said.{line_words}
use Rattle.demands.proofs.ByHand.{bodies, record_bodies, before_is}

-- ---- answers
module _ (a b : Sine) where
  pub list : (coeffs : List Float) (tol : Float) → outcome_of (real_roots_of a coeffs tol) ≡ outcome_of (real_roots_of b coeffs tol)
  list coeffs tol = number_is a coeffs tol ∙ sym (number_is b coeffs tol)

  pub inquiry : (coeffs : List Float) (tol : Float) → outcome_of (start_of a coeffs tol) ≡ outcome_of (start_of b coeffs tol)
  inquiry coeffs tol = start_number a coeffs tol ∙ sym (start_number b coeffs tol)

  pub crank : (confusion : Float) (trig : TrigEquation) → outcome_of (crank_start_of a confusion trig) ≡ outcome_of (crank_start_of b confusion trig)
  unfolding crank_start_of
  crank confusion trig = go (crank_front_of trig)
    where
      begun : Sine → Front → Result CrankInquiry Refusal
      begun sine front = and_then (start_of sine front.q confusion) (λ inquiry. Ok (record { k = front.k; inquiry = inquiry }))

      number : (sine : Sine) (front : Front) → outcome_of (begun sine front) ≡ outcome_of (start_of sine front.q confusion)
      number sine front = then_number (λ inquiry. record { k = front.k; inquiry = inquiry }) (start_of sine front.q confusion)

      go : (front : Result Front Refusal) → outcome_of (and_then front (begun a)) ≡ outcome_of (and_then front (begun b))
      go (Ok front) = number a front ∙ inquiry front.q confusion ∙ sym (number b front)
      go (Err refusal) = refl

  crank_answer : (confusion : Float) (trig : TrigEquation) → outcome_of (crank_of a confusion trig) ≡ outcome_of (crank_of b confusion trig)
  unfolding crank_of
  crank_answer confusion trig = number a ∙ crank confusion trig ∙ sym (number b)
    where
      answer : Sine → CrankAnswer
      answer sine = let solved = solve_trig_of sine (λ k u. false) confusion trig in record { k = solved.0; roots = roots_of solved.1 }

      number : (sine : Sine) → outcome_of (and_then (crank_start_of sine confusion trig) (λ c. Ok (answer sine)))
          ≡ outcome_of (crank_start_of sine confusion trig)
      number sine = then_number (λ c. answer sine) (crank_start_of sine confusion trig)

  listed : (confusion : Float) (p : Path) (r : Float) (coeffs : List Float)
      → outcome_of (listed_of a confusion p r coeffs) ≡ outcome_of (listed_of b confusion p r coeffs)
  unfolding listed_of
  listed confusion p r coeffs =
      let touches = touches_of confusion p r in
      then_number (λ n. roots_of (real_roots_touching_of a touches coeffs confusion)) (counted_of coeffs)
      ∙ sym (then_number (λ n. roots_of (real_roots_touching_of b touches coeffs confusion)) (counted_of coeffs))

  pub contact : (confusion : Float) (path : Path) (circle : Circle)
      → outcome_of (pin_contact_of a confusion path circle) ≡ outcome_of (pin_contact_of b confusion path circle)
  unfolding pin_contact_of
  contact confusion path circle = go (all_finite_of (numbers_of confusion path circle)) (lt zero64 circle.r) (all_finite_of (made_of path circle))
    where
      by : Sine → Bool → Bool → Bool → Result Roots Refusal
      by sine f l m =
          cond f (cond l (cond m (listed_of sine confusion (seen_of path circle) circle.r (made_of path circle)) (Err MadeNotFinite)) (Err NoRadius))
          (Err RecordNotFinite)

      go : (f l m : Bool) → outcome_of (by a f l m) ≡ outcome_of (by b f l m)
      go true true true = listed confusion (seen_of path circle) circle.r (made_of path circle)
      go true true false = refl
      go true false m = refl
      go false l m = refl

  pub formula : (s : List ℕ) (tol : Float) → outcome_of (formula_roots_of a s tol) ≡ outcome_of (formula_roots_of b s tol)
  unfolding formula_roots_of solved_of
  formula s tol = go (formula_of s)
    where
      go : (v : Value) → outcome_of (solved_of a v tol) ≡ outcome_of (solved_of b v tol)
      go (Ok p) = list (floats_of p) tol
      go (Err refusal) = refl

-- ---- what stands behind a mark
abbrev Refused : List ℕ → Type 0
Refused t = get_or (words t) 0 [] ≡ ascii "refused"

-- 'o' is no 'r'
not_ok : {A : Type 0} → 111 ∷ 107 ∷ [] ≡ ascii "refused" → A
unfolding ascii
not_ok e = absurd (let h : 111 ≡ 114 = ap (λ (w : List ℕ). get_or w 0 0) e in omega (arith, h))

roots_line : (x y : Result Roots Refusal) → outcome_of x ≡ outcome_of y → Refused (polynomial_text x) → polynomial_text x ≡ polynomial_text y
unfolding polynomial_text cut_at begun_by
roots_line (Ok r) y e h = not_ok h
roots_line (Err refusal) (Ok r) e h = absurd (omega (arith, e, number_bounds refusal))
roots_line (Err refusal) (Err other) e h = ap refused_text e

crank_line : (x y : Result CrankAnswer Refusal) → outcome_of x ≡ outcome_of y → Refused (crank_text x) → crank_text x ≡ crank_text y
unfolding crank_text cut_at begun_by
crank_line (Ok r) y e h = not_ok h
crank_line (Err refusal) (Ok r) e h = absurd (omega (arith, e, number_bounds refusal))
crank_line (Err refusal) (Err other) e h = ap refused_text e

-- as many lines, and those of the first that say a refusal are those of the second
record Alike (ls ms : List (List ℕ)) : Type 0 where
  count : length ls ≡ length ms
  line : (k : ℕ) → word 2 (get_or ls k []) ≡ ascii "refused" → get_or ls k [] ≡ get_or ms k []

alike_none : Alike [] []
alike_none = record { count = refl; line = λ k h. refl }

module _ (a b : Sine) (s : List ℕ) where
  same_answer : (at : ℕ) (kind : Kind) → Refused (answer_text a kind s at) → answer_text a kind s at ≡ answer_text b kind s at
  unfolding answer_text polynomial_at crank_at contact_at formula_at
  same_answer at Polynomial h = roots_line (polynomial_at a s at) (polynomial_at b s at) (list a b _ _) h
  same_answer at Quadratic h = refl
  same_answer at Crank h = crank_line (crank_at a s at) (crank_at b s at) (crank_answer a b _ _) h
  same_answer at Contact h = roots_line (contact_at a s at) (contact_at b s at) (contact a b _ _ _) h
  same_answer at Formula h = roots_line (formula_at a s at) (formula_at b s at) (formula a b _ _) h
  same_answer at Unknown h = refl

  same_words : (at : ℕ) (found : Record) → Refused (words_of a s at found) → words_of a s at found ≡ words_of b s at found
  unfolding words_of
  same_words at found h = go found.refused h
    where
      go : (o : Option Refusal) → Refused (or_refused o (answer_text a found.kind s at))
          → or_refused o (answer_text a found.kind s at) ≡ or_refused o (answer_text b found.kind s at)
      go None h = same_answer at found.kind h
      go (Some refusal) h = refl

  same_line : (n at : ℕ) (found : Record) → word 2 (record_line a n s at found) ≡ ascii "refused" → record_line a n s at found ≡ record_line b n s at found
  same_line n at found h =
      ap (λ (t : List ℕ). head_of n found.kind ++ t)
      (same_words at found (sym (ap (λ (ws : List (List ℕ)). get_or ws 2 []) (line_words a n s at found)) ∙ h))

  -- ---- the lines of all records
  alike_line : (n at : ℕ) (found : Record) (ls ms : List (List ℕ)) → Alike ls ms → Alike (record_line a n s at found ∷ ls) (record_line b n s at found ∷ ms)
  alike_line n at found ls ms h = record { count = ap suc h.count; line = go }
    where
      go : (k : ℕ) → word 2 (get_or (record_line a n s at found ∷ ls) k []) ≡ ascii "refused"
          → get_or (record_line a n s at found ∷ ls) k [] ≡ get_or (record_line b n s at found ∷ ms) k []
      go zero e = same_line n at found e
      go (suc k) e = h.line k e

  alike_bodies : (f at n : ℕ) → Alike (bodies a f s at n) (bodies b f s at n)
  unfolding bodies
  alike_bodies zero at n = alike_none
  alike_bodies (suc f) at n = go (ltb at (length s)) (alike_bodies f (record_at s at).next (n + 1))
    where
      found : Record
      found = record_at s at

      go : (c : Bool) → Alike (bodies a f s found.next (n + 1)) (bodies b f s found.next (n + 1))
          → Alike (cond c (record_line a n s at found ∷ bodies a f s found.next (n + 1)) [])
          (cond c (record_line b n s at found ∷ bodies b f s found.next (n + 1)) [])
      go true h = alike_line n at found (bodies a f s found.next (n + 1)) (bodies b f s found.next (n + 1)) h
      go false h = alike_none

  all_alike : Alike (record_bodies a s) (record_bodies b s)
  unfolding record_bodies
  all_alike = go (ltb 65536 (length s))
    where
      too_long : Record
      too_long = ended_of Unknown FileTooLong s

      go : (c : Bool) → Alike (cond c (record_line a 0 s 0 too_long ∷ []) (bodies a (length s) s 0 1))
          (cond c (record_line b 0 s 0 too_long ∷ []) (bodies b (length s) s 0 1))
      go true = alike_line 0 0 too_long [] [] alike_none
      go false = alike_bodies (length s) 0 1

  pub count : length (lines_before a s) ≡ length (lines_before b s)
  count = ap length (before_is a s) ∙ all_alike.count ∙ sym (ap length (before_is b s))

  pub line : (k : ℕ) → word 2 (get_or (lines_before a s) k []) ≡ ascii "refused" → get_or (lines_before a s) k [] ≡ get_or (lines_before b s) k []
  line k h =
      let at = λ (ls : List (List ℕ)). get_or ls k [] in
      ap at (before_is a s) ∙ all_alike.line k (sym (ap (λ (ls : List (List ℕ)). word 2 (get_or ls k [])) (before_is a s)) ∙ h) ∙ sym (ap at (before_is b s))
