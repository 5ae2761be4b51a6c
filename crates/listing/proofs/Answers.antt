-- What printing needs of the solver's answers: at most four roots, short multiplicities, k below 8. Of lists, that they have fewer roots than coefficients; of
-- formulas, at most one root more than bytes; also where a root counts as often as its multiplicity says.
use mathlib.Core.Path.{◌≡◌, refl, sym, ap, subst, subst⁻¹}
use mathlib.Core.Bool.{false}
use mathlib.Core.Logic.{⊎_elim}
use mathlib.Core.List.{List, []}
use Prim.Native.Nat.{ℕ, ◌+◌, ◌-◌, ◌<◌, ◌≤◌}
use native.Mathlib.Nat.{eq-zero-or-pos}
use native.Mathlib.Omega.{arith}
use lib.Dec.{lit≤}
use lib.ListN.{length}
use lib.Ieee.{Float}
use Rattle.roots.specs.declared.RealRoot.{RealRoot}
use Rattle.roots.specs.declared.Roots.{Roots}
use Rattle.roots.specs.Roots.{list_of, roots_of, no_roots}
use Rattle.roots.specs.Listed.{multiplicities, Within}
use Rattle.roots.proofs.Laws.{list_roots, length_list, roots_fit}
use Rattle.roots.proofs.Sums.{counted, length_counted, within_none}
use Rattle.angle.specs.declared.Sine.{Sine}
use Rattle.poly.specs.Coefficients.{degree_left}
use Rattle.poly.specs.RealRoots.{real_roots_of, roots_in}
use Rattle.poly.proofs.Refusals.{trimmed_is, has_no_root, stands_for}
use Rattle.poly.proofs.Sums.{answer_within, answer_fits}
use Rattle.std.specs.Prelude.{Result, Ok, Err}
use Rattle.refusals.specs.declared.Refusal.{Refusal}
use Rattle.refusals.specs.Refusals.{outcome_of, and_then}
use Rattle.trig_quartic.specs.declared.TrigEquation.{TrigEquation}
use Rattle.crank.specs.declared.CrankInquiry.{CrankInquiry}
use Rattle.crank.specs.declared.CrankAnswer.{CrankAnswer}
use Rattle.crank.specs.Crank.{trig_quartic_of, solve_trig_of, crank_start_of, crank_of, crank_roots_in}
use Rattle.crank.specs.Claims.{Cranks}
use Rattle.crank.proofs.Theorem.{cranks}
use Rattle.contact.specs.declared.Path.{Path}
use Rattle.contact.specs.declared.Circle.{Circle}
use Rattle.contact.specs.Contact.{pin_contact_of}
use Rattle.contact.proofs.Theorem.{contacts}
use Rattle.formula_roots.specs.FormulaRoots.{formula_roots_of}
use Rattle.formula_roots.proofs.Solved.{answered_by_list}
use Rattle.listing.specs.Printable.{Printable, CrankPrintable}

-- A list within demand 1's bounds, in its array.
pub within_short : (d : ℕ) (l : List RealRoot) → d < 100 → Within d l
    → Printable (roots_of l) × ((roots_of l).len ≤ d)
within_short d l h w = (
  record {
    fits = roots_fit l w.four;
    short =
        subst (λ (k : List RealRoot). multiplicities k < 100) (sym (list_roots l)) (omega (arith, w.sum));
  },
  omega (arith, length_counted l (counted l w.listed), w.sum),
)

pub none_short : Printable no_roots
none_short = (within_short 0 [] (omega arith) within_none).0

-- ---- lists
pub record ListShort (cs : List Float) (a : Result Roots Refusal) : Type 0 where
  pub roots : Printable (roots_in a)
  pub fewer : (roots_in a).len ≤ length cs - 1
  pub sum : multiplicities (list_of (roots_in a)) ≤ length cs - 1

module _ (sine : Sine) (cs : List Float) (tol : Float) where
  abbrev list : Roots
  list = roots_in (real_roots_of sine cs tol)

  list_prints : Printable list
  list_prints = ⊎_elim answered refused (eq-zero-or-pos (outcome_of (real_roots_of sine cs tol)))
    where
      answered : outcome_of (real_roots_of sine cs tol) ≡ 0 → Printable list
      answered e =
          let few = ((stands_for sine cs tol 0 (lit≤ tt)).only_there e).2 in
          record { fits = answer_fits sine cs tol; short = omega (arith, (answer_within sine cs tol).sum, few) }

      refused : 0 < outcome_of (real_roots_of sine cs tol) → Printable list
      refused h = subst⁻¹ Printable (has_no_root sine cs tol h) none_short

  pub list_short : ListShort cs (real_roots_of sine cs tol)
  list_short =
      let w = answer_within sine cs tol in
      let each = length_counted (list_of list) (counted (list_of list) w.listed) in
      record {
        roots = list_prints;
        fewer = omega (arith, length_list list (answer_fits sine cs tol), each, w.sum, (trimmed_is cs).within);
        sum = omega (arith, w.sum, (trimmed_is cs).within);
      }

-- ---- cranks
pub crank_short : (sine : Sine) (confusion : Float) (trig : TrigEquation) → CrankPrintable (crank_of sine confusion trig)
unfolding crank_of
crank_short sine confusion trig = go (crank_start_of sine confusion trig) refl
  where
    all : Cranks sine confusion trig
    all = cranks sine confusion trig

    solved : ℕ × List RealRoot
    solved = solve_trig_of sine (λ k u. false) confusion trig

    go : (start : Result CrankInquiry Refusal) → crank_start_of sine confusion trig ≡ start
        → CrankPrintable (and_then start (λ c. Ok (record { k = solved.0; roots = roots_of solved.1 })))
    go (Ok c) e = (
      subst (λ (k : ℕ). k < 8) (all.k_is (ap outcome_of e) (λ k u. false)) all.eighths,
      (within_short (degree_left (trig_quartic_of trig)) solved.1 (omega (arith, all.degree)) (all.list (λ k u. false))).0,
    )
    go (Err refusal) e = tt

pub crank_listed : (a : Result CrankAnswer Refusal) → CrankPrintable a → Printable (crank_roots_in a)
crank_listed (Ok a) p = p.1
crank_listed (Err refusal) p = none_short

-- ---- pin contacts
pub contact_short : (sine : Sine) (confusion : Float) (path : Path) (circle : Circle) → Printable (roots_in (pin_contact_of sine confusion path circle))
contact_short sine confusion path circle =
    let all = contacts sine confusion path circle in record { fits = all.array; short = omega (arith, all.roots.sum, all.degree) }

-- ---- formulas
pub record FormulaShort (text : List ℕ) (a : Result Roots Refusal) : Type 0 where
  pub roots : Printable (roots_in a)
  pub few : (roots_in a).len ≤ length text + 1
  pub sum : multiplicities (list_of (roots_in a)) ≤ length text + 1

pub formula_short : (sine : Sine) (text : List ℕ) (tol : Float) → FormulaShort text (formula_roots_of sine text tol)
formula_short sine text tol =
    answered_by_list sine (FormulaShort text) text tol (λ refusal h. record { roots = none_short; few = omega arith; sum = omega arith })
    (λ cs h. let a = list_short sine cs tol in record { roots = a.roots; few = omega (arith, a.fewer); sum = omega (arith, a.sum) })
