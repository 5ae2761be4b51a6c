-- What the solver answers to a record's numbers can be printed, and is short; the roots that it lists are few.
use mathlib.Core.Path.{◌≡◌, subst⁻¹}
use mathlib.Core.List.{List}
use Prim.Native.Nat.{ℕ, ◌+◌, ◌*◌, ◌-◌, ◌≤◌, ◌<◌}
use native.Mathlib.Omega.{arith}
use lib.ListN.{length, drop, length-take}
use Rattle.angle.specs.declared.Sine.{Sine}
use Rattle.text.proofs.Laws.{written_none}
use Rattle.float.specs.Bytes.{f64_at}
use Rattle.roots.specs.declared.Roots.{Roots}
use Rattle.roots.specs.Roots.{list_of}
use Rattle.roots.specs.Listed.{multiplicities}
use Rattle.poly.specs.RealRoots.{roots_in}
use Rattle.std.specs.Prelude.{Result, Ok, Err}
use Rattle.refusals.specs.declared.Refusal.{Refusal}
use Rattle.refusals.specs.Refusals.{outcome_of}
use Rattle.refusals.proofs.Numbers.{number_bounds}
use Rattle.crank.specs.declared.CrankAnswer.{CrankAnswer}
use Rattle.crank.proofs.Theorem.{cranks}
use Rattle.contact.proofs.Theorem.{contacts}
use Rattle.lent_bytes.specs.Bytes.{f64s_at}
use Rattle.lent_bytes.proofs.Doubles.{f64s_length}
use Rattle.records.specs.declared.Kind.{Kind}
use Rattle.records.specs.declared.Kind.TheVariants.{Polynomial, Quadratic, Crank, Contact, Formula, Unknown}
use Rattle.records.specs.declared.Record.{Record}
use Rattle.records.specs.Records.{count_at}
use Rattle.listing.specs.Answers.{polynomial_at, quadratic_at, trig_at, crank_at, path_at, circle_at, contact_at, text_at, formula_at}
use Rattle.listing.specs.Lines.{polynomial_text, answer_text, words_of}
use Rattle.listing.specs.Totals.{listed_at}
use Rattle.listing.specs.Printable.{Printable, CrankPrintable}
use Rattle.listing.proofs.Texts.{or_length, polynomial_length, quadratic_length, crank_length}
use Rattle.listing.proofs.Answers.{none_short, ListShort, list_short, crank_short, crank_listed, contact_short, FormulaShort, formula_short}
use Rattle.solution.specs.declared.QuadraticSolution.{QuadraticSolution}

module _ (sine : Sine) (s : List ℕ) (at : ℕ) where
  polynomial_at_short : ListShort (f64s_at (count_at s at) s (at + 11)) (polynomial_at sine s at)
  unfolding polynomial_at
  polynomial_at_short = list_short sine (f64s_at (count_at s at) s (at + 11)) (f64_at s (at + 3))

  crank_at_short : CrankPrintable (crank_at sine s at)
  unfolding crank_at
  crank_at_short = crank_short sine (f64_at s (at + 2)) (trig_at s at)

  contact_at_short : Printable (roots_in (contact_at sine s at))
  unfolding contact_at
  contact_at_short = contact_short sine (f64_at s (at + 2)) (path_at s at) (circle_at s at)

  formula_at_short : FormulaShort (text_at s at) (formula_at sine s at)
  unfolding formula_at
  formula_at_short = formula_short sine (text_at s at) (f64_at s (at + 3))

  -- ---- what printing them asks
  pub polynomial_prints : (r : Result Roots Refusal) → r ≡ polynomial_at sine s at → Printable (roots_in r)
  polynomial_prints r e = subst⁻¹ (λ (a : Result Roots Refusal). Printable (roots_in a)) e polynomial_at_short.roots

  pub quadratic_prints : (r : Result QuadraticSolution Refusal) → r ≡ quadratic_at s at
      → outcome_of r < 100
  quadratic_prints (Ok x) e = omega arith
  quadratic_prints (Err refusal) e = (number_bounds refusal).1

  pub crank_prints : (r : Result CrankAnswer Refusal) → r ≡ crank_at sine s at → CrankPrintable r
  crank_prints r e = subst⁻¹ CrankPrintable e crank_at_short

  pub contact_prints : (r : Result Roots Refusal) → r ≡ contact_at sine s at → Printable (roots_in r)
  contact_prints r e = subst⁻¹ (λ (a : Result Roots Refusal). Printable (roots_in a)) e contact_at_short

  pub formula_prints : (r : Result Roots Refusal) → r ≡ formula_at sine s at → Printable (roots_in r)
  formula_prints r e = subst⁻¹ (λ (a : Result Roots Refusal). Printable (roots_in a)) e formula_at_short.roots

  -- ---- how long their texts are
  pub polynomial_at_length : length (answer_text sine Polynomial s at) ≤ 10 + 22 * (count_at s at - 1)
  unfolding answer_text
  polynomial_at_length =
      let a = polynomial_at_short in
      omega (arith, polynomial_length (polynomial_at sine s at) a.roots, a.fewer, f64s_length (count_at s at) s (at + 11))

  pub quadratic_at_length : length (answer_text sine Quadratic s at) ≤ 37
  unfolding answer_text
  quadratic_at_length = quadratic_length (quadratic_at s at)

  formula_length : length (polynomial_text (formula_at sine s at)) ≤ 10 + 22 * (roots_in (formula_at sine s at)).len
  formula_length = polynomial_length (formula_at sine s at) formula_at_short.roots

  pub formula_at_length : length (answer_text sine Formula s at) ≤ 10 + 22 * (count_at s at + 1)
  unfolding answer_text
  formula_at_length = omega (arith, formula_length, formula_at_short.few, length-take (count_at s at) (drop (at + 11) s))

  pub answer_length : (kind : Kind) → length (answer_text sine kind s at) ≤ 98
  unfolding answer_text
  answer_length Polynomial =
      let a = polynomial_at_short in
      omega (arith, polynomial_length (polynomial_at sine s at) a.roots, a.roots.fits.1)
  answer_length Quadratic = omega (arith, quadratic_at_length)
  answer_length Crank = crank_length (crank_at sine s at) crank_at_short
  answer_length Contact =
      let a = contact_at_short in
      omega (arith, polynomial_length (contact_at sine s at) a, a.fits.1)
  answer_length Formula = omega (arith, formula_length, formula_at_short.roots.fits.1)
  answer_length Unknown = omega arith

  pub words_length : (found : Record) → length (words_of sine s at found) ≤ 98
  unfolding words_of
  words_length found = or_length found.refused (answer_text sine found.kind s at) 98 (omega arith) (answer_length found.kind)

  -- ---- which roots they list
  pub listed_prints : (kind : Kind) → Printable (listed_at sine kind s at)
  unfolding listed_at
  listed_prints Polynomial = polynomial_at_short.roots
  listed_prints Quadratic = none_short
  listed_prints Crank = crank_listed (crank_at sine s at) crank_at_short
  listed_prints Contact = contact_at_short
  listed_prints Formula = formula_at_short.roots
  listed_prints Unknown = none_short

  pub polynomial_sum : multiplicities (list_of (listed_at sine Polynomial s at)) ≤ count_at s at - 1
  unfolding listed_at
  polynomial_sum = omega (arith, polynomial_at_short.sum, f64s_length (count_at s at) s (at + 11))

  pub quadratic_sum : multiplicities (list_of (listed_at sine Quadratic s at)) ≤ 0
  unfolding listed_at
  quadratic_sum = omega arith

  pub crank_sum : multiplicities (list_of (listed_at sine Crank s at)) ≤ 4
  unfolding listed_at crank_at
  crank_sum =
      let all = cranks sine (f64_at s (at + 2)) (trig_at s at) in
      omega (arith, all.answer.sum, all.degree)

  pub contact_sum : multiplicities (list_of (listed_at sine Contact s at)) ≤ 4
  unfolding listed_at contact_at
  contact_sum =
      let all = contacts sine (f64_at s (at + 2)) (path_at s at) (circle_at s at) in
      omega (arith, all.roots.sum, all.degree)

  pub formula_sum : multiplicities (list_of (listed_at sine Formula s at)) ≤ count_at s at + 1
  unfolding listed_at
  formula_sum = omega (arith, formula_at_short.sum, length-take (count_at s at) (drop (at + 11) s))

pub ruleset prints = (written_none, polynomial_prints, crank_prints, contact_prints, formula_prints)
