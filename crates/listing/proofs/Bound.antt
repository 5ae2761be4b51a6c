-- No listing is longer than 524,328 bytes: a line has at most eight bytes for each of its record, that after which reading ends at most 20, and the total 20.
-- (A line has at most 20 bytes, and 22 for each root, of which there are at most four. A formula of n bytes, whose record has 11 + n, has at most n + 1 roots;
-- all other records have more bytes for their roots.)
use mathlib.Core.Path.{◌≡◌, refl, ap}
use mathlib.Core.Bool.{Bool, true, false, cond}
use mathlib.Core.Logic.{◌⊎◌, inl, inr, ⊎_elim}
use mathlib.Core.List.{List, [], ◌∷◌, ◌++◌}
use Prim.Native.Nat.{ℕ, zero, suc, ◌+◌, ◌*◌, ◌-◌, ◌<◌, ◌≤◌}
use native.Mathlib.Omega.{arith}
use borrow.Author.Tests.{le-ltb, ltb-true, ltb-false}
use lib.Dec.{ltb}
use lib.ListN.{length, length-append}
use Rattle.refusals.specs.declared.Refusal.{Refusal}
use Rattle.refusals.specs.declared.Refusal.TheVariants.{FileTooLong}
use Rattle.angle.specs.declared.Sine.{Sine}
use Rattle.records.specs.declared.Kind.{Kind}
use Rattle.records.specs.declared.Kind.TheVariants.{Polynomial, Quadratic, Crank, Contact, Formula, Unknown}
use Rattle.records.specs.declared.Record.{Record}
use Rattle.records.specs.Records.{count_at, ended_of, record_at}
use Rattle.listing.specs.declared.total.Total.{Total}
use Rattle.listing.specs.Lines.{words_of, line_of, total_text}
use Rattle.listing.specs.Totals.{total_of}
use Rattle.listing.specs.File.{lines_from, record_lines, listing}
use Rattle.text.specs.Digits.{decimal}
use Rattle.listing.proofs.Texts.{refused_length, line_length, five_digits}
use Rattle.listing.proofs.Totals.{AtMost, total_fits}
use Rattle.listing.proofs.Asked.{polynomial_at_length, quadratic_at_length, formula_at_length, answer_length}
use Rattle.records.proofs.Places.{whole_of, record_by, record_forward}

-- ---- a line
ended_length : (sine : Sine) (s : List ℕ) (at : ℕ) (kind : Kind) (refusal : Refusal) → length (words_of sine s at (ended_of kind refusal s)) ≤ 10
unfolding words_of
ended_length sine s at kind refusal = refused_length refusal

-- the last line, of 20 bytes at most, or one of eight bytes for each that was read
Short : Sine → List ℕ → ℕ → ℕ → Record → Type 0
Short sine s at n r = ((length s ≤ r.next) × (length (line_of sine n s at r) ≤ 20)) ⊎ (length (line_of sine n s at r) + 8 * at ≤ 8 * r.next)

record_short : (sine : Sine) (s : List ℕ) (at n : ℕ) → n < 100000 → Short sine s at n (record_at s at)
unfolding Short words_of
record_short sine s at n few =
    let polynomial = whole_of Polynomial (at + (11 + 8 * count_at s at)) in
    let quadratic = whole_of Quadratic (at + 42) in
    let crank = whole_of Crank (at + 50) in
    let contact = whole_of Contact (at + 82) in
    let formula = whole_of Formula (at + (11 + count_at s at)) in
    record_by (Short sine s at n) s at
    (λ kind refusal. inl (omega arith, omega (arith, line_length sine n s at (ended_of kind refusal s) few, ended_length sine s at kind refusal)))
    (λ c h. inr (omega (arith, line_length sine n s at polynomial few, polynomial_at_length sine s at, answer_length sine s at Polynomial)))
    (λ h. inr (omega (arith, line_length sine n s at quadratic few, quadratic_at_length sine s at)))
    (λ h. inr (omega (arith, line_length sine n s at crank few, answer_length sine s at Crank)))
    (λ h. inr (omega (arith, line_length sine n s at contact few, answer_length sine s at Contact)))
    (λ h. inr (omega (arith, line_length sine n s at formula few, formula_at_length sine s at, answer_length sine s at Formula)))

-- ---- the lines from a place on
pub lines_end : (sine : Sine) (f : ℕ) (s : List ℕ) (at n : ℕ) → length s ≤ at → lines_from sine f s at n ≡ []
unfolding lines_from
lines_end sine zero s at n h = refl
lines_end sine (suc f) s at n h = simp (le-ltb _ _ h)

-- the line at at, and those behind it, of which the bound is known
line_and_rest : (sine : Sine) (f : ℕ) (s : List ℕ) (at n : ℕ) → at < length s → n + (length s - at) < 100000
    → ((j : ℕ) → n + 1 + (length s - j) < 100000 → length (lines_from sine f s j (n + 1)) ≤ 8 * (length s - j) + 20)
    → length (line_of sine n s at (record_at s at) ++ lines_from sine f s (record_at s at).next (n + 1)) ≤ 8 * (length s - at) + 20
unfolding Short
line_and_rest sine f s at n inside few rest =
    let r = record_at s at in
    let line = line_of sine n s at r in
    let more = lines_from sine f s r.next (n + 1) in
    let on = record_forward s at inside in
    ⊎_elim
    (λ end. omega (arith, length-append line more, ap length (lines_end sine f s r.next (n + 1) end.0), end.1))
    (λ far. omega (arith, length-append line more, rest r.next (omega (arith, on.past, on.within)), on.past, on.within, far))
    (record_short sine s at n (omega arith))

lines_length : (sine : Sine) (f : ℕ) (s : List ℕ) (at n : ℕ) → n + (length s - at) < 100000 → length (lines_from sine f s at n) ≤ 8 * (length s - at) + 20
unfolding lines_from
lines_length sine zero s at n h = omega arith
lines_length sine (suc f) s at n h = go (ltb at (length s)) refl (λ j p. lines_length sine f s j (n + 1) p)
  where
    all : List ℕ
    all = line_of sine n s at (record_at s at) ++ lines_from sine f s (record_at s at).next (n + 1)

    go : (b : Bool) → ltb at (length s) ≡ b
        → ((j : ℕ) → n + 1 + (length s - j) < 100000 → length (lines_from sine f s j (n + 1)) ≤ 8 * (length s - j) + 20)
        → length (cond b all []) ≤ 8 * (length s - at) + 20
    go false e rest = omega arith
    go true e rest = line_and_rest sine f s at n (ltb-true at (length s) e) h rest

pub all_lines_fit : (sine : Sine) (s : List ℕ) → length s ≤ 65536 → length (lines_from sine (length s) s 0 1) ≤ 524308
all_lines_fit sine s h = omega (arith, lines_length sine (length s) s 0 1 (omega arith))

pub record_lines_fit : (sine : Sine) (s : List ℕ) → length (record_lines sine s) ≤ 524308
unfolding record_lines
record_lines_fit sine s = go (ltb 65536 (length s)) refl
  where
    last : Record
    last = ended_of Unknown FileTooLong s

    go : (b : Bool) → ltb 65536 (length s) ≡ b → length (cond b (line_of sine 0 s 0 last) (lines_from sine (length s) s 0 1)) ≤ 524308
    go true e = omega (arith, line_length sine 0 s 0 last (omega arith), ended_length sine s 0 Unknown FileTooLong)
    go false e = all_lines_fit sine s (ltb-false 65536 (length s) e)

-- ---- the total, of which no number has more than five digits
total_length : (t : Total) → AtMost 65536 t → length (total_text t) ≤ 20
unfolding total_text
total_length t h =
    let last : List ℕ = decimal t.multiplicities ++ (10 ∷ []) in
    omega (
      arith,
      length-append (decimal t.records) (32 ∷ decimal t.roots ++ (32 ∷ last)),
      length-append (decimal t.roots) (32 ∷ last),
      length-append (decimal t.multiplicities) (10 ∷ []),
      five_digits {n = t.records} (omega (arith, h.records)),
      five_digits {n = t.roots} (omega (arith, h.roots)),
      five_digits {n = t.multiplicities} (omega (arith, h.multiplicities)),
    )

pub listing_fits : (sine : Sine) (s : List ℕ) → length (listing sine s) ≤ 524328
unfolding listing
listing_fits sine s =
    omega (
      arith,
      length-append (record_lines sine s) (total_text (total_of sine s)),
      record_lines_fit sine s,
      total_length (total_of sine s) (total_fits sine s),
    )
