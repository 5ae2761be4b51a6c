-- The closing total: the sum of a line's multiplicities, and that no number of the total is above the count of the file's bytes.
use mathlib.Core.Path.{◌≡◌, refl, ap, ◌∙◌}
use mathlib.Core.Bool.{Bool, true, false, cond}
use mathlib.Core.List.{List, [], ◌∷◌}
use Prim.Native.Nat.{ℕ, zero, suc, ◌+◌, ◌*◌, ◌-◌, ◌<◌, ◌≤◌}
use native.Mathlib.Numerals.{add-one}
use native.Mathlib.Omega.{arith}
use borrow.Author.Tests.{ltb-true, ltb-false}
use lib.Dec.{ltb}
use lib.ListN.{length, take, get_or}
use lib.Seq.{take-suc, take_all}
use Rattle.facts.specs.Lists.{sum_snoc}
use Rattle.roots.specs.declared.RealRoot.{RealRoot}
use Rattle.roots.specs.Roots.{list_of, no_roots}
use Rattle.roots.specs.Listed.{multiplicities}
use Rattle.angle.specs.declared.Sine.{Sine}
use Rattle.records.specs.declared.Kind.{Kind}
use Rattle.records.specs.declared.Kind.TheVariants.{Polynomial, Quadratic, Crank, Contact, Formula}
use Rattle.refusals.specs.declared.Refusal.{Refusal}
use Rattle.records.specs.declared.Record.{Record}
use Rattle.records.specs.Records.{count_at, ended_of, record_at}
use Rattle.records.proofs.Places.{whole_of, record_by, record_forward}
use Rattle.listing.specs.declared.total.Total.{Total}
use Rattle.listing.specs.Totals.{no_total, line_total, plus, listed_at, record_total, total_from, total_of}
use Rattle.listing.proofs.Asked.{listed_prints, polynomial_sum, quadratic_sum, crank_sum, contact_sum, formula_sum}

-- ---- the multiplicities of the first roots
pub multiplicities_next : (l : List RealRoot) (i : ℕ) (d : RealRoot) → i < length l
    → multiplicities (take (i + 1) l) ≡ multiplicities (take i l) + (get_or l i d).multiplicity
multiplicities_next l i d h = rw (add-one, take-suc l i d) (sum_snoc (λ (r : RealRoot). r.multiplicity) (take i l) (get_or l i d))

pub multiplicities_all : (l : List RealRoot) (i : ℕ) → length l ≤ i → multiplicities (take i l) ≡ multiplicities l
multiplicities_all l i h = ap multiplicities (take_all i l h)

pub multiplicities_part : (l : List RealRoot) (i : ℕ) → multiplicities (take i l) ≤ multiplicities l
multiplicities_part [] zero = omega arith
multiplicities_part [] (suc i) = omega arith
multiplicities_part (r ∷ l) zero = omega arith
multiplicities_part (r ∷ l) (suc i) = omega (arith, multiplicities_part l i)

-- ---- totals are added
pub same_total : {t u : Total} → t.records ≡ u.records → t.roots ≡ u.roots → t.multiplicities ≡ u.multiplicities → t ≡ u
same_total {t} {u} e f g =
    ap (λ (n : ℕ). record { records = n; roots = t.roots; multiplicities = t.multiplicities }) e
    ∙ ap (λ (n : ℕ). record { records = u.records; roots = n; multiplicities = t.multiplicities }) f
    ∙ ap (λ (n : ℕ). record { records = u.records; roots = u.roots; multiplicities = n }) g

pub none_plus : (t : Total) → plus no_total t ≡ t
none_plus t = same_total (omega arith) (omega arith) (omega arith)

pub plus_none : (t : Total) → plus t no_total ≡ t
plus_none t = same_total (omega arith) (omega arith) (omega arith)

pub plus_assoc : (a b c : Total) → plus (plus a b) c ≡ plus a (plus b c)
plus_assoc a b c = same_total (omega arith) (omega arith) (omega arith)

-- ---- none is above n
pub record AtMost (n : ℕ) (t : Total) : Type 0 where
  pub records : t.records ≤ n
  pub roots : t.roots ≤ n
  pub multiplicities : t.multiplicities ≤ n

at_most_sum : {a b : Total} {l m n : ℕ} → l ≤ m → m ≤ n → AtMost (m - l) a → AtMost (n - m) b → AtMost (n - l) (plus a b)
at_most_sum p q g h =
    record {
      records = omega (arith, g.records, h.records);
      roots = omega (arith, g.roots, h.roots);
      multiplicities = omega (arith, g.multiplicities, h.multiplicities);
    }

-- ---- a record has at least as many bytes as it lists roots, each counted as often as its multiplicity says
module _ (sine : Sine) (s : List ℕ) (at : ℕ) (inside : at < length s) where
  refused_at_most : (kind : Kind) (refusal : Refusal) → AtMost (length s - at) (record_total sine s at (ended_of kind refusal s))
  unfolding record_total
  refused_at_most kind refusal = record { records = omega arith; roots = omega arith; multiplicities = omega arith }

  whole_at_most : (kind : Kind) (size : ℕ) → 11 ≤ size → multiplicities (list_of (listed_at sine kind s at)) ≤ size
      → AtMost (at + size - at) (record_total sine s at (whole_of kind (at + size)))
  unfolding record_total
  whole_at_most kind size h sum =
      record { records = omega arith; roots = omega (arith, (listed_prints sine s at kind).fits.1); multiplicities = omega (arith, sum) }

  record_at_most : AtMost ((record_at s at).next - at) (record_total sine s at (record_at s at))
  record_at_most =
      record_by (λ (r : Record). AtMost (r.next - at) (record_total sine s at r)) s at refused_at_most
      (λ c h. whole_at_most Polynomial (11 + 8 * count_at s at) (omega arith) (omega (arith, polynomial_sum sine s at)))
      (λ h. whole_at_most Quadratic 42 (omega arith) (omega (arith, quadratic_sum sine s at)))
      (λ h. whole_at_most Crank 50 (omega arith) (omega (arith, crank_sum sine s at)))
      (λ h. whole_at_most Contact 82 (omega arith) (omega (arith, contact_sum sine s at)))
      (λ h. whole_at_most Formula (11 + count_at s at) (omega arith) (omega (arith, formula_sum sine s at)))

from_at_most : (sine : Sine) (f : ℕ) (s : List ℕ) (at : ℕ) → AtMost (length s - at) (total_from sine f s at)
unfolding total_from
from_at_most sine zero s at = record { records = omega arith; roots = omega arith; multiplicities = omega arith }
from_at_most sine (suc f) s at = go (ltb at (length s)) refl (from_at_most sine f s (record_at s at).next)
  where
    found : Record
    found = record_at s at

    go : (b : Bool) → ltb at (length s) ≡ b → AtMost (length s - found.next) (total_from sine f s found.next)
        → AtMost (length s - at) (cond b (plus (record_total sine s at found) (total_from sine f s found.next)) no_total)
    go true e rest =
        let inside = ltb-true at (length s) e in
        let on = record_forward s at inside in
        at_most_sum (omega (arith, on.past)) on.within (record_at_most sine s at inside) rest
    go false e rest = record { records = omega arith; roots = omega arith; multiplicities = omega arith }

-- the numbers fit
pub all_at_most : (sine : Sine) (s : List ℕ) → length s ≤ 65536 → AtMost 65536 (total_from sine (length s) s 0)
all_at_most sine s h =
    let t = from_at_most sine (length s) s 0 in
    record { records = omega (arith, t.records); roots = omega (arith, t.roots); multiplicities = omega (arith, t.multiplicities) }

pub total_fits : (sine : Sine) (s : List ℕ) → AtMost 65536 (total_of sine s)
unfolding total_of
total_fits sine s = go (ltb 65536 (length s)) refl
  where
    go : (b : Bool) → ltb 65536 (length s) ≡ b → AtMost 65536 (cond b (line_total no_roots) (total_from sine (length s) s 0))
    go true e = record { records = omega arith; roots = omega arith; multiplicities = omega arith }
    go false e = all_at_most sine s (ltb-false 65536 (length s) e)
