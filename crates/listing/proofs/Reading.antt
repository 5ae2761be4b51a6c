-- A turn of the loop over the records: reading goes forward, the lines stored are the first of the listing, and the total is theirs.
use mathlib.Core.Path.{◌≡◌, refl, sym, ap, subst, ◌∙◌}
use mathlib.Core.List.{List, [], ◌++◌, append-nil, append_assoc}
use Prim.Native.Nat.{ℕ, zero, suc, ◌+◌, ◌-◌, ◌<◌, ◌≤◌}
use native.Mathlib.Omega.{arith}
use borrow.Author.Tests.{lt-ltb, le-ltb}
use lib.ListN.{length, length-append}
use Rattle.angle.specs.declared.Sine.{Sine}
use Rattle.text.specs.declared.Text.{Text}
use Rattle.text.specs.Written.{Written}
use Rattle.text.proofs.Laws.{written_none, written_then, written_as}
use Rattle.records.specs.declared.Kind.TheVariants.{Unknown}
use Rattle.records.specs.declared.Record.{Record}
use Rattle.refusals.specs.declared.Refusal.TheVariants.{FileTooLong}
use Rattle.records.specs.Records.{ended_of, record_at}
use Rattle.listing.specs.declared.total.Total.{Total}
use Rattle.listing.specs.Lines.{line_of}
use Rattle.listing.specs.Totals.{no_total, plus, FitsWords, record_total, total_from, total_of}
use Rattle.listing.specs.File.{lines_from, record_lines}
use Rattle.records.proofs.Places.{record_forward}
use Rattle.listing.proofs.Totals.{plus_assoc, none_plus, plus_none, all_at_most}
use Rattle.listing.proofs.Bound.{lines_end, all_lines_fit}

pub lines_step : (sine : Sine) (f : ℕ) (s : List ℕ) (at n : ℕ) → at < length s → 0 < f
    → lines_from sine f s at n ≡ line_of sine n s at (record_at s at) ++ lines_from sine (f - 1) s (record_at s at).next (n + 1)
unfolding lines_from
lines_step sine zero s at n h p = absurd (omega arith)
lines_step sine (suc f) s at n h p =
    let e : f ≡ suc f - 1 = omega arith in
    simp (lt-ltb _ _ h) (ap (λ (k : ℕ). line_of sine n s at (record_at s at) ++ lines_from sine k s (record_at s at).next (n + 1)) e)

pub total_step : (sine : Sine) (f : ℕ) (s : List ℕ) (at : ℕ) → at < length s → 0 < f
    → total_from sine f s at ≡ plus (record_total sine s at (record_at s at)) (total_from sine (f - 1) s (record_at s at).next)
unfolding total_from
total_step sine zero s at h p = absurd (omega arith)
total_step sine (suc f) s at h p =
    let e : f ≡ suc f - 1 = omega arith in
    simp (lt-ltb _ _ h) (ap (λ (k : ℕ). plus (record_total sine s at (record_at s at)) (total_from sine k s (record_at s at).next)) e)

pub total_end : (sine : Sine) (f : ℕ) (s : List ℕ) (at : ℕ) → length s ≤ at → total_from sine f s at ≡ no_total
unfolding total_from
total_end sine zero s at h = refl
total_end sine (suc f) s at h = simp (le-ltb _ _ h)

-- The lines of the records before at are written in b, which was a: `text`. With those from at on, for which the fuel is enough, they are all; and so are
-- their totals.
pub record Sofar (sine : Sine) (a : Text) (s : List ℕ) (b : Text) (at : ℕ) (total : Total) : Type 0 where
  pub fuel : ℕ
  pub text : List ℕ
  pub within : at ≤ length s
  pub counted : total.records ≤ at
  pub enough : length s ≤ at + fuel
  pub written : Written a text b
  pub rest : text ++ lines_from sine fuel s at (total.records + 1) ≡ lines_from sine (length s) s 0 1
  pub sum : plus total (total_from sine fuel s at) ≡ total_from sine (length s) s 0

pub sofar_none : (sine : Sine) (a : Text) (s : List ℕ) {total : Total} → total ≡ no_total → Sofar sine a s a 0 total
sofar_none sine a s e =
    subst (λ (t : Total). Sofar sine a s a 0 t) (sym e)
    record {
      fuel = length s;
      text = [];
      within = omega arith;
      counted = omega arith;
      enough = omega arith;
      written = written_none a;
      rest = refl;
      sum = none_plus (total_from sine (length s) s 0);
    }

module _ {sine : Sine} {a b : Text} {s : List ℕ} {at : ℕ} {total : Total} (sofar : Sofar sine a s b at total) where
  abbrev n : ℕ
  n = total.records + 1

  -- what is stored is a part of the lines
  pub sofar_short : length s ≤ 65536 → b.at ≤ a.at + 524308
  sofar_short h =
      omega (arith, sofar.written.place, length-append sofar.text (lines_from sine sofar.fuel s at n), ap length sofar.rest, all_lines_fit sine s h)

  abbrev found : Record
  found = record_at s at

  sofar_on : {c : Text} → at < length s → Written b (line_of sine n s at found) c → Sofar sine a s c found.next (plus total (record_total sine s at found))
  unfolding record_total
  sofar_on {c} inside put =
      let f = sofar.fuel in
      let line = line_of sine n s at found in
      let on = record_forward s at inside in
      let left : 0 < f = omega (arith, sofar.enough) in
      record {
        fuel = f - 1;
        text = sofar.text ++ line;
        within = on.within;
        counted = omega (arith, sofar.counted, on.past);
        enough = omega (arith, sofar.enough, on.past);
        written = written_then sofar.written put;
        rest = append_assoc sofar.text line (lines_from sine (f - 1) s found.next (n + 1))
            ∙ ap (λ (t : List ℕ). sofar.text ++ t) (sym (lines_step sine f s at n inside left)) ∙ sofar.rest;
        sum = plus_assoc total (record_total sine s at found) (total_from sine (f - 1) s found.next)
            ∙ ap (plus total) (sym (total_step sine f s at inside left)) ∙ sofar.sum;
      }

  pub sofar_next : {c : Text} {r : Record} {line sum : Total} → at < length s → r ≡ found → line ≡ record_total sine s at r → sum ≡ plus total line
      → Written b (line_of sine n s at r) c → Sofar sine a s c r.next sum
  sofar_next {c} {r} {line} {sum} inside e l p put =
      subst (λ (t : Total). Sofar sine a s c r.next t) (sym (p ∙ ap (plus total) (l ∙ ap (record_total sine s at) e)))
      (subst (λ (x : Record). Sofar sine a s c x.next (plus total (record_total sine s at found))) (sym e)
      (sofar_on inside (written_as (ap (line_of sine n s at) e) put)))

  -- adding a line's total passes no bound
  pub sofar_fits : {line : Total} → length s ≤ 65536 → at < length s → line ≡ record_total sine s at found → FitsWords (plus total line)
  sofar_fits {line} small inside l =
      let f = sofar.fuel in
      let rest = total_from sine (f - 1) s found.next in
      let step : plus total (plus line rest) ≡ total_from sine (length s) s 0 =
      ap (λ (t : Total). plus total (plus t rest)) l ∙ ap (plus total) (sym (total_step sine f s at inside (omega (arith, sofar.enough)))) ∙ sofar.sum in
      let most = all_at_most sine s small in (
        omega (arith, ap (λ (t : Total). t.records) step, most.records),
        (omega (arith, ap (λ (t : Total). t.roots) step, most.roots), omega (arith, ap (λ (t : Total). t.multiplicities) step, most.multiplicities)),
      )

  pub sofar_all : length s ≤ 65536 → length s ≤ at → Written a (record_lines sine s) b
  unfolding record_lines
  sofar_all small done =
      let whole : sofar.text ≡ lines_from sine (length s) s 0 1 =
      sym (append-nil sofar.text) ∙ ap (λ (t : List ℕ). sofar.text ++ t) (sym (lines_end sine sofar.fuel s at n done)) ∙ sofar.rest in
      simp (le-ltb 65536 (length s) small) (written_as whole sofar.written)

  pub sofar_total : length s ≤ 65536 → length s ≤ at → total ≡ total_of sine s
  unfolding total_of
  sofar_total small done =
      simp (le-ltb 65536 (length s) small) (sym (plus_none total) ∙ ap (plus total) (sym (total_end sine sofar.fuel s at done)) ∙ sofar.sum)

pub falls : (s : List ℕ) (at : ℕ) → at < length s → (r : Record) → r ≡ record_at s at → length s - r.next < length s - at
falls s at inside r e = omega (arith, (record_forward s at inside).past, ap (λ (x : Record). x.next) e)

-- a file that is too long
pub too_long : (sine : Sine) (s : List ℕ) → 65536 < length s → line_of sine 0 s 0 (ended_of Unknown FileTooLong s) ≡ record_lines sine s
unfolding record_lines
too_long sine s h = simp (lt-ltb 65536 (length s) h)

pub too_long_total : (sine : Sine) (s : List ℕ) → 65536 < length s → record_total sine s 0 (ended_of Unknown FileTooLong s) ≡ total_of sine s
unfolding record_total total_of
too_long_total sine s h = simp (lt-ltb 65536 (length s) h)
