-- A file's lines, written one after another.
use mathlib.Core.Path.{◌≡◌, refl, sym, ap, subst, ◌∙◌}
use mathlib.Core.Bool.{true, false}
use mathlib.Core.List.{List, [], ◌++◌, append-nil, append_assoc}
use Prim.Native.Nat.{ℕ, zero, suc, ◌+◌, ◌-◌, ◌<◌, ◌≤◌}
use native.Mathlib.Omega.{arith}
use lib.ListN.{length}
use Rattle.std.specs.Prelude.{Option, Some, None}
use borrow.Author.Tests.{lt-ltb, le-ltb}
use Rattle.text.specs.declared.Text.{Text}
use Rattle.text.specs.Written.{Written}
use Rattle.text.proofs.Laws.{written_none, written_then, written_as}
use Rattle.leafcases.specs.Words.{bad_line}
use Rattle.leafcases.specs.Lines.{Told, line_then, leaf_record_of, leaf_lines_from, lines_of}

lines_end : (f : ℕ) (s : List ℕ) (at : ℕ) → length s ≤ at → leaf_lines_from f s at ≡ []
unfolding leaf_lines_from
lines_end zero s at h = refl
lines_end (suc f) s at h = simp (le-ltb _ _ h)

lines_step : (f : ℕ) (s : List ℕ) (at : ℕ) → at < length s → 0 < f
    → leaf_lines_from f s at ≡ line_then (leaf_record_of s at) (leaf_lines_from (f - 1) s (at + 14))
unfolding leaf_lines_from
lines_step zero s at h p = absurd (omega arith)
lines_step (suc f) s at h p =
    let e : f ≡ suc f - 1 = omega arith in
    simp (lt-ltb _ _ h) (ap (λ (k : ℕ). line_then (leaf_record_of s at) (leaf_lines_from k s (at + 14))) e)

-- what was written, by what was answered
no_line : {a b : Text} (t : Option (List ℕ)) → Told a t b false → (t ≡ None) × (b ≡ a)
no_line None e = (refl, e)
no_line (Some t) e = absurd e

the_line : {a b : Text} (t : Option (List ℕ)) → Told a t b true → (x : List ℕ) × ((t ≡ Some x) × (Written a x b × (b.at ≤ a.at + 60)))
the_line None e = absurd e
the_line (Some t) e = (t, (refl, e))

-- The lines of the records before at are written in b, which was a: `text`. With those from at on, for which the fuel is enough, they are all.
pub record Sofar (a : Text) (s : List ℕ) (b : Text) (at : ℕ) : Type 0 where
  pub fuel : ℕ
  pub text : List ℕ
  pub written : Written a text b
  pub rest : text ++ leaf_lines_from fuel s at ≡ lines_of s
  pub enough : length s ≤ at + fuel

pub sofar_none : (a : Text) (s : List ℕ) → Sofar a s a 0
unfolding lines_of
sofar_none a s = record { fuel = length s; text = []; written = written_none a; rest = refl; enough = omega arith }

module _ {a b : Text} {s : List ℕ} {at : ℕ} (sofar : Sofar a s b at) where
  pub sofar_end : length s ≤ at → Written a (lines_of s) b
  sofar_end h =
      let e : sofar.text ≡ lines_of s = sym (append-nil sofar.text)
      ∙ ap (λ (t : List ℕ). sofar.text ++ t) (sym (lines_end sofar.fuel s at h)) ∙ sofar.rest in
      written_as e sofar.written

  module _ (h : at < length s) where
    step : leaf_lines_from sofar.fuel s at ≡ line_then (leaf_record_of s at) (leaf_lines_from (sofar.fuel - 1) s (at + 14))
    step = lines_step sofar.fuel s at h (omega (arith, sofar.enough))

    pub sofar_bad : {p q : Text} → Told b (leaf_record_of s at) p false → Written p bad_line q → Written a (lines_of s) q
    sofar_bad {p} {q} r e =
        let none = no_line (leaf_record_of s at) r in
        let last : leaf_lines_from sofar.fuel s at ≡ bad_line =
        step ∙ ap (λ (t : Option (List ℕ)). line_then t (leaf_lines_from (sofar.fuel - 1) s (at + 14))) none.0 in
        written_as (ap (λ (t : List ℕ). sofar.text ++ t) (sym last) ∙ sofar.rest)
        (written_then sofar.written (subst (λ (o : Text). Written o bad_line q) none.1 e))

    pub sofar_next : {p : Text} → Told b (leaf_record_of s at) p true → Sofar a s p (at + 14) × (p.at ≤ b.at + 60)
    sofar_next {p} r =
        let more = leaf_lines_from (sofar.fuel - 1) s (at + 14) in
        let some = the_line (leaf_record_of s at) r in (
          record {
            fuel = sofar.fuel - 1;
            text = sofar.text ++ some.0;
            written = written_then sofar.written some.1.1.0;
            rest =
                append_assoc sofar.text some.0 more
                ∙ ap (λ (t : List ℕ). sofar.text ++ t) (sym (step ∙ ap (λ (t : Option (List ℕ)). line_then t more) some.1.0)) ∙ sofar.rest;
            enough = omega (arith, sofar.enough);
          },
          some.1.1.1,
        )
