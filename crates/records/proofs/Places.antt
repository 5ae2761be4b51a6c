-- What stands at a place of a file: a refusal that ends reading, or a record of one of the kinds, whole.
use mathlib.Core.Path.{◌≡◌, refl, sym, ap, ap₂, subst, ◌∙◌}
use mathlib.Core.Bool.{Bool, true, false, cond}
use mathlib.Core.List.{List, [], ◌∷◌}
use Rattle.std.specs.Prelude.{None}
use Prim.Native.Nat.{ℕ, ◌+◌, ◌*◌, ◌-◌, ◌<◌, ◌≤◌}
use native.Mathlib.Omega.{arith}
use borrow.Author.Tests.{lt-ltb, le-ltb, ltb-false}
use lib.Dec.{ltb}
use lib.ListN.{length, get_or, take, drop, length-drop}
use Rattle.std.specs.Array.{IsFirstChunk}
use Rattle.std.proofs.lemmas.List.{take_rest, get_or-drop, get_or-take}
use Rattle.std.proofs.lemmas.Option.{none-some}
use Rattle.refusals.specs.declared.Refusal.{Refusal}
use Rattle.refusals.specs.declared.Refusal.TheVariants.{UnknownMark, Cut, CountTooLarge, FileTooLong}
use Rattle.records.specs.declared.Kind.{Kind}
use Rattle.records.specs.declared.Kind.TheVariants.{Polynomial, Quadratic, Crank, Contact, Formula, Unknown}
use Rattle.records.specs.declared.Record.{Record}
use Rattle.records.specs.Marks.{is_mark, marked_of, kind_at}
use Rattle.records.specs.Records.{count_at, ended_of, held_of, counted_of, polynomial_record, formula_record, record_of, record_at, Sound}

-- a record whose mark was read
pub record_is : (s : List ℕ) (at : ℕ) → 2 ≤ length s - at → (k m : Kind) → k ≡ kind_at s at
    → k ≡ m → record_of m s at ≡ record_at s at
unfolding record_at
record_is s at h k m e f = simp (le-ltb _ _ h) (ap (λ (x : Kind). record_of x s at) (sym f ∙ e))

-- ---- a record whose mark was read, for `using`
module _ (s : List ℕ) (at : ℕ) where
  pub cut_mark : {r : Record} → length s - at < 2 → r ≡ ended_of Unknown Cut s → r ≡ record_at s at
  unfolding record_at
  cut_mark h is = simp (lt-ltb _ _ h) is

  module _ {k m : Kind} {mark : List ℕ} (first : IsFirstChunk (take (length s - at) (drop at s)) mark 2) (e : k ≡ kind_at mark 0) (f : k ≡ m) where
    -- the bytes of the mark
    byte_at : (i j : ℕ) → i < 2 → at + i ≡ j → get_or mark i 0 ≡ get_or s j 0
    byte_at i j l e =
        ap (λ (x : List ℕ). get_or x i 0) first.same ∙ get_or-take 2 _ i 0 l ∙ ap (λ (x : List ℕ). get_or x i 0) (take_rest s at) ∙ get_or-drop at s i 0
        ∙ ap (λ (k : ℕ). get_or s k 0) e

    mark_read : record_of m s at ≡ record_at s at
    unfolding kind_at marked_of is_mark
    mark_read =
        let h : 2 ≤ length s - at = omega (arith, first.enough, ap length (take_rest s at), length-drop at s) in
        let same : kind_at mark 0 ≡ kind_at s at =
        ap₂ (λ (x y : ℕ). kind_at (x ∷ y ∷ []) 0) (byte_at 0 at (omega arith) (omega arith)) (byte_at 1 (at + 1) (omega arith) refl) in
        record_is s at h k m (e ∙ same) f

    pub held_read : (size : ℕ) {r : Record} → r ≡ held_of k size s at → held_of m size s at ≡ record_of m s at → r ≡ record_at s at
    held_read size is same = is ∙ ap (λ (x : Kind). held_of x size s at) f ∙ same ∙ mark_read

    pub unknown_read : {r : Record} → m ≡ Unknown → r ≡ ended_of k UnknownMark s → r ≡ record_at s at
    unfolding record_of
    unknown_read g is =
        is ∙ ap (λ (x : Kind). ended_of x UnknownMark s) (f ∙ g)
        ∙ ap (λ (x : Kind). record_of x s at) (sym g) ∙ mark_read

    pub list_read : {r : Record} → m ≡ Polynomial → r ≡ counted_of k 8 32 s at → r ≡ record_at s at
    unfolding counted_of record_of polynomial_record
    list_read g is =
        is ∙ ap (λ (x : Kind). counted_of x 8 32 s at) (f ∙ g)
        ∙ ap (λ (x : Kind). record_of x s at) (sym g) ∙ mark_read

    -- no byte is above 255
    pub text_read : {r : Record} → m ≡ Formula → count_at s at < 256 → r ≡ counted_of k 1 255 s at → r ≡ record_at s at
    unfolding counted_of record_of formula_record
    text_read g few is =
        let one : 1 * count_at s at ≡ count_at s at = omega arith in
        let same : counted_of Formula 1 255 s at ≡ record_of Formula s at = simp (le-ltb 255 (count_at s at) (omega arith), one) in
        is ∙ ap (λ (x : Kind). counted_of x 1 255 s at) (f ∙ g) ∙ same
        ∙ ap (λ (x : Kind). record_of x s at) (sym g) ∙ mark_read

pub ruleset reads = (cut_mark, held_read, unknown_read, list_read, text_read)

abbrev pub whole_of : Kind → ℕ → Record
whole_of kind next = record { kind = kind; refused = None; next = next }

-- what holds of every refusal and of every whole record holds of what stands at at
module _ (P : Record → Type 0) (s : List ℕ) (at : ℕ) (ends : (kind : Kind) (refusal : Refusal) → P (ended_of kind refusal s)) where
  held_by : (kind : Kind) (size : ℕ) → 0 < size → (at + size ≤ length s → P (whole_of kind (at + size))) → P (held_of kind size s at)
  unfolding held_of
  held_by kind size h p = go (ltb (length s - at) size) refl
    where
      go : (b : Bool) → ltb (length s - at) size ≡ b → P (cond b (ended_of kind Cut s) (whole_of kind (at + size)))
      go true e = ends kind Cut
      go false e = p (omega (arith, ltb-false (length s - at) size e))

  module _
      (polynomial : count_at s at ≤ 32 → at + (11 + 8 * count_at s at) ≤ length s → P (whole_of Polynomial (at + (11 + 8 * count_at s at))))
      (quadratic : at + 42 ≤ length s → P (whole_of Quadratic (at + 42)))
      (crank : at + 50 ≤ length s → P (whole_of Crank (at + 50)))
      (contact : at + 82 ≤ length s → P (whole_of Contact (at + 82)))
      (formula : at + (11 + count_at s at) ≤ length s → P (whole_of Formula (at + (11 + count_at s at)))) where
    polynomial_by : P (polynomial_record s at)
    unfolding polynomial_record
    polynomial_by = go (ltb (length s - at) 3) (ltb 32 (count_at s at)) refl
      where
        size : ℕ
        size = 11 + 8 * count_at s at

        go : (b c : Bool) → ltb 32 (count_at s at) ≡ c
            → P (cond b (ended_of Polynomial Cut s) (cond c (ended_of Polynomial CountTooLarge s) (held_of Polynomial size s at)))
        go true c e = ends Polynomial Cut
        go false true e = ends Polynomial CountTooLarge
        go false false e = held_by Polynomial size (omega arith) (polynomial (ltb-false 32 (count_at s at) e))

    formula_by : P (formula_record s at)
    unfolding formula_record
    formula_by = go (ltb (length s - at) 3)
      where
        size : ℕ
        size = 11 + count_at s at

        go : (b : Bool) → P (cond b (ended_of Formula Cut s) (held_of Formula size s at))
        go true = ends Formula Cut
        go false = held_by Formula size (omega arith) formula

    of_by : (k : Kind) → P (record_of k s at)
    unfolding record_of
    of_by Polynomial = polynomial_by
    of_by Quadratic = held_by Quadratic 42 (omega arith) quadratic
    of_by Crank = held_by Crank 50 (omega arith) crank
    of_by Contact = held_by Contact 82 (omega arith) contact
    of_by Formula = formula_by
    of_by Unknown = ends Unknown UnknownMark

    pub record_by : P (record_at s at)
    unfolding record_at
    record_by = go (ltb (length s - at) 2)
      where
        go : (b : Bool) → P (cond b (ended_of Unknown Cut s) (record_of (kind_at s at) s at))
        go true = ends Unknown Cut
        go false = of_by (kind_at s at)

module _ (s : List ℕ) (at : ℕ) where
  refused_sound : (kind : Kind) (refusal : Refusal) → Sound (ended_of kind refusal s) s at
  refused_sound kind refusal e = absurd (none-some refusal (sym e))

  pub too_long_sound : (r : Record) → r ≡ ended_of Unknown FileTooLong s → Sound r s at
  too_long_sound r e =
      subst (λ (x : Record). Sound x s at) (sym e) (refused_sound Unknown FileTooLong)

  pub record_sound : (r : Record) → r ≡ record_at s at → Sound r s at
  record_sound r e =
      subst (λ (x : Record). Sound x s at) (sym e)
      (record_by (λ (x : Record). Sound x s at) s at refused_sound (λ c h e. (c, h)) (λ h e. h) (λ h e. h) (λ h e. h) (λ h e. h))

-- reading goes on past at, and not past the end
pub record Forward (s : List ℕ) (at : ℕ) (r : Record) : Type 0 where
  pub past : at < r.next
  pub within : r.next ≤ length s

pub record_forward : (s : List ℕ) (at : ℕ) → at < length s → Forward s at (record_at s at)
record_forward s at inside =
    record_by (Forward s at) s at (λ kind refusal. record { past = inside; within = omega arith })
    (λ c h. record { past = omega arith; within = h })
    (λ h. record { past = omega arith; within = h })
    (λ h. record { past = omega arith; within = h })
    (λ h. record { past = omega arith; within = h })
    (λ h. record { past = omega arith; within = h })
