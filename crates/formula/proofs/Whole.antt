-- A whole text: what its first sum says of it.
use mathlib.Core.Path.{◌≡◌, refl, sym, ap, ◌∙◌}
use mathlib.Core.List.{List, []}
use Prim.Native.Nat.{ℕ, ◌+◌, ◌*◌, ◌<◌, ◌-◌, ◌≤◌}
use native.Mathlib.Omega.{arith}
use lib.ListN.{length, drop, drop_of_length-le, length-drop}
use Rattle.std.specs.Prelude.{Some, Err, None}
use Rattle.refusals.specs.declared.Refusal.TheVariants.{NotASum}
use Rattle.facts.specs.Lists.{drop_next}
use Rattle.parts.specs.Value.{Value}
use Rattle.parts.specs.Part.{value_in}
use Rattle.formula.specs.declared.cursor.Cursor.{Cursor}
use Rattle.formula.specs.Grammar.{Sum}
use Rattle.formula.specs.Expansion.{sum_of}
use Rattle.formula.specs.Reading.{Read, reads, if_some, read_sum, whole, reading_of}
use Rattle.formula.specs.Formula.{formula_of, answered_of, expand_of}
use Rattle.formula.specs.Readers.{Reads}

-- what is answered where x was read
abbrev value_of : Read Sum → Value
unfolding sum_of
value_of x = if_some (whole x) (Err NotASum) sum_of

module _ (s : List ℕ) where
  x : Read Sum
  x = read_sum (3 * length s + 3) s

  is : formula_of s ≡ value_of x
  unfolding formula_of reading_of x value_of
  is = refl

  -- no sum was read
  pub text_unread : Reads read_sum sum_of 3 s 0 None → Err NotASum ≡ formula_of s
  unfolding value_of x
  text_unread r = sym (is ∙ ap value_of (r.means (3 * length s + 3) (omega arith)))

  module _ (c : Cursor) (r : Reads read_sum sum_of 3 s 0 (Some c)) where
    met : (a : Sum) × (x ≡ reads a (drop c.next s)) × (value_in c.part ≡ sum_of a)
    unfolding x
    met = r.means (3 * length s + 3) (omega arith)

    -- something is left behind it
    pub text_rest : c.next < length s → Err NotASum ≡ formula_of s
    unfolding value_of
    text_rest l = sym (is ∙ ap value_of met.1 ∙ ap (λ (u : List ℕ). value_of (reads met.0 u)) (drop_next s c.next 0 l))

    -- it is all of the text
    pub text_read : c.next ≡ length s → value_in c.part ≡ formula_of s
    unfolding value_of
    text_read e =
        let none = drop_of_length-le s {i = c.next} (omega arith) in
        met.2 ∙ sym (is ∙ ap value_of met.1 ∙ ap (λ (u : List ℕ). value_of (reads met.0 u)) none)

-- a text that is longer than its first sum
pub text_met : (s : List ℕ)
    → expand_of s
    ≡ answered_of (if_some (whole (read_sum (3 * length s + 3) s)) (Err NotASum) sum_of)
unfolding expand_of formula_of reading_of sum_of
text_met s = refl

pub none_left : (n : ℕ) (s : List ℕ) → drop n s ≡ [] → length s ≤ n
none_left n s e = let is : 0 ≡ length s - n = ap length (sym e) ∙ length-drop n s in omega arith
