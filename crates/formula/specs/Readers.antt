-- What the readers of code have of what the definition reads. Definitions only.
use Rattle.std.specs.Prelude.{◌≡◌, Bool, true, false, ◌&&◌, ◌||◌, cond, List, ℕ, ◌+◌, ◌-◌, ◌*◌, ◌≤◌, ◌<◌, eqb, ltb, length, get_or, drop}
use Rattle.std.specs.Prelude.{Option, Some, None, IfSome}
use Rattle.parts.specs.declared.Operator.{Operator}
use Rattle.parts.specs.declared.Operator.TheVariants.{Sum, Difference}
use Rattle.parts.specs.Value.{Value, joined}
use Rattle.parts.specs.Products.{operator_of}
use Rattle.parts.specs.Part.{value_in}
use Rattle.formula.specs.declared.cursor.Cursor.{Cursor}
use Rattle.formula.specs.Grammar as Grammar
use Rattle.formula.specs.Grammar.{is_digit, Power, Factor}
use Rattle.formula.specs.Expansion.{powered_of, sum_of, factor_of}
use Rattle.formula.specs.Reading.{Read, fails, reads, and_then, read_power, read_closed}

-- whether the byte b, a sign or a digit stands at i
unfoldable pub is_at : List ℕ → ℕ → ℕ → Bool
is_at s i b = ltb i (length s) && eqb (get_or s i 0) b

unfoldable pub sign_at : List ℕ → ℕ → Bool
sign_at s i = is_at s i 43 || is_at s i 45

unfoldable pub digit_at : List ℕ → ℕ → Bool
digit_at s i = ltb i (length s) && is_digit (get_or s i 0)

-- the operator of the sign at i
abbrev pub operator_at : List ℕ → ℕ → Operator
operator_at s i = cond (is_at s i 43) Sum Difference

-- the operator of the sign at i, if there is one
abbrev pub sign_operator : List ℕ → ℕ → Option Operator
sign_operator s i = cond (sign_at s i) (Some (operator_at s i)) None

-- the digit at i, if there is one
abbrev pub Digit : List ℕ → ℕ → Option ℕ → Type 0
Digit s i None = digit_at s i ≡ false
Digit s i (Some d) = (digit_at s i ≡ true) × (d ≡ get_or s i 0 - 48) × (d < 10)

-- code ends in the text, at or behind the place at
pub record Ahead (s : List ℕ) (at : ℕ) (c : Cursor) : Type 0 where
  pub low : at ≤ c.next
  pub high : c.next ≤ length s

-- code ends in the text
abbrev pub Inside : List ℕ → Cursor → Type 0
Inside s c = c.next ≤ length s

-- where b ends behind a place, c does too, or nothing was read
abbrev pub Further : List ℕ → Option Cursor → Option Cursor → Type 0
Further s b c = (at : ℕ) → IfSome b (Ahead s at) → IfSome c (Ahead s at)

-- code has read what the definition reads
abbrev pub HasRead : {A : Type 0} → (A → Value) → List ℕ → Read A → Option Cursor → Type 0
HasRead value s x None = x ≡ fails
HasRead {A} value s x (Some c) = (a : A) × (x ≡ reads a (drop c.next s)) × (value_in c.part ≡ value a)

-- n more steps than three for each byte that is left are enough
pub record Reads {A : Type 0} (read : ℕ → List ℕ → Read A) (value : A → Value) (n : ℕ) (s : List ℕ) (at : ℕ) (c : Option Cursor) : Type 0 where
  pub ahead : IfSome c (Ahead s at)
  pub means : (f : ℕ) → 3 * (length s - at) + n ≤ f → HasRead value s (read f (drop at s)) c

-- code has read all of a factor but its power, of which the definition reads x in the end
abbrev pub Based : List ℕ → Option Cursor → Read Factor → Type 0
Based s None x = x ≡ fails
Based s (Some c) x = (make : Power → Factor) × (x ≡ read_power make (drop c.next s)) × ((p : Power) → factor_of (make p) ≡ powered_of p (value_in c.part))

-- c has a sum that was read, and its closing bracket
abbrev pub Closed : List ℕ → Cursor → Option Cursor → Type 0
Closed s inner c = (a : Grammar.Sum) → value_in inner.part ≡ sum_of a → Based s c (read_closed a (drop inner.next s))

-- c has a factor whose power was read too
abbrev pub Powered : List ℕ → Cursor → Option Cursor → Type 0
Powered s base c =
    (make : Power → Factor) → ((p : Power) → factor_of (make p) ≡ powered_of p (value_in base.part))
    → HasRead factor_of s (read_power make (drop base.next s)) c

-- c has a factor in brackets, where inner has what was read of the sum in them
abbrev pub Shut : List ℕ → Option Cursor → Option Cursor → Type 0
Shut s inner c = (x : Read Grammar.Sum) → HasRead sum_of s x inner → HasRead factor_of s (and_then x read_closed) c

-- c has what is joined of a and b
pub record Joined (op : Operator) (a b c : Cursor) : Type 0 where
  pub next : c.next ≡ b.next
  pub value : value_in c.part ≡ joined (operator_of op) (value_in a.part) (value_in b.part)

-- c has what is joined of a and b, where both were read
abbrev pub Joins : Operator → Option Cursor → Option Cursor → Option Cursor → Type 0
Joins op None b c = c ≡ None
Joins op (Some a) None c = c ≡ None
Joins op (Some a) (Some b) None = ⊥
Joins op (Some a) (Some b) (Some c) = Joined op a b c
