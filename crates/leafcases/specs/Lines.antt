-- What the program writes for a file of records. A record is 14 bytes: a letter, eight bytes of a double x, a sign, four bytes of the size of a whole
-- number k, lowest first. Definitions only.
use Rattle.std.specs.Prelude.{◌≡◌, ℕ, zero, suc, ◌+◌, ◌-◌, ◌/◌, ◌^◌, ◌≤◌, ℤ, Float, Bool, false, true, cond, eqb, ltb}
use Rattle.std.specs.Prelude.{List, [], ◌∷◌, ◌++◌, length, get_or, Option, Some, None}
use mathlib.Core.List.{flat_map}
use Rattle.std.specs.Float.{binary64}
use Rattle.std.specs.Float.Ieee.{to_bits}
use Rattle.float.specs.Bytes.{u64_at, f64_at}
use Rattle.text.specs.Digits.{hex_digits, signed_decimal}
use Rattle.text.specs.declared.Text.{Text}
use Rattle.text.specs.Written.{Written}
use Rattle.ldexp.specs.Scale.{signed, ldexp_of}
use Rattle.decode.specs.Exponent.{exponent_of}
use Rattle.log2.specs.Log.{log2_grid_of}
use Rattle.sqrt.specs.Root.{sqrt_of}
use Rattle.cbrt.specs.Root.{cbrt_of}
use Rattle.angle.specs.declared.Sine.{Sine}
use Rattle.angle.specs.declared.Sine.TheVariants.{OfRounded, OfExact}
use Rattle.angle.specs.Third.{third_angle_of}
use Rattle.ldexp.specs.Total.{pow2_or_nan}
use Rattle.leafcases.specs.declared.lines.Word.{Word}
use Rattle.leafcases.specs.declared.lines.Word.TheVariants.{Double, Whole}
use Rattle.leafcases.specs.Words.{sqrt_word, cbrt_word, third_word, exact_word, log2_word, ldexp_word, exponent_word, pow2_word, bad_line}

-- ---- a line

-- a word after a blank: the bits of a double, or a whole number
unfoldable pub word_of : Word → List ℕ
word_of (Double x) = 32 ∷ hex_digits 16 (to_bits binary64 x)
word_of (Whole k) = 32 ∷ signed_decimal k

-- words one after another
abbrev pub words_of : List Word → List ℕ
words_of words = flat_map word_of words

-- the leaf's name, what it is asked, what it answers, and a line feed
unfoldable pub leaf_line_of : List ℕ → List Word → List ℕ
leaf_line_of name words = name ++ (words_of words ++ (10 ∷ []))

-- the line of a third angle: c, and s by the mode
abbrev pub third_line_of : List ℕ → Sine → Float → List ℕ
third_line_of name sine x = let t = third_angle_of sine x in leaf_line_of name (Double x ∷ Double t.cos ∷ Double t.sin ∷ [])

-- the line of a record by its letter, and none where no leaf has the letter
unfoldable pub leaf_answer_of : ℕ → Float → ℤ → Option (List ℕ)
leaf_answer_of letter x k =
    cond (eqb letter 115) (Some (leaf_line_of sqrt_word (Double x ∷ Double (sqrt_of x) ∷ [])))
    (cond (eqb letter 99) (Some (leaf_line_of cbrt_word (Double x ∷ Double (cbrt_of x) ∷ [])))
    (cond (eqb letter 97) (Some (third_line_of third_word OfRounded x))
    (cond (eqb letter 98) (Some (third_line_of exact_word OfExact x))
    (cond (eqb letter 108) (Some (leaf_line_of log2_word (Double x ∷ Double (log2_grid_of x) ∷ [])))
    (cond (eqb letter 100) (Some (leaf_line_of ldexp_word (Double x ∷ Whole k ∷ Double (ldexp_of x k) ∷ [])))
    (cond (eqb letter 101) (Some (leaf_line_of exponent_word (Double x ∷ Whole (exponent_of x) ∷ [])))
    (cond (eqb letter 112) (Some (leaf_line_of pow2_word (Whole k ∷ Double (pow2_or_nan k) ∷ [])))
    None)))))))

-- ---- a record

-- the size of k: the last four of the eight bytes from at + 6 on
abbrev pub size_at : List ℕ → ℕ → ℕ
size_at s at = u64_at s (at + 6) / 2 ^ 32

-- n after its sign b, '+' or '-', and none where b is no sign
unfoldable pub signed_by : ℕ → ℕ → Option ℤ
signed_by b n = cond (eqb b 43) (Some (signed false n)) (cond (eqb b 45) (Some (signed true n)) None)

-- k, and none where no i32 holds it, or where there is no sign
unfoldable pub number_at : List ℕ → ℕ → Option ℤ
number_at s at = cond (ltb (2 ^ 31 - 1) (size_at s at)) None (signed_by (get_or s (at + 9) 0) (size_at s at))

-- the line of a letter and a double, where there is a k
unfoldable pub answer_with : ℕ → Float → Option ℤ → Option (List ℕ)
answer_with letter x None = None
answer_with letter x (Some k) = leaf_answer_of letter x k

-- the line of the record at at, and none where none stands there: too few bytes, or no k
unfoldable pub leaf_record_of : List ℕ → ℕ → Option (List ℕ)
leaf_record_of s at = cond (ltb (length s - at) 14) None (answer_with (get_or s at 0) (f64_at s (at + 1)) (number_at s at))

-- What is said of a text that was a, where such a line, if there is one, was to be written: whether there is one is answered, and the text is b, that with the
-- line, of at most 60 bytes, or a.
abbrev pub Told : Text → Option (List ℕ) → Text → Bool → Type 0
Told a None b false = b ≡ a
Told a None b true = ⊥
Told a (Some t) b false = ⊥
Told a (Some t) b true = Written a t b × (b.at ≤ a.at + 60)

-- ---- a file

-- a line and what follows it; where there is no line, the last one
abbrev pub line_then : Option (List ℕ) → List ℕ → List ℕ
line_then None rest = bad_line
line_then (Some t) rest = t ++ rest

-- the lines from at on, f being at least as large as the number of records that are left
unfoldable pub leaf_lines_from : ℕ → List ℕ → ℕ → List ℕ
leaf_lines_from zero s at = []
leaf_lines_from (suc f) s at = cond (ltb at (length s)) (line_then (leaf_record_of s at) (leaf_lines_from f s (at + 14))) []

-- all lines of a file
unfoldable pub lines_of : List ℕ → List ℕ
lines_of s = leaf_lines_from (length s) s 0
