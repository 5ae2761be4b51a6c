-- By the word's kind: a blank, and then the digits.
use Rattle.std.proofs.Common.{rules, ◌≡◌, sym, ap, ◌^◌, ◌<◌, ◌≤◌, length, ◌∷◌, arith, ℤ, FitsSigned, w32}
use mir.Facts.{to_z-of_z}
use lib.IntN.{pos, negsuc, nat_abs}
use lib.Signed.{mag}
use lib.Ieee.{Float, binary64, to_bits}
use Rattle.text.specs.Digits.{hex_digits, signed_decimal}
use Rattle.text.proofs.Laws.{written_then, written_as}
use Rattle.text.proofs.Digits.{hex_length, signed_length}
use Rattle.leafcases.specs.Lines.{word_of}
use Rattle.leafcases.specs.declared.lines.Word.{Word}
use Rattle.leafcases.specs.declared.lines.Word.TheVariants.{Double, Whole}
use Rattle.leafcases.proofs.lines.put_word.Goals as goal

double_is : (w : Word) (x : Float) → w ≡ Double x → word_of w ≡ 32 ∷ hex_digits 16 (to_bits binary64 x)
unfolding word_of
double_is w x e = ap word_of e

whole_is : (w : Word) (k : ℤ) → w ≡ Whole k → word_of w ≡ 32 ∷ signed_decimal k
unfolding word_of
whole_is w k e = ap word_of e

-- a k that fits has a short text
short_whole : (k : ℤ) → FitsSigned w32 k → length (signed_decimal k) ≤ 11
short_whole k fits = signed_length 10 k (omega arith) (fewer k fits.sfits)
  where
    fewer : (k : ℤ) → mag k < 2 ^ 31 → nat_abs k < 10 ^ 10
    fewer (pos n) h = omega arith
    fewer (negsuc n) h = omega arith

pub signed-requires : goal.signed-requires
signed-requires c =
    let fits : FitsSigned w32 c.in-Whole.k = search rules in
    rw (to_z-of_z fits) (omega (arith, c.requires, c.byte.ensures.place, short_whole c.in-Whole.k fits))

pub returns-in-Double-clause-written : goal.returns-in-Double-clause-written
returns-in-Double-clause-written c =
    let digits = written_as (ap (hex_digits 16) c.to_bits.ensures) c.hex.ensures in
    written_as (sym (double_is c.args.word c.in-Double.x c.in-Double.is)) (written_then c.byte.ensures digits)

pub returns-in-Double-clause-upper_bound : goal.returns-in-Double-clause-upper_bound
returns-in-Double-clause-upper_bound c = omega (arith, hex_length 16 c.to_bits.result, c.hex.ensures.place, c.byte.ensures.place)

pub returns-in-Whole-clause-written : goal.returns-in-Whole-clause-written
returns-in-Whole-clause-written c =
    let fits : FitsSigned w32 c.in-Whole.k = search rules in
    let digits = written_as (ap signed_decimal (to_z-of_z fits)) c.signed.ensures in
    written_as (sym (whole_is c.args.word c.in-Whole.k c.in-Whole.is)) (written_then c.byte.ensures digits)

pub returns-in-Whole-clause-upper_bound : goal.returns-in-Whole-clause-upper_bound
returns-in-Whole-clause-upper_bound c =
    let fits : FitsSigned w32 c.in-Whole.k = search rules in
    let digits = written_as (ap signed_decimal (to_z-of_z fits)) c.signed.ensures in
    omega (arith, digits.place, c.byte.ensures.place, short_whole c.in-Whole.k fits)
