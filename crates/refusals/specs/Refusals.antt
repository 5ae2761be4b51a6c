-- The refusals of documents 01 and 02, with the number that is said of each, and the two of the C functions alone. Definitions only.
use Rattle.std.specs.Prelude.{ℕ, Option, Some, None, Result, Ok, Err}
use Rattle.refusals.specs.declared.Refusal.{Refusal}
use Rattle.refusals.specs.declared.Refusal.TheVariants.{NotFinite, TooFew, TooMany, NothingAsked, AnswerNotFinite, UnknownMark, Cut, CountTooLarge, FileTooLong}
use Rattle.refusals.specs.declared.Refusal.TheVariants.{RecordNotFinite, NoRadius, MadeNotFinite, NotASum, DegreeTooHigh, CoefficientTooLarge, CutDouble}
use Rattle.refusals.specs.declared.Refusal.TheVariants.{TextTooLong}

abbrev pub number_of : Refusal → ℕ
-- 'some coefficient not finite, wherever it stands'; of a quadratic 'one of a, b, c', of a crank 'one of the five'
number_of NotFinite = 1
-- 'trimmed length 0 or 1'
number_of TooFew = 2
-- 'trimmed length above 5'
number_of TooMany = 3
-- 'nothing is being asked'
number_of NothingAsked = 4
-- 'a number in the Rust's answer is not finite'; of a crank 'a quartic coefficient'
number_of AnswerNotFinite = 5
-- 'unknown mark'
number_of UnknownMark = 6
-- 'bytes end inside the mark', 'no count byte', 'fewer bytes than the record needs'
number_of Cut = 7
-- 'count above 32'
number_of CountTooLarge = 8
-- 'over 65,536 bytes'
number_of FileTooLong = 9
-- 'a number of the record is not finite'
number_of RecordNotFinite = 10
-- 'R is not above 0'
number_of NoRadius = 11
-- 'a coefficient made is not finite'
number_of MadeNotFinite = 12
-- 'the text is not a sum'
number_of NotASum = 13
-- 'some part of it has degree above 4 after zero terms are dropped'
number_of DegreeTooHigh = 14
-- 'some coefficient of a part is above 2^53 in size'
number_of CoefficientTooLarge = 15
-- the coefficients' bytes end inside a double
number_of CutDouble = 20
-- the text has more bytes than a record holds, 255
number_of TextTooLong = 21

-- the number that is said of what a function gives: 0, or that of its refusal
abbrev pub outcome_of : {A : Type 0} → Result A Refusal → ℕ
outcome_of (Ok x) = 0
outcome_of (Err refusal) = number_of refusal

-- the same of a refusal that there may be
abbrev pub number_in : Option Refusal → ℕ
number_in None = 0
number_in (Some refusal) = number_of refusal

-- what a function gives, and x where it refuses
abbrev pub value_or : {A : Type 0} → A → Result A Refusal → A
value_or x (Ok a) = a
value_or x (Err refusal) = x

-- `?`: what is made of what a function gives, and its refusal where it refuses
abbrev pub and_then : {A B : Type 0} → Result A Refusal → (A → Result B Refusal) → Result B Refusal
and_then (Ok a) f = f a
and_then (Err refusal) f = Err refusal
