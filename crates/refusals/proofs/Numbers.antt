-- The number of a refusal has one digit or two, and is not 0.
use Prim.Native.Nat.{◌<◌}
use native.Mathlib.Omega.{arith}
use Rattle.refusals.specs.declared.Refusal.{Refusal}
use Rattle.refusals.specs.declared.Refusal.TheVariants.{NotFinite, TooFew, TooMany, NothingAsked, AnswerNotFinite, UnknownMark, Cut, CountTooLarge, FileTooLong}
use Rattle.refusals.specs.declared.Refusal.TheVariants.{RecordNotFinite, NoRadius, MadeNotFinite, NotASum, DegreeTooHigh, CoefficientTooLarge, CutDouble}
use Rattle.refusals.specs.declared.Refusal.TheVariants.{TextTooLong}
use Rattle.refusals.specs.Refusals.{number_of}

pub number_bounds : (refusal : Refusal) → (0 < number_of refusal) × (number_of refusal < 100)
number_bounds NotFinite = (omega arith, omega arith)
number_bounds TooFew = (omega arith, omega arith)
number_bounds TooMany = (omega arith, omega arith)
number_bounds NothingAsked = (omega arith, omega arith)
number_bounds AnswerNotFinite = (omega arith, omega arith)
number_bounds UnknownMark = (omega arith, omega arith)
number_bounds Cut = (omega arith, omega arith)
number_bounds CountTooLarge = (omega arith, omega arith)
number_bounds FileTooLong = (omega arith, omega arith)
number_bounds RecordNotFinite = (omega arith, omega arith)
number_bounds NoRadius = (omega arith, omega arith)
number_bounds MadeNotFinite = (omega arith, omega arith)
number_bounds NotASum = (omega arith, omega arith)
number_bounds DegreeTooHigh = (omega arith, omega arith)
number_bounds CoefficientTooLarge = (omega arith, omega arith)
number_bounds CutDouble = (omega arith, omega arith)
number_bounds TextTooLong = (omega arith, omega arith)
