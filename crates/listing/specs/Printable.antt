-- What contracts ask of roots that are printed. Definitions only.
use Rattle.std.specs.Prelude.{◌<◌, Result, Ok, Err}
use Rattle.refusals.specs.declared.Refusal.{Refusal}
use Rattle.roots.specs.declared.Roots.{Roots}
use Rattle.roots.specs.Roots.{list_of}
use Rattle.roots.specs.Listed.{Fits, multiplicities}
use Rattle.crank.specs.declared.CrankAnswer.{CrankAnswer}

-- the count is in the array, and no multiplicity has more than two digits
pub record Printable (r : Roots) : Type 0 where
  pub fits : Fits r
  pub short : multiplicities (list_of r) < 100

-- of a crank's answer also k is a digit
abbrev pub CrankPrintable : Result CrankAnswer Refusal → Type 0
CrankPrintable (Ok a) = (a.k < 8) × Printable a.roots
CrankPrintable (Err refusal) = Unit {0}
