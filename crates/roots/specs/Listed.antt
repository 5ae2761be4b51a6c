-- What is said of lists of roots and of their arrays: the sum of the multiplicities, that each root counts, and that the count is in the array.
-- Definitions only.
use Rattle.std.specs.Prelude.{◌≡◌, true, List, ℕ, ◌+◌, ◌*◌, ◌≤◌, length}
use Rattle.std.specs.Float.{nan}
use Rattle.facts.specs.Lists.{sum_of, AllOf}
use Rattle.float.specs.Methods.{is_finite_of}
use Rattle.roots.specs.declared.RootKind.TheVariants.{Crossing}
use Rattle.roots.specs.declared.RealRoot.{RealRoot}
use Rattle.roots.specs.declared.Roots.{Roots}
use Rattle.roots.specs.declared.Pair.{Pair}
use Rattle.roots.specs.declared.Pairs.{Pairs}
use Rattle.roots.specs.Roots.{pair}

-- the sum of the multiplicities
abbrev pub multiplicities : List RealRoot → ℕ
multiplicities l = sum_of (λ (r : RealRoot). r.multiplicity) l

-- each multiplicity is at least 1
abbrev pub Counted : List RealRoot → Type 0
Counted l = AllOf (λ (r : RealRoot). 1 ≤ r.multiplicity) l

-- each place is finite, and each multiplicity at least 1
abbrev pub Listed : List RealRoot → Type 0
Listed l = AllOf (λ (r : RealRoot). (is_finite_of r.value ≡ true) × (1 ≤ r.multiplicity)) l

-- at most four such roots, whose multiplicities add up to at most d
pub record Within (d : ℕ) (l : List RealRoot) : Type 0 where
  pub four : length l ≤ 4
  pub listed : Listed l
  pub sum : multiplicities l ≤ d

-- the same of candidates, beside at most two complex pairs, each of which counts two
pub record Shared (d : ℕ) (l : List RealRoot) (ps : List Pair) : Type 0 where
  pub four : length l ≤ 4
  pub listed : Listed l
  pub two : length ps ≤ 2
  pub sum : multiplicities l + 2 * length ps ≤ d

-- the array is one of four, or of two, and the count is in it
abbrev pub Fits : Roots → Type 0
Fits s = (length s.root ≡ 4) × (s.len ≤ 4)

abbrev pub PairsFit : Pairs → Type 0
PairsFit s = (length s.pair ≡ 2) × (s.len ≤ 2)

-- what a read outside an array stands for
abbrev pub blank : RealRoot
blank = record { value = nan; multiplicity = 0; kind = Crossing }

abbrev pub blank_pair : Pair
blank_pair = pair nan nan
