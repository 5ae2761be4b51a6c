-- The numbers of an answer, one after another as doubles, whole ones too. Definitions only.
use Rattle.std.specs.Prelude.{List, [], ◌∷◌, ◌++◌, ℕ, get_or, replicate, Option, Some, None, Float}
use Rattle.std.specs.Float.{nan, binary64}
use Rattle.std.specs.Float.Ieee.{of_int}
use Rattle.float.specs.Literals.{zero64, one64}
use Rattle.horner.specs.declared.TwoProd.{TwoProd}
use Rattle.horner.specs.declared.ValueSlope.{ValueSlope}
use Rattle.horner.specs.declared.Derivs.{Derivs}
use Rattle.cubic.specs.declared.CubicRoots.{CubicRoots}
use Rattle.cubic.specs.declared.CubicRoots.TheVariants.{One, Three}
use Rattle.cubic.specs.declared.CubicFactor.{CubicFactor}
use Rattle.quartic.specs.declared.QuarticFactor.{QuarticFactor}
use Rattle.isolated.specs.declared.Peeled.{Peeled}
use Rattle.scaled.specs.declared.Scaled.{Scaled}
use Rattle.split.specs.declared.Gap.{Gap}
use Rattle.factors.specs.declared.Factors.{Factors}
use Rattle.factors.specs.Factors.{lin_at, quad_at}
use Rattle.lent_bytes.specs.Bytes.{f64s_at}
use Rattle.lent_bytes.specs.Numbers.{number, five}

-- ---- evaluation
abbrev pub product_numbers : TwoProd → List Float
product_numbers t = t.prod ∷ t.err ∷ []

abbrev pub slope_numbers : ValueSlope → List Float
slope_numbers t = t.value ∷ t.slope ∷ []

abbrev pub derivs_numbers : Derivs → List Float
derivs_numbers t = t.d1 ∷ t.d2 ∷ []

-- ---- square systems
-- the matrix handed in, row by row
abbrev pub three_rows : List ℕ → List (List Float)
three_rows s = f64s_at 3 s 0 ∷ f64s_at 3 s 24 ∷ f64s_at 3 s 48 ∷ []

abbrev pub four_rows : List ℕ → List (List Float)
four_rows s = f64s_at 4 s 0 ∷ f64s_at 4 s 32 ∷ f64s_at 4 s 64 ∷ f64s_at 4 s 96 ∷ []

-- 1 and the n unknowns, or zeros where there is no answer
abbrev pub step_numbers : ℕ → Option (List Float) → List Float
step_numbers n (Some x) = one64 ∷ x
step_numbers n None = zero64 ∷ replicate n zero64

-- ---- factors
-- how many roots, and three places, 0 from the last root on
unfoldable pub roots_numbers : CubicRoots → List Float
roots_numbers (One x) = number 1 ∷ x ∷ zero64 ∷ zero64 ∷ []
roots_numbers (Three x) = number 3 ∷ get_or x 0 nan ∷ get_or x 1 nan ∷ get_or x 2 nan ∷ []

abbrev pub cubic_numbers : CubicFactor → List Float
cubic_numbers x = x.r ∷ x.e ∷ x.f ∷ []

abbrev pub quartic_numbers : QuarticFactor → List Float
quartic_numbers x = x.al ∷ x.be ∷ x.ga ∷ x.de ∷ []

-- 1 and the root, or 0 and NaN where there is none
unfoldable pub lone_numbers : Option Float → List Float
lone_numbers (Some x) = one64 ∷ x ∷ []
lone_numbers None = zero64 ∷ nan ∷ []

abbrev pub peeled_numbers : Peeled → List Float
peeled_numbers x = x.r ∷ x.h2 ∷ x.h1 ∷ x.h0 ∷ []

-- ---- scaling
-- f, g, lg, d, e, unit
unfoldable pub scaled_numbers : Scaled → List Float
scaled_numbers s = five s.f ++ (five s.g ++ (five s.lg ++ (number s.d ∷ of_int binary64 s.e ∷ s.unit ∷ [])))

-- 1, small and threshold, or zeros where there is no gap
unfoldable pub split_numbers : Option Gap → List Float
split_numbers (Some gap) = one64 ∷ number gap.small ∷ gap.threshold ∷ []
split_numbers None = zero64 ∷ zero64 ∷ zero64 ∷ []

-- nlin, lin, nquad, al and be of both quad
unfoldable pub factor_numbers : Factors → List Float
factor_numbers f =
    let p = quad_at f 0 in
    let q = quad_at f 1 in
    number f.nlin ∷ lin_at f 0 ∷ lin_at f 1 ∷ lin_at f 2 ∷ lin_at f 3 ∷ number f.nquad ∷ p.al ∷ p.be ∷ q.al ∷ q.be ∷ []
