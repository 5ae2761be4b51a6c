-- Words for arguments and values: numbers that are not rounded, factors, and a polynomial with its logarithms. Definitions only.
use Rattle.std.specs.Prelude.{false, List, [], ◌∷◌, ◌++◌, ℕ, ◌-◌, pos, length, replicate, Float}
use Rattle.std.specs.Float.{fin}
use Rattle.std.specs.Float.Ieee.{neg, minus}
use Rattle.float.specs.Literals.{zero64, one64, inf64}
use Rattle.scaled.specs.declared.Scaled.{Scaled}
use Rattle.factors.specs.declared.Quad.{Quad}
use Rattle.factors.specs.declared.Factors.{Factors}
use Rattle.factors.specs.Factors.{quad_of}

-- -0, and minus infinity
abbrev pub minus_zero : Float
minus_zero = neg zero64

abbrev pub minus_inf : Float
minus_inf = neg inf64

-- these lines and quadratics, zeros after them
abbrev pub factors : List Float → List Quad → Factors
factors l q = record {
  lin = l ++ replicate (4 - length l) zero64;
  nlin = length l;
  quad = q ++ replicate (2 - length q) (quad_of zero64 zero64);
  nquad = length q;
}

-- a monic polynomial g of degree d that was not scaled (e = 0), with any logarithms beside it
abbrev pub monic : List Float → List Float → ℕ → Scaled
monic g lg d = record { f = g; g = g; lg = lg; d = d; e = pos 0; unit = one64 }
