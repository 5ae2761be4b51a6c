-- Factors of poly.rs: linear factors y - r, up to four, and quadratic ones y^2 + al*y + be, up to two. Definitions only.
use Rattle.std.specs.Prelude.{cond, List, ℕ, ◌+◌, ◌*◌, ◌≤◌, ltb, get_or, set, take, replicate, Float}
use Rattle.std.specs.Float.{nan}
use Rattle.float.specs.Literals.{zero64}
use Rattle.factors.specs.declared.Quad.{Quad}
use Rattle.factors.specs.declared.Factors.{Factors}

-- `(al, be)`
abbrev pub quad_of : Float → Float → Quad
quad_of al be = record { al = al; be = be }

-- `Factors::default()`
abbrev pub no_factors : Factors
no_factors = record { lin = replicate 4 zero64; nlin = 0; quad = replicate 2 (quad_of zero64 zero64); nquad = 0 }

-- `push_lin`: `if self.nlin < 4 { self.lin[self.nlin] = r; self.nlin += 1; }`
unfoldable pub push_lin_of : Factors → Float → Factors
push_lin_of f r = cond (ltb f.nlin 4) (record { lin = set f.lin f.nlin r; nlin = f.nlin + 1; quad = f.quad; nquad = f.nquad }) f

-- `push_quad`: `if self.nquad < 2 { self.quad[self.nquad] = (al, be); self.nquad += 1; }`
unfoldable pub push_quad_of : Factors → Float → Float → Factors
push_quad_of f al be = cond (ltb f.nquad 2) (record { lin = f.lin; nlin = f.nlin; quad = set f.quad f.nquad (quad_of al be); nquad = f.nquad + 1 }) f

-- `degree`: `self.nlin + 2 * self.nquad`
abbrev pub degree_of : Factors → ℕ
degree_of f = f.nlin + 2 * f.nquad

-- `r` and `(al, be)` of a loop over the factors: lin[i] and quad[i]
abbrev pub lin_at : Factors → ℕ → Float
lin_at f i = get_or f.lin i nan

abbrev pub quad_at : Factors → ℕ → Quad
quad_at f i = get_or f.quad i (quad_of nan nan)

-- lin[..nlin] and quad[..nquad], the factors that count
abbrev pub lins_of : Factors → List Float
lins_of f = take f.nlin f.lin

abbrev pub quads_of : Factors → List Quad
quads_of f = take f.nquad f.quad

-- ---- what the functions ask of the counts
abbrev pub Sized : Factors → Type 0
Sized f = (f.nlin ≤ 4) × (f.nquad ≤ 2)
