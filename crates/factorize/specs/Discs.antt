-- What the code hands on beside the factors, so that push_quadratic need not take it again: the discriminants of the quadratic ones. Definitions only.
use Rattle.std.specs.Prelude.{cond, [], ◌∷◌, ℕ, ltb}
use Rattle.float.specs.Literals.{zero64}
use Rattle.isolated.specs.declared.Disc.{Disc}
use Rattle.isolated.specs.Isolated.{disc_of}
use Rattle.factors.specs.declared.Factors.{Factors}
use Rattle.factors.specs.Factors.{quad_at}
use Rattle.factorize.specs.declared.Rooted.{Rooted}

-- that of quadratic i, and zeros where there is none
unfoldable pub disc_at : Factors → ℕ → Disc
disc_at f i = cond (ltb i f.nquad) (disc_of (quad_at f i).al (quad_at f i).be) (record { disc = zero64; root = zero64 })

unfoldable pub rooted_of : Factors → Rooted
rooted_of f = record { f = f; disc = disc_at f 0 ∷ disc_at f 1 ∷ [] }
