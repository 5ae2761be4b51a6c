-- The candidates of Scaled::solve in their arrays, as the functions have them. Definitions only.
use Rattle.std.specs.Prelude.{cond, ℕ, ltb, ℤ, get_or, Float}
use Rattle.scaled.specs.declared.Scaled.{Scaled}
use Rattle.factors.specs.declared.Factors.{Factors}
use Rattle.factors.specs.Factors.{lin_at, quad_at}
use Rattle.roots.specs.declared.Roots.{Roots}
use Rattle.roots.specs.Roots.{root, kept_in}
use Rattle.roots.specs.Listed.{blank}
use Rattle.push.specs.declared.Found.{Found}
use Rattle.push.specs.Quadratic.{push_quadratic_in}
use Rattle.poly.specs.RealRoots.{unscaled_of}

-- the turn k of a loop of n turns, and nothing where there are fewer
abbrev pub turn_at : {A : Type 0} → ℕ → (ℕ → A → A) → ℕ → A → A
turn_at n f k a = cond (ltb k n) (f k a) a

-- with_lin and with_quad, in the arrays
abbrev pub with_lin_in : Factors → ℕ → Roots → Roots
with_lin_in f i s = kept_in s (root (lin_at f i) 1)

abbrev pub with_quad_in : Scaled → Factors → Float → ℕ → Found → Found
with_quad_in poly f tol i s = push_quadratic_in poly (quad_at f i).al (quad_at f i).be tol s.roots s.pairs

-- root k in x, where it is finite
abbrev pub unscaled_in : ℤ → Roots → ℕ → Roots → Roots
unscaled_in e s k out = let r = get_or s.root k blank in kept_in out (root (unscaled_of e r.value) r.multiplicity)
