-- The counts of factors: one more where a push finds room.
use mathlib.Core.Path.{◌≡◌, ap}
use Prim.Native.Nat.{ℕ, ◌+◌, ◌<◌}
use native.Mathlib.Omega.{arith}
use borrow.Author.Tests.{lt-ltb}
use lib.Ieee.{Float}
use Rattle.factors.specs.declared.Factors.{Factors}
use Rattle.factors.specs.Factors.{push_lin_of, push_quad_of}

pub record Counted (f : Factors) (lins quads : ℕ) : Type 0 where
  pub nlin : f.nlin ≡ lins
  pub nquad : f.nquad ≡ quads

pub lin_counted : (f : Factors) (r : Float) (a b : ℕ) → Counted f a b → a < 4 → Counted (push_lin_of f r) (a + 1) b
unfolding push_lin_of
lin_counted f r a b C h = rw (lt-ltb f.nlin 4 (omega (arith, C.nlin))) (record { nlin = ap (λ (n : ℕ). n + 1) C.nlin; nquad = C.nquad })

pub quad_counted : (f : Factors) (al be : Float) (a b : ℕ) → Counted f a b → b < 2 → Counted (push_quad_of f al be) a (b + 1)
unfolding push_quad_of
quad_counted f al be a b C h = rw (lt-ltb f.nquad 2 (omega (arith, C.nquad))) (record { nlin = C.nlin; nquad = ap (λ (n : ℕ). n + 1) C.nquad })
