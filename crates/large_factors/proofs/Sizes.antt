-- The counts of the large factors: no more than the arrays hold.
use mathlib.Core.Path.{◌≡◌, refl, sym, subst}
use mathlib.Core.Bool.{Bool, true, false, cond}
use mathlib.Core.List.{List, [], ◌∷◌}
use Prim.Native.Nat.{ℕ, ◌+◌, ◌<◌}
use native.Mathlib.Omega.{arith}
use borrow.Author.Tests.{ltb-true}
use lib.Dec.{ltb}
use lib.ListN.{set}
use lib.Ieee.{Float, is_nan, binary64, mul}
use Rattle.facts.specs.Cond.{either_way}
use Rattle.facts.specs.Sort.{sorted_by}
use Rattle.float.specs.Literals.{epsilon64}
use Rattle.factors.specs.declared.Factors.{Factors}
use Rattle.factors.specs.Factors.{quad_of, no_factors, push_lin_of, push_quad_of, degree_of, Sized}
use Rattle.large_factors.specs.declared.Unit.{Unit}
use Rattle.large_factors.specs.Large.{factor_units_of, no_smaller, ends_of, with_unit, large_from, large_of}

lin_sized : (f : Factors) (r : Float) → Sized f → Sized (push_lin_of f r)
unfolding push_lin_of
lin_sized f r S = go (ltb f.nlin 4) (ltb-true f.nlin 4)
  where
    go : (b : Bool) → (b ≡ true → f.nlin < 4) → Sized (cond b
        (record { lin = set f.lin f.nlin r; nlin = f.nlin + 1; quad = f.quad; nquad = f.nquad }) f)
    go true h = (omega (arith, h refl), S.1)
    go false h = S

quad_sized : (f : Factors) (al be : Float) → Sized f → Sized (push_quad_of f al be)
unfolding push_quad_of
quad_sized f al be S = go (ltb f.nquad 2) (ltb-true f.nquad 2)
  where
    go : (b : Bool) → (b ≡ true → f.nquad < 2) → Sized (cond b
        (record { lin = f.lin; nlin = f.nlin; quad = set f.quad f.nquad (quad_of al be); nquad = f.nquad + 1 }) f)
    go true h = (S.0, omega (arith, h refl))
    go false h = S

pub with_sized : (f : Factors) (x : Unit) → Sized f → Sized (with_unit f x)
unfolding with_unit
with_sized f x S = either_way Sized (is_nan x.be) (lin_sized f x.al S) (quad_sized f x.al x.be S)

pub unit_sized : (f : Factors) (x : Unit) (r : Factors) → r ≡ with_unit f x → Sized f → Sized r
unit_sized f x r e S = subst Sized (sym e) (with_sized f x S)

pub none_sized : (f : Factors) → f ≡ no_factors → Sized f
none_sized f e = subst Sized (sym e) (omega arith, omega arith)

from_sized : (want : ℕ) (least : Float) (f : Factors) (l : List Unit) → Sized f → Sized (large_from want least f l)
unfolding large_from
from_sized want least f [] S = S
from_sized want least f (x ∷ l) S = either_way Sized (ends_of x (degree_of f) want least) S (from_sized want least (with_unit f x) l (with_sized f x S))

pub large_sized : (f : Factors) (want : ℕ) (threshold : Float) → Sized (large_of f want threshold)
unfolding large_of
large_sized f want threshold =
    from_sized want (mul binary64 threshold epsilon64) no_factors (sorted_by no_smaller (factor_units_of f)) (none_sized no_factors refl)
