-- No push meets a full array: each unit finds room among the large factors, since the degrees add to 4 at most.
use mathlib.Core.Path.{◌≡◌, refl}
use mathlib.Core.Bool.{Bool, true, false, cond, true≢false}
use mathlib.Core.List.{List, [], ◌∷◌}
use Prim.Native.Nat.{◌+◌, ◌≤◌, ◌<◌}
use native.Mathlib.Omega.{arith}
use lib.Ieee.{is_nan}
use Rattle.facts.specs.Sort.{sorted_by}
use Rattle.facts.proofs.Sort.{sum_sorted}
use Rattle.factors.specs.declared.Factors.{Factors}
use Rattle.factors.specs.Factors.{no_factors, push_lin_of, push_quad_of, degree_of}
use Rattle.factors.proofs.Counts.{lin_counted, quad_counted}
use Rattle.large_factors.specs.declared.Unit.{Unit as RootUnit}
use Rattle.large_factors.specs.Large.{factor_units_of, no_smaller, with_unit}
use Rattle.large_factors.proofs.Added.{unit_degree, degrees, units_degrees}

-- the unit x is a line, or a quadratic factor, and there is room for one
abbrev pub RoomFor : Factors → RootUnit → Type 0
RoomFor f x = (is_nan x.be ≡ true → f.nlin < 4) × (is_nan x.be ≡ false → f.nquad < 2)

-- for each of the units, one after the other
abbrev pub RoomForAll : Factors → List RootUnit → Type 0
RoomForAll f [] = Unit {0}
RoomForAll f (x ∷ l) = RoomFor f x × RoomForAll (with_unit f x) l

with_degree : (f : Factors) (x : RootUnit) → degree_of f + unit_degree x ≤ 4 → RoomFor f x × (degree_of (with_unit f x) ≡ degree_of f + unit_degree x)
unfolding with_unit
with_degree f x h = go (is_nan x.be) h
  where
    go : (b : Bool) → degree_of f + cond b 1 2 ≤ 4 → ((b ≡ true → f.nlin < 4) × (b ≡ false → f.nquad < 2))
        × (degree_of (cond b (push_lin_of f x.al) (push_quad_of f x.al x.be)) ≡ degree_of f + cond b 1 2)
    go true h =
        let C = lin_counted f x.al f.nlin f.nquad (record { nlin = refl; nquad = refl }) (omega arith) in
        ((λ t. omega arith, λ t. absurd (true≢false t)), omega (arith, C.nlin, C.nquad))
    go false h =
        let C = quad_counted f x.al x.be f.nlin f.nquad (record { nlin = refl; nquad = refl }) (omega arith) in
        ((λ t. omega arith, λ t. omega arith), omega (arith, C.nlin, C.nquad))

all_room : (f : Factors) (l : List RootUnit) → degree_of f + degrees l ≤ 4 → RoomForAll f l
all_room f [] h = tt
all_room f (x ∷ l) h = let w = with_degree f x (omega arith) in (w.0, all_room (with_unit f x) l (omega (arith, w.1)))

-- the loop over the sorted units, which may end before the last
pub large_room : (out : Factors) → degree_of out ≤ 4 → RoomForAll no_factors (sorted_by no_smaller (factor_units_of out))
large_room out D =
    all_room no_factors (sorted_by no_smaller (factor_units_of out))
    (omega (arith, sum_sorted no_smaller unit_degree (factor_units_of out), units_degrees out))
