-- No push of factorize meets a full array, at any depth: the degrees add to 4 at most.
use mathlib.Core.Path.{◌≡◌}
use mathlib.Core.Bool.{true}
use Prim.Native.Nat.{ℕ, ◌+◌, ◌≤◌, ◌<◌}
use native.Mathlib.Omega.{arith}
use Rattle.facts.specs.Count.{count_up}
use Rattle.facts.specs.Sort.{sorted_by}
use Rattle.angle.specs.declared.Sine.{Sine}
use Rattle.scaled.specs.declared.Scaled.{Scaled}
use Rattle.factors.specs.declared.Factors.{Factors}
use Rattle.factors.specs.Factors.{no_factors, degree_of}
use Rattle.large_factors.specs.Large.{factor_units_of, no_smaller}
use Rattle.large_factors.proofs.Room.{RoomForAll, large_room}
use Rattle.quotient.specs.Quotient.{back_lin, back_quad}
use Rattle.quotient.proofs.Counts.{lins_room, quads_room}
use Rattle.factorize.specs.Factorize.{out_of, Second, second_of, factors_from}
use Rattle.factorize.proofs.Degree.{out_degree, Parted, parted, degrees_add}

-- merging: the i-th factor of `inner` finds room behind those before it
pub record Merges (second : Second) (inner : Factors) : Type 0 where
  pub lins : (i : ℕ) → i < inner.nlin → (count_up i (back_lin inner second.sub.e) i second.large).nlin < 4
  pub quads : (i : ℕ) → i < inner.nquad → (count_up i (back_quad inner second.sub.e) i
      (count_up inner.nlin (back_lin inner second.sub.e) inner.nlin second.large)).nquad < 2

module _ (sine : Sine) (left : ℕ) (sc : Scaled) (D : sc.d ≤ 4) where
  abbrev out : Factors
  out = out_of sine sc.g sc.d

  -- each unit finds room among the large factors, also past the one where the loop ends
  pub units_find_room : RoomForAll no_factors (sorted_by no_smaller (factor_units_of out))
  units_find_room = large_room out (omega (arith, out_degree sine sc.g sc.d D))

  pub factors_find_room : (second_of sc out).found ≡ true → Merges (second_of sc out) (factors_from sine left (second_of sc out).sub)
  factors_find_room h = go (second_of sc out) (parted sc out D) h (λ sub l. degrees_add sine left sub l)
    where
      go : (second : Second) → Parted sc.d second → second.found ≡ true
          → ((sub : Scaled) → sub.d ≤ 4 → degree_of (factors_from sine left sub) ≡ sub.d) → Merges second (factors_from sine left second.sub)
      go second P h add =
          let inner = factors_from sine left second.sub in
          let room : degree_of second.large + degree_of inner ≤ 4 = omega (arith, P.most, P.rest h, add second.sub (omega (arith, P.most))) in
          record { lins = lins_room second.large inner second.sub.e room; quads = quads_room second.large inner second.sub.e room }
