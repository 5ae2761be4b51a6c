-- What `usable` says of a quotient: s[0] to s[small] are finite doubles, and s[small] is not zero.
use mathlib.Core.Path.{◌≡◌, refl, sym, ap, ◌∙◌}
use mathlib.Core.Bool.{true, ◌&&◌}
use mathlib.Core.List.{List, [], ◌∷◌}
use Prim.Native.Nat.{ℕ, zero, suc, ◌+◌, ◌-◌, ◌≤◌, ◌<◌}
use native.Mathlib.Omega.{arith}
use lib.Dec.{T}
use lib.ListN.{length, get_or, set, take, replicate, length-set}
use lib.Seq.{get_or-take, length-take-le}
use lib.Ieee.{Float, nan, binary64, fits, ne, div}
use lib.Ieee.Bits.{is_true, of_bits-fits}
use lib.Ieee.Fits.{nan-fits, div-fits}
use Rattle.facts.specs.Cond.{first_holds, second_holds}
use Rattle.facts.specs.Count.{count_up}
use Rattle.facts.specs.Lists.{AllOf, all_at}
use Rattle.float.specs.Literals.{zero64}
use Rattle.float.specs.Methods.{is_finite_of, all_finite_of}
use Rattle.float.specs.Units.{Finite, units_of}
use Rattle.float.proofs.Finite.{finite_at}
use Rattle.decode.proofs.Class.{some_units}
use Rattle.quotient.specs.declared.Monic.{Monic}
use Rattle.quotient.specs.Quotient.{acc_of, quotient_step, quotient_of, usable_of}

-- ---- the quotient holds doubles
abbrev Doubles : List Float → Type 0
Doubles s = AllOf (λ (x : Float). T (fits binary64 x)) s

doubles_set : (s : List Float) (i : ℕ) (x : Float) → Doubles s → T (fits binary64 x) → Doubles (set s i x)
doubles_set [] i x h t = h
doubles_set (y ∷ s) zero x h t = (t, h.1)
doubles_set (y ∷ s) (suc i) x h t = (h.0, doubles_set s i x h.1 t)

-- and five of them
quotient_doubles : (g : List Float) (p : Monic) (small : ℕ) → Doubles (quotient_of g p small) × (length (quotient_of g p small) ≡ 5)
unfolding quotient_of count_up
quotient_doubles g p small = go (small + 1) (replicate 5 zero64) (zeros 5) refl
  where
    zeros : (n : ℕ) → Doubles (replicate n zero64)
    zeros zero = tt
    zeros (suc n) = (of_bits-fits binary64 0, zeros n)

    go : (k : ℕ) (s : List Float) → Doubles s → length s ≡ 5 → Doubles (count_up (small + 1) (quotient_step g p) k s)
        × (length (count_up (small + 1) (quotient_step g p) k s) ≡ 5)
    go zero s h l = (h, l)
    go (suc k) s h l =
        let i = small + 1 - suc k in
        let x = div binary64 (acc_of g p s i) (get_or p.l 0 nan) in
        go k (set s i x) (doubles_set s i x h (div-fits binary64 (acc_of g p s i) (get_or p.l 0 nan))) (length-set s i x ∙ l)

-- ---- both, of a quotient
module _ (g : List Float) (p : Monic) (small : ℕ) (D : small ≤ 4) (U : usable_of (quotient_of g p small) small ≡ true) where
  abbrev s : List Float
  s = quotient_of g p small

  pub usable_finite : (i : ℕ) → i ≤ small → Finite (get_or s i nan)
  unfolding usable_of
  usable_finite i h =
      let doubles = quotient_doubles g p small in
      let all = first_holds (all_finite_of (take (small + 1) s)) (ne (get_or s 0 nan) zero64 && ne (get_or s small nan) zero64) U in
      let there = length-take-le (small + 1) s (omega (arith, doubles.1)) in
      record {
        held = is_true (fits binary64 (get_or s i nan)) (all_at (λ (x : Float). T (fits binary64 x)) s nan i (λ out. nan-fits binary64) doubles.0);
        finite = sym (ap is_finite_of (get_or-take (small + 1) s i nan (omega arith))) ∙ finite_at (take (small + 1) s) all i (omega (arith, there));
      }

  pub usable_last : 0 < units_of (get_or s small nan)
  unfolding usable_of
  usable_last =
      some_units (get_or s small nan) (usable_finite small (omega arith))
      (second_holds (ne (get_or s 0 nan) zero64) (ne (get_or s small nan) zero64)
      (second_holds (all_finite_of (take (small + 1) s)) (ne (get_or s 0 nan) zero64 && ne (get_or s small nan) zero64) U))
