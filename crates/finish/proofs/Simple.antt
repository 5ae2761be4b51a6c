-- Demand 3 for each simple root of a list: where place k in the order has multiplicity 1, polishing has made it no worse beyond rounding.
use mathlib.Core.Path.{◌≡◌, refl}
use mathlib.Core.Bool.{true}
use mathlib.Core.List.{List, [], ◌∷◌}
use Prim.Native.Nat.{ℕ, zero, suc, ◌≤◌}
use lib.ListN.{get_or}
use Rattle.float.specs.Literals.{two64, four64}
use Rattle.scaled.specs.declared.Scaled.{Scaled}
use Rattle.roots.specs.Listed.{blank}
use Rattle.roots.specs.declared.RealRoot.{RealRoot}
use Rattle.polish.specs.Polish.{polish_of}
use Rattle.accuracy.specs.Claims.{at_most, AllAtMost, Polished}
use Rattle.accuracy.proofs.Polishing.{polishing}
use Rattle.finish.specs.Finish.{Ordered, nowhere, ordered_of, polished_at, polished_of}

module _ (n : ℕ) (poly : Scaled) where
  -- a place of multiplicity 1 becomes the polished one
  simple_value : (o : Ordered) → o.multiplicity ≡ 1 → (polished_at n poly o).value ≡ polish_of n poly.f poly.d o.gap o.value
  unfolding polished_at
  simple_value o e = rw e

  no_worse_at : (o : Ordered) → poly.d ≤ 4 → AllAtMost two64 poly.f poly.d → o.multiplicity ≡ 1 → at_most four64 o.value ≡ true
      → at_most four64 (polished_at n poly o).value ≡ true → Polished poly.f poly.d o.value (polished_at n poly o).value
  no_worse_at o degree coefficients simple begin end =
      let e = simple_value o simple in
      rw e (polishing n poly.f poly.d o.gap o.value degree coefficients begin (rw e at end))

  at_place : (l : List Ordered) (k : ℕ) → (get_or (polished_of n poly l) k blank).value ≡ (polished_at n poly (get_or l k nowhere)).value
  unfolding polished_of polished_at
  at_place [] k = refl
  at_place (o ∷ l) zero = refl
  at_place (o ∷ l) (suc k) = at_place l k

  -- The k-th ordered place and the k-th polished one, for every number of turns n and every list of candidates c.
  pub simple_polished : (c : List RealRoot) (k : ℕ) → poly.d ≤ 4 → AllAtMost two64 poly.f poly.d
      → (let first = get_or (ordered_of c) k nowhere in let last = get_or (polished_of n poly (ordered_of c)) k blank in
      first.multiplicity ≡ 1 → at_most four64 first.value ≡ true → at_most four64 last.value ≡ true
      → Polished poly.f poly.d first.value last.value)
  simple_polished c k degree coefficients simple begin end =
      let e = at_place (ordered_of c) k in
      rw e (no_worse_at (get_or (ordered_of c) k nowhere) degree coefficients simple begin (rw e at end))
