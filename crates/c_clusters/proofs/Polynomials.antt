-- What the C functions below the list are handed, and that counts and multiplicities stay within theirs.
use mathlib.Core.Path.{◌≡◌, refl, sym, ap, ◌∙◌, subst⁻¹}
use mathlib.Core.Bool.{Bool, false, ◌||◌}
use mathlib.Core.List.{List, [], ◌∷◌}
use Prim.Native.Nat.{ℕ, zero, suc, ◌^◌, ◌≤◌, ◌<◌}
use native.Mathlib.Omega.{arith}
use borrow.Author.Tests.{ltb-false}
use lib.Dec.{ltb}
use lib.ListN.{length, take, get_or}
use lib.Ieee.{Float, nan}
use Rattle.std.specs.Prelude.{Option, Some, None, unwrap_or}
use Rattle.facts.specs.Arrays.{from_fn}
use Rattle.scaled.specs.declared.Scaled.{Scaled}
use Rattle.scaled.proofs.Built.{degree_is}
use Rattle.roots.specs.declared.RealRoot.{RealRoot}
use Rattle.roots.specs.declared.Roots.{Roots}
use Rattle.roots.specs.declared.Pair.{Pair}
use Rattle.roots.specs.declared.Pairs.{Pairs}
use Rattle.roots.specs.Listed.{multiplicities, Fits, PairsFit}
use Rattle.roots.proofs.Laws.{kept_fits, paired_fits, roots_fit}
use Rattle.roots.specs.Roots.{roots_of}
use Rattle.push.specs.declared.Found.{Found}
use Rattle.push.specs.Quadratic.{Factor, double, apart, complex, quadratic_roots_of, push_factor_in, push_quadratic_in}
use Rattle.lent_bytes.proofs.Five.{none_holds, accepted}
use Rattle.lent_bytes.proofs.Whole.{no_bytes}
use Rattle.float.proofs.Bits.{nan_pattern}
use Rattle.c_clusters.specs.Clustering.{turning_or_nan, candidate_at, candidates_at, pair_at, pairs_at, lacks_of}
use Rattle.finish.specs.Finish.{finish_of}
use Rattle.finish.proofs.Counts.{finish_counts}

pub holding : (c : List ℕ) (size n m : ℕ) {b : Bool} → b ≡ lacks_of c size n m → b ≡ false → (size ≤ length c) × ((n ≤ 4) × (m ≤ 2))
unfolding lacks_of
holding c size n m e t =
    let h = none_holds (ltb (length c) size) (ltb 4 n || ltb 2 m) (sym e ∙ t) in
    let k = none_holds (ltb 4 n) (ltb 2 m) h.1 in
    (ltb-false (length c) size h.0, (ltb-false 4 n k.0, ltb-false 2 m k.1))

-- a polynomial handed in, and nothing handed out
pub ruleset handed = (no_bytes, accepted, nan_pattern, degree_is)

-- candidates handed in
pub ruleset counted = (no_bytes, holding)

-- ---- candidates
pub four_candidates : (c : List ℕ) (n : ℕ) {l : List RealRoot} → l ≡ from_fn 4 (candidate_at c)
    → ◌≡◌ {A = Roots} (record { root = l; len = n }) (candidates_at c n)
unfolding candidates_at
four_candidates c n e = ap (λ (l : List RealRoot). record { root = l; len = n }) e

pub two_pairs : (c : List ℕ) (n : ℕ) {l : List Pair} → l ≡ from_fn 2 (pair_at c) → ◌≡◌ {A = Pairs} (record { pair = l; len = n }) (pairs_at c n)
unfolding pairs_at
two_pairs c n e = ap (λ (l : List Pair). record { pair = l; len = n }) e

-- the place of a turning point, NaN where there is none
pub turning_is : (o : Option Float) → unwrap_or o nan ≡ turning_or_nan o
unfolding turning_or_nan
turning_is (Some x) = refl
turning_is None = refl

sum_taken : (n : ℕ) (l : List RealRoot) → multiplicities (take n l) ≤ multiplicities l
sum_taken zero l = omega arith
sum_taken (suc n) [] = omega arith
sum_taken (suc n) (r ∷ l) = let h = sum_taken n l in omega arith

pub four_bytes : (n : ℕ) (p q r s : RealRoot) → p.multiplicity < 256 → q.multiplicity < 256
    → r.multiplicity < 256 → s.multiplicity < 256
    → multiplicities (take n (p ∷ q ∷ r ∷ s ∷ [])) < 2 ^ 32
four_bytes n p q r s e f g h = let t = sum_taken n (p ∷ q ∷ r ∷ s ∷ []) in omega arith

pub bytes_of : (c : List ℕ) (n : ℕ) {l : List RealRoot} → ((k : ℕ) → get_or c k 0 < 256) → l ≡ from_fn 4 (candidate_at c) → multiplicities (take n l) < 2 ^ 32
unfolding candidate_at
bytes_of c n b e = rw e (four_bytes n (candidate_at c 0) (candidate_at c 1) (candidate_at c 2) (candidate_at c 3) (b 32) (b 33) (b 34) (b 35))

-- ---- counts
candidates_fit : (c : List ℕ) (n : ℕ) → n ≤ 4 → Fits (candidates_at c n)
unfolding candidates_at
candidates_fit c n h = (refl, h)

pairs_fit : (c : List ℕ) (m : ℕ) → m ≤ 2 → PairsFit (pairs_at c m)
unfolding pairs_at
pairs_fit c m h = (refl, h)

factor_fits : (s : Found) (f : Factor) → Fits s.roots → PairsFit s.pairs → Fits (push_factor_in s f).roots × PairsFit (push_factor_in s f).pairs
unfolding push_factor_in
factor_fits s (double y) h k = (kept_fits _ _ h, k)
factor_fits s (apart y z) h k = (kept_fits _ _ (kept_fits _ _ h), k)
factor_fits s (complex p) h k = (h, paired_fits _ _ k)

pub quadratic_fits : (poly : Scaled) (al be tol : Float) (c : List ℕ) (n m : ℕ) {out : Roots} {pairs : Pairs} {s : Found} → n ≤ 4 → m ≤ 2
    → out ≡ candidates_at c n → pairs ≡ pairs_at c m
    → s ≡ push_quadratic_in poly al be tol out pairs → Fits s.roots × PairsFit s.pairs
unfolding push_quadratic_in
quadratic_fits poly al be tol c n m h k o p e =
    let fit = factor_fits (record { roots = candidates_at c n; pairs = pairs_at c m }) (quadratic_roots_of poly al be tol)
    (candidates_fit c n h) (pairs_fit c m k) in
    rw (e, o, p) fit

pub finish_fits : (poly : Scaled) (c : List RealRoot) (tol : Float) {s : Roots}
    → s ≡ roots_of (finish_of poly c tol) → Fits s
finish_fits poly c tol e =
    subst⁻¹ Fits e (roots_fit (finish_of poly c tol) (finish_counts poly c tol))
