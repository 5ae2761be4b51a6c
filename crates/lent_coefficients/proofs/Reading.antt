-- Coefficients read from lent bytes: the one at a place, those behind the fifth one after another, and the six numbers.
use mathlib.Core.Path.{◌≡◌, refl, sym, ap, ◌∙◌}
use mathlib.Core.List.{List, [], ◌∷◌, foldl}
use Prim.Native.Nat.{ℕ, zero, suc, ◌+◌, ◌*◌, ◌/◌, ◌≤◌, ◌<◌}
use native.Mathlib.Omega.{arith}
use lib.ListN.{length, drop, get_or, drop_of_length-le, get_or-eq_default}
use lib.Ieee.{Float}
use Rattle.facts.specs.Lists.{drop_next}
use Rattle.float.specs.Literals.{zero64}
use Rattle.float.specs.Bytes.{f64_at}
use Rattle.lent_bytes.specs.Bytes.{f64s_at}
use Rattle.lent_bytes.proofs.Doubles.{f64s_length}
use Rattle.poly.specs.Short.{rest_with, rest_of, short_from, short_of}
use Rattle.lent_coefficients.specs.Coefficients.{coefficients_at}

double_is : (k : ℕ) (s : List ℕ) (at i : ℕ) (d : Float) → i < k → f64_at s (at + 8 * i) ≡ get_or (f64s_at k s at) i d
unfolding f64s_at
double_is zero s at i d h = absurd (omega (arith, h))
double_is (suc k) s at zero d h = let e : at + 8 * 0 ≡ at = omega arith in ap (f64_at s) e
double_is (suc k) s at (suc i) d h =
    let e : at + 8 * suc i ≡ at + 8 + 8 * i = omega arith in
    ap (f64_at s) e ∙ double_is k s (at + 8) i d (omega arith)

module _ (s : List ℕ) (i : ℕ) where
  pub read_at : (d : Float) → i < length s / 8 → f64_at s (8 * i) ≡ get_or (coefficients_at s) i d
  read_at d h = let e : 8 * i ≡ 0 + 8 * i = omega arith in ap (f64_at s) e ∙ double_is (length s / 8) s 0 i d h

  pub read_here : {x : Float} → i < length s / 8 → x ≡ f64_at s (8 * i) → x ≡ get_or (coefficients_at s) i zero64
  read_here h e = e ∙ read_at zero64 h

  pub read_none : length s / 8 ≤ i → zero64 ≡ get_or (coefficients_at s) i zero64
  read_none h = sym (get_or-eq_default (coefficients_at s) zero64 {n = i} (omega (arith, f64s_length (length s / 8) s 0)))

  -- ---- what is left of them, from i on
  pub rest_next : (r x : Float) → i < length s / 8 → x ≡ f64_at s (8 * i)
      → foldl rest_with r (drop i (coefficients_at s)) ≡ foldl rest_with (rest_with r x) (drop (i + 1) (coefficients_at s))
  rest_next r x h e =
      let more : i < length (coefficients_at s) = omega (arith, f64s_length (length s / 8) s 0) in
      ap (foldl rest_with r) (drop_next (coefficients_at s) i zero64 more)
      ∙ ap (λ (y : Float). foldl rest_with (rest_with r y) (drop (i + 1) (coefficients_at s))) (sym (e ∙ read_at zero64 h))

  pub rest_end : (r : Float) → length s / 8 ≤ i → foldl rest_with r (drop i (coefficients_at s)) ≡ r
  rest_end r h = ap (foldl rest_with r) (drop_of_length-le (coefficients_at s) {i = i} (omega (arith, f64s_length (length s / 8) s 0)))

-- ---- the short list by its places
pub short_is : (l : List Float)
    → get_or l 0 zero64 ∷ get_or l 1 zero64 ∷ get_or l 2 zero64 ∷ get_or l 3 zero64 ∷ get_or l 4 zero64 ∷ rest_of (drop 5 l) ∷ [] ≡ short_of l
unfolding short_from
short_is [] = refl
short_is (a ∷ []) = refl
short_is (a ∷ b ∷ []) = refl
short_is (a ∷ b ∷ c ∷ []) = refl
short_is (a ∷ b ∷ c ∷ d ∷ []) = refl
short_is (a ∷ b ∷ c ∷ d ∷ e ∷ l) = refl
