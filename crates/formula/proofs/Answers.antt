-- The answer: how many coefficients there are, and the coefficients as doubles.
use mathlib.Core.Path.{◌≡◌, refl, sym, ap, ◌∙◌}
use mathlib.Core.Bool.{Bool, true, false, cond}
use mathlib.Core.List.{List, [], ◌∷◌, ◌++◌, map, map-append}
use Prim.Native.Nat.{ℕ, zero, suc, ◌+◌, ◌-◌}
use native.Mathlib.Omega.{arith}
use lib.Dec.{T, eqb}
use lib.ListN.{length, replicate, length-append, length-replicate}
use lib.IntN.{ℤ, pos, nat_abs}
use lib.Ieee.{Float, binary64, of_int, of_bits}
use Rattle.facts.specs.Arrays.{from_fn}
use Rattle.float.specs.Literals.{zero64}
use Rattle.parts.specs.declared.part.Part.{Part}
use Rattle.parts.specs.Polynomial.{coefficient_of, led, trimmed}
use Rattle.parts.specs.Part.{coefficient_in, length_in}
use Rattle.parts.proofs.Coefficients.{zero_is}
use Rattle.formula.specs.declared.Expanded.{Expanded}
use Rattle.formula.specs.Formula.{floats_of, expanded_of}

-- ---- the coefficients
led_padded : (a : ℤ) (t : List ℤ) (n : ℕ) → a ∷ (t ++ replicate n (pos 0)) ≡ led a t ++ replicate (suc (length t + n) - length (led a t)) (pos 0)
led_padded a [] n = go (eqb (nat_abs a) 0) (zero_is a)
  where
    all : suc (0 + n) - 0 ≡ suc n
    all = omega arith

    but_one : suc (0 + n) - 1 ≡ n
    but_one = omega arith

    go : (b : Bool) → (T b → a ≡ pos 0) → a ∷ replicate n (pos 0) ≡ cond b [] (a ∷ []) ++ replicate (suc (0 + n) - length (cond b [] (a ∷ []))) (pos 0)
    go true z = ap (λ (x : ℤ). x ∷ replicate n (pos 0)) (z tt) ∙ ap (λ (k : ℕ). replicate k (pos 0)) (sym all)
    go false z = ap (λ (k : ℕ). a ∷ replicate k (pos 0)) (sym but_one)
led_padded a (b ∷ t) n = ap (λ (k : ℕ). a ∷ b ∷ (t ++ replicate k (pos 0))) same
  where
    same : n ≡ suc (suc (length t) + n) - suc (suc (length t))
    same = omega arith

padded : (p : List ℤ) → p ≡ trimmed p ++ replicate (length p - length (trimmed p)) (pos 0)
padded [] = refl
padded (a ∷ p) =
    let t = trimmed p in
    let n = length p - length t in
    let zeros = replicate n (pos 0) in
    let e : length p ≡ length t + n = ap length (padded p) ∙ length-append t zeros ∙ ap (λ (k : ℕ). length t + k) (length-replicate n (pos 0)) in
    ap (λ (q : List ℤ). a ∷ q) (padded p) ∙ led_padded a t n ∙ ap (λ (k : ℕ). led a t ++ replicate (suc k - length (led a t)) (pos 0)) (sym e)

map_replicate : {A B : Type 0} (f : A → B) (n : ℕ) (x : A) → map f (replicate n x) ≡ replicate n (f x)
map_replicate f zero x = refl
map_replicate f (suc n) x = ap (λ (t : List _). f x ∷ t) (map_replicate f n x)

zero_float : of_int binary64 (pos 0) ≡ zero64
unfolding of_int of_bits
zero_float = refl

floats_padded : (p : List ℤ) → floats_of p ≡ floats_of (trimmed p) ++ replicate (length p - length (trimmed p)) zero64
floats_padded p =
    let n = length p - length (trimmed p) in
    ap floats_of (padded p) ∙ map-append (of_int binary64) (trimmed p) (replicate n (pos 0))
    ∙ ap (λ (t : List Float). floats_of (trimmed p) ++ t) (map_replicate (of_int binary64) n (pos 0) ∙ ap (replicate n) zero_float)

-- the coefficient of t^k
abbrev pub float_of : Part → ℕ → Float
float_of a k = of_int binary64 (coefficient_in a k)

five_floats : (l : List ℤ) → length l ≡ 5 → from_fn 5 (λ k. of_int binary64 (coefficient_of l k)) ≡ floats_of l
five_floats (a ∷ b ∷ c ∷ d ∷ e ∷ []) h = refl
five_floats [] h = absurd (omega (arith, h))
five_floats (a ∷ []) h = absurd (omega (arith, h))
five_floats (a ∷ b ∷ []) h = absurd (omega (arith, h))
five_floats (a ∷ b ∷ c ∷ []) h = absurd (omega (arith, h))
five_floats (a ∷ b ∷ c ∷ d ∷ []) h = absurd (omega (arith, h))
five_floats (a ∷ b ∷ c ∷ d ∷ e ∷ f ∷ l) h = absurd (omega (arith, h))

module _ (a : Part) (n : ℕ) (coeffs : List Float) where
  abbrev answer : Expanded
  answer = record { len = n; coeffs = coeffs }

  pub answer_is : length a.coeffs ≡ 5 → n ≡ length_in a → coeffs ≡ from_fn 5 (float_of a) → answer ≡ expanded_of (trimmed a.coeffs)
  unfolding expanded_of
  answer_is five e f =
      let padded = floats_padded a.coeffs ∙ ap (λ (k : ℕ). floats_of (trimmed a.coeffs) ++ replicate (k - length (trimmed a.coeffs)) zero64) five in
      λ k. record { len = e k; coeffs = (f ∙ five_floats a.coeffs five ∙ padded) k }
