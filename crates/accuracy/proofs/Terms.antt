-- Horner's rule without rounding gives the sum of the terms (`exact_is`), and the two parts of that sum add up to M (`sizes_are`).
-- With A_i and Y for a_i and y in units, and O for 1, the rule's value from a_k on is E_k = A_k O^(d-k) + E_(k+1) Y, with none after a_d; the sum of the terms
-- from i = k on is E_k Y^k, and k = 0 is the claim. What is above 0 is added up in p and what is below in n, and nothing cancels: these are equations of pairs.
use mathlib.Core.Path.{◌≡◌, refl, sym, ap, ap₂, ◌∙◌}
use mathlib.Core.Logic.{inl, inr}
use mathlib.Core.Bool.{Bool, true, false, ◌&&◌}
use mathlib.Core.List.{List}
use Prim.Native.Nat.{ℕ, zero, suc, ◌+◌, ◌-◌, ◌*◌, ◌%◌, ◌^◌}
use native.Mathlib.Nat.{add-zero, zero-mul, pow-zero, pow-suc, eq-zero-or-pos}
use native.Mathlib.Numerals.{add-one}
use native.Mathlib.Omega.{arith}
use lib.Dec.{eqb}
use lib.ListN.{get_or}
use lib.Ieee.{Float, nan, unlike}
use Rattle.facts.specs.Arrays.{fill_from}
use Rattle.facts.specs.Lists.{sum_of}
use Rattle.float.specs.Methods.{is_sign_negative_of}
use Rattle.float.specs.Units.{units_of}
use Rattle.rounding.specs.Units.{one_units}
use Rattle.rounding.specs.Diff.{Diff, ◌⊞◌, ◌⊠◌, ◌⊡◌, magnitude}
use Rattle.accuracy.specs.Terms.{signed_diff, signed_units, size_of, term_of, exact_of, M}
use Rattle.accuracy.proofs.Sizes.{signed_size, signed_magnitude}

-- ---- pairs
abbrev pair : ℕ → ℕ → Diff
pair a b = record { p = a; n = b }

-- a signed number times another, and times a natural number
signed_multiple : (s : Bool) (a c : ℕ) → signed_diff s a ⊡ c ≡ signed_diff s (a * c)
signed_multiple true a c = ap (λ (z : ℕ). pair z (a * c)) (zero-mul c)
signed_multiple false a c = ap (pair (a * c)) (zero-mul c)

signed_times : (s t : Bool) (a b : ℕ) → signed_diff s a ⊠ signed_diff t b ≡ signed_diff (unlike s t) (a * b)
signed_times true true a b = ap₂ pair (omega arith) (omega arith)
signed_times true false a b = ap₂ pair (omega arith) (omega arith)
signed_times false true a b = ap₂ pair (omega arith) (omega arith)
signed_times false false a b = ap₂ pair (omega arith) (omega arith)

-- ---- Y^k
abbrev power_of : Float → ℕ → Diff
power_of y k = signed_diff (is_sign_negative_of y && eqb (k % 2) 1) (units_of y ^ k)

no_power : (y : Float) → power_of y 0 ≡ pair 1 0
no_power y = ap (signed_diff (is_sign_negative_of y && false)) (pow-zero (units_of y)) ∙ go (is_sign_negative_of y)
  where
    go : (s : Bool) → signed_diff (s && false) 1 ≡ pair 1 0
    go true = refl
    go false = refl

sign_turns : (s : Bool) (k : ℕ) → unlike (s && eqb (k % 2) 1) s ≡ (s && eqb (suc k % 2) 1)
sign_turns false k = refl
sign_turns true k = elim (eq-zero-or-pos (k % 2)) [
  | inl z ↦ let o : suc k % 2 ≡ 1 = omega arith in rw (z, o)
  | inr z ↦ let l : k % 2 ≡ 1 = omega arith in let o : suc k % 2 ≡ 0 = omega arith in rw (l, o)
]

next_power : (y : Float) (k : ℕ) → power_of y k ⊠ signed_units y ≡ power_of y (suc k)
next_power y k =
    signed_times (is_sign_negative_of y && eqb (k % 2) 1) (is_sign_negative_of y) (units_of y ^ k) (units_of y)
    ∙ ap₂ signed_diff (sign_turns (is_sign_negative_of y) k) (sym (pow-suc (units_of y) k))

module _ (f : List Float) (d : ℕ) (y : Float) where
  -- ---- the rule's value, of n coefficients from a_k on
  unfoldable pub exact_from : ℕ → ℕ → Diff
  exact_from zero k = pair 0 0
  exact_from (suc n) k = signed_units (get_or f k nan) ⊡ one_units ^ n ⊞ exact_from n (suc k) ⊠ signed_units y

  -- n terms, from i = k on, added up
  abbrev total : ℕ → ℕ → Diff
  total n k = pair (sum_of (λ t. t.p) (fill_from k n (term_of f d y))) (sum_of (λ t. t.n) (fill_from k n (term_of f d y)))

  term_is : (k : ℕ) → term_of f d y k ≡ signed_units (get_or f k nan) ⊡ one_units ^ (d - k) ⊠ power_of y k
  unfolding term_of
  term_is k =
      sym (go (is_sign_negative_of (get_or f k nan)) (is_sign_negative_of y && eqb (k % 2) 1) (units_of (get_or f k nan)) (units_of y ^ k)
      (one_units ^ (d - k)))
    where
      go : (s t : Bool) (a b c : ℕ) → signed_diff s a ⊡ c ⊠ signed_diff t b ≡ signed_diff (unlike s t) (a * b * c)
      go s t a b c = ap (λ (x : Diff). x ⊠ signed_diff t b) (signed_multiple s a c) ∙ signed_times s t (a * c) b ∙ ap (signed_diff (unlike s t)) (omega arith)

  terms_from : (n k : ℕ) → n + k ≡ d + 1 → total n k ≡ exact_from n k ⊠ power_of y k
  unfolding exact_from
  terms_from zero k e = ap₂ pair (omega arith) (omega arith)
  terms_from (suc n) k e =
      let j : d - k ≡ n = omega arith in
      ap₂ ◌⊞◌ (term_is k ∙ ap (λ (j : ℕ). signed_units (get_or f k nan) ⊡ one_units ^ j ⊠ power_of y k) j)
      (ap (total n) (add-one k) ∙ terms_from n (suc k) (omega arith) ∙ ap (λ (x : Diff). exact_from n (suc k) ⊠ x) (sym (next_power y k)))
      ∙ factored (signed_units (get_or f k nan) ⊡ one_units ^ n) (exact_from n (suc k)) (signed_units y) (power_of y k)
    where
      factored : (a x y z : Diff) → a ⊠ z ⊞ x ⊠ (z ⊠ y) ≡ (a ⊞ x ⊠ y) ⊠ z
      factored a x y z = ap₂ pair (omega arith) (omega arith)

  pub exact_is : exact_of f d y ≡ exact_from (suc d) 0
  unfolding exact_of
  exact_is =
      terms_from (d + 1) 0 (add-zero (d + 1)) ∙ ap (λ (x : Diff). exact_from (d + 1) 0 ⊠ x) (no_power y) ∙ times_one (exact_from (d + 1) 0)
      ∙ ap (λ (n : ℕ). exact_from n 0) (add-one d)
    where
      times_one : (x : Diff) → x ⊠ pair 1 0 ≡ x
      times_one x = ap₂ pair (omega arith) (omega arith)

  -- ---- the sizes of the terms: one of the two parts of each is 0
  term_size : (k : ℕ) → size_of (term_of f d y k) ≡ magnitude (term_of f d y k)
  unfolding term_of
  term_size k =
      go (unlike (is_sign_negative_of (get_or f k nan)) (is_sign_negative_of y && eqb (k % 2) 1))
      (units_of (get_or f k nan) * units_of y ^ k * one_units ^ (d - k))
    where
      go : (s : Bool) (a : ℕ) → size_of (signed_diff s a) ≡ magnitude (signed_diff s a)
      go s a = signed_size s a ∙ sym (signed_magnitude s a)

  sizes : (n k : ℕ) → sum_of size_of (fill_from k n (term_of f d y)) ≡ magnitude (total n k)
  sizes zero k = refl
  sizes (suc n) k = omega (arith, term_size k, sizes n (k + 1))

  pub sizes_are : M f d y ≡ magnitude (exact_of f d y)
  unfolding M exact_of
  sizes_are = sizes (d + 1) 0
