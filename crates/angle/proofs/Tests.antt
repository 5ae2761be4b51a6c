-- The test for s, which compares the square of the tripled sine with the gap in eight words, on its grid.
use mathlib.Core.Path.{◌≡◌, refl, sym, ap, ap₂, ◌∙◌}
use mathlib.Core.Bool.{Bool, true, false}
use Prim.Native.Nat.{ℕ, ◌+◌, ◌-◌, ◌*◌, ◌%◌, ◌^◌, ◌≤◌, ◌<◌}
use native.Mathlib.Omega.{arith}
use native.Mathlib.Nat.{le_trans, lt_of_le_of_lt, lt_of_lt_of_le, mul_assoc, mul-pos, mul-le-mul}
use native.Mathlib.Nat.{mul-mul-mul_comm, mod-eq_of_lt}
use borrow.Author.Tests.{le-leb, lt-leb}
use lib.Dec.{leb, lit<, lit≤}
use lib.Pow.{pow-add, pow_pos, pow_mono}
use Rattle.algebra.specs.RingNat.{ring, #, ◌:*◌, ◌:=◌}
use Rattle.nearest.proofs.Powers.{leb_scaled}
use Rattle.angle.specs.Parts.{tripled, within, sin_le}
use Rattle.angle.proofs.Rise.{leb_same}
use Rattle.angle.proofs.Gap.{tripled_scaled, within_scaled}

-- ---- the test

module _ (s : Bool) (g k t : ℕ) (a : t ≤ 2 ^ 54) (b : 54 ≤ k) (c : k ≤ 81) where
  inside : (s : Bool) (r : ℕ) → r ≡ tripled (2 ^ (k - 1)) t * 2 ^ (244 - 3 * k)
      → within s (g * 2 ^ 256) (r * r) ≡ within s (g * 2 ^ (6 * k - 232)) (tripled (2 ^ (k - 1)) t * tripled (2 ^ (k - 1)) t)
  inside s r e =
      ap (λ (x : ℕ). within s (g * 2 ^ 256) (x * x)) e
      ∙ within_scaled s (tripled (2 ^ (k - 1)) t) g (2 ^ (244 - 3 * k)) (2 ^ (6 * k - 232)) (2 ^ 256) (pow_pos (244 - 3 * k))
      (ap (λ (x : ℕ). 2 ^ (6 * k - 232) * x) (sym (pow-add 2 (244 - 3 * k) (244 - 3 * k)))
      ∙ sym (pow-add 2 (6 * k - 232) (244 - 3 * k + (244 - 3 * k)))
      ∙ ap (λ (x : ℕ). 2 ^ x) (let q : 6 * k - 232 + (244 - 3 * k + (244 - 3 * k)) ≡ 256 = omega arith in q))

  -- where s is small, all that is tried is up to a half
  module _ (d : 60 < k) where
    below_half : leb t (2 ^ (k - 1)) ≡ true
    below_half = le-leb t (2 ^ (k - 1)) (le_trans a (pow_mono (let q : 54 ≤ k - 1 = omega arith in q)))

    pub small_passes : s ≡ true → s ≡ sin_le s g k t
    small_passes e = simp (e, below_half) refl

    pub small_within : (b : Bool) (r : ℕ) → s ≡ false → r ≡ tripled (2 ^ (k - 1)) t * 2 ^ (244 - 3 * k)
        → b ≡ within false (g * 2 ^ 256) (r * r) → b ≡ sin_le s g k t
    small_within b r e f i = i ∙ inside false r f ∙ sym (simp (e, below_half) refl)

  -- elsewhere the grid is that of 2 ^ -60, and u is t there
  module _ (u : ℕ) (d : k ≤ 60) (e : u ≡ t * 2 ^ (60 - k) % 2 ^ 64) where
    X : ℕ
    X = 2 ^ (60 - k)

    h : ℕ
    h = 2 ^ (k - 1)

    half : h * X ≡ 2 ^ 59
    unfolding X h
    half = sym (pow-add 2 (k - 1) (60 - k)) ∙ ap (λ (x : ℕ). 2 ^ x) (let q : k - 1 + (60 - k) ≡ 59 = omega arith in q)

    is : u ≡ t * X
    unfolding X
    is =
        e
        ∙ mod-eq_of_lt
        (lt_of_le_of_lt (mul-le-mul {n₁ = t} {m₁ = 2 ^ (60 - k)} {n₂ = 2 ^ 54} {m₂ = 2 ^ 6} a (pow_mono (let q : 60 - k ≤ 6 = omega arith in q))) (lit< tt))

    at_half : leb u (2 ^ 59) ≡ leb t (2 ^ (k - 1))
    unfolding X h
    at_half = ap₂ leb is (sym half) ∙ leb_scaled t (2 ^ (k - 1)) (2 ^ (60 - k)) (pow_pos (60 - k))

    at_top : leb (u * u) (3 * 2 ^ 118) ≡ leb (t * t) (3 * (2 ^ (k - 1) * 2 ^ (k - 1)))
    unfolding X h
    at_top =
        ap₂ leb (ap (λ (x : ℕ). x * x) is ∙ mul-mul-mul_comm t X t X)
        (ap (λ (x : ℕ). 3 * (x * x)) (sym half) ∙ ring 2 (λ h X. # 3 :* (h :* X :* (h :* X)) := # 3 :* (h :* h) :* (X :* X)) tt h X)
        ∙ leb_scaled (t * t) (3 * (h * h)) (X * X) (mul-pos (pow_pos (60 - k)) (pow_pos (60 - k)))

    -- 998459311558907193 is the whole part of √(3 * 2 ^ 118)
    at_root : leb u 998459311558907193 ≡ leb (u * u) (3 * 2 ^ 118)
    at_root =
        leb_same u 998459311558907193 (u * u) (3 * 2 ^ 118) (λ l. le_trans (mul-le-mul l l) (lit≤ tt))
        (λ l. lt_of_lt_of_le (let q : 3 * 2 ^ 118 < 998459311558907194 * 998459311558907194 = lit< tt in q) (mul-le-mul l l))

    large : (r : ℕ) → r ≡ tripled (2 ^ 59) u * 2 ^ 64 → r ≡ tripled (2 ^ (k - 1)) t * 2 ^ (244 - 3 * k)
    unfolding X h
    large r f =
        f
        ∙ ap (λ (x : ℕ). x * 2 ^ 64) (ap₂ tripled (sym half) is ∙ tripled_scaled h t X)
        ∙ mul_assoc (tripled h t) (X * X * X) (2 ^ 64)
        ∙ ap (λ (x : ℕ). tripled h t * x)
        (ap (λ (x : ℕ). x * X * 2 ^ 64) (sym (pow-add 2 (60 - k) (60 - k)))
        ∙ ap (λ (x : ℕ). x * 2 ^ 64) (sym (pow-add 2 (60 - k + (60 - k)) (60 - k)))
        ∙ sym (pow-add 2 (60 - k + (60 - k) + (60 - k)) 64)
        ∙ ap (λ (x : ℕ). 2 ^ x) (let q : 60 - k + (60 - k) + (60 - k) + 64 ≡ 244 - 3 * k = omega arith in q))

    on_grid : leb t (2 ^ (k - 1)) ≡ leb u (2 ^ 59)
    on_grid = sym at_half

    of_root : leb (t * t) (3 * (2 ^ (k - 1) * 2 ^ (k - 1))) ≡ leb u 998459311558907193
    of_root = sym (at_root ∙ at_top)

    -- what the gap says of u, where both sines are on one side of a half
    pub low_passes : s ≡ true → u ≤ 2 ^ 59 → leb u (2 ^ 59) ≡ sin_le s g k t
    low_passes p l = simp (p, on_grid, le-leb u (2 ^ 59) l) refl

    pub high_fails : s ≡ true → 2 ^ 59 < u → 998459311558907193 < u → leb u 998459311558907193 ≡ sin_le s g k t
    high_fails p l m = simp (p, on_grid, of_root, lt-leb u (2 ^ 59) l, lt-leb u 998459311558907193 m) refl

    pub high_none : s ≡ false → 2 ^ 59 < u → leb u (2 ^ 59) ≡ sin_le s g k t
    high_none p l = simp (p, on_grid, lt-leb u (2 ^ 59) l) refl

    module _ (x : Bool) (r : ℕ) (f : r ≡ tripled (2 ^ 59) u * 2 ^ 64) where
      pub low_within : s ≡ false → u ≤ 2 ^ 59 → x ≡ within false (g * 2 ^ 256) (r * r) → x ≡ sin_le s g k t
      low_within p l i = i ∙ inside false r (large r f) ∙ sym (simp (p, on_grid, le-leb u (2 ^ 59) l) refl)

      pub high_within : s ≡ true → 2 ^ 59 < u → u ≤ 998459311558907193 → x ≡ within true (g * 2 ^ 256) (r * r) → x ≡ sin_le s g k t
      high_within p l m i =
          i ∙ inside true r (large r f) ∙ sym (simp (p, on_grid, of_root, lt-leb u (2 ^ 59) l, le-leb u 998459311558907193 m) refl)
