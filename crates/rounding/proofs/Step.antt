-- One step of the compensated Horner rule, in numbers: how the bounds on the value, on its correction and on their distance from the exact value grow
-- (`stepped`). v and r are the value and its correction so far, y the place, c the next coefficient; p and π are the product v y and its error, s and σ the sum
-- p + c and its error, g = r y, f = π + σ, and e = g + f the next correction, each rounded.
-- 2 ^ 53 h units bound the sum of the sizes of the terms so far, and 2 ^ 53 k units the next such sum.
-- From |v| ≤ 2 ^ 53 h + α h + β and |r| ≤ ρ h + τ, with |y| ≤ 4:
--   |s| ≤ 2 ^ 53 k + (α + 4) k + (4 β + 3)
--   |e| ≤ (ρ + 8) k + (6 τ + 2 ^ 66)
--   2 ^ 53 |(s + e) - ((v + r) y + c)| ≤ (2 ρ + 26) k + (9 τ + 2 ^ 118)
-- The 26 is 14 of the sum's error (7 * 2 k), 5 of rounding π + σ and 7 of rounding e; 2 ρ is of rounding r y and e;
-- and 2 ^ 117 of 2 ^ 118 is of the product's error, 2 ^ 64 units.
use mathlib.Core.Path.{◌≡◌, refl, sym, ap, ◌∙◌, subst}
use mathlib.Core.Logic.{inl, inr}
use Prim.Native.Nat.{ℕ, ◌+◌, ◌*◌, ◌^◌, ◌≤◌, ◌<◌}
use native.Mathlib.Nat.{le_refl, le_trans, le_of_eq, le-add_right, add_comm, zero-mul}
use native.Mathlib.Nat.{le_of_mul-le-mul_right, le_of_mul-le-mul_left, mul-le-mul_right, mul-le-mul_left, mul_assoc}
use native.Mathlib.Omega.{arith}
use lib.Dec.{lit<}
use Rattle.rounding.specs.Diff.{Diff, ◌⊞◌, ◌⊟◌, ◌⊠◌, ◌⊡◌, Apart, SizeAtMost, OneSided, magnitude}
use Rattle.rounding.proofs.Diff.{within_le, within_sum, within_near, within_cancel, within_magnitude}
use Rattle.rounding.proofs.Diff.{magnitude_le, apart_le, apart_times, product_within}
use Rattle.rounding.proofs.Moved.{Rounds, sum_relative, product_relative, sum_moved, product_moved}

-- ---- how the bounds grow with the place
module _ (h k Y C s : ℕ) (link : 2 ^ 53 * (h * Y) + C * s ≤ 2 ^ 53 * (k * s)) (place : Y ≤ 4 * s) where
  terms : h * Y ≤ k * s
  terms = le_of_mul-le-mul_left {k = 2 ^ 53} (le_trans (le-add_right (2 ^ 53 * (h * Y)) (C * s)) link) (lit< tt)

  -- a size of m h + b, times the place
  pub grown : (m b : ℕ) → (m * h + b) * Y ≤ (m * k + 4 * b) * s
  grown m b = go m b (h * Y) (k * s) h k Y s refl refl (mul-le-mul_left m terms) (mul-le-mul_left b place)
    where
      go : (m b u w h k Y s : ℕ) → u ≡ h * Y → w ≡ k * s → m * u ≤ m * w → b * Y ≤ b * (4 * s) → (m * h + b) * Y ≤ (m * k + 4 * b) * s
      go m b u w h k Y s x y p q =
          subst (λ (z : ℕ). m * z ≤ m * w → (m * h + b) * Y ≤ (m * k + 4 * b) * s) (sym x)
          (subst (λ (z : ℕ). m * (h * Y) ≤ m * z → (m * h + b) * Y ≤ (m * k + 4 * b) * s) (sym y) (λ t. omega arith)) p

  -- the value's, with the next coefficient
  grown_value : (α β : ℕ) → (2 ^ 53 * h + (α * h + β)) * Y + C * s ≤ (2 ^ 53 * k + (α * k + 4 * β)) * s
  grown_value α β = let g = grown α β in omega arith

-- ---- the errors of the five operations add up
sum_errors : (p π c s σ g f e : Diff) (W b3 b4 b5 : ℕ)
    → Apart (σ ⊡ W) ((p ⊞ c ⊟ s) ⊡ W) b3 → Apart (f ⊡ W) ((π ⊞ σ) ⊡ W) b4 → Apart (e ⊡ W) ((g ⊞ f) ⊡ W) b5
    → Apart ((s ⊞ e) ⊡ W) ((p ⊞ π ⊞ g ⊞ c) ⊡ W) (b3 + b4 + b5)
sum_errors p π c s σ g f e W b3 b4 b5 h3 h4 h5 = (omega arith, omega arith)

times_sum : (t x g c : Diff) (D W b : ℕ) → Apart (t ⊡ W) ((x ⊞ g ⊞ c) ⊡ W) b → Apart (t ⊡ D ⊡ W) (x ⊡ D ⊡ W ⊞ g ⊡ D ⊡ W ⊞ c ⊡ D ⊡ W) (b * D)
times_sum t x g c D W b h = (omega (arith, mul-le-mul_right D h.0), omega (arith, mul-le-mul_right D h.1))

joined : (t x g c u w : Diff) (b1 b2 b : ℕ) → Apart x u b1 → Apart g w b2 → Apart t (x ⊞ g ⊞ c) b → Apart t (u ⊞ w ⊞ c) (b1 + b2 + b)
joined t x g c u w b1 b2 b h1 h2 h = (omega arith, omega arith)

errors : (u w x g c t : Diff) (D W b1 b2 b : ℕ) → Apart (x ⊡ D) u b1 → Apart (g ⊡ D ⊡ W) (w ⊡ W) b2 → Apart (t ⊡ W) ((x ⊞ g ⊞ c) ⊡ W) b
    → Apart (t ⊡ D ⊡ W) (u ⊡ W ⊞ w ⊡ W ⊞ c ⊡ D ⊡ W) (b1 * W + b2 + b * D)
errors u w x g c t D W b1 b2 b h1 h2 h =
    joined (t ⊡ D ⊡ W) (x ⊡ D ⊡ W) (g ⊡ D ⊡ W) (c ⊡ D ⊡ W) (u ⊡ W) (w ⊡ W) (b1 * W) b2 (b * D) (apart_times (x ⊡ D) u b1 W h1) h2 (times_sum t x g c D W b h)

-- ---- what is known of the next value s and the next correction e
pub record Stepped (v r y c s e : Diff) (k α β ρ τ D : ℕ) : Type 0 where
  pub value : magnitude s ≤ 2 ^ 53 * k + ((α + 4) * k + (4 * β + 3))
  pub correction : magnitude e ≤ (ρ + 8) * k + (6 * τ + 2 ^ 66)
  pub near : Apart ((s ⊞ e) ⊡ D ⊡ 2 ^ 53) ((v ⊠ y) ⊡ 2 ^ 53 ⊞ (r ⊠ y) ⊡ 2 ^ 53 ⊞ c ⊡ D ⊡ 2 ^ 53) (((2 * ρ + 26) * k + (9 * τ + 2 ^ 118)) * D)

module _ (v r y c p π s σ g f e : Diff) (h k α β ρ τ D : ℕ) (D-pos : 0 < D)
    (link : 2 ^ 53 * (h * magnitude y) + magnitude c * D ≤ 2 ^ 53 * (k * D)) (place : magnitude y ≤ 4 * D)
    (v-size : magnitude v ≤ 2 ^ 53 * h + (α * h + β)) (r-size : magnitude r ≤ ρ * h + τ)
    (α-few : α ≤ 2 ^ 20) (β-few : β ≤ 2 ^ 20) (ρ-few : ρ ≤ 2 ^ 20)
    (P : Rounds (v ⊠ y) D p) (PC : Apart ((p ⊞ π) ⊡ D) (v ⊠ y) (2 ^ 64 * D))
    (S : Rounds (p ⊞ c) 1 s) (SC : (q : ℕ) → magnitude p + magnitude c ≤ 2 ^ 53 * q → Apart (σ ⊡ 2 ^ 53) ((p ⊞ c ⊟ s) ⊡ 2 ^ 53) (7 * q))
    (G : Rounds (r ⊠ y) D g) (F : Rounds (π ⊞ σ) 1 f) (E : Rounds (g ⊞ f) 1 e)
    (p-side : OneSided p) (s-side : OneSided s) (e-side : OneSided e) where
  -- ---- v y
  vy_bound : ℕ
  vy_bound = (2 ^ 53 * h + (α * h + β)) * magnitude y

  vy_within : SizeAtMost (v ⊠ y) vy_bound
  unfolding vy_bound
  vy_within =
      within_le (v ⊠ y) (magnitude v * magnitude y) vy_bound (mul-le-mul_right (magnitude y) v-size)
      (product_within v y (magnitude v) (magnitude y) (within_magnitude v) (within_magnitude y))

  vy_le : vy_bound + magnitude c * D ≤ (2 ^ 53 * k + (α * k + 4 * β)) * D
  unfolding vy_bound
  vy_le = grown_value h k (magnitude y) (magnitude c) D link place α β

  -- ---- p = v y
  p_near : Apart (p ⊡ D) (v ⊠ y) ((2 * k + 1 + 1) * D)
  p_near =
      product_moved (v ⊠ y) p (2 * k + 1) D D-pos P
      (within_le (v ⊠ y) vy_bound (2 ^ 53 * ((2 * k + 1) * D))
      (go vy_bound (magnitude c * D) (α * k + 4 * β) k D vy_le (mul-le-mul_right D rest_few)) vy_within)
    where
      rest_few : α * k + 4 * β ≤ 2 ^ 53 * k + 2 ^ 53
      rest_few = few α k β (mul-le-mul_right k α-few) β-few
        where
          few : (α k β : ℕ) → α * k ≤ 2 ^ 20 * k → β ≤ 2 ^ 20 → α * k + 4 * β ≤ 2 ^ 53 * k + 2 ^ 53
          few α k β h l = omega arith

      go : (m C x k D : ℕ) → m + C ≤ (2 ^ 53 * k + x) * D → x * D ≤ (2 ^ 53 * k + 2 ^ 53) * D → m ≤ 2 ^ 53 * ((2 * k + 1) * D)
      go m C x k D h l = omega arith

  p_size : magnitude p + magnitude c ≤ 2 ^ 53 * k + ((α + 2) * k + (4 * β + 2))
  p_size =
      let m = magnitude_times (magnitude_le (p ⊡ D) (vy_bound + (2 * k + 1 + 1) * D) side vy_near) in
      le_of_mul-le-mul_right (go (magnitude p) (magnitude c) vy_bound α β k D vy_le m) D-pos
    where
      side : OneSided (p ⊡ D)
      side = elim p-side [ inl z ↦ inl (ap (λ (x : ℕ). x * D) z ∙ zero-mul D) | inr z ↦ inr (ap (λ (x : ℕ). x * D) z ∙ zero-mul D) ]

      vy_near : SizeAtMost (p ⊡ D) (vy_bound + (2 * k + 1 + 1) * D)
      vy_near =
          within_near (p ⊡ D) (v ⊠ y) ((2 * k + 1 + 1) * D) vy_bound (vy_bound + (2 * k + 1 + 1) * D) p_near vy_within
          (le_of_eq (add_comm ((2 * k + 1 + 1) * D) vy_bound))

      magnitude_times : p.p * D + p.n * D ≤ vy_bound + (2 * k + 1 + 1) * D → magnitude p * D ≤ vy_bound + (2 * k + 1 + 1) * D
      magnitude_times h = omega arith

      go : (m C b α β k D : ℕ) → b + C * D ≤ (2 ^ 53 * k + (α * k + 4 * β)) * D → m * D ≤ b + (2 * k + 1 + 1) * D
          → (m + C) * D ≤ (2 ^ 53 * k + ((α + 2) * k + (4 * β + 2))) * D
      go m C b α β k D h l = omega arith

  p_few : magnitude p + magnitude c ≤ 2 ^ 53 * (2 * k + 1)
  p_few = le_trans p_size (few α k β (mul-le-mul_right k α-few) β-few)
    where
      few : (α k β : ℕ) → α * k ≤ 2 ^ 20 * k → β ≤ 2 ^ 20 → 2 ^ 53 * k + ((α + 2) * k + (4 * β + 2)) ≤ 2 ^ 53 * (2 * k + 1)
      few α k β h l = omega arith

  -- ---- s = p + c, and its error σ
  p+c : SizeAtMost (p ⊞ c) (magnitude p + magnitude c)
  p+c = within_sum p c (magnitude p) (magnitude c) (magnitude p + magnitude c) (within_magnitude p) (within_magnitude c) (le_refl (magnitude p + magnitude c))

  s_near : Apart s (p ⊞ c) (2 * k + 1)
  s_near = sum_moved (p ⊞ c) s (2 * k + 1) S (within_le (p ⊞ c) (magnitude p + magnitude c) (2 ^ 53 * (2 * k + 1)) p_few p+c)

  value_size : magnitude s ≤ 2 ^ 53 * k + ((α + 4) * k + (4 * β + 3))
  value_size =
      let b = 2 ^ 53 * k + ((α + 4) * k + (4 * β + 3)) in
      magnitude_le s b s-side (within_near s (p ⊞ c) (2 * k + 1) (magnitude p + magnitude c) b s_near p+c (go (magnitude p + magnitude c) α β k p_size))
    where
      go : (m α β k : ℕ) → m ≤ 2 ^ 53 * k + ((α + 2) * k + (4 * β + 2)) → 2 * k + 1 + m ≤ 2 ^ 53 * k + ((α + 4) * k + (4 * β + 3))
      go m α β k h = omega arith

  σ_near : Apart (σ ⊡ 2 ^ 53) ((p ⊞ c ⊟ s) ⊡ 2 ^ 53) (7 * (2 * k + 1))
  σ_near = SC (2 * k + 1) p_few

  σ_few : SizeAtMost σ (3 * k + 2)
  σ_few = go σ (p ⊞ c) s k σ_near s_near
    where
      go : (σ x s : Diff) (k : ℕ) → Apart (σ ⊡ 2 ^ 53) ((x ⊟ s) ⊡ 2 ^ 53) (7 * (2 * k + 1)) → Apart s x (2 * k + 1) → SizeAtMost σ (3 * k + 2)
      go σ x s k h l = (omega arith, omega arith)

  -- ---- the product's error π
  π_few : SizeAtMost π (2 * k + 2 + 2 ^ 64)
  π_few = within_cancel π (2 * k + 2 + 2 ^ 64) D D-pos (go p π (v ⊠ y) k D PC p_near)
    where
      go : (p π x : Diff) (k D : ℕ) → Apart ((p ⊞ π) ⊡ D) x (2 ^ 64 * D) → Apart (p ⊡ D) x ((2 * k + 1 + 1) * D) → SizeAtMost (π ⊡ D) ((2 * k + 2 + 2 ^ 64) * D)
      go p π x k D h l = (omega arith, omega arith)

  -- ---- f = π + σ
  π+σ : SizeAtMost (π ⊞ σ) (5 * k + (4 + 2 ^ 64))
  π+σ = within_sum π σ (2 * k + 2 + 2 ^ 64) (3 * k + 2) (5 * k + (4 + 2 ^ 64)) π_few σ_few (omega arith)

  f_few : SizeAtMost f (6 * k + 2 ^ 65)
  f_few =
      within_near f (π ⊞ σ) (k + 2 ^ 12) (5 * k + (4 + 2 ^ 64)) (6 * k + 2 ^ 65)
      (sum_moved (π ⊞ σ) f (k + 2 ^ 12) F (within_le (π ⊞ σ) (5 * k + (4 + 2 ^ 64)) (2 ^ 53 * (k + 2 ^ 12)) (few k) π+σ)) π+σ (room k)
    where
      few : (k : ℕ) → 5 * k + (4 + 2 ^ 64) ≤ 2 ^ 53 * (k + 2 ^ 12)
      few k = omega arith

      room : (k : ℕ) → k + 2 ^ 12 + (5 * k + (4 + 2 ^ 64)) ≤ 6 * k + 2 ^ 65
      room k = omega arith

  f_near : Apart (f ⊡ 2 ^ 53) ((π ⊞ σ) ⊡ 2 ^ 53) (5 * k + (4 + 2 ^ 64))
  f_near = sum_relative (π ⊞ σ) f (5 * k + (4 + 2 ^ 64)) F π+σ

  -- ---- g = r y
  ry_within : SizeAtMost (r ⊠ y) ((ρ * k + 4 * τ) * D)
  ry_within =
      within_le (r ⊠ y) (magnitude r * magnitude y) ((ρ * k + 4 * τ) * D)
      (le_trans (mul-le-mul_right (magnitude y) r-size) (grown h k (magnitude y) (magnitude c) D link place ρ τ))
      (product_within r y (magnitude r) (magnitude y) (within_magnitude r) (within_magnitude y))

  g_near : Apart (g ⊡ D ⊡ 2 ^ 53) ((r ⊠ y) ⊡ 2 ^ 53) ((ρ * k + 4 * τ) * D + 2 ^ 52 * D)
  g_near = product_relative (r ⊠ y) g ((ρ * k + 4 * τ) * D) D D-pos G ry_within

  g_few : SizeAtMost g ((ρ + 1) * k + (5 * τ + 1))
  g_few =
      within_cancel g ((ρ + 1) * k + (5 * τ + 1)) D D-pos
      (within_near (g ⊡ D) (r ⊠ y) ((k + τ + 1) * D) ((ρ * k + 4 * τ) * D) (((ρ + 1) * k + (5 * τ + 1)) * D)
      (product_moved (r ⊠ y) g (k + τ) D D-pos G
      (within_le (r ⊠ y) ((ρ * k + 4 * τ) * D) (2 ^ 53 * ((k + τ) * D)) (ry_few ρ k τ D (mul-le-mul_right k ρ-few)) ry_within))
      ry_within (room ρ k τ D))
    where
      ry_few : (ρ k τ D : ℕ) → ρ * k ≤ 2 ^ 20 * k → (ρ * k + 4 * τ) * D ≤ 2 ^ 53 * ((k + τ) * D)
      ry_few ρ k τ D h = le_trans (mul-le-mul_right D (few (ρ * k) k τ h)) (le_of_eq (mul_assoc (2 ^ 53) (k + τ) D))
        where
          few : (x k τ : ℕ) → x ≤ 2 ^ 20 * k → x + 4 * τ ≤ 2 ^ 53 * (k + τ)
          few x k τ h = omega arith

      room : (ρ k τ D : ℕ) → (k + τ + 1) * D + (ρ * k + 4 * τ) * D ≤ ((ρ + 1) * k + (5 * τ + 1)) * D
      room ρ k τ D = omega arith

  -- ---- e = g + f
  g+f : SizeAtMost (g ⊞ f) ((ρ + 7) * k + (5 * τ + (1 + 2 ^ 65)))
  g+f = within_sum g f ((ρ + 1) * k + (5 * τ + 1)) (6 * k + 2 ^ 65) ((ρ + 7) * k + (5 * τ + (1 + 2 ^ 65))) g_few f_few (omega arith)

  e_near : Apart (e ⊡ 2 ^ 53) ((g ⊞ f) ⊡ 2 ^ 53) ((ρ + 7) * k + (5 * τ + (1 + 2 ^ 65)))
  e_near = sum_relative (g ⊞ f) e ((ρ + 7) * k + (5 * τ + (1 + 2 ^ 65))) E g+f

  correction_size : magnitude e ≤ (ρ + 8) * k + (6 * τ + 2 ^ 66)
  correction_size =
      let a = (ρ + 7) * k + (5 * τ + (1 + 2 ^ 65)) in
      let b = (ρ + 8) * k + (6 * τ + 2 ^ 66) in
      magnitude_le e b e-side
      (within_near e (g ⊞ f) (k + τ + 2 ^ 13) a b
      (sum_moved (g ⊞ f) e (k + τ + 2 ^ 13) E (within_le (g ⊞ f) a (2 ^ 53 * (k + τ + 2 ^ 13)) (few ρ k τ (mul-le-mul_right k ρ-few)) g+f))
      g+f (room ρ k τ))
    where
      few : (ρ k τ : ℕ) → ρ * k ≤ 2 ^ 20 * k → (ρ + 7) * k + (5 * τ + (1 + 2 ^ 65)) ≤ 2 ^ 53 * (k + τ + 2 ^ 13)
      few ρ k τ h = omega arith

      room : (ρ k τ : ℕ) → k + τ + 2 ^ 13 + ((ρ + 7) * k + (5 * τ + (1 + 2 ^ 65))) ≤ (ρ + 8) * k + (6 * τ + 2 ^ 66)
      room ρ k τ = omega arith

  -- ---- what the step adds to the distance from the exact value
  step_near : Apart ((s ⊞ e) ⊡ D ⊡ 2 ^ 53) ((v ⊠ y) ⊡ 2 ^ 53 ⊞ (r ⊠ y) ⊡ 2 ^ 53 ⊞ c ⊡ D ⊡ 2 ^ 53) (((2 * ρ + 26) * k + (9 * τ + 2 ^ 118)) * D)
  step_near =
      let b2 = (ρ * k + 4 * τ) * D + 2 ^ 52 * D in
      let b3 = 7 * (2 * k + 1) in
      let b4 = 5 * k + (4 + 2 ^ 64) in
      let b5 = (ρ + 7) * k + (5 * τ + (1 + 2 ^ 65)) in
      let sums = sum_errors p π c s σ g f e (2 ^ 53) b3 b4 b5 σ_near f_near e_near in
      apart_le ((s ⊞ e) ⊡ D ⊡ 2 ^ 53) ((v ⊠ y) ⊡ 2 ^ 53 ⊞ (r ⊠ y) ⊡ 2 ^ 53 ⊞ c ⊡ D ⊡ 2 ^ 53)
      (2 ^ 64 * D * 2 ^ 53 + b2 + (b3 + b4 + b5) * D) (((2 * ρ + 26) * k + (9 * τ + 2 ^ 118)) * D) (room ρ k τ D)
      (errors (v ⊠ y) (r ⊠ y) (p ⊞ π) g c (s ⊞ e) D (2 ^ 53) (2 ^ 64 * D) b2 (b3 + b4 + b5) PC g_near sums)
    where
      room : (ρ k τ D : ℕ)
          → 2 ^ 64 * D * 2 ^ 53 + ((ρ * k + 4 * τ) * D + 2 ^ 52 * D) + (7 * (2 * k + 1) + (5 * k + (4 + 2 ^ 64)) + ((ρ + 7) * k + (5 * τ + (1 + 2 ^ 65)))) * D
          ≤ ((2 * ρ + 26) * k + (9 * τ + 2 ^ 118)) * D
      room ρ k τ D = omega arith

  pub stepped : Stepped v r y c s e k α β ρ τ D
  stepped = record { value = value_size; correction = correction_size; near = step_near }
