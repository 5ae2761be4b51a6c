-- The function's test for c, and c by that test.
use mathlib.Core.Path.{◌≡◌, refl, sym, ap, ◌∙◌, subst}
use mathlib.Core.Bool.{Bool, true, false, not, ◌||◌}
use Prim.Native.Nat.{ℕ, suc, ◌+◌, ◌-◌, ◌*◌, ◌^◌, ◌≤◌, ◌<◌, zero-le}
use native.Mathlib.Omega.{arith}
use native.Mathlib.Nat.{le_trans, le_of_suc-le-suc, le_of_mul-le-mul_right, mul-le-mul, mul_comm}
use borrow.Author.Tests.{le-leb, lt-leb, eqb-true}
use lib.Dec.{T, leb, eqb, leb→le, le→leb, lit<, lit≤}
use lib.Pow.{pow_pos}
use lib.Ieee.{Float, odd}
use Rattle.decode.specs.Shape.{Normal}
use Rattle.nearest.specs.Greatest.{nearest_of, NearestHalf}
use Rattle.nearest.proofs.Search.{found}
use Rattle.nearest.proofs.ByTest.{Monotone, Sized, apart, odd_middle, by_test}
use Rattle.angle.specs.Third.{left, right, at_most_solution, cos_units}
use Rattle.angle.specs.Parts.{rise, level_of, cos_le}
use Rattle.angle.proofs.Rise as rises
use Rattle.angle.proofs.Rise.{rise_ordered, rise_none, grid}
use Rattle.angle.proofs.Levels.{level_lt}
use Rattle.angle.proofs.Ties.{cos_no_tie}

-- ---- the test

pub half_passes : (level t : ℕ) → t ≤ 2 ^ 53 → cos_le level t ≡ true
half_passes level t h = ap (λ (x : ℕ). leb x level) (rise_none (2 ^ 53) t h) ∙ le-leb 0 level zero-le

-- the rise has the square first, and `test_cos` the other factor
pub ruleset turned = (mul_comm)

pub square_lt : (y hi lo : ℕ) → y < 3 * 2 ^ 53 → hi * 2 ^ 64 + lo ≡ y * y → hi < 2 ^ 50
square_lt y hi lo h e =
    let m : y * y ≤ 3 * 2 ^ 53 * (3 * 2 ^ 53) = mul-le-mul (let l : y ≤ 3 * 2 ^ 53 = omega arith in l) (let l : y ≤ 3 * 2 ^ 53 = omega arith in l) in
    omega arith

-- y * y by its two words, and x the product of the two
pub rise_is : (t hi lo x : ℕ) → let y = t - 2 ^ 53 in hi * 2 ^ 64 + lo ≡ y * y → x ≡ (y + 3 * 2 ^ 53) * (hi * 2 ^ 64 + lo) → x ≡ rise (2 ^ 53) t
rise_is t hi lo x e f = let y = t - 2 ^ 53 in f ∙ ap (λ (z : ℕ). (y + 3 * 2 ^ 53) * z) e ∙ mul_comm (y + 3 * 2 ^ 53) (y * y)

pub monotone : (level : ℕ) → Monotone (cos_le level)
monotone level a b h t = le→leb (rise (2 ^ 53) a) level (le_trans (rise_ordered (2 ^ 53) a b h) (leb→le (rise (2 ^ 53) b) level t))

-- c is below 1
pub one_fails : (level : ℕ) → level < 2 ^ 161 → cos_le level (2 ^ 54) ≡ false
one_fails level h = lt-leb (2 ^ 161) level h

pub sized : (level : ℕ) → level < 2 ^ 161 → Sized (cos_le level)
sized level h = record { least = le-leb 0 level zero-le; most = one_fails level h }

-- ---- the double nearest to c, for a v of n units and the digits w, k

abbrev pub nearest_cos : Bool → ℕ → Float
nearest_cos s n = let t = cos_units s n in nearest_of t (eqb (left s n t) (right s n t))

module _ (s : Bool) (n w k m : ℕ) (d : Normal n w k) (h : n ≤ 2 ^ 1074) (l : k < 1074) where
  at : (b : ℕ) → at_most_solution s n (b * 2 ^ 1020) ≡ cos_le (level_of s w k) b
  at b = grid s n w k b h d

  mono : Monotone (at_most_solution s n)
  mono = rises.monotone s n h

  start : at_most_solution s n 0 ≡ true
  start = ap (λ (b : Bool). b || leb (left s n 0) (right s n 0)) (le-leb 0 (2 ^ 1073) zero-le)

  half : at_most_solution s n (2 ^ 53 * 2 ^ 1020) ≡ true
  half = at (2 ^ 53) ∙ half_passes (level_of s w k) (2 ^ 53) (lit≤ tt)

  one : at_most_solution s n (2 ^ 54 * 2 ^ 1020) ≡ false
  one = at (2 ^ 54) ∙ one_fails (level_of s w k) (level_lt w k d.short l s)

  beyond : at_most_solution s n (0 + 2 ^ 1075) ≡ false
  beyond = go (at_most_solution s n (0 + 2 ^ 1075)) (mono (2 ^ 54 * 2 ^ 1020) (0 + 2 ^ 1075) (lit≤ tt))
    where
      go : (b : Bool) → (T b → T (at_most_solution s n (2 ^ 54 * 2 ^ 1020))) → b ≡ false
      go true f = absurd (subst T one (f tt))
      go false f = refl

  -- the greatest solution is a half at least, so a middle that is the solution has 54 digits
  middle : (b : ℕ) → b * 2 ^ 1020 ≡ cos_units s n → 2 ^ 53 ≤ b
  unfolding cos_units
  middle b e =
      let f = found (at_most_solution s n) 1075 0 (subst T (sym start) tt) (subst (λ (c : Bool). T (not c)) (sym beyond) tt) in
      let g = apart (at_most_solution s n) mono (2 ^ 53 * 2 ^ 1020) (suc (cos_units s n)) (subst T (sym half) tt) f.1 in
      le_of_mul-le-mul_right (subst (λ (x : ℕ). 2 ^ 53 * 2 ^ 1020 ≤ x) (sym e) (le_of_suc-le-suc g)) (pow_pos 1020)

  pub cos_nearest : NearestHalf (cos_le (level_of s w k)) m → nearest_cos s n ≡ odd 54 false m 1021 1074
  unfolding cos_units
  cos_nearest q =
      let t = cos_units s n in
      by_test (at_most_solution s n) mono 1075 0 1020 m (eqb (left s n t) (right s n t)) start beyond
      (record { least = half; most = one })
      (record { some = q.some; low = at (2 * m - 1) ∙ q.low; high = at (2 * m + 1) ∙ q.high })
      (λ g x.
      cos_no_tie s n w k (2 * m - 1) d (odd_middle m q.some) (middle (2 * m - 1) g)
      (ap (left s n) g ∙ eqb-true (left s n t) (right s n t) x ∙ sym (ap (right s n) g)))
      (lit< tt)
