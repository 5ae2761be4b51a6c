-- The one constant of the closed form, and what the fold over one and over three roots that finds the most isolated comes to.
use mathlib.Core.Path.{◌≡◌, refl, sym, ◌∙◌}
use mathlib.Core.Bool.{Bool, true, false, cond}
use mathlib.Core.List.{List, [], ◌∷◌}
use Prim.Native.Nat.{ℕ}
use lib.ListN.{get_or}
use lib.Ieee.{Float, nan, binary64, of_bits, mul}
use Rattle.facts.specs.Count.{count_up}
use Rattle.float.specs.Literals.{half64, three64}
use Rattle.float.specs.Methods.{total_le_of}
use Rattle.sqrt.specs.Root.{sqrt_of}
use Rattle.cubic.specs.Cubic.{isolation_of, isolation_among, better_of, most_isolated_of}

-- what code has for 0.5 * 3f64.sqrt()
pub half_root_three : mul binary64 half64 (sqrt_of three64) ≡ of_bits binary64 0x3feb_b67a_e858_4caa
unfolding mul of_bits sqrt_of
half_root_three = refl

-- ---- the most isolated root

pub only_root : (roots : List Float) (n : ℕ) → n ≡ 1 → get_or roots 0 nan ≡ most_isolated_of roots n
unfolding most_isolated_of count_up
only_root roots n e = rw e

pub lone_root : (r : Float) → r ≡ most_isolated_of (r ∷ []) 1
lone_root r = only_root (r ∷ []) 1 refl

module _ (roots : List Float) (n : ℕ) (i0 i1 i2 : Float) (all : n ≡ 3)
    (e0 : i0 ≡ isolation_among (get_or roots 0 nan) (get_or roots 1 nan) (get_or roots 2 nan))
    (e1 : i1 ≡ isolation_among (get_or roots 1 nan) (get_or roots 0 nan) (get_or roots 2 nan))
    (e2 : i2 ≡ isolation_among (get_or roots 2 nan) (get_or roots 0 nan) (get_or roots 1 nan)) where
  f0 : i0 ≡ isolation_of roots 3 0
  unfolding isolation_of count_up
  f0 = e0

  f1 : i1 ≡ isolation_of roots 3 1
  unfolding isolation_of count_up
  f1 = e1

  f2 : i2 ≡ isolation_of roots 3 2
  unfolding isolation_of count_up
  f2 = e2

  after_two : (t : Bool) → total_le_of i0 i1 ≡ t
      → most_isolated_of roots n ≡ get_or roots (better_of roots 3 2 (cond t 1 0)) nan
  unfolding most_isolated_of better_of count_up
  after_two t h = rw all (simp (rw (f0, f1) at h))

  -- the second takes the place of the first where t, and the third the place of the better of them where u
  pub of_three : (t u : Bool) → total_le_of i0 i1 ≡ t → total_le_of (cond t i1 i0) i2 ≡ u
      → get_or roots (cond u 2 (cond t 1 0)) nan ≡ most_isolated_of roots n
  unfolding better_of
  of_three true u h k = sym (after_two true h ∙ simp (rw (f1, f2) at k))
  of_three false u h k = sym (after_two false h ∙ simp (rw (f0, f2) at k))

-- by what the two tests find
module _ (roots : List Float) where
  abbrev i0 : Float
  i0 = isolation_among (get_or roots 0 nan) (get_or roots 1 nan) (get_or roots 2 nan)

  abbrev i1 : Float
  i1 = isolation_among (get_or roots 1 nan) (get_or roots 0 nan) (get_or roots 2 nan)

  abbrev i2 : Float
  i2 = isolation_among (get_or roots 2 nan) (get_or roots 0 nan) (get_or roots 1 nan)

  by_tests : (t u : Bool) → total_le_of i0 i1 ≡ t → total_le_of (cond t i1 i0) i2 ≡ u → most_isolated_of roots 3 ≡ get_or roots (cond u 2 (cond t 1 0)) nan
  by_tests t u h k = sym (of_three roots 3 i0 i1 i2 refl refl refl refl t u h k)

  pub third_after_second : total_le_of i0 i1 ≡ true → total_le_of i1 i2 ≡ true → most_isolated_of roots 3 ≡ get_or roots 2 nan
  third_after_second h k = by_tests true true h k

  pub second_stays : total_le_of i0 i1 ≡ true → total_le_of i1 i2 ≡ false → most_isolated_of roots 3 ≡ get_or roots 1 nan
  second_stays h k = by_tests true false h k

  pub third_after_first : total_le_of i0 i1 ≡ false → total_le_of i0 i2 ≡ true → most_isolated_of roots 3 ≡ get_or roots 2 nan
  third_after_first h k = by_tests false true h k

  pub first_stays : total_le_of i0 i1 ≡ false → total_le_of i0 i2 ≡ false → most_isolated_of roots 3 ≡ get_or roots 0 nan
  first_stays h k = by_tests false false h k

pub ruleset most_isolated = (lone_root, third_after_second, second_stays, third_after_first, first_stays)
