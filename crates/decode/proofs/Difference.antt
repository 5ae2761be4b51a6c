-- a - (c + 1), where the two are below 2 ^ 31, as the machine computes it in an i32.
use mathlib.Core.Path.{◌≡◌, sym, ap, ◌∙◌, subst}
use mathlib.Core.Logic.{◌⊎◌, inl, inr}
use Prim.Native.Nat.{ℕ, suc, ◌-◌, ◌^◌, ◌≤◌, ◌<◌}
use native.Mathlib.Omega.{arith}
use native.Mathlib.Nat.{eq-zero-or-pos}
use borrow.Author.Tests.{lt-ltb, le-ltb, lt-leb, le-leb}
use lib.IntN.{ℤ, pos, negsuc, ◌-ℤ◌}
use lib.Ieee.{minus}
use mir.Syntax.{w32}
use mir.Val.{SFits, to_z, of_z}
use mir.Facts.{to_z-of_z}

module _ (c a : ℕ) where
  sides : (suc c ≤ a) ⊎ (a < suc c)
  sides = go (eq-zero-or-pos (suc c - a))
    where
      go : (suc c - a ≡ 0) ⊎ (0 < suc c - a) → (suc c ≤ a) ⊎ (a < suc c)
      go (inl z) = inl (omega arith)
      go (inr l) = inr (omega arith)

  pub minus_is : minus (suc a) (suc (suc c)) ≡ pos a -ℤ pos (suc c)
  minus_is = go sides
    where
      go : (suc c ≤ a) ⊎ (a < suc c) → minus (suc a) (suc (suc c)) ≡ pos a -ℤ pos (suc c)
      go (inl l) = rw (le-leb (suc (suc c)) (suc a) (omega arith), le-ltb a (suc c) l) (let e : suc a - suc (suc c) ≡ a - suc c = omega arith in ap pos e)
      go (inr l) =
          rw (lt-leb (suc (suc c)) (suc a) (omega arith), lt-ltb a (suc c) l) (let e : suc (suc c) - suc (suc a) ≡ suc c - suc a = omega arith in ap negsuc e)

  module _ (hc : c < 2 ^ 30) (ha : a < 2 ^ 31) where
    pub minus_fits : SFits w32 (pos a -ℤ pos (suc c))
    minus_fits = go sides
      where
        go : (suc c ≤ a) ⊎ (a < suc c) → SFits w32 (pos a -ℤ pos (suc c))
        go (inl l) = rw (le-ltb a (suc c) l) (record { sfits = omega arith })
        go (inr l) = rw (lt-ltb a (suc c) l) (record { sfits = omega arith })

    in_range : to_z w32 a ≡ pos a
    in_range = to_z-of_z {w = w32} {z = pos a} (record { sfits = ha })

    pub machine_fits : SFits w32 (to_z w32 a -ℤ pos (suc c))
    machine_fits = subst (λ (z : ℤ). SFits w32 (z -ℤ pos (suc c))) (sym in_range) minus_fits

    pub machine_is : to_z w32 (of_z w32 (to_z w32 a -ℤ pos (suc c))) ≡ pos a -ℤ pos (suc c)
    machine_is = to_z-of_z machine_fits ∙ ap (λ (z : ℤ). z -ℤ pos (suc c)) in_range
