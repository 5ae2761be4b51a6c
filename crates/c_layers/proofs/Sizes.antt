-- What is handed in, by its test; and what is handed out is within its arrays.
use mathlib.Core.Path.{◌≡◌, refl}
use mathlib.Core.List.{List, [], ◌∷◌, ◌++◌}
use Prim.Native.Nat.{ℕ, ◌-◌, ◌≤◌}
use native.Mathlib.Omega.{arith}
use lib.ListN.{length}
use lib.Ieee.{Float, of_int, binary64}
use Rattle.lent_bytes.specs.Numbers.{number, five}
use Rattle.angle.specs.declared.Sine.{Sine}
use Rattle.scaled.specs.declared.Scaled.{Scaled}
use Rattle.scaled.proofs.Built.{degree_is}
use Rattle.split.specs.Gap.{Inside, magnitude_split_of}
use Rattle.split.proofs.Gaps.{split_inside, inside_up}
use Rattle.factors.specs.Factors.{Sized}
use Rattle.factorize.specs.Factorize.{factorize_of}
use Rattle.factorize.proofs.Degree.{degrees_add}
use Rattle.lent_bytes.proofs.Five.{accepted}
use Rattle.lent_bytes.proofs.Whole.{no_bytes}
use Rattle.c_layers.specs.Numbers.{scaled_numbers}

pub gap_inside : (lg : List Float) (d : ℕ) → d ≤ 4 → Inside 4 (magnitude_split_of lg d)
gap_inside lg d h = inside_up d 4 (magnitude_split_of lg d) (split_inside lg d h) h

pub factors_sized : (sine : Sine) (s : Scaled) (depth : ℕ) → s.d ≤ 4 → Sized (factorize_of sine s depth)
unfolding factorize_of
factors_sized sine s depth h = let e = degrees_add sine (3 - depth) s h in (omega (arith, e, h), omega (arith, e, h))

-- what is handed in, and nothing handed out
pub ruleset handed = (no_bytes, accepted)

-- and by its size
pub ruleset sized = (no_bytes, accepted, degree_is, gap_inside, factors_sized)

-- arrays of five, one after another
five_is : (l : List Float) → length l ≡ 5 → l ≡ five l
five_is [] h = absurd (omega (arith, h))
five_is (a ∷ []) h = absurd (omega (arith, h))
five_is (a ∷ b ∷ []) h = absurd (omega (arith, h))
five_is (a ∷ b ∷ c ∷ []) h = absurd (omega (arith, h))
five_is (a ∷ b ∷ c ∷ d ∷ []) h = absurd (omega (arith, h))
five_is (a ∷ b ∷ c ∷ d ∷ e ∷ []) h = refl
five_is (a ∷ b ∷ c ∷ d ∷ e ∷ x ∷ l) h = absurd (omega (arith, h))

pub scaled_are : (s : Scaled) (u v w : List Float) (e : Float) → length u ≡ 5 → length v ≡ 5 → length w ≡ 5 → u ≡ s.f → v ≡ s.g → w ≡ s.lg
    → e ≡ of_int binary64 s.e → u ++ (v ++ (w ++ number s.d ∷ e ∷ s.unit ∷ [])) ≡ scaled_numbers s
unfolding scaled_numbers
scaled_are s u v w e h k l f g lg i =
    rw (five_is u h, five_is v k, five_is w l, f, g, lg, i)
