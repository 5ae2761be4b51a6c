-- What the fold over one and over three roots that finds the largest comes to.
use Rattle.std.proofs.Common.{◌≡◌, refl, List, [], ◌∷◌, length, fold, arith}
use lib.Ieee.{Float, binary64, of_bits, neg}
use Rattle.facts.specs.Count.{count_up}
use Rattle.float.specs.Methods.{max_of}
use Rattle.quartic.specs.Quartic.{largest_of}

-- f64::NEG_INFINITY
abbrev pub least : Float
least = of_bits binary64 0xfff0_0000_0000_0000

pub largest_one : (r : Float) → max_of least r ≡ largest_of (r ∷ []) 1
unfolding largest_of count_up of_bits neg
largest_one r = refl

pub largest_three : (roots : List Float) → length roots ≡ 3 → largest_of roots 3 ≡ fold max_of least roots
unfolding largest_of count_up of_bits neg
largest_three (a ∷ b ∷ c ∷ []) e = refl
largest_three [] e = absurd (omega (arith, e))
largest_three (a ∷ []) e = absurd (omega (arith, e))
largest_three (a ∷ b ∷ []) e = absurd (omega (arith, e))
largest_three (a ∷ b ∷ c ∷ d ∷ l) e = absurd (omega (arith, e))
