-- Inside, by the test for c.
use Rattle.std.proofs.Common.{ℕ, refl, subst, rules}
use lib.Ieee.{of_bits}
use Rattle.nearest.specs.Greatest.{NearestHalf}
use Rattle.angle.specs.Parts.{cos_le}
use Rattle.angle.proofs.Cases.{digits_inside}
use Rattle.angle.proofs.Cosine.{monotone, sized}
use Rattle.angle.proofs.third_digits.Goals as goal

pub returns-then-d-lt1074 : goal.returns-then-d-lt1074
unfolding of_bits
returns-then-d-lt1074 c =
    let l = c.level-n.ensures in
    digits_inside _ _ c.in_ok-d.ensures _ refl c.if-d-lt1074.true _
    (subst (λ (x : ℕ). NearestHalf (cos_le x) c.near_half.result) l.value
    (c.near_half.ensures _ (record { says = λ t b l r. search rules }) (monotone _) (sized _ l.high)))
