use Rattle.std.proofs.Common.{rules, arith}
use Rattle.sqrt.proofs.Squares.{monotone, words}
use Rattle.sqrt.proofs.half_root.Goals as goal

pub returns : goal.returns
returns c =
    c.near_half.ensures _ (record { says = λ t b l r. search rules }) (monotone _) (words _ c.requires.hi_low c.requires.hi_high (omega arith))
