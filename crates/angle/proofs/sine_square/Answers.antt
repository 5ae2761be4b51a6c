-- The product has 107 digits.
use Rattle.angle.proofs.Rounded.{square_long}
use Rattle.angle.proofs.sine_square.Goals as goal

pub returns-then-p-ge4398046511104 : goal.returns-then-p-ge4398046511104
returns-then-p-ge4398046511104 c =
    square_long _ _ _ _ _ c.requires.m_low c.requires.m_high c.even_digits-d.ensures c.mul-p.ensures.product
    c.mul-p.ensures.high c.if-p-ge4398046511104.true
