-- 1 in units of 2 ^ -1074, the smallest value of binary64. Definitions only.
use Rattle.std.specs.Prelude.{ℕ, ◌^◌}

-- (shut, since `omega` reads no numeral of 40 digits)
unfoldable pub one_units : ℕ
one_units = 2 ^ 1074
