-- What a number of two words is. Definitions only.
use Rattle.std.specs.Prelude.{ℕ, ◌+◌, ◌*◌, ◌^◌}
use Rattle.wide.specs.declared.Double.{Double}

abbrev pub double_of : Double → ℕ
double_of a = a.hi * 2 ^ 64 + a.lo
