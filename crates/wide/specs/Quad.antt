-- What a number of four words and one of eight is. Definitions only.
use Rattle.std.specs.Prelude.{ℕ, ◌+◌, ◌*◌, ◌^◌}
use Rattle.wide.specs.declared.Quad.{Quad}
use Rattle.wide.specs.declared.Eight.{Eight}

abbrev pub quad_of : Quad → ℕ
quad_of a = ((a.w3 * 2 ^ 64 + a.w2) * 2 ^ 64 + a.w1) * 2 ^ 64 + a.w0

abbrev pub eight_of : Eight → ℕ
eight_of a = quad_of a.hi * 2 ^ 256 + quad_of a.lo
