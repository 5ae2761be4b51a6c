-- Small counts among the numbers of an answer, and NaN, by their bits.
use mathlib.Core.Path.{◌≡◌, refl}
use lib.Ieee.{of_bits, of_int, binary64}
use Rattle.float.proofs.Bits.{nan_pattern}
use Rattle.lent_bytes.specs.Numbers.{number}

pub no_one : of_bits binary64 0 ≡ number 0
unfolding of_bits of_int
no_one = refl

pub one : of_bits binary64 0x3ff0_0000_0000_0000 ≡ number 1
unfolding of_bits of_int
one = refl

pub two : of_bits binary64 0x4000_0000_0000_0000 ≡ number 2
unfolding of_bits of_int
two = refl

pub three : of_bits binary64 0x4008_0000_0000_0000 ≡ number 3
unfolding of_bits of_int
three = refl

pub four : of_bits binary64 0x4010_0000_0000_0000 ≡ number 4
unfolding of_bits of_int
four = refl

pub ruleset counts = (no_one, one, two, three, four, nan_pattern)
