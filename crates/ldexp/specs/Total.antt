-- A power of two for every k: NaN outside of the range that `pow2` takes. Definitions only.
use Rattle.std.specs.Prelude.{cond, ◌||◌, ℤ, pos, negsuc, Float}
use Rattle.std.specs.Int.Signed.{lt_z}
use Rattle.std.specs.Float.{nan}
use Rattle.ldexp.specs.Scale.{pow2_of}

-- 2 ^ k for k from -1022 to 1023
unfoldable pub pow2_or_nan : ℤ → Float
pow2_or_nan k = cond (lt_z k (negsuc 1021) || lt_z (pos 1023) k) nan (pow2_of k)
