-- The methods of Rust's f64 that the port calls and Rattle has not, on the values of lib.Ieee: one NaN, with no sign. Definitions only.
-- is_nan is is_nan of lib.Ieee.
use Rattle.std.specs.Prelude.{Bool, true, false, not, cond, ◌&&◌, ◌||◌, List, [], ◌∷◌, ℕ, zero, suc}
use lib.Ieee.{Float, nan, inf, fin, lt, eq, is_nan}
use Rattle.float.specs.Rounded.{◌*ᶠ◌}
use Rattle.float.specs.Literals.{one64}

-- x.is_finite(): neither an infinity nor NaN
unfoldable pub is_finite_of : Float → Bool
is_finite_of nan = false
is_finite_of (inf s) = false
is_finite_of (fin s m e) = true

-- l.iter().all(|x| x.is_finite())
abbrev pub all_finite_of : List Float → Bool
all_finite_of [] = true
all_finite_of (x ∷ l) = is_finite_of x && all_finite_of l

-- x.is_sign_negative(): the sign, of a zero too; false at NaN
unfoldable pub is_sign_negative_of : Float → Bool
is_sign_negative_of nan = false
is_sign_negative_of (inf s) = s
is_sign_negative_of (fin s m e) = s

-- x.abs()
unfoldable pub abs_of : Float → Float
abs_of nan = nan
abs_of (inf s) = inf false
abs_of (fin s m e) = fin false m e

-- x with the sign s
unfoldable pub with_sign : Bool → Float → Float
with_sign s nan = nan
with_sign s (inf t) = inf s
with_sign s (fin t m e) = fin s m e

-- x.copysign(y): x with the sign of y; at a NaN y it is x.abs()
unfoldable pub copysign_of : Float → Float → Float
unfolding with_sign is_sign_negative_of
copysign_of x y = with_sign (is_sign_negative_of y) x

-- x.min(y), in which a NaN is passed over. The reference build: of two zeros with unlike signs, the first.
unfoldable pub min_of : Float → Float → Float
min_of x y = cond (lt y x || is_nan x) y x

-- x.max(y), likewise
unfoldable pub max_of : Float → Float → Float
max_of x y = cond (lt x y || is_nan x) y x

-- x.clamp(lo, hi), as Rust writes it: NaN stays
unfoldable pub clamp_of : Float → Float → Float → Float
clamp_of x lo hi = let y = cond (lt x lo) lo x in cond (lt hi y) hi y

-- x.total_cmp(&y).is_le(): -0 is below +0, and NaN above infinity
unfoldable pub total_le_of : Float → Float → Bool
unfolding is_sign_negative_of
total_le_of x y = is_nan y || (lt x y || (eq x y && (is_sign_negative_of x || not (is_sign_negative_of y))))

-- v.powi(n) for an n up to 4. The reference build: v, v·v, (v·v)·v, (v·v)·(v·v).
unfoldable pub powi_of : Float → ℕ → Float
powi_of v zero = one64
powi_of v (suc zero) = v
powi_of v (suc (suc zero)) = v *ᶠ v
powi_of v (suc (suc (suc zero))) = v *ᶠ v *ᶠ v
powi_of v (suc (suc (suc (suc n)))) = v *ᶠ v *ᶠ (v *ᶠ v)
