-- The cosine and the sine of a third of an angle, from the angle's cosine v: `acos / 3` and `sin_cos` of the reference build.
use Rattle.std.specs.Prelude.{Bool, true, false, cond, ◌||◌, ◌&&◌, ℕ, ◌+◌, ◌-◌, ◌*◌, ◌^◌, leb, eqb, Float}
use Rattle.std.specs.Float.{nan, inf, fin}
use Rattle.float.specs.Units.{units_of}
use Rattle.nearest.specs.Greatest.{greatest, nearest_of}
use Rattle.sqrt.specs.Root.{nearest_sqrt}
use Rattle.angle.specs.declared.Sine.{Sine}
use Rattle.angle.specs.declared.Sine.TheVariants.{OfRounded, OfExact}
use Rattle.angle.specs.declared.ThirdAngle.{ThirdAngle}

-- With t units of 2 ^ -1074 for c and n for the size of v: the two sides of 4t³ = (3t ± n) * 2 ^ 2148, with n on the side where it is added. `left true` and
-- `right true` are those of a v below zero.
abbrev pub left : Bool → ℕ → ℕ → ℕ
left false n t = 4 * (t * t * t)
left true n t = 4 * (t * t * t) + n * 2 ^ 2148

abbrev pub right : Bool → ℕ → ℕ → ℕ
right false n t = (3 * t + n) * 2 ^ 2148
right true n t = 3 * t * 2 ^ 2148

-- Whether t is at most the greatest solution, which is a half at least: from a half on 4c³ - 3c grows.
abbrev pub at_most_solution : Bool → ℕ → ℕ → Bool
at_most_solution s n t = leb t (2 ^ 1073) || leb (left s n t) (right s n t)

-- the units of the greatest solution, rounded down
unfoldable pub cos_units : Bool → ℕ → ℕ
unfolding greatest
cos_units s n = greatest (at_most_solution s n) 1075 0

-- c is 'the double nearest the greatest real solution of 4c³ − 3c = v, for v in [−1, 1]'. NaN for a NaN, and for a v outside.
unfoldable pub cos_of : Float → Float
unfolding cos_units nearest_of
cos_of nan = nan
cos_of (inf s) = nan
cos_of (fin s m e) =
    let n = units_of (fin s m e) in
    let t = cos_units s n in
    cond (leb n (2 ^ 1074)) (nearest_of t (eqb (left s n t) (right s n t))) nan

-- s is 'the double nearest √(1 − c²) for that rounded c', which is from a half to 1. NaN for a NaN. With u units for c, 1 - c² is 2 ^ 2148 - u * u of 2 ^
-- -2148.
unfoldable pub sin_of : Float → Float
unfolding nearest_of
sin_of nan = nan
sin_of (inf s) = nan
sin_of (fin s m e) = let u = units_of (fin s m e) in nearest_sqrt (2 ^ 2148 - u * u)

-- The sine of the exact c is above m exactly where v < √(1 − m²)(1 − 4m²), for 0 ≤ m < √3/2: with q = √(1 − m²) for the cosine the right side is 4q³ − 3q, and
-- it falls as m grows. It is above zero up to m = 1/2, and below it from there on; where both sides have one sign their squares are compared. With t units of
-- 2 ^ -1074 for m and n for the size of v these are, times 2 ^ 6440, `turned` and `given`; `turned true` is that of a t above a half.
abbrev pub turned : Bool → ℕ → ℕ
turned false t = let r = 2 ^ 2146 - t * t in (2 ^ 2148 - t * t) * (r * r)
turned true t = let r = t * t - 2 ^ 2146 in (2 ^ 2148 - t * t) * (r * r)

abbrev pub given : ℕ → ℕ
given n = n * n * 2 ^ 4292

-- Whether t is at most that sine: where v is not below zero, t is at most a half and v at most the right side; where v is below zero, t is at most a half, or
-- at most √3/2 and the right side's size at most that of v. (c is a half at least, so s is never above √3/2.)
abbrev pub at_most_sine : Bool → ℕ → ℕ → Bool
at_most_sine false n t = leb t (2 ^ 1073) && leb (given n) (turned false t)
at_most_sine true n t = leb t (2 ^ 1073) || (leb (t * t) (3 * 2 ^ 2146) && leb (turned true t) (given n))

-- the units of √(1 − c²) for the exact c, rounded down
unfoldable pub sine_units : Bool → ℕ → ℕ
unfolding greatest
sine_units s n = greatest (at_most_sine s n) 1074 0

-- s is 'the double nearest √(1 − c²) for the exact c, before c is rounded'. NaN for a NaN, and for a v outside [−1, 1].
unfoldable pub exact_sin_of : Float → Float
unfolding sine_units nearest_of
exact_sin_of nan = nan
exact_sin_of (inf s) = nan
exact_sin_of (fin s m e) =
    let n = units_of (fin s m e) in
    let t = sine_units s n in
    cond (leb n (2 ^ 1074)) (nearest_of t (eqb (turned s t) (given n))) nan

-- the mode with this number: 0 is the exact one
unfoldable pub sine_numbered : ℕ → Sine
sine_numbered n = cond (eqb n 0) OfExact OfRounded

-- s by the mode: of the c that is rounded, or of the exact one
unfoldable pub sine_of : Sine → Float → Float
unfolding cos_of sin_of exact_sin_of
sine_of OfRounded v = sin_of (cos_of v)
sine_of OfExact v = exact_sin_of v

-- both
unfoldable pub third_angle_of : Sine → Float → ThirdAngle
unfolding cos_of sine_of
third_angle_of sine v = record { cos = cos_of v; sin = sine_of sine v }
