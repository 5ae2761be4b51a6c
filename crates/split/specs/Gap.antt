-- The topmost gap: magnitude_split of poly.rs, in the reference build. Definitions only.
use Rattle.std.specs.Prelude.{cond, List, ℕ, zero, suc, ◌+◌, ◌-◌, ◌<◌, get_or, Float, Option, Some, None}
use Rattle.std.specs.Float.Ieee.{lt, is_nan, minus}
use Rattle.float.specs.Rounded.{◌+ᶠ◌, ◌-ᶠ◌, ◌*ᶠ◌}
use Rattle.float.specs.Literals.{half64, one64, eight64}
use Rattle.float.specs.Floor.{floor_of}
use Rattle.ldexp.specs.Scale.{ldexp_of}
use Rattle.split.specs.Hull.{mag_of, hull_of}
use Rattle.split.specs.declared.Gap.{Gap}

-- `(0.5 * (lo + hi)).exp2()`, of which the reference build says '`exp2` of the gap's middle: `ldexp(1.0, k)`, k the middle rounded down'. (floor_of is that k,
-- and 8192.) No k is a NaN rounded down; Rust's cast to a whole number makes it 0. The middle is a NaN only between slopes that are infinite both ways, which
-- the logarithms of a list never have.
unfoldable pub exp2_of : Float → Float
exp2_of x = cond (is_nan x) one64 (ldexp_of one64 (minus (floor_of x) 8192))

-- what the functions say of a split: some of d roots lie below the gap, and not all
abbrev pub Inside : ℕ → Option Gap → Type 0
Inside d (Some gap) = (0 < gap.small) × (gap.small < d)
Inside d None = Unit {0}

-- `(0..h.saturating_sub(2)).rev().find_map(|k| { .. })`: the topmost k, of those left, with a gap
unfoldable pub split_from : List Float → List ℕ → ℕ → Option Gap
split_from lg at zero = None
split_from lg at (suc k) =
    -- let (lo, hi) = (mag(k), mag(k + 1));
    let lo = mag_of lg at k in
    let hi = mag_of lg at (k + 1) in
    let rest = split_from lg at k in
    -- (hi - lo > SPLIT_BITS).then(|| (hull[k + 1].0, (0.5 * (lo + hi)).exp2()))
    cond (lt eight64 (hi -ᶠ lo)) (Some (record { small = get_or at (k + 1) 0; threshold = exp2_of (half64 *ᶠ (lo +ᶠ hi)) })) rest

-- `magnitude_split`: in its words 'the number of roots below' the gap, and the 'geometric middle of the gap'
unfoldable pub magnitude_split_of : List Float → ℕ → Option Gap
magnitude_split_of lg d = let s = hull_of lg d in split_from lg s.at (s.h - 2)
