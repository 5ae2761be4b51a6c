-- The large factors of factorize: `units`, sorted, down to the gap. Definitions only.
use Rattle.std.specs.Prelude.{Bool, cond, ◌||◌, ℕ, ◌+◌, leb, get_or, set, take, replicate, Float}
use mathlib.Core.List.{List, [], ◌∷◌, ◌++◌, map, flat_map}
use Rattle.std.specs.Float.{nan}
use Rattle.std.specs.Float.Ieee.{lt, is_nan}
use Rattle.facts.specs.Sort.{sorted_by}
use Rattle.float.specs.Rounded.{◌*ᶠ◌, ◌/ᶠ◌}
use Rattle.float.specs.Literals.{zero64, epsilon64}
use Rattle.float.specs.Methods.{abs_of, total_le_of}
use Rattle.sqrt.specs.Root.{sqrt_of}
use Rattle.horner.specs.Product.{discriminant_of}
use Rattle.isolated.specs.Isolated.{far_root_of}
use Rattle.factors.specs.declared.Quad.{Quad}
use Rattle.factors.specs.declared.Factors.{Factors}
use Rattle.factors.specs.Factors.{no_factors, push_lin_of, push_quad_of, degree_of, lins_of, quads_of}
use Rattle.large_factors.specs.declared.Unit.{Unit}
use Rattle.large_factors.specs.declared.Units.{Units}

-- `(magnitude, al, be)` of the Rust's comment at `units`
abbrev pub unit_of : Float → Float → Float → Unit
unit_of m al be = record { m = m; al = al; be = be }

-- `units[nu] = (r.abs(), r, f64::NAN);`: 'be NaN = linear root al'
abbrev pub real_unit : Float → Unit
real_unit r = unit_of (abs_of r) r nan

-- 'Real quadratics are split, since they may straddle the gap': `for r in [q, be / q]`; else the factor, whose roots have the size √|be|
unfoldable pub quad_units_of : Quad → List Unit
quad_units_of f =
    let al = f.al in
    let be = f.be in
    -- let disc = discriminant(al, be);
    let disc = discriminant_of al be in
    -- let q = -0.5 * (al + disc.sqrt().copysign(al));
    let q = far_root_of al disc in
    -- units[nu] = (be.abs().sqrt(), al, be);
    cond (lt zero64 disc) (real_unit q ∷ real_unit (be /ᶠ q) ∷ []) (unit_of (sqrt_of (abs_of be)) al be ∷ [])

-- `units[..nu]`: `for &r in &out.lin[..out.nlin]`, then `for &(al, be) in &out.quad[..out.nquad]`
unfoldable pub factor_units_of : Factors → List Unit
factor_units_of out = map real_unit (lins_of out) ++ flat_map quad_units_of (quads_of out)

-- `units[..nu].sort_unstable_by(|a, b| b.0.total_cmp(&a.0));`: by falling size, a NaN first; 'ties stay in their earlier order'
abbrev pub no_smaller : Unit → Unit → Bool
no_smaller a b = total_le_of b.m a.m

-- `if large.degree() >= sc.d - small || m < threshold * f64::EPSILON || m.is_nan()`: want is `sc.d - small`, the number of large roots
unfoldable pub ends_of : Unit → ℕ → ℕ → Float → Bool
ends_of x degree want least = leb want degree || (lt x.m least || is_nan x.m)

-- `if be.is_nan() { large.push_lin(al); } else { large.push_quad(al, be); }`
unfoldable pub with_unit : Factors → Unit → Factors
with_unit large x = cond (is_nan x.be) (push_lin_of large x.al) (push_quad_of large x.al x.be)

-- `for &(m, al, be) in &units[..nu]`, sorted
unfoldable pub large_from : ℕ → Float → Factors → List Unit → Factors
large_from want least large [] = large
large_from want least large (x ∷ l) = let rest = large_from want least (with_unit large x) l in cond (ends_of x (degree_of large) want least) large rest

-- `large`, from `Factors::default()` on
unfoldable pub large_of : Factors → ℕ → Float → Factors
large_of out want threshold = large_from want (threshold *ᶠ epsilon64) no_factors (sorted_by no_smaller (factor_units_of out))

-- ---- the units in an array with a count, as the functions have them
-- `let mut units = [(0.0f64, 0.0f64, 0.0f64); 4];`
abbrev pub no_units : Units
no_units = record { at = replicate 4 (unit_of zero64 zero64 zero64); n = 0 }

-- `units[nu] = (r.abs(), r, f64::NAN); nu += 1;`, of any unit
abbrev pub added_of : Units → Unit → Units
added_of u x = record { at = set u.at u.n x; n = u.n + 1 }

-- one after the other
unfoldable pub all_added : Units → List Unit → Units
all_added u [] = u
all_added u (x ∷ l) = all_added (added_of u x) l

-- the first n places of an order, and the units there
unfoldable pub in_order : List Unit → List ℕ → ℕ → List Unit
in_order at order n = map (λ i. get_or at i (unit_of nan nan nan)) (take n order)
