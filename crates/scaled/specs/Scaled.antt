-- Scaled::new of poly.rs in the reference build: 'e as above, and for `lead.floor()` the exact exponent'. Definitions only.
-- a holds the coefficients, ascending, and d is the degree: a(x) is written in y = x / 2^e.
use Rattle.std.specs.Prelude.{cond, List, ℕ, leb, ltb, eqb, ℤ, pos, neg_ℤ, ◌+ℤ◌, ◌-ℤ◌, ◌*ℤ◌, get_or, replicate, Float}
use Rattle.std.specs.Float.{nan, binary64}
use Rattle.std.specs.Float.Ieee.{neg, of_int}
use Rattle.facts.specs.Arrays.{from_fn}
use Rattle.float.specs.Rounded.{◌+ᶠ◌, ◌/ᶠ◌}
use Rattle.float.specs.Literals.{zero64, one64, inf64}
use Rattle.float.specs.Methods.{abs_of}
use Rattle.ldexp.specs.Scale.{ldexp_of}
use Rattle.decode.specs.Exponent.{exponent_of}
use Rattle.log2.specs.Log.{log2_five_of}
use Rattle.scaled.specs.Exponent.{scale_exponent_of}
use Rattle.scaled.specs.declared.Scaled.{Scaled}

-- `let top = lead.floor() as i32 + e * d as i32;`, where x is a_d
unfoldable pub top_of : Float → ℤ → ℕ → ℤ
top_of x e d = exponent_of x +ℤ e *ℤ pos d

-- `let shift = e * i as i32 - top;`
unfoldable pub shift_of : ℤ → ℤ → ℕ → ℤ
shift_of e top i = e *ℤ pos i -ℤ top

-- `*fi = ldexp(ai, shift);`, and 0 above the degree
unfoldable pub coefficient_of : List Float → ℕ → ℤ → ℤ → ℕ → Float
coefficient_of a d e top i = cond (leb i d) (ldexp_of (get_or a i nan) (shift_of e top i)) zero64

-- `let mut f = [0.0; 5];`, then the loop over a
unfoldable pub coefficients_of : List Float → ℕ → ℤ → ℤ → List Float
coefficients_of a d e top = from_fn 5 (coefficient_of a d e top)

-- `g[i] = f[i] / f[d];` below the degree, `g[d] = 1.0;`, and 0 above it
unfoldable pub monic_at : List Float → ℕ → ℕ → Float
monic_at f d i = cond (ltb i d) (get_or f i nan /ᶠ get_or f d nan) (cond (eqb i d) one64 zero64)

-- `let mut g = [0.0; 5];`, then `for i in 0..d`
unfoldable pub monic_of : List Float → ℕ → List Float
monic_of f d = from_fn 5 (monic_at f d)

-- the arguments of `c.abs().log2()`
unfoldable pub sizes_of : List Float → List Float
sizes_of a = from_fn 5 (λ i. abs_of (get_or a i nan))

-- `lg[i] += shift as f64;`, where l is the logarithm L of |a_i|, the unscaled one: lg_i is finite where f_i went down to 0. Minus infinity above the degree.
unfoldable pub log_size_of : Float → ℕ → ℤ → ℤ → ℕ → Float
log_size_of l d e top i = cond (leb i d) (l +ᶠ of_int binary64 (shift_of e top i)) (neg inf64)

-- `let mut lg = [f64::NEG_INFINITY; 5];`, then `*l = c.abs().log2();` and the shifts. It is read at degree 3 and 4 alone ('never at depth 3 or degree 2 and
-- below'); at a smaller degree it stays minus infinity.
unfoldable pub log_sizes_of : List Float → ℕ → ℤ → ℤ → List Float
log_sizes_of a d e top = let l = log2_five_of (sizes_of a) in cond (leb 3 d) (from_fn 5 (λ i. log_size_of (get_or l i nan) d e top i)) (replicate 5 (neg inf64))

-- `Scaled::new`; and `unit: ldexp(1.0, -e),`
unfoldable pub scaled_of : List Float → ℕ → Scaled
scaled_of a d =
    let e = scale_exponent_of a d in
    let top = top_of (get_or a d nan) e d in
    let f = coefficients_of a d e top in
    record { f = f; g = monic_of f d; lg = log_sizes_of a d e top; d = d; e = e; unit = ldexp_of one64 (neg_ℤ e) }

-- the same with the logarithms of a list of degree l: what the code has where none of them matters (l = 0)
unfoldable pub with_logs_of : List Float → ℕ → ℕ → Scaled
with_logs_of a d l =
    let s = scaled_of a d in
    record { f = s.f; g = s.g; lg = log_sizes_of a l s.e (top_of (get_or a d nan) s.e d); d = s.d; e = s.e; unit = s.unit }
