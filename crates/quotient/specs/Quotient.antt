-- The parts of `factorize` about the product of the large factors, the quotient of g by it, and the way back from the second scaling. Definitions only.
use Rattle.std.specs.Prelude.{Bool, cond, ◌&&◌, List, [], ◌∷◌, ℕ, ◌+◌, ◌-◌, min, leb, ℤ, pos, ◌*ℤ◌, length, get_or, set, take, replicate, Float}
use Rattle.std.specs.Float.{nan}
use Rattle.std.specs.Float.Ieee.{neg, ne}
use Rattle.facts.specs.Arrays.{from_fn}
use Rattle.facts.specs.Count.{count_up, count_down}
use Rattle.float.specs.Rounded.{◌+ᶠ◌, ◌-ᶠ◌, ◌*ᶠ◌, ◌/ᶠ◌}
use Rattle.float.specs.Literals.{zero64, one64}
use Rattle.float.specs.Methods.{all_finite_of}
use Rattle.ldexp.specs.Scale.{ldexp_of}
use Rattle.factors.specs.declared.Factors.{Factors}
use Rattle.factors.specs.Factors.{push_lin_of, push_quad_of, lin_at, quad_at}
use Rattle.quotient.specs.declared.Monic.{Monic}

-- `next[i + j] += li * fj;`, for one coefficient k = i + j: i goes up, so j goes down. `l[..=dl]` alone is multiplied, not the zeros after it.
unfoldable pub product_term_of : List Float → ℕ → List Float → ℕ → ℕ → Float → Float
product_term_of l dl f k j acc = cond (leb j k && leb (k - j) dl) (acc +ᶠ get_or l (k - j) nan *ᶠ get_or f j nan) acc

-- next[k], from `let mut next = [0.0; 5];` on
unfoldable pub next_at : List Float → ℕ → List Float → ℕ → Float
next_at l dl f k = count_down (product_term_of l dl f k) (length f) zero64

-- `let mut mul = |f: &[f64]| { .. };`: l times f, both ascending, `l = next;` and `dl += f.len() - 1;`
unfoldable pub mul_of : Monic → List Float → Monic
mul_of p f = record { l = from_fn 5 (next_at p.l p.dl f); dl = p.dl + (length f - 1) }

-- `mul(&[-r, 1.0]);`
abbrev pub mul_lin : Factors → ℕ → Monic → Monic
mul_lin f i p = mul_of p (neg (lin_at f i) ∷ one64 ∷ [])

-- `mul(&[be, al, 1.0]);`
abbrev pub mul_quad : Factors → ℕ → Monic → Monic
mul_quad f i p = mul_of p ((quad_at f i).be ∷ (quad_at f i).al ∷ one64 ∷ [])

-- `l[0] = 1.0;` and `let mut dl = 0;`: L before any factor
abbrev pub monic_one : Monic
monic_one = record { l = one64 ∷ replicate 4 zero64; dl = 0 }

-- 'L = product of the large factors (monic, ascending)': `for &r in &large.lin[..large.nlin]`, then `for &(al, be) in &large.quad[..large.nquad]`
unfoldable pub product_of : Factors → Monic
product_of large = count_up large.nquad (mul_quad large) large.nquad (count_up large.nlin (mul_lin large) large.nlin monic_one)

-- `acc -= l[j] * s[i - j];`
abbrev pub less_at : List Float → List Float → ℕ → ℕ → Float → Float
less_at l s i j acc = acc -ᶠ get_or l j nan *ᶠ get_or s (i - j) nan

-- `let mut acc = g[i];`, then `for j in 1..=i.min(dl)`
unfoldable pub acc_of : List Float → Monic → List Float → ℕ → Float
acc_of g p s i = let m = min i p.dl in count_up (m + 1) (less_at p.l s i) m (get_or g i nan)

-- `s[i] = acc / l[0];`
abbrev pub quotient_step : List Float → Monic → ℕ → List Float → List Float
quotient_step g p i s = set s i (acc_of g p s i /ᶠ get_or p.l 0 nan)

-- 'g = L * S: solve for S from the low-order coefficients up': `let mut s = [0.0; 5];`, then `for i in 0..=small`
unfoldable pub quotient_of : List Float → Monic → ℕ → List Float
quotient_of g p small = count_up (small + 1) (quotient_step g p) (small + 1) (replicate 5 zero64)

-- `s[..=small].iter().all(|v| v.is_finite()) && s[0] != 0.0 && s[small] != 0.0`
unfoldable pub usable_of : List Float → ℕ → Bool
usable_of s small = all_finite_of (take (small + 1) s) && (ne (get_or s 0 nan) zero64 && ne (get_or s small nan) zero64)

-- `merged.push_lin(ldexp(r, sub.e));`
abbrev pub back_lin : Factors → ℤ → ℕ → Factors → Factors
back_lin f e i m = push_lin_of m (ldexp_of (lin_at f i) e)

-- `merged.push_quad(ldexp(al, sub.e), ldexp(be, 2 * sub.e));`
abbrev pub back_quad : Factors → ℤ → ℕ → Factors → Factors
back_quad f e i m = push_quad_of m (ldexp_of (quad_at f i).al e) (ldexp_of (quad_at f i).be (pos 2 *ℤ e))

-- `let mut merged = large;`, then `for &r in &inner.lin[..inner.nlin]` and `for &(al, be) in &inner.quad[..inner.nquad]`; e is `sub.e`
unfoldable pub merged_of : Factors → Factors → ℤ → Factors
merged_of large inner e = count_up inner.nquad (back_quad inner e) inner.nquad (count_up inner.nlin (back_lin inner e) inner.nlin large)
