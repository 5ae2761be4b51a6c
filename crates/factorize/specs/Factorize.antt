-- factorize of poly.rs: 'Degree 3 splits into a line and a quadratic, degree 4 into two quadratics, or line and cubic where three roots are tight. [..] A gap
-- strictly above 8 bits between root sizes starts a second scaling, the topmost gap first; never at depth 3 or degree 2 and below.' Definitions only.
use Rattle.std.specs.Prelude.{Bool, false, cond, ◌&&◌, List, ℕ, zero, suc, ◌+◌, ◌-◌, leb, eqb, get_or, Float, Option, Some, None}
use Rattle.std.specs.Float.{nan}
use Rattle.std.specs.Float.Ieee.{neg}
use Rattle.angle.specs.declared.Sine.{Sine}
use Rattle.quartic.specs.declared.QuarticFactor.{QuarticFactor}
use Rattle.cubic.specs.Cubic.{cubic_factor_of, cubic_systems_of}
use Rattle.quartic.specs.Quartic.{quartic_factor_of, quartic_systems_of}
use Rattle.isolated.specs.Isolated.{isolated_root_of, peel_root_of, peel_systems_of}
use Rattle.scaled.specs.declared.Scaled.{Scaled}
use Rattle.scaled.specs.Scaled.{scaled_of}
use Rattle.split.specs.declared.Gap.{Gap}
use Rattle.split.specs.Gap.{magnitude_split_of}
use Rattle.factors.specs.declared.Factors.{Factors}
use Rattle.factors.specs.Factors.{no_factors, push_lin_of, push_quad_of, degree_of}
use Rattle.large_factors.specs.Large.{large_of}
use Rattle.quotient.specs.Quotient.{product_of, quotient_of, usable_of, merged_of}

module _ (sine : Sine) where
  -- the arm `3`: `let (r, e, f) = cubic_factor(g[2], g[1], g[0]);`, `out.push_lin(r);` and `out.push_quad(e, f);`
  unfoldable pub cubic_factors_of : Float → Float → Float → Factors
  cubic_factors_of b c d = let k = cubic_factor_of sine b c d in push_quad_of (push_lin_of no_factors k.r) k.e k.f

  -- the arm `_`: 'A tight cluster of three roots cannot sit in one quadratic: peel off the far root, solve the cluster as a cubic.'
  -- `None => { for (al, be) in quads { out.push_quad(al, be); } }`
  unfoldable pub paired_of : Float → Float → Float → Float → QuarticFactor → Option Float → Factors
  paired_of b c d e quads (Some r) =
      -- let (r, h2, h1, h0) = peel_root(g[3], g[2], g[1], g[0], r);
      let p = peel_root_of b c d e r in
      -- let (r2, e, f) = cubic_factor(h2, h1, h0);
      let k = cubic_factor_of sine p.h2 p.h1 p.h0 in
      -- out.push_lin(r); out.push_lin(r2); out.push_quad(e, f);
      push_quad_of (push_lin_of (push_lin_of no_factors p.r) k.r) k.e k.f
  paired_of b c d e quads None = push_quad_of (push_quad_of no_factors quads.al quads.be) quads.ga quads.de

  -- `let quads = quartic_factor(g[3], g[2], g[1], g[0]);` and `match isolated_root(&quads)`
  unfoldable pub quartic_factors_of : Float → Float → Float → Float → Factors
  quartic_factors_of b c d e = let quads = quartic_factor_of sine b c d e in paired_of b c d e quads (isolated_root_of quads)

  -- `match sc.d`: `out`, the factors at this scale. `1 => out.push_lin(-g[0]),` and `2 => out.push_quad(g[1], g[0]),`
  unfoldable pub out_of : List Float → ℕ → Factors
  out_of g d =
      let g0 = get_or g 0 nan in
      let g1 = get_or g 1 nan in
      let g2 = get_or g 2 nan in
      let g3 = get_or g 3 nan in
      cond (eqb d 0) no_factors
      (cond (eqb d 1) (push_lin_of no_factors (neg g0))
      (cond (eqb d 2) (push_quad_of no_factors g1 g0)
      (cond (eqb d 3) (cubic_factors_of g2 g1 g0) (quartic_factors_of g3 g2 g1 g0))))

-- A second scaling: whether there is one, the large factors, which it keeps, and the polynomial of the small roots at their own scale.
pub record Second : Type 0 where
  pub found : Bool
  pub large : Factors
  pub sub : Scaled

-- None where there is no gap, `if large.degree() != sc.d - small`, and `if !(s[..=small].iter().all(|v| v.is_finite()) && s[0] != 0.0 && s[small] != 0.0)`;
-- else `let sub = Scaled::new(&s[..=small]);`
abbrev pub second_at : Scaled → Factors → Option Gap → Second
second_at sc out (Some gap) =
    let small = gap.small in
    let large = large_of out (sc.d - small) gap.threshold in
    let s = quotient_of sc.g (product_of large) small in
    record { found = eqb (degree_of large) (sc.d - small) && usable_of s small; large = large; sub = scaled_of s small }
second_at sc out None = record { found = false; large = no_factors; sub = sc }

-- `let Some((small, threshold)) = magnitude_split(&sc.lg, sc.d)`
unfoldable pub second_of : Scaled → Factors → Second
second_of sc out = second_at sc out (magnitude_split_of sc.lg sc.d)

module _ (sine : Sine) where
  -- with `left` more scalings: `if depth >= 3 || sc.d <= 2 { return out; }`
  unfoldable pub factors_from : ℕ → Scaled → Factors
  factors_from zero sc = out_of sine sc.g sc.d
  factors_from (suc left) sc =
      let out = out_of sine sc.g sc.d in
      let second = second_of sc out in
      -- let inner = factorize(&sub, depth + 1);
      let inner = factors_from left second.sub in
      let merged = merged_of second.large inner second.sub.e in
      cond (leb sc.d 2) out (cond second.found merged out)

  -- `fn factorize(sc: &Scaled, depth: u32) -> Factors`
  unfoldable pub factorize_of : Scaled → ℕ → Factors
  factorize_of sc depth = factors_from (3 - depth) sc

-- ---- how many systems are solved: request Seven of document 02
module _ (sine : Sine) where
  -- behind `quartic_factor`: for the far root that is peeled off, and for the cubic that is left
  unfoldable pub paired_systems_of : Float → Float → Float → Float → Option Float → ℕ
  paired_systems_of b c d e (Some r) = let p = peel_root_of b c d e r in peel_systems_of b c d e r + cubic_systems_of sine p.h2 p.h1 p.h0
  paired_systems_of b c d e None = 0

  unfoldable pub quartic_factors_systems_of : Float → Float → Float → Float → ℕ
  quartic_factors_systems_of b c d e = quartic_systems_of sine b c d e + paired_systems_of b c d e (isolated_root_of (quartic_factor_of sine b c d e))

  -- for `out`, by `match sc.d`
  unfoldable pub out_systems_of : List Float → ℕ → ℕ
  out_systems_of g d =
      let g0 = get_or g 0 nan in
      let g1 = get_or g 1 nan in
      let g2 = get_or g 2 nan in
      let g3 = get_or g 3 nan in
      cond (leb d 2) 0 (cond (eqb d 3) (cubic_systems_of sine g2 g1 g0) (quartic_factors_systems_of g3 g2 g1 g0))

  -- with `left` more scalings: those for `out`, which a second scaling drops, count too
  unfoldable pub systems_from : ℕ → Scaled → ℕ
  systems_from zero sc = out_systems_of sc.g sc.d
  systems_from (suc left) sc =
      let second = second_of sc (out_of sine sc.g sc.d) in
      let inner = cond (leb sc.d 2) 0 (cond second.found (systems_from left second.sub) 0) in
      out_systems_of sc.g sc.d + inner

  -- of `factorize`
  unfoldable pub factorize_systems_of : Scaled → ℕ → ℕ
  factorize_systems_of sc depth = systems_from (3 - depth) sc

-- the most for a polynomial of degree d. A refining takes at most 8 turns, and a turn solves at most one system: 8 for a cubic; for a quartic 8 for its two
-- quadratics, 8 for the root that is peeled off, 8 for the cubic that is left, and 8 for a second scaling, whose degree is at most 3
unfoldable pub systems_most : ℕ → ℕ
systems_most d = cond (leb d 2) 0 (cond (eqb d 3) 8 32)
