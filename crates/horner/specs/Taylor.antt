-- Derivatives and Taylor coefficients. p holds the coefficients, ascending, and d is the degree. Definitions only.
use Rattle.std.specs.Prelude.{ℕ, ◌+◌, cond, List, leb, pos, get_or, set, Float}
use Rattle.std.specs.Float.{nan, binary64}
use Rattle.std.specs.Float.Ieee.{of_int}
use Rattle.facts.specs.Count.{count_up}
use Rattle.float.specs.Rounded.{◌+ᶠ◌, ◌-ᶠ◌, ◌*ᶠ◌}
use Rattle.float.specs.Literals.{zero64, one64}
use Rattle.horner.specs.Loops.{down_to}
use Rattle.horner.specs.declared.Derivs.{Derivs}

-- one turn of `derivs12`, at place i
unfoldable pub derivs_step : List Float → Float → ℕ → Derivs → Derivs
derivs_step p y i h =
    -- let k = i as f64;
    let k = of_int binary64 (pos i) in
    record {
      -- d1 = d1 * y + k * p[i];
      d1 = h.d1 *ᶠ y +ᶠ k *ᶠ get_or p i nan;
      -- if i >= 2 { d2 = d2 * y + k * (k - 1.0) * p[i]; }
      d2 = cond (leb 2 i) (h.d2 *ᶠ y +ᶠ k *ᶠ (k -ᶠ one64) *ᶠ get_or p i nan) h.d2;
    }

-- `derivs12`, the first and second derivative at y: `let (mut d1, mut d2) = (0.0, 0.0);`, then `for i in (1..=d).rev()`
unfoldable pub derivs12_of : List Float → ℕ → Float → Derivs
derivs12_of p d y = down_to 1 (derivs_step p y) (d + 1) (record { d1 = zero64; d2 = zero64 })

-- `t[i] += y * t[i + 1];`
unfoldable pub taylor_step : Float → ℕ → List Float → List Float
taylor_step y i t = set t i (get_or t i nan +ᶠ y *ᶠ get_or t (i + 1) nan)

-- `for i in (k..d).rev()`: one synthetic division from d down to k, after which t[k] is final
unfoldable pub sweep_of : Float → ℕ → ℕ → List Float → List Float
sweep_of y d k t = down_to k (taylor_step y) d t

-- `taylor`, the coefficients of p about y: `let mut t = *p;`, then `for k in 0..d`
unfoldable pub taylor_of : List Float → ℕ → Float → List Float
taylor_of p d y = count_up d (sweep_of y d) d p
