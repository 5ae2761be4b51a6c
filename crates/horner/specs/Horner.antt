-- A polynomial's value and slope, by Horner's rule. p holds the coefficients, ascending, and d is the degree. Definitions only.
use Rattle.std.specs.Prelude.{ℕ, List, get_or, Float}
use Rattle.std.specs.Float.{nan}
use Rattle.facts.specs.Count.{count_down}
use Rattle.float.specs.Rounded.{◌+ᶠ◌, ◌-ᶠ◌, ◌*ᶠ◌}
use Rattle.float.specs.Literals.{zero64}
use Rattle.horner.specs.Loops.{at_place}
use Rattle.horner.specs.Product.{product_error}
use Rattle.horner.specs.declared.ValueSlope.{ValueSlope}

-- one turn of `value_slope`, at the coefficient c: the slope takes the value of the turn before
unfoldable pub horner_step : Float → Float → ValueSlope → ValueSlope
horner_step y c h = record {
  -- s = s * y + v;
  slope = h.slope *ᶠ y +ᶠ h.value;
  -- v = v * y + c;
  value = h.value *ᶠ y +ᶠ c;
}

-- `value_slope`, the value and the first derivative at y: `let (mut v, mut s) = (p[d], 0.0);`, then `for &c in p[..d].iter().rev()`
unfoldable pub value_slope_of : List Float → ℕ → Float → ValueSlope
value_slope_of p d y = count_down (at_place (horner_step y) p) d (record { value = get_or p d nan; slope = zero64 })

-- `let sum_err = (prod - (sum - back)) + (c - back);`: the rounding error of the sum of prod and c, by Knuth's formula
unfoldable pub sum_error : Float → Float → Float → Float
sum_error prod c sum =
    -- let back = sum - prod;
    let back = sum -ᶠ prod in
    prod -ᶠ (sum -ᶠ back) +ᶠ (c -ᶠ back)

-- the locals of `value_slope_compensated`: the plain value, the error gathered so far, and the slope
pub record Horner : Type 0 where
  pub v : Float
  pub err : Float
  pub s : Float

-- one turn of `value_slope_compensated`, at the coefficient c
unfoldable pub compensated_step : Float → Float → Horner → Horner
compensated_step y c h =
    -- let (prod, prod_err) = two_prod(v, y);
    let prod = h.v *ᶠ y in
    let prodErr = product_error h.v y prod in
    -- let sum = prod + c;
    let sum = prod +ᶠ c in
    let sumErr = sum_error prod c sum in
    record {
      -- s = s * y + v;
      s = h.s *ᶠ y +ᶠ h.v;
      -- err = err * y + (prod_err + sum_err);
      err = h.err *ᶠ y +ᶠ (prodErr +ᶠ sumErr);
      -- v = sum;
      v = sum;
    }

-- the locals after the loop: `let (mut v, mut err, mut s) = (p[d], 0.0, 0.0);`, then `for &c in p[..d].iter().rev()`
unfoldable pub compensated_of : List Float → ℕ → Float → Horner
compensated_of p d y = count_down (at_place (compensated_step y) p) d (record { v = get_or p d nan; err = zero64; s = zero64 })

-- `(v + err, s)`: the value with its error added, and the slope
abbrev pub corrected : Horner → ValueSlope
corrected h = record { value = h.v +ᶠ h.err; slope = h.s }

-- `value_slope_compensated` (Graillat, Langlois, Louvet): the value with what its rounding lost added back, and the first derivative at y
unfoldable pub value_slope_compensated_of : List Float → ℕ → Float → ValueSlope
value_slope_compensated_of p d y = corrected (compensated_of p d y)
