-- The definition by what the function's tests say of x.
use mathlib.Core.Path.{◌≡◌, sym, ap, ◌∙◌}
use mathlib.Core.Logic.{⊎_elim}
use mathlib.Core.Bool.{true, false}
use Prim.Native.Nat.{ℕ, ◌+◌, ◌*◌, ◌^◌, ◌<◌}
use native.Mathlib.Omega.{arith}
use lib.IntN.{ℤ, pos, ◌-ℤ◌}
use lib.Ieee.{Float, nan, fin, binary64, minus, div, of_bits, of_int, eq, lt}
use mir.Syntax.{w32}
use mir.Val.{SFits, to_z, of_z}
use Rattle.float.specs.Literals.{zero64}
use Rattle.float.specs.Units.{units_of}
use Rattle.float.proofs.Bits.{nan_pattern}
use Rattle.std.specs.Prelude.{Some, None}
use Rattle.decode.specs.Shape.{Decoded}
use Rattle.decode.specs.declared.digits.Digits.{Digits}
use Rattle.decode.proofs.Class.{zero_is, negative_view, special_view, positive_view, decoded_irregular, decoded_regular, decoded_normal}
use Rattle.log2.specs.Log.{grid_of, over256, log2_grid_of}
use Rattle.log2.specs.Parts.{Fraction}
use Rattle.log2.proofs.Grid.{power_size}
use Rattle.decode.proofs.Difference.{minus_is, minus_fits, machine_fits, machine_is}
use Rattle.log2.proofs.Machine.{over_is}

pub log_zero : (x : Float) → eq x zero64 ≡ true → of_bits binary64 0xfff0_0000_0000_0000 ≡ log2_grid_of x
unfolding log2_grid_of of_bits
log_zero x e = sym (ap log2_grid_of (zero_is x e).2)

pub log_negative : (x : Float) → lt x zero64 ≡ true → nan ≡ log2_grid_of x
unfolding log2_grid_of
log_negative x e = ⊎_elim (λ i. sym (ap log2_grid_of i)) (λ v. sym (ap log2_grid_of v.2)) (negative_view x e)

-- an infinity and a NaN are their own logarithms
pub log_special : (x : Float) → Decoded x None → eq x zero64 ≡ false → lt x zero64 ≡ false → x ≡ log2_grid_of x
unfolding log2_grid_of
log_special x d a b = ⊎_elim (λ i. i ∙ sym (ap log2_grid_of i)) (λ i. i ∙ sym (ap log2_grid_of i)) (special_view x b a (decoded_irregular x d))

module _ (x : Float) (d : Digits) (D : Decoded x (Some d)) (f : ℕ) (b : Fraction d.w f) where
  pub place : d.k * 256 + f < 600000
  place = let g = b.small in omega (arith, (decoded_normal x d D).reach)

  pub place_fits : SFits w32 (to_z w32 (d.k * 256 + f) -ℤ pos 274944)
  place_fits = machine_fits 274943 (d.k * 256 + f) (omega arith) (omega (arith, place))

  grid_is : grid_of (units_of x) ≡ pos (d.k * 256 + f) -ℤ pos 274944
  unfolding grid_of
  grid_is =
      ap (λ (j : ℕ). minus j 274945) (power_size (units_of x) d.w d.k 52 256 f (decoded_normal x d D).value b.low b.high) ∙ minus_is 274943 (d.k * 256 + f)

  positive_is : lt x zero64 ≡ false → log2_grid_of x ≡ over256 (grid_of (units_of x))
  unfolding log2_grid_of
  positive_is a =
      let v = positive_view x a (decoded_regular x d D) in
      ap log2_grid_of v.2 ∙ ap (λ (y : Float). over256 (grid_of (units_of y))) (sym v.2)

  pub log_positive : lt x zero64 ≡ false → div binary64
      (of_int binary64 (to_z w32 (of_z w32 (to_z w32 (d.k * 256 + f) -ℤ pos 274944)))) (of_bits binary64 0x4070_0000_0000_0000) ≡ log2_grid_of x
  unfolding of_bits
  log_positive a =
      let s : d.k * 256 + f < 2 ^ 31 = omega (arith, place) in
      ap (λ (y : ℤ). div binary64 (of_int binary64 y) (fin false 1 (pos 8))) (machine_is 274943 (d.k * 256 + f) (omega arith) s)
      ∙ over_is (pos (d.k * 256 + f) -ℤ pos 274944) (minus_fits 274943 (d.k * 256 + f) (omega arith) s)
      ∙ ap over256 (sym grid_is)
      ∙ sym (positive_is a)

-- what `log2_grid` rests on
pub ruleset cases = (nan_pattern, log_zero, log_negative, log_special, place, place_fits, log_positive)
