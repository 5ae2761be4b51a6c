use native.Mathlib.Omega.{arith}
use mathlib.Core.Path.{sym, ap}
use mathlib.Core.List.{[], ◌∷◌}
use Prim.Native.Nat.{ℕ}
use Rattle.text.proofs.Laws.{written_then, written_as}
use Rattle.text.proofs.Digits.{hex_step}
use Rattle.text.proofs.Text.+hex.Goals as goal

pub returns-then-digits-gt0 : goal.returns-then-digits-gt0
returns-then-digits-gt0 t c =
    written_as (sym (hex_step c.args.digits c.args.n (omega (arith, c.if-digits-gt0.true))))
    (written_then c.hex.ensures (written_as (ap (λ (d : ℕ). d ∷ []) c.hex_digit.ensures) c.byte.ensures))
