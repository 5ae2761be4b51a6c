-- The scaling theorem holds of a second scaling: its coefficients are at most the leading one in size, which lies in [1, 2), and so at most 2. For where there
-- is one, `usable` has said of the quotient what the theorem asks.
use mathlib.Core.Path.{◌≡◌}
use mathlib.Core.Bool.{true, ◌&&◌, false≢true}
use mathlib.Core.List.{List}
use Prim.Native.Nat.{ℕ, ◌-◌, ◌^◌, ◌≤◌, ◌<◌}
use native.Mathlib.Omega.{arith}
use Rattle.std.specs.Prelude.{Option, Some, None}
use lib.Dec.{eqb}
use lib.ListN.{get_or}
use lib.Ieee.{Float, nan, binary64, fits, le}
use Rattle.facts.specs.Cond.{second_holds}
use Rattle.float.specs.Literals.{two64}
use Rattle.float.specs.Methods.{abs_of}
use Rattle.float.specs.Units.{units_of}
use Rattle.scaled.specs.declared.Scaled.{Scaled}
use Rattle.scaled.specs.Scaled.{scaled_of}
use Rattle.scaled.proofs.Promise.{f_held, f_leading, f_small}
use Rattle.split.specs.declared.Gap.{Gap}
use Rattle.split.specs.Gap.{Inside, magnitude_split_of}
use Rattle.split.proofs.Gaps.{split_inside}
use Rattle.factors.specs.declared.Factors.{Factors}
use Rattle.factors.specs.Factors.{degree_of}
use Rattle.large_factors.specs.Large.{large_of}
use Rattle.quotient.specs.declared.Monic.{Monic}
use Rattle.quotient.specs.Quotient.{product_of, quotient_of, usable_of}
use Rattle.quotient.proofs.Checked.{usable_finite, usable_last}
use Rattle.factorize.specs.Factorize.{second_at, second_of}

-- what the theorem says of a scaled polynomial, sizes in units of 2^-1074
pub record Promised (sc : Scaled) : Type 0 where
  pub held : (i : ℕ) → i ≤ sc.d → units_of (get_or sc.f i nan) ≤ units_of (get_or sc.f sc.d nan)
  pub leading : (2 ^ 1074 ≤ units_of (get_or sc.f sc.d nan)) × (units_of (get_or sc.f sc.d nan) < 2 ^ 1075)
  pub small : (i : ℕ) → i ≤ sc.d → (fits binary64 (get_or sc.f i nan) && le (abs_of (get_or sc.f i nan)) two64) ≡ true

promised : (g : List Float) (p : Monic) (small : ℕ) → small ≤ 4 → usable_of (quotient_of g p small) small ≡ true
    → Promised (scaled_of (quotient_of g p small) small)
unfolding scaled_of
promised g p small D U =
    let s = quotient_of g p small in
    let F = usable_finite g p small D U in
    let P = usable_last g p small D U in
    record { held = f_held s small D F P; leading = f_leading s small D F P; small = f_small s small D F P }

promised_at : (sc : Scaled) (out : Factors) (gap : Option Gap) → sc.d ≤ 4 → Inside sc.d gap → (second_at sc out gap).found ≡ true
    → Promised (second_at sc out gap).sub
promised_at sc out (Some gap) D I h =
    let large = large_of out (sc.d - gap.small) gap.threshold in
    let apart = eqb (degree_of large) (sc.d - gap.small) in
    let fine = usable_of (quotient_of sc.g (product_of large) gap.small) gap.small in
    promised sc.g (product_of large) gap.small (omega (arith, D, I.1)) (second_holds apart fine h)
promised_at sc out None D I h = absurd (false≢true h)

pub second_promised : (sc : Scaled) (out : Factors) → sc.d ≤ 4 → (second_of sc out).found ≡ true → Promised (second_of sc out).sub
unfolding second_of
second_promised sc out D h = promised_at sc out (magnitude_split_of sc.lg sc.d) D (split_inside sc.lg sc.d D) h
