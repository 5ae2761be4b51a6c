-- Demand 3 for `polish`, whatever the number of turns and the gap: a turn is taken only where the residual's size falls (`smaller`), so at the last place it is
-- no larger than at the first (`kept`), and `no_worse` gives the inequality. The places between them play no part.
use mathlib.Core.Path.{◌≡◌, refl}
use mathlib.Core.Bool.{Bool, true, false, ◌&&◌, ◌||◌, not, cond, true≢false, false≢true}
use mathlib.Core.List.{List}
use mathlib.Core.Option.{none, some}
use Prim.Native.Nat.{ℕ, ◌*◌, ◌≤◌}
use native.Mathlib.Nat.{le_refl, le_trans}
use lib.Dec.{T, ltb, eqb, nltb→le}
use lib.Ieee.{Float, nan, inf, fin, binary64, up, down, sub, div, lt, le, eq, is_nan}
use Rattle.facts.specs.Cond.{either_way}
use Rattle.facts.specs.Options.{Given}
use Rattle.facts.specs.Turns.{turns_keep}
use Rattle.float.specs.Literals.{two64, four64}
use Rattle.float.specs.Methods.{abs_of, is_finite_of}
use Rattle.float.specs.Units.{units_of}
use Rattle.horner.specs.Horner.{value_slope_compensated_of}
use Rattle.refine.specs.Newton.{flat_of, no_gain_of}
use Rattle.polish.specs.Polish.{is_long_of, Place, arrived, polish_next, polish_of}
use Rattle.accuracy.specs.Claims.{at_most, AllAtMost, residual_of, Polished}
use Rattle.accuracy.proofs.Units.{units_le}
use Rattle.accuracy.proofs.Accurate.{accurate}
use Rattle.accuracy.proofs.NoWorse.{no_worse}

-- ---- a residual that passes the test of a turn is smaller in size
not_below : (l e : Bool) → (l || (e && true)) || false ≡ false → T (not l)
not_below true e h = absurd (true≢false h)
not_below false e h = tt

smaller : (r s : Float) → is_finite_of r ≡ true → no_gain_of r s ≡ false → (is_finite_of s ≡ true) × (units_of s ≤ units_of r)
unfolding is_finite_of no_gain_of abs_of le lt eq is_nan
smaller nan s f h = absurd (false≢true f)
smaller (inf b) s f h = absurd (false≢true f)
smaller (fin b m e) nan f h = absurd (true≢false h)
smaller (fin b m e) (inf c) f h = absurd (true≢false h)
smaller (fin b m e) (fin c n d) f h =
    let x = m * up e * down d in
    let z = n * up d * down e in
    (refl, units_le c b n m d e (nltb→le x z (not_below (ltb x z) (eqb x z) h)))

-- ---- along the turns, to a place at which the residual is finite and of b units at most
module _ (f : List Float) (d : ℕ) (b : ℕ) where
  abbrev Bounded : Place → Type 0
  Bounded s = (is_finite_of (residual_of f d s.y) ≡ true) × (units_of (residual_of f d s.y) ≤ b)

  taken : (s : Place) → Bounded s → (step next : Float) → (t : Bool) → no_gain_of (residual_of f d s.y) (residual_of f d next) ≡ t
      → Given Bounded (cond t none (some (arrived step next)))
  taken s B step next true e = tt
  taken s B step next false e = let l = smaller (residual_of f d s.y) (residual_of f d next) B.0 e in (l.0, le_trans l.1 B.1)

  turn : (gap : Float) (s : Place) → Bounded s → Given Bounded (polish_next f d gap s)
  unfolding polish_next
  turn gap s B =
      let v = value_slope_compensated_of f d s.y in
      let step = div binary64 v.value v.slope in
      let next = sub binary64 s.y step in
      either_way (Given Bounded) s.done tt
      (either_way (Given Bounded) (flat_of v.value v.slope) tt
      (either_way (Given Bounded) (is_long_of step gap) tt
      (either_way (Given Bounded) (eq next s.y) tt (taken s B step next (no_gain_of (residual_of f d s.y) (residual_of f d next)) refl))))

kept : (n : ℕ) (f : List Float) (d : ℕ) (gap first : Float) → is_finite_of (residual_of f d first) ≡ true
    → units_of (residual_of f d (polish_of n f d gap first)) ≤ units_of (residual_of f d first)
unfolding polish_of
kept n f d gap first finite =
    let b = units_of (residual_of f d first) in
    (turns_keep (Bounded f d b) (polish_next f d gap) (turn f d b gap) n (record { y = first; done = false }) (finite, le_refl b)).1

-- Demand 3 for `polish`: after any number of turns, with any gap, where the first place and the last are of size 4 at most.
pub polishing : (n : ℕ) (f : List Float) (d : ℕ) (gap first : Float) → d ≤ 4 → AllAtMost two64 f d → at_most four64 first ≡ true
    → at_most four64 (polish_of n f d gap first) ≡ true → Polished f d first (polish_of n f d gap first)
polishing n f d gap first degree coefficients begin end =
    no_worse f d first (polish_of n f d gap first) degree coefficients begin end (kept n f d gap first (accurate f d first degree coefficients begin).finite)
