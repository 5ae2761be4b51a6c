-- One turn of `critical_point` by what its tests found, and Rust's `then_some`.
use mathlib.Core.Path.{◌≡◌, refl, sym}
use mathlib.Core.Bool.{Bool, true, false, cond, ◌||◌}
use mathlib.Core.List.{List}
use mathlib.Core.Option.{none, some}
use Prim.Native.Nat.{ℕ}
use Rattle.std.specs.Bool.{then_some}
use Rattle.std.specs.Prelude.{Some, None}
use lib.Ieee.{Float, lt, le, eq, binary64, sub, div}
use Rattle.std.proofs.Common.{Less, Equal, Greater}
use Rattle.std.specs.Ordering.{is_le, partial_le, is_some_and, float_partial_cmp}
use Rattle.facts.specs.Turns.{turns_of}
use Rattle.horner.specs.Taylor.{derivs12_of}
use Rattle.horner.specs.declared.Derivs.{Derivs}
use Rattle.horner.specs.declared.ValueSlope.{ValueSlope}
use Rattle.refine.specs.Newton.{newton_by, flat_of, no_gain_of}
use Rattle.band.specs.Band.{noise_of, band_of}
use Rattle.critical.specs.Critical.{is_between_of, critical_next, critical_point_of, extremum_of}

-- the turns of `newton` on the first two derivatives, to places within [lo, hi], are those of `critical_point`
abbrev sloped : Derivs → ValueSlope
sloped v = record { value = v.d1; slope = v.d2 }

pub as_critical : (f : List Float) (d : ℕ) (lo hi y r : Float)
    → r ≡ turns_of (newton_by (λ x. sloped (derivs12_of f d x)) (λ x. is_between_of lo x hi)) 4 y → r ≡ turns_of (critical_next f d lo hi) 4 y
unfolding critical_next newton_by
as_critical f d lo hi y r is = is

pub some_where : {A : Type 0} (b : Bool) (x : A) → then_some b x ≡ cond b (Some x) None
some_where true x = refl
some_where false x = refl

-- a range lo..=hi contains what lies between: std's order of doubles is `le`
pub said_le : (x y : Float) → partial_le float_partial_cmp x y ≡ le x y
unfolding le
said_le x y = go (lt x y) (eq x y) (lt y x)
  where
    go : (l e g : Bool) → is_some_and is_le (cond l (Some Less) (cond e (Some Equal) (cond g (Some Greater) None))) ≡ (l || e)
    go true e g = refl
    go false true g = refl
    go false false true = refl
    go false false false = refl

module _ (f : List Float) (d : ℕ) (lo hi y : Float) {v : Derivs}
    (here : v ≡ derivs12_of f d y) where
  pub critical_flat : flat_of v.d1 v.d2 ≡ true → critical_next f d lo hi y ≡ none
  unfolding critical_next
  critical_flat t = simp (rw here at t)

  module _ (steep : flat_of v.d1 v.d2 ≡ false) where
    abbrev next : Float
    next = sub binary64 y (div binary64 v.d1 v.d2)

    pub critical_outside : is_between_of lo next hi ≡ false → critical_next f d lo hi y ≡ none
    unfolding critical_next
    critical_outside t = simp (sym here, steep, t)

    module _ {u : Derivs} (inside : is_between_of lo next hi ≡ true)
        (there : u ≡ derivs12_of f d next) where
      pub critical_held : no_gain_of v.d1 u.d1 ≡ true → critical_next f d lo hi y ≡ none
      unfolding critical_next
      critical_held t = simp (sym here, steep, inside, sym there, t)

      pub critical_moved : no_gain_of v.d1 u.d1 ≡ false → critical_next f d lo hi y ≡ some next
      unfolding critical_next
      critical_moved t = simp (sym here, steep, inside, sym there, t)

-- What the functions' proofs rest on: the laws, and the definitions.
pub ruleset laws = (as_critical, some_where)

unfoldable pub definitions : ℕ
unfolding noise_of band_of is_between_of critical_point_of extremum_of
definitions = 0
