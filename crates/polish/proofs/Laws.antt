-- One turn of `polish` by what its tests found, and the place after the turns.
use mathlib.Core.Path.{◌≡◌, ap, sym, ◌∙◌}
use mathlib.Core.Bool.{true, false}
use mathlib.Core.List.{List}
use mathlib.Core.Option.{none, some}
use Prim.Native.Nat.{ℕ, ◌+◌, ◌-◌, ◌<◌, ◌≤◌}
use lib.Ieee.{Float, binary64, sub, div, eq}
use Rattle.facts.specs.Turns.{turns_of, turns_stop, turns_go, turns_end}
use Rattle.horner.specs.Horner.{value_slope_compensated_of}
use Rattle.horner.specs.declared.ValueSlope.{ValueSlope}
use Rattle.refine.specs.Newton.{flat_of, no_gain_of}
use Rattle.polish.specs.Polish.{is_long_of, is_small_of, Place, arrived, polish_next, polish_of}

-- the place y, from which polishing goes on
abbrev pub at : Float → Place
at y = record { y = y; done = false }

-- where the turns left lead from y
abbrev pub turns_from : List Float → ℕ → Float → ℕ → Float → Float
turns_from f d gap k y = (turns_of (polish_next f d gap) k (at y)).y

pub turns_over : (f : List Float) (d : ℕ) (gap : Float) (n k : ℕ) (y : Float) → n ≤ k → turns_from f d gap (n - k) y ≡ y
turns_over f d gap n k y h = ap (λ (s : Place). s.y) (turns_end (polish_next f d gap) n k (at y) h)

module _ (f : List Float) (d : ℕ) (gap y : Float) {v : ValueSlope} (here : v ≡ value_slope_compensated_of f d y) (k : ℕ) where
  stays : polish_next f d gap (at y) ≡ none → turns_from f d gap k y ≡ y
  stays e = ap (λ (s : Place). s.y) (turns_stop (polish_next f d gap) k (at y) e)

  pub ends_flat : flat_of v.value v.slope ≡ true → turns_from f d gap k y ≡ y
  unfolding polish_next
  ends_flat t = stays (simp (rw here at t))

  module _ (steep : flat_of v.value v.slope ≡ false) {step : Float} (is : step ≡ div binary64 v.value v.slope) where
    pub ends_long : is_long_of step gap ≡ true → turns_from f d gap k y ≡ y
    unfolding polish_next
    ends_long t = stays (simp (sym here, steep, sym is, t))

    module _ (short : is_long_of step gap ≡ false) where
      pub ends_still : eq (sub binary64 y step) y ≡ true → turns_from f d gap k y ≡ y
      unfolding polish_next
      ends_still t = stays (simp (sym here, steep, sym is, short, t))

      module _ (moves : eq (sub binary64 y step) y ≡ false) {u : ValueSlope} (there : u ≡ value_slope_compensated_of f d (sub binary64 y step)) where
        pub ends_held : no_gain_of v.value u.value ≡ true → turns_from f d gap k y ≡ y
        unfolding polish_next
        ends_held t = stays (simp (sym here, steep, sym is, short, moves, sym there, t))

        module _ (gains : no_gain_of v.value u.value ≡ false) where
          moved : polish_next f d gap (at y) ≡ some (arrived step (sub binary64 y step))
          unfolding polish_next
          moved = simp (sym here, steep, sym is, short, moves, sym there, gains)

          goes : (n : ℕ) → k < n
              → turns_of (polish_next f d gap) (n - k) (at y) ≡ turns_of (polish_next f d gap) (n - (k + 1)) (arrived step (sub binary64 y step))
          goes n h = turns_go (polish_next f d gap) n k (at y) (arrived step (sub binary64 y step)) h moved

          pub ends_small : (n : ℕ) → k < n → is_small_of step (sub binary64 y step) ≡ true → turns_from f d gap (n - k) y ≡ sub binary64 y step
          unfolding polish_next
          ends_small n h t = ap (λ (s : Place). s.y) (goes n h ∙ turns_stop (polish_next f d gap) (n - (k + 1)) (arrived step (sub binary64 y step)) (rw t))

          pub goes_on : (n : ℕ) → k < n → is_small_of step (sub binary64 y step) ≡ false
              → turns_from f d gap (n - k) y ≡ turns_from f d gap (n - (k + 1)) (sub binary64 y step)
          goes_on n h t = ap (λ (s : Place). s.y) (rw t at (goes n h))

-- What the functions' proofs rest on: the laws, and the definitions.
pub ruleset laws = (turns_over, ends_flat, ends_long, ends_still, ends_held, ends_small, goes_on)

unfoldable pub definitions : ℕ
unfolding is_long_of is_small_of polish_of
definitions = 0
