-- The crank's samples, one turn after the other.
use mathlib.Core.Path.{◌≡◌, refl, sym, ap, ◌∙◌}
use mathlib.Core.Bool.{Bool, cond}
use Prim.Native.Nat.{ℕ, ◌+◌, ◌-◌, ◌<◌, ◌≤◌}
use lib.Ieee.{Float}
use Rattle.facts.specs.Count.{count_up, up_turn, up_end}
use Rattle.float.specs.Methods.{abs_of, total_le_of}
use Rattle.trig_quartic.specs.declared.TrigEquation.{TrigEquation}
use Rattle.trig_quartic.specs.Crank.{f_at_of, sampled_of, sample_of}

module _ (trig : TrigEquation) where
  -- k once the samples from j on are taken too, from (k, largest) before them
  abbrev pub chosen : ℕ → ℕ × Float → ℕ
  chosen j s = (count_up 8 (sampled_of trig) (8 - j) s).0

  pub first_sample : {x largest : Float} → x ≡ f_at_of trig 4 → largest ≡ abs_of x
      → chosen 1 (0, largest) ≡ sample_of trig
  unfolding sample_of
  first_sample is_x is = rw (is, is_x)

  pub next_sample : (j k : ℕ) (largest : Float) {x v : Float} {b c : Bool} → j < 8
      → x ≡ f_at_of trig (j + 4) → v ≡ abs_of x
      → b ≡ total_le_of largest v → b ≡ c
      → chosen (j + 1) (cond c (j, v) (k, largest)) ≡ chosen j (k, largest)
  next_sample j k largest {x} {v} below is_x is-v is_b h =
      let is : v ≡ abs_of (f_at_of trig (j + 4)) = is-v ∙ ap abs_of is_x in
      sym
      (ap (λ (s : ℕ × Float). s.0) (up_turn 8 (sampled_of trig) j (k, largest) below)
      ∙ rw (sym is, sym is_b, h) refl)

  pub last_sample : (j k : ℕ) (largest : Float) → 8 ≤ j → chosen j (k, largest) ≡ k
  last_sample j k largest h =
      ap (λ (s : ℕ × Float). s.0) (up_end 8 (sampled_of trig) j (k, largest) h)
