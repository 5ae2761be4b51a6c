-- One turn and the end of a downward loop, with the count as code has it, and of a loop over a list from its end; that a small number is exact as a float; and
-- what the proofs rest on: the laws of the loops, and the definitions.
use mathlib.Core.Path.{◌≡◌, refl, ap, ◌∙◌}
use Prim.Native.Nat.{ℕ, zero, suc, ◌+◌, ◌-◌, ◌^◌, ◌≤◌, ◌<◌}
use native.Mathlib.Omega.{arith}
use lib.Dec.{T, le→leb}
use lib.IntN.{pos}
use lib.Ieee.{binary64, in_float}
use Rattle.std.proofs.Math.Seq.{take-suc}
use Rattle.std.proofs.lemmas.List.{reverse-append}
use Rattle.std.specs.Prelude.{List, [], ◌∷◌, length, take, reverse, fold, get_or, Float}
use Rattle.std.specs.Float.{nan}
use Rattle.std.specs.List.{push}
use Rattle.facts.specs.Count.{count_down, up_turn, up_end, down_end}
use Rattle.horner.specs.Loops.{down_to, at_place}
use Rattle.horner.specs.Product.{split_high, product_error, two_prod_of, discriminant_of}
use Rattle.horner.specs.Horner.{horner_step, value_slope_of, sum_error, compensated_step, compensated_of, value_slope_compensated_of}
use Rattle.horner.specs.Taylor.{derivs_step, derivs12_of, taylor_step, sweep_of, taylor_of}

module _ {A : Type 0} where
  pub down_to_turn : (k : ℕ) (f : ℕ → A → A) (i : ℕ) (a : A) → k < i → down_to k f i a ≡ down_to k f (i - 1) (f (i - 1) a)
  unfolding down_to count_down
  down_to_turn k f i a h =
      let e : i - k ≡ suc (i - 1 - k) = omega arith in
      let g : k + (i - 1 - k) ≡ i - 1 = omega arith in
      ap (λ (n : ℕ). count_down (λ (j : ℕ). f (k + j)) n a) e ∙ ap (λ (n : ℕ). down_to k f (i - 1) (f n a)) g

  pub down_to_end : (k : ℕ) (f : ℕ → A → A) (i : ℕ) (a : A) → i ≤ k → down_to k f i a ≡ a
  unfolding down_to
  down_to_end k f i a h = down_end (λ (j : ℕ). f (k + j)) (i - k) a (omega arith)

-- a loop over a list from its end: rest is what is left
module _ {A : Type 0} (step : Float → A → A) where
  abbrev pub from_end : List Float → A → A
  from_end rest a = fold (λ h c. step c h) a (reverse rest)

  pub end_turn : (rest left : List Float) (c : Float) (a : A) → rest ≡ push left c → from_end rest a ≡ from_end left (step c a)
  end_turn rest left c a e = rw (e, reverse-append)

  pub end_none : (rest : List Float) (a : A) → length rest ≡ 0 → from_end rest a ≡ a
  end_none [] a e = refl
  end_none (c ∷ rest) a e = absurd (omega (arith, e))

  pub end_all : (f : List Float) (d : ℕ) (a : A) → d ≤ length f → from_end (take d f) a ≡ count_down (at_place step f) d a
  unfolding count_down
  end_all f zero a h = refl
  end_all f (suc d) a h = rw (take-suc f d nan (omega arith), reverse-append) (end_all f d (step (get_or f d nan) a) (omega arith))

pub small_exact : (i : ℕ) → i ≤ 4 → T (in_float binary64 (pos i))
unfolding in_float
small_exact i h = le→leb i (2 ^ 53) (omega arith)

pub ruleset turns = (up_turn, up_end, down_to_turn, down_to_end, end_turn, end_none, end_all, small_exact)

unfoldable pub definitions : ℕ
unfolding split_high product_error two_prod_of discriminant_of horner_step value_slope_of sum_error compensated_step compensated_of value_slope_compensated_of
    derivs_step derivs12_of taylor_step sweep_of taylor_of
definitions = 0
