-- A list whose logarithms show no gap is solved alike without them: its factors are those at its own scale, by as many systems; nothing else reads one.
use mathlib.Core.Path.{◌≡◌, refl, sym, ap, ◌∙◌, subst}
use mathlib.Core.Logic.{⊎_elim}
use mathlib.Core.Bool.{Bool, cond}
use mathlib.Core.List.{List, [], ◌∷◌}
use Prim.Native.Nat.{ℕ, zero, suc, ◌+◌, ◌≤◌}
use native.Mathlib.Omega.{arith}
use lib.Dec.{leb}
use lib.ListN.{replicate}
use lib.Ieee.{Float, neg, of_bits}
use Rattle.facts.specs.Cond.{either_way}
use Rattle.facts.specs.Count.{count_up}
use Rattle.float.specs.Literals.{inf64}
use Rattle.float.specs.Methods.{is_finite_of}
use Rattle.angle.specs.declared.Sine.{Sine}
use Rattle.scaled.specs.declared.Scaled.{Scaled}
use Rattle.scaled.specs.Scaled.{scaled_of, log_sizes_of, with_logs_of}
use Rattle.split.specs.Hull.{hull_of, hull_step}
use Rattle.std.specs.Prelude.{None}
use Rattle.split.specs.Gap.{split_from, magnitude_split_of}
use Rattle.factors.specs.declared.Factors.{Factors}
use Rattle.factorize.specs.Factorize.{out_of, second_of, factors_from, factorize_of, out_systems_of, systems_from, factorize_systems_of}
use Rattle.roots.specs.declared.RealRoot.{RealRoot}
use Rattle.roots.specs.declared.Pair.{Pair}
use Rattle.roots.specs.Roots.{kept, roots_of, pairs_of}
use Rattle.band.specs.Band.{noise_of, band_of, within_band_of}
use Rattle.critical.specs.Critical.{critical_point_of}
use Rattle.push.specs.Quadratic.{quadratic_roots_of, push_quadratic_of}
use Rattle.finish.specs.Finish.{ordered_of, polished_at, polished_of, is_near_of, join_of, joined_from, joined_of, finish_of}
use Rattle.level.specs.Level.{NoGap}
use Rattle.poly.specs.Brief.{Enough, other_logs, relogged}
use Rattle.poly.specs.Solve.{candidates_of, finished_of}

-- ---- the factors, and how many systems are solved for them
no_second : (sine : Sine) (sc : Scaled) → magnitude_split_of sc.lg sc.d ≡ None → factorize_of sine sc 0 ≡ out_of sine sc.g sc.d
unfolding factorize_of factors_from second_of
no_second sine sc e = rw e (either_way (λ (f : Factors). f ≡ out_of sine sc.g sc.d) (leb sc.d 2) refl refl)

no_more : (n : ℕ) (b : Bool) → n + cond b 0 0 ≡ n
no_more n b = either_way (λ (m : ℕ). n + m ≡ n) b (omega arith) (omega arith)

none_more : (sine : Sine) (sc : Scaled) → magnitude_split_of sc.lg sc.d ≡ None → factorize_systems_of sine sc 0 ≡ out_systems_of sine sc.g sc.d
unfolding factorize_systems_of systems_from second_of
none_more sine sc e = rw e (no_more (out_systems_of sine sc.g sc.d) (leb sc.d 2))

none_found : (d : ℕ) → d ≤ 4 → magnitude_split_of (replicate 5 (neg inf64)) d ≡ None
unfolding magnitude_split_of hull_of hull_step count_up split_from is_finite_of neg of_bits
none_found zero l = refl
none_found (suc zero) l = refl
none_found (suc (suc zero)) l = refl
none_found (suc (suc (suc zero))) l = refl
none_found (suc (suc (suc (suc zero)))) l = refl
none_found (suc (suc (suc (suc (suc d))))) l = absurd (omega arith)

-- ---- a polynomial with other logarithms
module _ (sc : Scaled) (lg : List Float) where
  abbrev other : Scaled
  other = other_logs lg sc

  same_candidates : (zeros : ℕ) (f : Factors) (tol : Float) → candidates_of other zeros f tol ≡ candidates_of sc zeros f tol
  unfolding candidates_of push_quadratic_of quadratic_roots_of band_of noise_of within_band_of critical_point_of
  same_candidates zeros f tol = refl

  same_joined : (tol : Float) (out : List RealRoot) (a : RealRoot) (l : List RealRoot) → joined_from other tol out a l ≡ joined_from sc tol out a l
  unfolding joined_from is_near_of within_band_of noise_of
  same_joined tol out a [] = refl
  same_joined tol out a (b ∷ l) =
      let near = is_near_of sc a.value b.value tol in same_joined tol (cond near out (kept out a)) (cond near (join_of a b) b) l

  same_finish : (c : List RealRoot) (tol : Float) → finish_of other c tol ≡ finish_of sc c tol
  unfolding finish_of polished_of polished_at joined_of
  same_finish c tol = go (polished_of 4 sc (ordered_of c))
    where
      go : (l : List RealRoot) → joined_of other tol l ≡ joined_of sc tol l
      go [] = refl
      go (a ∷ l) = same_joined tol [] a l

  same_solved : (sine : Sine) (zeros : ℕ) (tol : Float) → factorize_of sine other 0 ≡ factorize_of sine sc 0
      → factorize_systems_of sine other 0 ≡ factorize_systems_of sine sc 0
      → finished_of sine other zeros tol ≡ relogged lg (finished_of sine sc zeros tol)
  unfolding finished_of
  same_solved sine zeros tol e h =
      let c : candidates_of other zeros (factorize_of sine other 0) tol ≡ candidates_of sc zeros (factorize_of sine sc 0) tol =
      ap (λ (f : Factors). candidates_of other zeros f tol) e ∙ same_candidates zeros (factorize_of sine sc 0) tol in
      let roots = ap (λ (x : List RealRoot × List Pair). roots_of (finish_of other x.0 tol)) c ∙ ap roots_of (same_finish _ tol) in
      λ i. record { poly = other; tol = tol; roots = roots i; pairs = pairs_of (c i).1; systems = h i }

pub brief_solved : (sine : Sine) (a : List Float) (d l zeros : ℕ) (tol : Float) → d ≤ 4 → Enough a d l
    → (lg : List Float) × (finished_of sine (with_logs_of a d l) zeros tol ≡ relogged lg (finished_of sine (scaled_of a d) zeros tol))
unfolding with_logs_of scaled_of log_sizes_of finished_of
brief_solved sine a d l zeros tol D = ⊎_elim full (λ h. brief h.0 h.1)
  where
    Brief : ℕ → Type 0
    Brief n = (lg : List Float) × (finished_of sine (with_logs_of a d n) zeros tol ≡ relogged lg (finished_of sine (scaled_of a d) zeros tol))

    full : l ≡ d → Brief l
    full h = subst Brief (sym h) ((scaled_of a d).lg, refl)

    brief : l ≡ 0 → NoGap a d → Brief l
    brief h n =
        let lg = replicate 5 (neg inf64) in
        let some = none_found d D in
        let same = no_second sine (with_logs_of a d 0) some ∙ sym (no_second sine (scaled_of a d) n) in
        let count = none_more sine (with_logs_of a d 0) some ∙ sym (none_more sine (scaled_of a d) n) in
        subst Brief (sym h) (lg, same_solved (scaled_of a d) lg sine zeros tol same count)
