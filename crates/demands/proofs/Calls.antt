-- The number of calls: each definition of Calls.antt gives the value that the definition gives, and the count that stands beside it.
use mathlib.Core.Path.{◌≡◌, refl, ap, ◌∙◌}
use mathlib.Core.Bool.{Bool, true, false, cond}
use mathlib.Core.List.{List}
use mathlib.Core.Option.{Option, none, some, Option-elim}
use Prim.Native.Nat.{ℕ, zero, suc, ◌+◌, ◌-◌, ◌≤◌, ◌<◌}
use native.Mathlib.Omega.{arith}
use borrow.Author.Tests.{lt-leb, ne_eqb}
use lib.Dec.{leb, eqb}
use lib.Ieee.{Float}
use Rattle.std.specs.Prelude.{Option as RustOption, Some, None}
use Rattle.facts.specs.Turns.{turns_of}
use Rattle.tally.specs.declared.Tallied.{Tallied}
use Rattle.tally.specs.Tally.{tallied}
use Rattle.refine.specs.Refine.{System, weighted_of, norm_of, is_settled_of, trial_of, kept_of, next_of, refine_of}
use Rattle.refine.specs.Refine.{turn_systems_of, turns_systems_of, refine_systems_of}
use Rattle.angle.specs.declared.Sine.{Sine}
use Rattle.cubic.specs.Cubic.{cubic_factor_of, cubic_systems_of}
use Rattle.quartic.specs.declared.QuarticFactor.{QuarticFactor}
use Rattle.quartic.specs.Quartic.{quartic_factor_of, quartic_systems_of}
use Rattle.isolated.specs.Isolated.{peel_root_of, peel_systems_of}
use Rattle.scaled.specs.declared.Scaled.{Scaled}
use Rattle.factors.specs.declared.Factors.{Factors}
use Rattle.factorize.specs.Factorize.{cubic_factors_of, paired_of, quartic_factors_of, out_of, second_of, factors_from, factorize_of}
use Rattle.factorize.specs.Factorize.{paired_systems_of, quartic_factors_systems_of, out_systems_of, systems_from, factorize_systems_of}
use Rattle.demands.specs.Calls.{◌then◌, uncalled, trial_called, next_called, refine_called, peel_called, cubic_called, quartic_called, paired_called, out_called}
use Rattle.demands.specs.Calls.{factors_called, factorize_called}

-- t is a, with n calls
abbrev pub Is : {A : Type 0} → Tallied A → A → ℕ → Type 0
Is t a n = t ≡ tallied a n

module _ {A B : Type 0} (f : A → Tallied B) {t : Tallied A} {a : A} {n : ℕ} {b : B} (T : Is t a n) where
  then_is : {m : ℕ} → Is (f a) b m → Is (t then f) b (n + m)
  unfolding ◌then◌
  then_is F = ap (λ (u : Tallied A). u then f) T ∙ ap (λ (u : Tallied B). tallied u.value (n + u.systems)) F

  -- where f makes no call
  then_made : f a ≡ uncalled b → Is (t then f) b n
  then_made F = then_is F ∙ ap (λ (k : ℕ). tallied b k) (omega arith)

module _ (n : ℕ) (sys : System) where
  trial_is : (x w mag : List Float) (j : List (List Float)) → Is (trial_called n x w mag j) (trial_of n x w mag j) 1
  unfolding trial_called trial_of ◌then◌
  trial_is x w mag j = refl

  next_is : (x : List Float) → Is (next_called n sys x) (next_of n sys x) (turn_systems_of n sys x)
  unfolding next_called next_of turn_systems_of
  next_is x =
      let mag = sys.mag x in
      let w = weighted_of n (sys.res x) mag in
      let current = norm_of w in
      go (is_settled_of current) (then_made (λ next. uncalled (kept_of n sys current next)) (trial_is x w mag (sys.jac x)) refl)
    where
      go : {o : Option (List Float)} {t : Tallied (Option (List Float))} (settled : Bool) → Is t o 1
          → Is (cond settled (uncalled none) t) (cond settled none o) (cond settled 0 1)
      go true T = refl
      go false T = T

  refine_is : (k : ℕ) (x : List Float) → Is (refine_called n sys k x) (turns_of (next_of n sys) k x) (turns_systems_of n sys k x)
  unfolding refine_called turns_of turns_systems_of Option-elim
  refine_is zero x = refl
  refine_is (suc k) x = then_is _ (next_is x) (go (next_of n sys x) (λ y. refine_is k y))
    where
      go : (o : Option (List Float)) → ((y : List Float) → Is (refine_called n sys k y) (turns_of (next_of n sys) k y) (turns_systems_of n sys k y))
          → Is (Option-elim o (uncalled x) (refine_called n sys k)) (Option-elim o x (turns_of (next_of n sys) k))
          (Option-elim o 0 (turns_systems_of n sys k))
      go none rest = refl
      go (some y) rest = rest y

  of_refine : (x : List Float) → Is (refine_called n sys 8 x) (refine_of n sys x) (refine_systems_of n sys x)
  unfolding refine_of refine_systems_of
  of_refine x = refine_is 8 x

peel_is : (b c d e r : Float) → Is (peel_called b c d e r) (peel_root_of b c d e r) (peel_systems_of b c d e r)
unfolding peel_called peel_root_of peel_systems_of
peel_is b c d e r = then_made _ (of_refine 4 _ _) refl

module _ (sine : Sine) where
  cubic_is : (b c d : Float) → Is (cubic_called sine b c d) (cubic_factor_of sine b c d) (cubic_systems_of sine b c d)
  unfolding cubic_called cubic_factor_of cubic_systems_of
  cubic_is b c d = then_made _ (of_refine 3 _ _) refl

  quartic_is : (b c d e : Float) → Is (quartic_called sine b c d e) (quartic_factor_of sine b c d e) (quartic_systems_of sine b c d e)
  unfolding quartic_called quartic_factor_of quartic_systems_of
  quartic_is b c d e = then_made _ (of_refine 4 _ _) refl

  paired_is : (b c d e : Float) (quads : QuarticFactor) (far : RustOption Float)
      → Is (paired_called sine b c d e quads far) (paired_of sine b c d e quads far) (paired_systems_of sine b c d e far)
  unfolding paired_called paired_of paired_systems_of
  paired_is b c d e quads (Some r) = then_is _ (peel_is b c d e r) (then_made _ (cubic_is _ _ _) refl)
  paired_is b c d e quads None = refl

  module _ (g : List Float) (d : ℕ) (h : 3 < d) where
    other : (k : ℕ) → k ≤ 3 → eqb d k ≡ false
    other k l = ne_eqb d k (λ e. absurd (omega (arith, h, l, e)))

    large_is : Is (out_called sine g d) (out_of sine g d) (out_systems_of sine g d)
    unfolding out_called out_of out_systems_of quartic_factors_of quartic_factors_systems_of
    large_is =
        rw (other 0 (omega arith), other 1 (omega arith), other 2 (omega arith), other 3 (omega arith), lt-leb d 2 (omega (arith, h)))
        (then_is _ (quartic_is _ _ _ _) (paired_is _ _ _ _ _ _))

  out_is : (g : List Float) (d : ℕ) → Is (out_called sine g d) (out_of sine g d) (out_systems_of sine g d)
  unfolding out_called out_of out_systems_of cubic_factors_of
  out_is g zero = refl
  out_is g (suc zero) = refl
  out_is g (suc (suc zero)) = refl
  out_is g (suc (suc (suc zero))) = then_made _ (cubic_is _ _ _) refl
  out_is g (suc (suc (suc (suc d)))) = large_is g (suc (suc (suc (suc d)))) (omega arith)

  factors_is : (left : ℕ) (sc : Scaled) → Is (factors_called sine left sc) (factors_from sine left sc) (systems_from sine left sc)
  unfolding factors_called factors_from systems_from
  factors_is zero sc = out_is sc.g sc.d
  factors_is (suc left) sc =
      let out = out_of sine sc.g sc.d in
      let second = second_of sc out in
      then_is _ (out_is sc.g sc.d) (go out (leb sc.d 2) second.found (then_made _ (factors_is left second.sub) refl))
    where
      go : (out : Factors) {merged : Factors} {t : Tallied Factors} {n : ℕ} (low found : Bool) → Is t merged n
          → Is (cond low (uncalled out) (cond found t (uncalled out))) (cond low out (cond found merged out)) (cond low 0 (cond found n 0))
      go out true found T = refl
      go out false true T = T
      go out false false T = refl

  -- `factorize`: its factors, and as many calls as are counted beside them
  pub factorize_is : (sc : Scaled) (depth : ℕ) → Is (factorize_called sine sc depth) (factorize_of sine sc depth) (factorize_systems_of sine sc depth)
  unfolding factorize_called factorize_of factorize_systems_of
  factorize_is sc depth = factors_is (3 - depth) sc
