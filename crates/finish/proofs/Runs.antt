-- Runs that are joined in an array are those of the list, and their multiplicities stay within what the places' add up to.
use mathlib.Core.Path.{◌≡◌, refl, sym, ap, ◌∙◌}
use mathlib.Core.Bool.{Bool, true, false, cond}
use mathlib.Core.List.{List, [], ◌∷◌}
use Prim.Native.Nat.{ℕ, ◌+◌, ◌^◌, ◌≤◌, ◌<◌}
use native.Mathlib.Nat.{le_refl}
use native.Mathlib.Omega.{arith}
use lib.ListN.{length, get_or, drop, drop_of_length-le}
use lib.Ieee.{Float}
use Rattle.facts.specs.Lists.{drop_next, length_mapped}
use Rattle.scaled.specs.declared.Scaled.{Scaled}
use Rattle.roots.specs.Roots.{roots_of, no_roots, kept, kept_in}
use Rattle.roots.specs.Listed.{blank, multiplicities}
use Rattle.roots.specs.declared.RealRoot.{RealRoot}
use Rattle.roots.specs.declared.Roots.{Roots}
use Rattle.roots.proofs.Laws.{kept_roots}
use Rattle.finish.specs.Finish.{is_near_of, join_of, joined_from, joined_of}
use Rattle.finish.specs.Run.{next_run, runs_of, Joining}
use Rattle.finish.specs.declared.Run.{Run}

module _ (poly : Scaled) (tol : Float) where
  pub runs_are : (out : List RealRoot) (a : RealRoot) (l : List RealRoot)
      → runs_of poly tol (record { out = roots_of out; at = a }) l ≡ roots_of (joined_from poly tol out a l)
  unfolding runs_of next_run joined_from
  runs_are out a [] = kept_roots out a
  runs_are out a (b ∷ l) =
      let near = is_near_of poly a.value b.value tol in
      ap (λ (o : Roots). runs_of poly tol (record { out = o; at = cond near (join_of a b) b }) l) (go near)
      ∙ runs_are (cond near out (kept out a)) (cond near (join_of a b) b) l
    where
      go : (n : Bool) → cond n (roots_of out) (kept_in (roots_of out) a) ≡ roots_of (cond n out (kept out a))
      go true = refl
      go false = kept_roots out a

  -- a run's multiplicity is no more than those of its places
  pub next_sum : (run : Run) (b : RealRoot) → (next_run poly run b tol).at.multiplicity ≤ run.at.multiplicity + b.multiplicity
  unfolding next_run join_of
  next_sum run b = go (is_near_of poly run.at.value b.value tol)
    where
      go : (n : Bool) → (cond n (join_of run.at b) b).multiplicity ≤ run.at.multiplicity + b.multiplicity
      go true = le_refl (run.at.multiplicity + b.multiplicity)
      go false = omega arith

  -- ---- one turn, by what its test found
  module _ (run : Run) (b : RealRoot) where
    pub next_joined : (j : RealRoot) → is_near_of poly run.at.value b.value tol ≡ true → j ≡ join_of run.at b
        → record { out = run.out; at = j } ≡ next_run poly run b tol
    unfolding next_run
    next_joined j t e = simp (t, e)

    pub next_ended : (more : Roots) → is_near_of poly run.at.value b.value tol ≡ false → more ≡ kept_in run.out run.at
        → record { out = more; at = b } ≡ next_run poly run b tol
    unfolding next_run
    next_ended more t e = simp (t, e)

  -- ---- the places, one after the other
  pub joined_none : (l : List RealRoot) → length l ≡ 0 → no_roots ≡ roots_of (joined_of poly tol l)
  unfolding joined_of
  joined_none [] e = refl
  joined_none (a ∷ l) e = absurd (omega (arith, e))

  pub joins_first : (a : RealRoot) (rest l : List RealRoot) {none : Roots} → l ≡ a ∷ rest → multiplicities l < 2 ^ 32 → none ≡ no_roots
      → Joining poly tol (roots_of (joined_of poly tol l)) rest 0 (record { out = none; at = a })
  unfolding joined_of
  joins_first a rest l e bound z = record { gives = rw (z, e) (runs_are [] a rest); adds = rw e at bound }

-- one place more, and after the last
module _ (poly : Scaled) (tol : Float) (whole : Roots) (l : List RealRoot) (k : ℕ) (run : Run) where
  pub joins_both : k < length l → Joining poly tol whole l k run → run.at.multiplicity + (get_or l k blank).multiplicity < 2 ^ 32
  joins_both h w = omega (arith, ap multiplicities (drop_next l k blank h), w.adds)

  abbrev more : Run
  more = next_run poly run (get_or l k blank) tol

  pub next_gives : k < length l → Joining poly tol whole l k run → runs_of poly tol more (drop (k + 1) l) ≡ whole
  unfolding runs_of
  next_gives h w = sym (ap (runs_of poly tol run) (drop_next l k blank h)) ∙ w.gives

  pub next_adds : k < length l → Joining poly tol whole l k run → more.at.multiplicity + multiplicities (drop (k + 1) l) < 2 ^ 32
  next_adds h w = omega (arith, ap multiplicities (drop_next l k blank h), next_sum poly tol run (get_or l k blank), w.adds)

  pub joins_next : {r : Run} → k < length l → Joining poly tol whole l k run
      → r ≡ next_run poly run (get_or l k blank) tol → Joining poly tol whole l (k + 1) r
  joins_next h w e = rw e (record { gives = next_gives h w; adds = next_adds h w })

  pub joins_last : length l ≤ k → Joining poly tol whole l k run → kept_in run.out run.at ≡ whole
  unfolding runs_of
  joins_last h w = sym (ap (runs_of poly tol run) (drop_of_length-le l {i = k} h)) ∙ w.gives

-- What the functions' proofs rest on; and the laws of a loop over a list of places.
pub ruleset next = (next_joined, next_ended)

pub ruleset runs = (length_mapped, joined_none, joins_first, joins_both, next_gives, next_adds, joins_last)
