-- The loop over the places as the code has it, with the runs that have ended in an array. Definitions only.
use Rattle.std.specs.Prelude.{◌≡◌, cond, List, [], ◌∷◌, ℕ, ◌+◌, ◌^◌, ◌<◌, drop, Float}
use Rattle.scaled.specs.declared.Scaled.{Scaled}
use Rattle.roots.specs.Roots.{kept_in}
use Rattle.roots.specs.Listed.{multiplicities}
use Rattle.roots.specs.declared.RealRoot.{RealRoot}
use Rattle.roots.specs.declared.Roots.{Roots}
use Rattle.finish.specs.Finish.{is_near_of, join_of}
use Rattle.finish.specs.declared.Run.{Run}

-- the next place b joins the run, or ends it and begins the next one
unfoldable pub next_run : Scaled → Run → RealRoot → Float → Run
next_run poly run b tol =
    let a = run.at in
    let near = is_near_of poly a.value b.value tol in
    record { out = cond near run.out (kept_in run.out a); at = cond near (join_of a b) b }

-- the places that are left, one after the other, and then the last run
unfoldable pub runs_of : Scaled → Float → Run → List RealRoot → Roots
runs_of poly tol run [] = kept_in run.out run.at
runs_of poly tol run (b ∷ l) = runs_of poly tol (next_run poly run b tol) l

-- With the run at hand the places of l from k on give the whole, and their multiplicities add up to a u32.
pub record Joining (poly : Scaled) (tol : Float) (whole : Roots) (l : List RealRoot) (k : ℕ) (run : Run) : Type 0 where
  pub gives : runs_of poly tol run (drop k l) ≡ whole
  pub adds : run.at.multiplicity + multiplicities (drop k l) < 2 ^ 32
