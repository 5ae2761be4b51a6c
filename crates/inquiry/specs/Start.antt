-- real_roots_touching of poly.rs, `touches` an argument; the inquiry that starts it; and an inquiry that is fed. Definitions only.
use Rattle.std.specs.Prelude.{Bool, List, [], ℕ, zero, suc, Float, Result, Ok, Err}
use Rattle.refusals.specs.declared.Refusal.{Refusal}
use Rattle.refusals.specs.Refusals.{value_or, and_then}
use Rattle.roots.specs.declared.RealRoot.{RealRoot}
use Rattle.roots.specs.Roots.{list_of, pair_list_of}
use Rattle.angle.specs.declared.Sine.{Sine}
use Rattle.poly.specs.declared.Solved.{Solved}
use Rattle.poly.specs.Solve.{solve_of, no_solved}
use Rattle.asking.specs.Asking.{Asking, done, answered, places_asked}
use Rattle.touching.specs.declared.Replies.{Replies}
use Rattle.touching.specs.Replies.{no_replies}
use Rattle.touching.specs.Touching.{touching}
use Rattle.inquiry.specs.declared.Inquiry.{Inquiry}
use Rattle.inquiry.specs.declared.Seen.{Seen}
use Rattle.inquiry.specs.Inquiry.{asked_of, place_of, seen_of, after}

-- ---- the Rust's function
-- `let Some((poly, cands, pairs)) = Scaled::solve(coeffs, tol) else { return out; };`, `let roots = poly.finish(cands, tol);`, and the rest
abbrev pub touching_by : Result Solved Refusal → Asking (List RealRoot)
touching_by (Ok s) = touching s.poly s.tol (list_of s.roots) (pair_list_of s.pairs)
touching_by (Err refusal) = done []

unfoldable pub real_roots_touching : Sine → List Float → Float → Asking (List RealRoot)
real_roots_touching sine coeffs tol = touching_by (solve_of sine coeffs tol)

-- `real_roots_touching`: its list
abbrev pub real_roots_touching_of : Sine → (Float → Bool) → List Float → Float → List RealRoot
real_roots_touching_of sine touches coeffs tol = answered touches (real_roots_touching sine coeffs tol)

-- the places at which it calls touches, in order
abbrev pub places_touching_of : Sine → (Float → Bool) → List Float → Float → List Float
places_touching_of sine touches coeffs tol = places_asked touches (real_roots_touching sine coeffs tol)

-- ---- the inquiry
-- what was solved, and no reply
abbrev pub fresh_by : Solved → Inquiry
fresh_by s = record { poly = s.poly; tol = s.tol; roots = s.roots; pairs = s.pairs; systems = s.systems; replies = no_replies }

-- `start`
unfoldable pub start_of : Sine → List Float → Float → Result Inquiry Refusal
start_of sine coeffs tol = and_then (solve_of sine coeffs tol) (λ s. Ok (fresh_by s))

-- what theorems say of a start that is refused too: that its inquiry is about nothing
abbrev pub inquiry_in : Result Inquiry Refusal → Inquiry
inquiry_in start = value_or (fresh_by no_solved) start

-- the inquiry with these replies in place of its own
abbrev pub given : Inquiry → Replies → Inquiry
given q rs = record { poly = q.poly; tol = q.tol; roots = q.roots; pairs = q.pairs; systems = q.systems; replies = rs }

-- `start`, and `see` with these replies put in at once
unfoldable pub shown_after_of : Sine → List Float → Float → Replies → Result Seen Refusal
shown_after_of sine coeffs tol rs = and_then (start_of sine coeffs tol) (λ q. Ok (seen_of (given q rs)))

-- n questions, each given the reply of touches
unfoldable pub fed : (Float → Bool) → ℕ → Inquiry → Inquiry
fed touches zero q = q
fed touches (suc n) q = let p = fed touches n q in after p (touches (place_of (asked_of p)))
