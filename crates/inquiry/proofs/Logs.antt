-- Nothing that an inquiry shows depends on the logarithms of its polynomial.
use mathlib.Core.Path.{◌≡◌, refl, ap, ◌∙◌}
use mathlib.Core.Bool.{cond}
use mathlib.Core.List.{List}
use lib.Ieee.{Float}
use Rattle.std.specs.Prelude.{Result, Ok, Err}
use Rattle.refusals.specs.declared.Refusal.{Refusal}
use Rattle.refusals.specs.Refusals.{and_then}
use Rattle.tally.specs.declared.Tallied.{Tallied}
use Rattle.tally.specs.Tally.{answer_in}
use Rattle.roots.specs.declared.RealRoot.{RealRoot}
use Rattle.roots.specs.Roots.{list_of, pair_list_of}
use Rattle.angle.specs.declared.Sine.{Sine}
use Rattle.poly.specs.declared.Solved.{Solved}
use Rattle.poly.specs.Solve.{solve_of}
use Rattle.poly.specs.Brief.{relogged, ButLogs}
use Rattle.asking.specs.Asking.{Asking, walked}
use Rattle.touching.specs.declared.Replies.{Replies}
use Rattle.touching.specs.Replies.{replies_of}
use Rattle.touching.proofs.Logs.{same_touching}
use Rattle.inquiry.specs.declared.Inquiry.{Inquiry}
use Rattle.inquiry.specs.declared.Seen.{Seen}
use Rattle.inquiry.specs.Inquiry.{sound_of, seen_at, unseen, seen_of}
use Rattle.inquiry.specs.Start.{fresh_by, start_of, given, shown_after_of}

same_seen : (lg : List Float) (s : Solved) (rs : Replies) → seen_of (given (fresh_by (relogged lg s)) rs) ≡ seen_of (given (fresh_by s) rs)
unfolding seen_of sound_of
same_seen lg s rs =
    ap (λ (t : Asking (List RealRoot)). cond (sound_of (given (fresh_by s) rs)) (seen_at (walked (replies_of rs) t)) unseen)
    (same_touching lg s.poly s.tol (list_of s.roots) (pair_list_of s.pairs))

solved_same : (lg : List Float) (rs : Replies) (r : Result Solved Refusal)
    → and_then (and_then r (λ s. Ok (relogged lg s))) (λ s. Ok (seen_of (given (fresh_by s) rs)))
    ≡ and_then (and_then r (λ s. Ok (fresh_by s))) (λ q. Ok (seen_of (given q rs)))
solved_same lg rs (Ok s) = ap (λ (seen : Seen). Ok seen) (same_seen lg s rs)
solved_same lg rs (Err refusal) = refl

pub shown_is : (sine : Sine) (coeffs : List Float) (tol : Float) (rs : Replies) (r : Result Solved Refusal) → ButLogs r (solve_of sine coeffs tol)
    → and_then r (λ s. Ok (seen_of (given (fresh_by s) rs))) ≡ shown_after_of sine coeffs tol rs
unfolding shown_after_of start_of
shown_is sine coeffs tol rs r (lg, b) = rw b (solved_same lg rs (solve_of sine coeffs tol))

-- the two ways of `?`
pub shown_refused : (sine : Sine) (coeffs : List Float) (tol : Float) (rs : Replies) (refusal : Refusal) {r : Result (Tallied Seen) Refusal}
    → ButLogs (Err refusal) (solve_of sine coeffs tol) → r ≡ Err refusal → answer_in r ≡ shown_after_of sine coeffs tol rs
shown_refused sine coeffs tol rs refusal b e = ap answer_in e ∙ shown_is sine coeffs tol rs (Err refusal) b

pub shown_solved : (sine : Sine) (coeffs : List Float) (tol : Float) (rs : Replies) (s : Solved) (q : Inquiry) (seen : Seen)
    → ButLogs (Ok s) (solve_of sine coeffs tol) → q ≡ given (fresh_by s) rs → seen ≡ seen_of q → Ok seen ≡ shown_after_of sine coeffs tol rs
shown_solved sine coeffs tol rs s q seen b i e = ap (λ (t : Seen). Ok t) (e ∙ ap seen_of i) ∙ shown_is sine coeffs tol rs (Ok s) b
