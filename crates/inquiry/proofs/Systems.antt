-- How many systems are solved for an inquiry: as many as for its list where it starts, and a reply adds none, whatever it is.
use mathlib.Core.Path.{◌≡◌, refl, ap, ◌∙◌}
use mathlib.Core.Bool.{Bool}
use mathlib.Core.List.{List, [], ◌∷◌, foldl}
use Prim.Native.Nat.{ℕ}
use lib.Ieee.{Float}
use Rattle.std.specs.Prelude.{Ok}
use Rattle.refusals.specs.Refusals.{value_or}
use Rattle.angle.specs.declared.Sine.{Sine}
use Rattle.poly.specs.declared.Solved.{Solved}
use Rattle.poly.specs.Solve.{solve_of}
use Rattle.poly.specs.Brief.{ButLogs}
use Rattle.poly.specs.RealRoots.{real_roots_systems_of}
use Rattle.poly.proofs.Systems.{systems_solved}
use Rattle.touching.specs.declared.Replies.{Replies}
use Rattle.inquiry.specs.declared.Inquiry.{Inquiry}
use Rattle.inquiry.specs.declared.Asked.{Asked}
use Rattle.inquiry.specs.declared.Asked.TheVariants.{Question, Finished}
use Rattle.inquiry.specs.Inquiry.{asked_of, replied_by_asked, replied_of, after}
use Rattle.inquiry.specs.Start.{fresh_by, start_of, inquiry_in, given}
use Rattle.inquiry.proofs.Fresh.{start_is}

-- ---- a reply, taken or refused
pub after_keeps : (q : Inquiry) (r : Bool) → (after q r).systems ≡ q.systems
unfolding replied_of
after_keeps q r = go (asked_of q)
  where
    go : (a : Asked) → (value_or q (replied_by_asked a q r)).systems ≡ q.systems
    go (Question x) = refl
    go (Finished l) = refl

-- replies one after the other, those that are refused too
replies_keep : (q : Inquiry) (replies : List Bool) → (foldl after q replies).systems ≡ q.systems
replies_keep q [] = refl
replies_keep q (r ∷ rest) = replies_keep (after q r) rest ∙ after_keeps q r

-- ---- from the start
module _ (sine : Sine) (coeffs : List Float) (tol : Float) where
  pub start_systems : (inquiry_in (start_of sine coeffs tol)).systems ≡ real_roots_systems_of sine coeffs tol
  unfolding real_roots_systems_of
  start_systems = ap (λ (q : Inquiry). q.systems) (start_is sine coeffs tol)

  pub any_replies : (replies : List Bool) → (foldl after (inquiry_in (start_of sine coeffs tol)) replies).systems ≡ real_roots_systems_of sine coeffs tol
  any_replies replies = replies_keep (inquiry_in (start_of sine coeffs tol)) replies ∙ start_systems

  -- with replies that were put in at once
  pub shown_systems : (rs : Replies) (s : Solved) (q : Inquiry) {n : ℕ} → ButLogs (Ok s) (solve_of sine coeffs tol) → q ≡ given (fresh_by s) rs → n ≡ q.systems
      → n ≡ real_roots_systems_of sine coeffs tol
  shown_systems rs s q b i e = e ∙ ap (λ (p : Inquiry). p.systems) i ∙ systems_solved sine coeffs tol b s refl
