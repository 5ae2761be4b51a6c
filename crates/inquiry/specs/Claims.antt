-- What it means that an inquiry is fed the replies of a yes-or-no function: document 01, 'Contacts that only brush'. A statement; proofs/Theorem.antt has the
-- proof.
use Rattle.std.specs.Prelude.{◌≡◌, Bool, List, ℕ, ◌<◌, length, get_or, Float, Err}
use Rattle.std.specs.Float.{nan}
use Rattle.refusals.specs.declared.Refusal.TheVariants.{NothingAsked}
use Rattle.roots.specs.Roots.{roots_of}
use Rattle.angle.specs.declared.Sine.{Sine}
use Rattle.inquiry.specs.declared.Inquiry.{Inquiry}
use Rattle.inquiry.specs.declared.Asked.TheVariants.{Question, Finished}
use Rattle.inquiry.specs.Inquiry.{asked_of, replied_of, after}
use Rattle.inquiry.specs.Start.{real_roots_touching_of, places_touching_of, fed}

-- 'For every yes-or-no function of x, feeding its replies gives the Rust's list and asks at the Rust's places in its order.' After n replies the question is
-- about the place number n; after as many as there are places the list is shown, and nothing is asked any more: a further reply is refused with 4, the inquiry
-- unaltered.
pub record Fed (sine : Sine) (touches : Float → Bool) (q : Inquiry) (coeffs : List Float) (tol : Float) : Type 0 where
  pub question : (n : ℕ) → n < length (places_touching_of sine touches coeffs tol)
      → asked_of (fed touches n q) ≡ Question (get_or (places_touching_of sine touches coeffs tol) n nan)
  pub finished : asked_of (fed touches (length (places_touching_of sine touches coeffs tol)) q)
      ≡ Finished (roots_of (real_roots_touching_of sine touches coeffs tol))
  pub over : (yes : Bool) → let end = fed touches (length (places_touching_of sine touches coeffs tol)) q in
      (replied_of end yes ≡ Err NothingAsked) × (after end yes ≡ end)
