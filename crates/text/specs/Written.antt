-- What every function that writes text says. Definitions only.
use Rattle.std.specs.Prelude.{◌≡◌, List, ℕ, ◌+◌, ◌^◌, ◌<◌, length}
use Rattle.std.specs.Borrow.{MutBor}
use Rattle.std.proofs.lemmas.List.Edits.{sets}
use Rattle.text.specs.declared.Text.{Text}

-- the same buffer, holding l
abbrev pub holding : MutBor (List ℕ) → List ℕ → MutBor (List ℕ)
holding out l = record { ref_ptr = out.ref_ptr; ghost_name = out.ghost_name; now = l }

-- The text t is written: it is stored from the place on, as far as the buffer reaches, every other byte is as it was, and the place stands behind it.
pub record Written (before : Text) (t : List ℕ) (after : Text) : Type 0 where
  pub bytes : after.out ≡ holding before.out (sets before.out.now before.at t)
  pub place : after.at ≡ before.at + length t

-- n bytes more can be counted
abbrev pub Room : Text → ℕ → Type 0
Room text n = text.at + n < 2 ^ 64
