-- What an operation that may be refused gives, and how many systems were solved for it: request Seven of document 02. Definitions only.
use Rattle.std.specs.Prelude.{ℕ, Result, Ok, Err}
use Rattle.tally.specs.declared.Tallied.{Tallied}

-- a value, and as many systems
abbrev pub tallied : {A : Type 0} → A → ℕ → Tallied A
tallied value systems = record { value = value; systems = systems }

module _ {A E : Type 0} where
  -- the answer, or the refusal
  abbrev pub answer_in : Result (Tallied A) E → Result A E
  answer_in (Ok t) = Ok t.value
  answer_in (Err refusal) = Err refusal

  -- 'and is 0 in a refusal'
  abbrev pub systems_in : Result (Tallied A) E → ℕ
  systems_in (Ok t) = t.systems
  systems_in (Err refusal) = 0
