-- What is stored of an answer that may be refused. Definitions only.
use Rattle.std.specs.Prelude.{List, [], ℕ, Float, Result, Ok, Err}
use Rattle.refusals.specs.declared.Refusal.{Refusal}
use Rattle.refusals.specs.Refusals.{outcome_of}
use Rattle.lent_bytes.specs.Bytes.{Answered}

-- the numbers of an answer, and none of a refusal
abbrev pub numbers_in : {A : Type 0} → (A → List Float) → Result A Refusal → List Float
numbers_in numbers (Ok x) = numbers x
numbers_in numbers (Err refusal) = []

-- the numbers of the answer are stored, or the refusal's number is said
abbrev pub AnsweredBy : {A : Type 0} → (A → List Float) → Result A Refusal → List ℕ → ℕ → List ℕ → Type 0
AnsweredBy numbers answer l r m = Answered (outcome_of answer) (numbers_in numbers answer) l r m
