-- How a text is read as a sum, from the left, looking one byte ahead. `reading_is` and `reading_of_is` say that this finds the tree of the grammar that has
-- the text, and none where there is none. Definitions only.
use Rattle.std.specs.Prelude.{Bool, true, false, cond, List, [], ◌∷◌, ℕ, zero, suc, ◌+◌, ◌*◌, T, eqb, length}
use Rattle.std.proofs.Math.Option.{Option, none, some}
use Rattle.formula.specs.Grammar.{is_digit, is_number, Number, Sign, plus, minus, Power, plain, power}
use Rattle.formula.specs.Grammar.{Sum, term, join, Term, factor, times, Factor, number, letter, bracket}

-- a tree, and what is left behind its text
pub data Read (A : Type 0) : Type 0 where
  fails : Read A
  reads : A → List ℕ → Read A

abbrev pub and_then : {A B : Type 0} → Read A → (A → List ℕ → Read B) → Read B
and_then fails k = fails
and_then (reads a s) k = k a s

abbrev pub if_some : {A B : Type 0} → Option A → B → (A → B) → B
if_some none b k = b
if_some (some a) b k = k a

-- what is behind the byte b, if that comes next
abbrev pub after : ℕ → List ℕ → Option (List ℕ)
after b [] = none
after b (c ∷ s) = cond (eqb c b) (some s) none

-- the same for '+ or -'
abbrev pub after_sign : List ℕ → Option (Sign × List ℕ)
after_sign s = if_some (after 43 s) (if_some (after 45 s) none (λ u. some (minus, u))) (λ u. some (plus, u))

-- as many digits as come next, and what is behind them
abbrev pub digits_of : List ℕ → List ℕ
digits_of [] = []
digits_of (b ∷ s) = cond (is_digit b) (b ∷ digits_of s) []

abbrev pub behind_digits : List ℕ → List ℕ
behind_digits [] = []
behind_digits (b ∷ s) = cond (is_digit b) (behind_digits s) (b ∷ s)

-- what the test b is asked for
abbrev pub checked : {A : Type 0} (b : Bool) → (T b → A) → Option A
checked true f = some (f tt)
checked false f = none

abbrev pub number_of : List ℕ → Option Number
number_of d = checked (is_number d) (λ t. record { digits = d; number = t })

abbrev pub read_digit : (Power → Factor) → List ℕ → Read Factor
read_digit make [] = fails
read_digit make (b ∷ s) = if_some (checked (is_digit b) (power b)) fails (λ p. reads (make p) s)

abbrev pub read_power : (Power → Factor) → List ℕ → Read Factor
read_power make s = if_some (after 94 s) (reads (make plain) s) (read_digit make)

abbrev pub read_number : List ℕ → Read Factor
read_number s = if_some (number_of (digits_of s)) fails (λ n. read_power (number n) (behind_digits s))

abbrev pub read_unit : List ℕ → Read Factor
read_unit s = if_some (after 116 s) (read_number s) (read_power letter)

abbrev pub read_closed : Sum → List ℕ → Read Factor
read_closed a s = if_some (after 41 s) fails (read_power (bracket a))

-- f is a number of steps; a sum of n bytes takes at most 3 n + 3
unfoldable mutual
  pub read_sum : ℕ → List ℕ → Read Sum
  read_sum zero s = fails
  read_sum (suc f) s = and_then (read_term f s) (λ a rest. more_terms f (term a) rest)

  -- what may follow the sum a
  pub more_terms : ℕ → Sum → List ℕ → Read Sum
  more_terms zero a s = fails
  more_terms (suc f) a s = if_some (after_sign s) (reads a s) (λ w. and_then (read_term f w.1) (λ b rest. more_terms f (join a w.0 b) rest))

  pub read_term : ℕ → List ℕ → Read Term
  read_term zero s = fails
  read_term (suc f) s = and_then (read_factor f s) (λ a rest. more_factors f (factor a) rest)

  -- what may follow the term a
  pub more_factors : ℕ → Term → List ℕ → Read Term
  more_factors zero a s = fails
  more_factors (suc f) a s = if_some (after 42 s) (reads a s) (λ u. and_then (read_factor f u) (λ b rest. more_factors f (times a b) rest))

  pub read_factor : ℕ → List ℕ → Read Factor
  read_factor zero s = fails
  read_factor (suc f) s = if_some (after 40 s) (read_unit s) (λ u. and_then (read_sum f u) read_closed)

abbrev pub whole : Read Sum → Option Sum
whole fails = none
whole (reads a []) = some a
whole (reads a (b ∷ s)) = none

-- the tree of the grammar that has the text s, if there is one
unfoldable pub reading_of : List ℕ → Option Sum
unfolding read_sum
reading_of s = whole (read_sum (3 * length s + 3) s)
