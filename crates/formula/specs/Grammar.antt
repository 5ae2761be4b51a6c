-- The grammar of formulas: a tree is a reading, and its text is what it reads. A text of bytes is a sum where it is the text of a `Sum`. Definitions only.
-- In ASCII ( is 40, ) 41, * 42, + 43, - 45, 0 to 9 are 48 to 57, ^ is 94 and t 116.
use Rattle.std.specs.Prelude.{◌≡◌, Bool, true, ◌&&◌, List, [], ◌∷◌, ◌++◌, ℕ, T, leb, length}

abbrev pub is_digit : ℕ → Bool
is_digit b = leb 48 b && leb b 57

abbrev pub all_digits : List ℕ → Bool
all_digits [] = true
all_digits (b ∷ s) = is_digit b && all_digits s

-- 'one to nine digits'
abbrev pub is_number : List ℕ → Bool
is_number s = all_digits s && (leb 1 (length s) && leb (length s) 9)

pub record Number : Type 0 where
  pub digits : List ℕ
  pub number : T (is_number digits)

-- '+ or -'
pub data Sign : Type 0 where
  plus minus : Sign

-- 'may carry ^ and one digit'
pub data Power : Type 0 where
  plain : Power
  power : (digit : ℕ) → T (is_digit digit) → Power

mutual
  -- 'A sum is terms joined by + or -', 'joins grouped from the left'
  pub data Sum : Type 0 where
    term : Term → Sum
    join : Sum → Sign → Term → Sum

  -- 'a term is factors joined by *'
  pub data Term : Type 0 where
    factor : Factor → Term
    times : Term → Factor → Term

  -- 'a factor is a whole number of one to nine digits, the letter t, or a sum in round brackets'
  pub data Factor : Type 0 where
    number : Number → Power → Factor
    letter : Power → Factor
    bracket : Sum → Power → Factor

abbrev pub sign_byte : Sign → ℕ
sign_byte plus = 43
sign_byte minus = 45

abbrev pub power_text : Power → List ℕ
power_text plain = []
power_text (power d t) = 94 ∷ d ∷ []

abbrev mutual
  pub sum_text : Sum → List ℕ
  sum_text (term a) = term_text a
  sum_text (join a g b) = sum_text a ++ sign_byte g ∷ term_text b

  pub term_text : Term → List ℕ
  term_text (factor a) = factor_text a
  term_text (times a b) = term_text a ++ 42 ∷ factor_text b

  pub factor_text : Factor → List ℕ
  factor_text (number n p) = n.digits ++ power_text p
  factor_text (letter p) = 116 ∷ power_text p
  factor_text (bracket a p) = 40 ∷ sum_text a ++ 41 ∷ power_text p

-- the grammar derives the text s by the tree a
abbrev pub Derives : List ℕ → Sum → Type 0
Derives s a = sum_text a ≡ s
