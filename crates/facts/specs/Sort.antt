-- A stable sort: each item in turn goes behind those that the test puts before it, so ties stay in their earlier order. It keeps the number of items, each sum
-- over them, and what holds of all of them; it goes by what the test says of the items; and to sort numbers of places by the keys there, and then to read, is
-- to sort what is read.
-- The definition to read is `sorted_by`, with the two before it. Its laws stand in proofs/Sort.
use Rattle.std.specs.Prelude.{Bool}
use Rattle.std.proofs.Math.Bool.{cond}
use mathlib.Core.List.{List, [], ◌∷◌}

module _ {A : Type 0} (before : A → A → Bool) where
  unfoldable pub inserted_by : A → List A → List A
  inserted_by x [] = x ∷ []
  inserted_by x (y ∷ l) = cond (before y x) (y ∷ inserted_by x l) (x ∷ y ∷ l)

  -- the items of l, put into s one after the other
  unfoldable pub inserted_all : List A → List A → List A
  inserted_all s [] = s
  inserted_all s (x ∷ l) = inserted_all (inserted_by x s) l

  unfoldable pub sorted_by : List A → List A
  sorted_by l = inserted_all [] l
