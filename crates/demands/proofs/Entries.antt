-- The table's one fact: the definitions give its answers, by computation.
use mathlib.Core.Path.{◌≡◌, refl, ap, ◌∙◌, sym}
use mathlib.Core.Logic.{⊎_elim}
use mathlib.Core.List.Memᴰ
use mathlib.Core.List.{List, [], ◌∷◌, map, Memᴰ, head-eq_of_cons-eq, tail-eq_of_cons-eq}
use lib.Ieee.{Float}
use Rattle.angle.specs.declared.Sine.TheVariants.{OfRounded}
use Rattle.angle.specs.Third.{sine_of, third_angle_of}
use Rattle.demands.proofs.Unfolded.{arithmetic, leaves, scaling, solving}
use Rattle.demands.specs.Table.{Row, RowAnswer, table, row_answer_of}

abbrev pub given : Row → RowAnswer
given row = row_answer_of OfRounded row.call

abbrev pub stated : Row → RowAnswer
stated row = row.answer

pub all_rows : (tol : Float) → map given (table tol) ≡ map stated (table tol)
unfolding table row_answer_of sine_of third_angle_of arithmetic leaves scaling solving
all_rows tol = refl

-- two functions that agree along a list agree at each of its members
pub agree : {A B : Type 0} (f g : A → B) (xs : List A) → map f xs ≡ map g xs → (x : A) → Memᴰ x xs → f x ≡ g x
agree f g [] e x m = absurd (Memᴰ.not-nil m)
agree f g (y ∷ ys) e x m = ⊎_elim (λ q. ap f q ∙ head-eq_of_cons-eq e ∙ sym (ap g q)) (λ n. agree f g ys (tail-eq_of_cons-eq e) x n) (Memᴰ.cases_cons m)
