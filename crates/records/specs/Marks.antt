-- The marks of the records, in ASCII: 'There is a two-byte mark before each record'. Definitions only.
use Rattle.std.specs.Prelude.{Bool, cond, ◌&&◌, List, [], ◌∷◌, ℕ, ◌+◌, eqb, get_or}
use Rattle.records.specs.declared.Kind.{Kind}
use Rattle.records.specs.declared.Kind.TheVariants.{Polynomial, Quadratic, Crank, Contact, Formula, Unknown}

-- `PL`, `QD`, `TG`, `PC`, `TX`; 'Where no whole known mark was read the mark prints as `--`'
abbrev pub mark_of : Kind → List ℕ
mark_of Polynomial = 80 ∷ 76 ∷ []
mark_of Quadratic = 81 ∷ 68 ∷ []
mark_of Crank = 84 ∷ 71 ∷ []
mark_of Contact = 80 ∷ 67 ∷ []
mark_of Formula = 84 ∷ 88 ∷ []
mark_of Unknown = 45 ∷ 45 ∷ []

-- whether the two bytes from at on are the mark
unfoldable pub is_mark : List ℕ → List ℕ → ℕ → Bool
is_mark mark s at = eqb (get_or s at 0) (get_or mark 0 0) && eqb (get_or s (at + 1) 0) (get_or mark 1 0)

-- the kind, where its mark stands at at, and else the other
unfoldable pub marked_of : Kind → Kind → List ℕ → ℕ → Kind
unfolding is_mark
marked_of kind other s at = cond (is_mark (mark_of kind) s at) kind other

-- the kind by the mark at a record's start; no two have the same (`mark_read`)
unfoldable pub kind_at : List ℕ → ℕ → Kind
unfolding marked_of
kind_at s at =
    let kind = Unknown in
    let kind = marked_of Polynomial kind s at in
    let kind = marked_of Quadratic kind s at in
    let kind = marked_of Crank kind s at in
    let kind = marked_of Contact kind s at in
    let kind = marked_of Formula kind s at in
    kind
