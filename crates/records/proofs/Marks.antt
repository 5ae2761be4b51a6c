-- Each kind's mark is read as that kind, so that no two kinds have the same.
use mathlib.Core.Path.{◌≡◌, refl}
use mathlib.Core.List.{List, ◌++◌}
use Prim.Native.Nat.{ℕ}
use lib.ListN.{length}
use Rattle.records.specs.declared.Kind.{Kind}
use Rattle.records.specs.declared.Kind.TheVariants.{Polynomial, Quadratic, Crank, Contact, Formula, Unknown}
use Rattle.records.specs.Marks.{mark_of, kind_at}

pub mark_read : (k : Kind) (s : List ℕ) → kind_at (mark_of k ++ s) 0 ≡ k
unfolding kind_at
mark_read Polynomial s = refl
mark_read Quadratic s = refl
mark_read Crank s = refl
mark_read Contact s = refl
mark_read Formula s = refl
mark_read Unknown s = refl

pub mark_length : (k : Kind) → length (mark_of k) ≡ 2
mark_length Polynomial = refl
mark_length Quadratic = refl
mark_length Crank = refl
mark_length Contact = refl
mark_length Formula = refl
mark_length Unknown = refl
