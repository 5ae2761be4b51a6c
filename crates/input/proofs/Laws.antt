-- What one read leaves, by what it came to, and what several reads left together.
use Rattle.std.proofs.Common.{◌≡◌, refl, sym, ap, ◌∙◌, subst, arith}
use Rattle.std.proofs.Common.{ℕ, zero, suc, ◌+◌, ◌≤◌, ◌<◌, List, [], ◌++◌, length, take, Option, Some, None, Result, Ok, Err}
use Rattle.std.proofs.lemmas.List.{append-nil, length-take-le, take-append-le}
use Rattle.std.proofs.lemmas.Slice.{take-put_mid_below}
use Rattle.std.proofs.Math.Seq.{take-append-add}
use Rattle.std.proofs.KnownBytes.{Consumes-trans}
use Rattle.std.specs.Prelude.{⊤}
use Rattle.std.specs.Io.{ReadsAtMost}
use Rattle.std.specs.Io.KnownBytes.{Consumes, IsAtEnd, ReadConsumes}
use borrow.Rule.Slice.PartMut.{put_mid, post_of}
use Rattle.std.specs.declared.io.Error.{Error}
use Rattle.input.specs.Answers.{meaning_of}

-- a reader that had a has b left, after a read into part, which has room
abbrev pub Leaves : Option (List ℕ) → Option (List ℕ) → List ℕ → Result (Option ℕ) Error → Type 0
Leaves a b part (Err e) = ⊤
Leaves a b part (Ok None) = Consumes a b [] × IsAtEnd b
Leaves a b part (Ok (Some n)) = (0 < n) × (n ≤ length part) × Consumes a b (take n part)

leaves : (a b : Option (List ℕ)) (r : Result ℕ Error) (part : List ℕ)
    → 0 < length part → ReadsAtMost r part → ReadConsumes a b r part → Leaves a b part (meaning_of r)
unfolding meaning_of
leaves a b (Err e) part room bound bytes = tt
leaves a b (Ok zero) part room bound bytes = (bytes.0, bytes.1 refl room)
leaves a b (Ok (suc k)) part room bound bytes = (omega arith, bound.0, bytes.0)

pub leaves_by : (a b : Option (List ℕ)) (r : Result ℕ Error) (part : List ℕ) (x : Result (Option ℕ) Error)
    → 0 < length part → ReadsAtMost r part → ReadConsumes a b r part
    → x ≡ meaning_of r → Leaves a b part x
leaves_by a b r part x room bound bytes e = subst (Leaves a b part) (sym e) (leaves a b r part room bound bytes)

-- reads that gave the first `at` bytes of xs, and one more that gave none
pub still : (a b c : Option (List ℕ)) (xs part : List ℕ) (at k : ℕ)
    → at ≤ length xs → Consumes a b (take at xs) → Consumes b c [] → Consumes a c (take at (put_mid at k xs part))
still a b c xs part at k within before none =
    subst (Consumes a c) (append-nil (take at xs) ∙ sym (take-put_mid_below at k xs part at (omega arith) within))
    (Consumes-trans a b c (take at xs) [] before none)

-- and one that put n bytes behind them
pub grown : (a b c : Option (List ℕ)) (xs part : List ℕ) (at k n : ℕ)
    → at ≤ length xs → n ≤ length part → Consumes a b (take at xs) → Consumes b c (take n part)
    → Consumes a c (take (at + n) (put_mid at k xs part))
grown a b c xs part at k n within fits before more =
    let front = ap (λ m. take (m + n) (put_mid at k xs part)) (sym (length-take-le at xs within)) ∙ take-append-add (take at xs) (part ++ post_of at k xs) n in
    let all = front ∙ ap (λ l. take at xs ++ l) (take-append-le n part (post_of at k xs) fits) in
    subst (Consumes a c) (sym all) (Consumes-trans a b c (take at xs) (take n part) before more)
