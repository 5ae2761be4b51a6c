-- What the C functions below the list answer. Definitions only.
use Rattle.std.specs.Prelude.{Bool, ◌||◌, List, [], ◌∷◌, ◌++◌, ℕ, ◌+◌, ◌*◌, ltb, length, get_or, Float, Option, Some, None}
use Rattle.std.specs.Float.{nan}
use Rattle.float.specs.Bytes.{f64_at}
use Rattle.scaled.specs.declared.Scaled.{Scaled}
use Rattle.scaled.specs.Scaled.{scaled_of}
use Rattle.roots.specs.declared.RealRoot.{RealRoot}
use Rattle.roots.specs.declared.Roots.{Roots}
use Rattle.roots.specs.declared.Pair.{Pair}
use Rattle.roots.specs.declared.Pairs.{Pairs}
use Rattle.roots.specs.Roots.{root, pair, list_of, roots_of}
use Rattle.roots.specs.Listed.{blank_pair}
use Rattle.push.specs.declared.Found.{Found}
use Rattle.push.specs.Quadratic.{push_quadratic_in}
use Rattle.finish.specs.Finish.{finish_of}
use Rattle.lent_bytes.specs.Bytes.{five_at, lacks_five, unless}
use Rattle.lent_bytes.specs.Numbers.{number}
use Rattle.lent_bytes.specs.Lists.{root_numbers}

-- the polynomial with five doubles as coefficients and the degree d
abbrev pub poly_at : List ℕ → ℕ → Scaled
poly_at a d = scaled_of (five_at a) d

-- the place of a turning point
unfoldable pub turning_or_nan : Option Float → Float
turning_or_nan (Some x) = x
turning_or_nan None = nan

-- ---- handed in: four doubles, four bytes, and two pairs of doubles
-- a place, and its multiplicity
unfoldable pub candidate_at : List ℕ → ℕ → RealRoot
candidate_at c i = root (f64_at c (8 * i)) (get_or c (32 + i) 0)

-- n candidates
unfoldable pub candidates_at : List ℕ → ℕ → Roots
candidates_at c n = record { root = candidate_at c 0 ∷ candidate_at c 1 ∷ candidate_at c 2 ∷ candidate_at c 3 ∷ []; len = n }

-- a complex pair
abbrev pub pair_at : List ℕ → ℕ → Pair
pair_at c i = pair (f64_at c (36 + 16 * i)) (f64_at c (44 + 16 * i))

-- n complex pairs
unfoldable pub pairs_at : List ℕ → ℕ → Pairs
pairs_at c n = record { pair = pair_at c 0 ∷ pair_at c 1 ∷ []; len = n }

-- ---- handed out
-- what is found: the roots as in a list, the number of pairs, and the centre and half of each
unfoldable pub found_numbers : Found → List Float
found_numbers s =
    let at : ℕ → Pair = λ i. get_or s.pairs.pair i blank_pair in
    root_numbers s.roots ++ (number s.pairs.len ∷ (at 0).centre ∷ (at 0).half ∷ (at 1).centre ∷ (at 1).half ∷ [])

-- ---- the numbers of an answer: none where there is no polynomial, or where c lacks what is asked for
-- fewer bytes than its size, more than four candidates, or more than two pairs
unfoldable pub lacks_of : List ℕ → ℕ → ℕ → ℕ → Bool
lacks_of c size n m = ltb (length c) size || (ltb 4 n || ltb 2 m)

-- push_quadratic, on n candidates and m pairs
abbrev pub pushed_numbers : List ℕ → ℕ → Float → Float → Float → List ℕ → ℕ → ℕ → List Float
pushed_numbers a d al be tol c n m =
    unless [] (lacks_five a d) (unless [] (lacks_of c 68 n m) (found_numbers (push_quadratic_in (poly_at a d) al be tol (candidates_at c n) (pairs_at c m))))

-- finish, of n candidates
abbrev pub finished_numbers : List ℕ → ℕ → List ℕ → ℕ → Float → List Float
finished_numbers a d c n tol =
    unless [] (lacks_five a d) (unless [] (lacks_of c 36 n 0) (root_numbers (roots_of (finish_of (poly_at a d) (list_of (candidates_at c n)) tol))))
