-- RealRoot, Candidates and Pairs of poly.rs: lists of at most four and of at most two, in arrays with a count; and the kinds of roots. Definitions only.
use Rattle.std.specs.Prelude.{Bool, false, cond, ◌&&◌, List, [], ◌∷◌, ◌++◌, ℕ, ◌+◌, ◌-◌, ltb, eqb, length, take, set, replicate, Float}
use Rattle.float.specs.Literals.{zero64}
use Rattle.float.specs.Methods.{is_finite_of}
use Rattle.roots.specs.declared.RootKind.{RootKind}
use Rattle.roots.specs.declared.RootKind.TheVariants.{Crossing, Brush, Flat}
use Rattle.roots.specs.declared.RealRoot.{RealRoot}
use Rattle.roots.specs.declared.Roots.{Roots}
use Rattle.roots.specs.declared.Pair.{Pair}
use Rattle.roots.specs.declared.Pairs.{Pairs}

-- ---- roots
-- 'crossing where its total multiplicity is 1, brush where at least one yes reply helped to form it, flat otherwise'
unfoldable pub kind_of : ℕ → Bool → RootKind
kind_of m brushed = cond (eqb m 1) Crossing (cond brushed Brush Flat)

-- the kind for C
unfoldable pub kind_number : RootKind → ℕ
kind_number Crossing = 0
kind_number Brush = 1
kind_number Flat = 2

-- a root; brushed: at least one yes reply helped to form it
abbrev pub root_by : Bool → Float → ℕ → RealRoot
root_by brushed y m = record { value = y; multiplicity = m; kind = kind_of m brushed }

-- `RealRoot { value, multiplicity, }`: a root that no reply helped to form
abbrev pub root : Float → ℕ → RealRoot
root y m = root_by false y m

-- what stands in a place that does not count: zeros
abbrev pub no_root : RealRoot
no_root = record { value = zero64; multiplicity = 0; kind = Crossing }

-- the roots that count
abbrev pub list_of : Roots → List RealRoot
list_of s = take s.len s.root

-- a list of at most four in an array, the places after it zeros
abbrev pub roots_of : List RealRoot → Roots
roots_of l = record { root = l ++ replicate (4 - length l) no_root; len = length l }

-- `Candidates::default()`
abbrev pub no_roots : Roots
no_roots = roots_of []

-- `self.len < 4`: one more, while there is room
unfoldable pub held : List RealRoot → RealRoot → List RealRoot
held l r = cond (ltb (length l) 4) (l ++ r ∷ []) l

-- `if value.is_finite() && self.len < 4`: `push` of `Candidates`, a finite place while there is room
unfoldable pub kept : List RealRoot → RealRoot → List RealRoot
unfolding held
kept l r = cond (is_finite_of r.value) (held l r) l

-- the same in the array
unfoldable pub pushed_of : Roots → RealRoot → Roots
pushed_of s r = cond (ltb s.len 4) (record { root = set s.root s.len r; len = s.len + 1 }) s

unfoldable pub kept_in : Roots → RealRoot → Roots
unfolding pushed_of
kept_in s r = cond (is_finite_of r.value) (pushed_of s r) s

-- ---- pairs
-- `centre ± i*half`
abbrev pub pair : Float → Float → Pair
pair c h = record { centre = c; half = h }

-- likewise
abbrev pub no_pair : Pair
no_pair = pair zero64 zero64

-- the pairs that count
abbrev pub pair_list_of : Pairs → List Pair
pair_list_of s = take s.len s.pair

-- a list of at most two in an array, the places after it zeros
abbrev pub pairs_of : List Pair → Pairs
pairs_of l = record { pair = l ++ replicate (2 - length l) no_pair; len = length l }

-- `Pairs::default()`
abbrev pub no_pairs : Pairs
no_pairs = pairs_of []

-- `mid.is_finite() && pairs.len < 2`: one more pair of `push_quadratic`
unfoldable pub paired : List Pair → Pair → List Pair
paired l p = cond (is_finite_of p.centre && ltb (length l) 2) (l ++ p ∷ []) l

-- the same in the array
unfoldable pub paired_in : Pairs → Pair → Pairs
paired_in s p = cond (is_finite_of p.centre && ltb s.len 2) (record { pair = set s.pair s.len p; len = s.len + 1 }) s
