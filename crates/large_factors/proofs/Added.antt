-- The units of factors, put into the array one after the other: what one more factor adds, and how many there are.
use mathlib.Core.Path.{◌≡◌, refl, sym, ap, ◌∙◌, subst}
use mathlib.Core.Bool.{Bool, true, false, cond}
use mathlib.Core.List.{List, [], ◌∷◌, ◌++◌, map, flat_map, append-nil, append_assoc, map-append}
use Prim.Native.Nat.{ℕ, zero, suc, ◌+◌, ◌*◌, ◌≤◌, ◌<◌}
use native.Mathlib.Numerals.{add-one}
use native.Mathlib.Omega.{arith}
use lib.ListN.{length, get_or, take, length-set}
use lib.Seq.{take-suc, get_or-take}
use lib.Ieee.{Float, nan, binary64, of_bits, div, lt, is_nan}
use Rattle.facts.specs.Cond.{either_way}
use Rattle.facts.specs.Lists.{sum_of, take_pushed, sum_append, length_mapped}
use Rattle.float.specs.Literals.{zero64}
use Rattle.float.specs.Methods.{abs_of}
use Rattle.sqrt.specs.Root.{sqrt_of}
use Rattle.horner.specs.Product.{discriminant_of}
use Rattle.isolated.specs.Isolated.{far_root_of}
use Rattle.factors.specs.declared.Quad.{Quad}
use Rattle.factors.specs.declared.Factors.{Factors}
use Rattle.factors.specs.Factors.{degree_of}
use Rattle.large_factors.specs.declared.Unit.{Unit}
use Rattle.large_factors.specs.declared.Units.{Units}
use Rattle.large_factors.specs.Large.{unit_of, real_unit, quad_units_of, factor_units_of, no_units, added_of, all_added}

-- ---- the units of one quadratic factor
module _ (u : Units) (f : Quad) where
  abbrev disc : Float
  disc = discriminant_of f.al f.be

  pub quad_split : lt zero64 disc ≡ true
      → all_added u (quad_units_of f) ≡ added_of (added_of u (real_unit (far_root_of f.al disc))) (real_unit (div binary64 f.be (far_root_of f.al disc)))
  unfolding quad_units_of all_added
  quad_split t = rw t

  pub quad_whole : lt zero64 disc ≡ false → all_added u (quad_units_of f) ≡ added_of u (unit_of (sqrt_of (abs_of f.be)) f.al f.be)
  unfolding quad_units_of all_added
  quad_whole t = rw t

-- ---- one list after the other
pub added_append : (u : Units) (l m : List Unit) → all_added (all_added u l) m ≡ all_added u (l ++ m)
unfolding all_added
added_append u [] m = refl
added_append u (x ∷ l) m = added_append (added_of u x) l m

added_count : (u : Units) (l : List Unit) → (all_added u l).n ≡ u.n + length l
unfolding all_added
added_count u [] = omega arith
added_count u (x ∷ l) = added_count (added_of u x) l ∙ omega arith

-- ---- the units that the array holds
pub added_list : (u : Units) (l : List Unit) → u.n + length l ≤ length u.at → take (all_added u l).n (all_added u l).at ≡ take u.n u.at ++ l
unfolding all_added
added_list u [] h = sym (append-nil (take u.n u.at))
added_list u (x ∷ l) h =
    added_list (added_of u x) l (omega (arith, length-set u.at u.n x))
    ∙ ap (λ (m : List Unit). m ++ l) (take_pushed u.at u.n x (omega arith))
    ∙ append_assoc (take u.n u.at) (x ∷ []) l

-- ---- the degree of units; a NaN among them, which ends the search, counts as a line
abbrev pub unit_degree : Unit → ℕ
unit_degree x = cond (is_nan x.be) 1 2

abbrev pub degrees : List Unit → ℕ
degrees l = sum_of unit_degree l

one_or_two : (x : Unit) → (1 ≤ unit_degree x) × (unit_degree x ≤ 2)
one_or_two x = go (is_nan x.be)
  where
    go : (b : Bool) → (1 ≤ cond b 1 2) × (cond b 1 2 ≤ 2)
    go true = (omega arith, omega arith)
    go false = (omega arith, omega arith)

length_degrees : (l : List Unit) → length l ≤ degrees l
length_degrees [] = omega arith
length_degrees (x ∷ l) = omega (arith, (one_or_two x).0, length_degrees l)

quad_degrees : (q : Quad) → degrees (quad_units_of q) ≤ 2
unfolding quad_units_of is_nan
quad_degrees q =
    either_way (λ (l : List Unit). degrees l ≤ 2) (lt zero64 (discriminant_of q.al q.be)) (omega arith)
    (omega (arith, (one_or_two (unit_of (sqrt_of (abs_of q.be)) q.al q.be)).1))

-- ---- the first i linear factors
unfoldable pub reals : List Float → ℕ → List Unit
reals lin i = map real_unit (take i lin)

reals_more : (lin : List Float) (i : ℕ) → i < length lin → reals lin (i + 1) ≡ reals lin i ++ real_unit (get_or lin i nan) ∷ []
unfolding reals
reals_more lin i h = rw (add-one i, take-suc lin i nan h) (map-append real_unit (take i lin) (get_or lin i nan ∷ []))

reals_degrees : (lin : List Float) (i : ℕ) → degrees (reals lin i) ≤ i
unfolding reals is_nan
reals_degrees lin zero = omega arith
reals_degrees [] (suc i) = omega arith
reals_degrees (x ∷ lin) (suc i) = omega (arith, reals_degrees lin i)

-- ---- the first k quadratic ones
unfoldable pub splits : List Quad → ℕ → List Unit
splits quad k = flat_map quad_units_of (take k quad)

split_append : (l : List Quad) (q : Quad) → flat_map quad_units_of (l ++ q ∷ []) ≡ flat_map quad_units_of l ++ quad_units_of q
unfolding flat_map
split_append [] q = append-nil (quad_units_of q)
split_append (p ∷ l) q =
    ap (λ (m : List Unit). quad_units_of p ++ m) (split_append l q) ∙ sym (append_assoc (quad_units_of p) (flat_map quad_units_of l) (quad_units_of q))

splits_more : (quad : List Quad) (k : ℕ) (d : Quad) → k < length quad → splits quad (k + 1) ≡ splits quad k ++ quad_units_of (get_or quad k d)
unfolding splits
splits_more quad k d h = rw (add-one k, take-suc quad k d h) (split_append (take k quad) (get_or quad k d))

splits_degrees : (quad : List Quad) (k : ℕ) → degrees (splits quad k) ≤ 2 * k
unfolding flat_map splits
splits_degrees quad zero = omega arith
splits_degrees [] (suc k) = omega arith
splits_degrees (q ∷ quad) (suc k) = omega (arith, splits_degrees quad k, quad_degrees q, sum_append unit_degree (quad_units_of q) (splits quad k))

both_degrees : (lin : List Float) (n : ℕ) (quad : List Quad) (k : ℕ) → degrees (reals lin n ++ splits quad k) ≤ n + 2 * k
both_degrees lin n quad k = omega (arith, sum_append unit_degree (reals lin n) (splits quad k), reals_degrees lin n, splits_degrees quad k)

pub units_are : (f : Factors) → factor_units_of f ≡ reals f.lin f.nlin ++ splits f.quad f.nquad
unfolding reals splits factor_units_of
units_are f = refl

pub units_degrees : (f : Factors) → degrees (factor_units_of f) ≤ degree_of f
units_degrees f = subst (λ (l : List Unit). degrees l ≤ degree_of f) (sym (units_are f)) (both_degrees f.lin f.nlin f.quad f.nquad)

-- how many the array holds
pub added_room : (l : List Unit) (u : Units) → u ≡ all_added no_units l → u.n ≤ degrees l
added_room l u E = omega (arith, ap (λ (x : Units). x.n) E ∙ added_count no_units l, length_degrees l)

pub units_count : (f : Factors) → length (factor_units_of f) ≤ degree_of f
units_count f = omega (arith, length_degrees (factor_units_of f), units_degrees f)

-- ---- the two loops
module _ (lin : List Float) (i : ℕ) where
  pub reals_none : all_added no_units (reals lin 0) ≡ no_units
  unfolding all_added reals
  reals_none = refl

  pub reals_room : (all_added no_units (reals lin i)).n ≤ i
  reals_room = omega (arith, added_room (reals lin i) (all_added no_units (reals lin i)) refl, reals_degrees lin i)

  pub real_added : i < length lin → all_added no_units (reals lin (i + 1)) ≡ added_of (all_added no_units (reals lin i)) (real_unit (get_or lin i nan))
  unfolding all_added
  real_added h = ap (all_added no_units) (reals_more lin i h) ∙ sym (added_append no_units (reals lin i) (real_unit (get_or lin i nan) ∷ []))

  pub reals_all : (quad : List Quad) → all_added no_units (reals lin i ++ splits quad 0) ≡ all_added no_units (reals lin i)
  unfolding flat_map splits
  reals_all quad = ap (all_added no_units) (append-nil (reals lin i))

module _ (lin : List Float) (n : ℕ) (quad : List Quad) (k : ℕ) where
  pub splits_room : (all_added no_units (reals lin n ++ splits quad k)).n ≤ n + 2 * k
  splits_room = omega (arith, added_room (reals lin n ++ splits quad k) (all_added no_units (reals lin n ++ splits quad k)) refl, both_degrees lin n quad k)

  pub quad_added : (d : Quad) → k < length quad
      → all_added (all_added no_units (reals lin n ++ splits quad k)) (quad_units_of (get_or quad k d))
      ≡ all_added no_units (reals lin n ++ splits quad (k + 1))
  quad_added d h =
      added_append no_units (reals lin n ++ splits quad k) (quad_units_of (get_or quad k d))
      ∙ ap (all_added no_units) (append_assoc (reals lin n) (splits quad k) (quad_units_of (get_or quad k d)))
      ∙ ap (λ (l : List Unit). all_added no_units (reals lin n ++ l)) (sym (splits_more quad k d h))

module _ (lin : List Float) (n : ℕ) (quad : List Quad) (k : ℕ) (u : Units)
    (E : u ≡ all_added no_units (reals lin n ++ splits quad k)) where
  pub splits_all : (m : ℕ) → k ≤ m → m ≤ k → u ≡ all_added no_units (reals lin n ++ splits quad m)
  splits_all m h g =
      E ∙ ap (λ (j : ℕ). all_added no_units (reals lin n ++ splits quad j)) (let e : k ≡ m = omega arith in e)

-- What the functions' proofs rest on.
pub ruleset units = (get_or-take, length_mapped, reals_none, reals_room, real_added, reals_all, splits_room, quad_added, units_are)

-- f64::NAN, by its bits
unfoldable pub nan_floats : ℕ
unfolding of_bits div
nan_floats = 0
