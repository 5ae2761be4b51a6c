-- A step that is not finite is never kept: not in polishing, where the value at the next place is a NaN, and not in refinement, where the next norm is
-- infinite or a NaN.
use mathlib.Core.Path.{◌≡◌, refl, ap, ◌∙◌, sym}
use mathlib.Core.Bool.{Bool, true, false, true≢false, cond, not, ◌&&◌, ◌||◌}
use mathlib.Core.List.{List, [], ◌∷◌}
use Rattle.std.specs.Prelude.{Some}
use mathlib.Core.Option.{Option, none}
use Prim.Native.Nat.{ℕ, zero, suc}
use native.Mathlib.Omega.{arith}
use lib.ListN.{length, get_or}
use lib.Ieee.{Float, nan, inf, fin, binary64, add, sub, mul, div, neg, lt, le, eq, is_nan, of_bits}
use Rattle.facts.specs.Count.{count_up, count_down}
use Rattle.facts.specs.Lists.{of_four}
use Rattle.float.specs.Literals.{zero64}
use Rattle.float.specs.Methods.{is_finite_of, all_finite_of, abs_of}
use Rattle.horner.specs.Loops.{at_place}
use Rattle.horner.specs.Product.{split_high, product_error}
use Rattle.horner.specs.Horner.{Horner, sum_error, compensated_step, compensated_of, value_slope_compensated_of}
use Rattle.square.specs.Square.{size_sum_of}
use Rattle.refine.specs.Refine.{System, over_of, weighted_of, norm_of, no_less_of, kept_of}
use Rattle.refine.specs.Systems.{size3_of, size4_of, cubic_system, quartic_system, peel_system}
use Rattle.refine.specs.Newton.{flat_of, no_gain_of}
use Rattle.polish.specs.Polish.{Place, is_long_of, polish_next}
use Rattle.computed.specs.Steps.{moved, NeverKept, Steps}

-- ---- NaN and what is not finite
add_nan : (x : Float) → add binary64 x nan ≡ nan
unfolding add
add_nan nan = refl
add_nan (inf s) = refl
add_nan (fin s m e) = refl

mul_nan : (x : Float) → mul binary64 x nan ≡ nan
unfolding mul
mul_nan nan = refl
mul_nan (inf s) = refl
mul_nan (fin s m e) = refl

abbrev NotFinite : Float → Type 0
NotFinite x = is_finite_of x ≡ false

-- sums, differences and sizes of what is not finite are not finite
sum_left : (x y : Float) → NotFinite x → NotFinite (add binary64 x y)
unfolding is_finite_of add
sum_left nan y h = refl
sum_left (inf s) nan h = refl
sum_left (inf true) (inf true) h = refl
sum_left (inf true) (inf false) h = refl
sum_left (inf false) (inf true) h = refl
sum_left (inf false) (inf false) h = refl
sum_left (inf s) (fin t n d) h = refl
sum_left (fin s m e) y h = absurd (true≢false h)

sum_right : (x y : Float) → NotFinite y → NotFinite (add binary64 x y)
unfolding is_finite_of add
sum_right nan y h = refl
sum_right (inf s) nan h = refl
sum_right (inf true) (inf true) h = refl
sum_right (inf true) (inf false) h = refl
sum_right (inf false) (inf true) h = refl
sum_right (inf false) (inf false) h = refl
sum_right (inf s) (fin t n d) h = refl
sum_right (fin s m e) nan h = refl
sum_right (fin s m e) (inf t) h = refl
sum_right (fin s m e) (fin t n d) h = absurd (true≢false h)

minus : (x : Float) → NotFinite x → NotFinite (neg x)
unfolding is_finite_of neg
minus nan h = refl
minus (inf s) h = refl
minus (fin s m e) h = absurd (true≢false h)

less_left : (x y : Float) → NotFinite x → NotFinite (sub binary64 x y)
unfolding sub
less_left x y h = sum_left x (neg y) h

less_right : (x y : Float) → NotFinite y → NotFinite (sub binary64 x y)
unfolding sub
less_right x y h = sum_right x (neg y) (minus y h)

size : (x : Float) → NotFinite x → NotFinite (abs_of x)
unfolding is_finite_of abs_of
size nan h = refl
size (inf s) h = refl
size (fin s m e) h = absurd (true≢false h)

-- ---- polishing
-- the lower half of an infinite place is a NaN, and Dekker's formula ends with a product of it
half_nan : (y : Float) → NotFinite y → sub binary64 y (split_high y) ≡ nan
unfolding is_finite_of split_high add sub mul neg of_bits
half_nan nan h = refl
half_nan (inf true) h = refl
half_nan (inf false) h = refl
half_nan (fin s m e) h = absurd (true≢false h)

product_nan : (x y : Float) → add binary64 x (mul binary64 y nan) ≡ nan
product_nan x y = rw (mul_nan y) (add_nan x)

error_nan : (a y p : Float) → NotFinite y → product_error a y p ≡ nan
unfolding product_error
error_nan a y p h = rw (half_nan y h) (product_nan _ _)

nan_add : (x : Float) → add binary64 nan x ≡ nan
unfolding add
nan_add x = refl

turn_nan : (y c : Float) (h : Horner) → NotFinite y → (compensated_step y c h).err ≡ nan
unfolding compensated_step
turn_nan y c h f = rw (error_nan h.v y (mul binary64 h.v y) f, nan_add (sum_error _ c _)) (add_nan _)

turns_nan : (g : ℕ → Horner → Horner) → ((i : ℕ) (h : Horner) → (g i h).err ≡ nan) → (k : ℕ) (h : Horner) → (count_down g (suc k) h).err ≡ nan
unfolding count_down
turns_nan g e zero h = e 0 h
turns_nan g e (suc k) h = turns_nan g e k (g (suc k) h)

gathered_nan : (p : List Float) (k : ℕ) (y : Float) → NotFinite y → (compensated_of p (suc k) y).err ≡ nan
unfolding compensated_of
gathered_nan p k y h = turns_nan (at_place (compensated_step y) p) (λ i s. turn_nan y (get_or p i nan) s h) k _

value_nan : (p : List Float) (k : ℕ) (y : Float) → NotFinite y → (value_slope_compensated_of p (suc k) y).value ≡ nan
unfolding value_slope_compensated_of
value_nan p k y h = ap (λ (e : Float). add binary64 (compensated_of p (suc k) y).v e) (gathered_nan p k y h) ∙ add_nan _

no_gain : (fy : Float) → no_gain_of fy nan ≡ true
unfolding no_gain_of abs_of le is_nan
no_gain nan = refl
no_gain (inf s) = refl
no_gain (fin s m e) = refl

-- a choice between none and none
same_none : (b : Bool) (x : Option Place) → x ≡ none → cond b none x ≡ none
same_none true x e = refl
same_none false x e = e

or_true : (b : Bool) → b || true ≡ true
or_true true = refl
or_true false = refl

flat : (fy : Float) → flat_of fy zero64 ≡ true
unfolding flat_of eq of_bits
flat fy = or_true (eq fy zero64)

-- a constant has no slope
constant : (f : List Float) (gap : Float) (s : Place) → polish_next f 0 gap s ≡ none
unfolding polish_next value_slope_compensated_of compensated_of count_down
constant f gap s = same_none s.done _ (rw (flat (value_slope_compensated_of f 0 s.y).value) refl)

never_polished : (f : List Float) (d : ℕ) (gap : Float) (s : Place)
    → NotFinite (div binary64 (value_slope_compensated_of f d s.y).value (value_slope_compensated_of f d s.y).slope) → polish_next f d gap s ≡ none
unfolding polish_next
never_polished f zero gap s h = constant f gap s
never_polished f (suc k) gap s h =
    let v = value_slope_compensated_of f (suc k) s.y in
    let step = div binary64 v.value v.slope in
    let next = sub binary64 s.y step in
    same_none s.done _
    (same_none (flat_of v.value v.slope) _
    (same_none (is_long_of step gap) _
    (same_none (eq next s.y) _
    (rw (value_nan f k next (less_right s.y step h), no_gain v.value) refl))))

-- ---- refinement
-- a residual and a magnitude that are not finite have a weight that is not
weighted : (r m : Float) → NotFinite r → NotFinite m → NotFinite (over_of r m)
unfolding is_finite_of over_of lt div of_bits
weighted r nan h g = h
weighted r (inf true) h g = h
weighted nan (inf false) h g = refl
weighted (inf s) (inf false) h g = refl
weighted (fin s m e) (inf false) h g = absurd (true≢false h)
weighted r (fin s m e) h g = absurd (true≢false g)

-- of two terms p and q with the coefficient b, and of p and q with a product z and b
difference_left : (p q b : Float) → NotFinite p → NotFinite (over_of (sub binary64 (sub binary64 p q) b) (size3_of p q b))
difference_left p q b h = weighted _ _ (less_left _ b (less_left p q h)) (sum_left _ _ (sum_left _ _ (size p h)))

difference_right : (p q b : Float) → NotFinite q → NotFinite (over_of (sub binary64 (sub binary64 p q) b) (size3_of p q b))
difference_right p q b h = weighted _ _ (less_left _ b (less_right p q h)) (sum_left _ _ (sum_right _ _ (size q h)))

sum3_left : (p q b : Float) → NotFinite p → NotFinite (over_of (sub binary64 (add binary64 p q) b) (size3_of p q b))
sum3_left p q b h = weighted _ _ (less_left _ b (sum_left p q h)) (sum_left _ _ (sum_left _ _ (size p h)))

sum3_right : (p q b : Float) → NotFinite q → NotFinite (over_of (sub binary64 (add binary64 p q) b) (size3_of p q b))
sum3_right p q b h = weighted _ _ (less_left _ b (sum_right p q h)) (sum_left _ _ (sum_right _ _ (size q h)))

sum4_left : (p q z b : Float) → NotFinite p → NotFinite (over_of (sub binary64 (add binary64 (add binary64 p q) z) b) (size4_of p q z b))
sum4_left p q z b h = weighted _ _ (less_left _ b (sum_left _ z (sum_left p q h))) (sum_left _ _ (sum_left _ _ (sum_left _ _ (size p h))))

sum4_right : (p q z b : Float) → NotFinite q → NotFinite (over_of (sub binary64 (add binary64 (add binary64 p q) z) b) (size4_of p q z b))
sum4_right p q z b h = weighted _ _ (less_left _ b (sum_left _ z (sum_right p q h))) (sum_left _ _ (sum_left _ _ (sum_right _ _ (size q h))))

-- a NaN, or infinity: no finite number is more
huge : Float → Bool
huge nan = true
huge (inf s) = not s
huge (fin s m e) = false

huge_last : (x w : Float) → NotFinite w → huge (add binary64 x (abs_of w)) ≡ true
unfolding is_finite_of abs_of huge add
huge_last nan w h = refl
huge_last (inf s) nan h = refl
huge_last (inf true) (inf t) h = refl
huge_last (inf false) (inf t) h = refl
huge_last (inf s) (fin t n d) h = absurd (true≢false h)
huge_last (fin s m e) nan h = refl
huge_last (fin s m e) (inf t) h = refl
huge_last (fin s m e) (fin t n d) h = absurd (true≢false h)

huge_more : (x w : Float) → huge x ≡ true → huge (add binary64 x (abs_of w)) ≡ true
unfolding abs_of huge add
huge_more nan w h = refl
huge_more (inf false) nan h = refl
huge_more (inf false) (inf t) h = refl
huge_more (inf false) (fin t n d) h = refl
huge_more (inf true) w h = absurd (true≢false (sym h))
huge_more (fin s m e) w h = absurd (true≢false (sym h))

no_less : (current x : Float) → is_finite_of current ≡ true → huge x ≡ true → no_less_of current x ≡ true
unfolding is_finite_of huge no_less_of le is_nan
no_less (fin s m e) nan f h = refl
no_less (fin s m e) (inf false) f h = refl
no_less (fin s m e) (inf true) f h = absurd (true≢false (sym h))
no_less (fin s m e) (fin t n d) f h = absurd (true≢false (sym h))
no_less nan x f h = absurd (true≢false (sym f))
no_less (inf s) x f h = absurd (true≢false (sym f))

-- one of the numbers is not finite
first_or : (P : Type 0) (x : Float) (b : Bool) → (NotFinite x → P) → (b ≡ false → P) → is_finite_of x && b ≡ false → P
unfolding is_finite_of
first_or P nan b f g h = f refl
first_or P (inf s) b f g h = f refl
first_or P (fin s m e) b f g h = g h

-- a norm that is huge ends the turns
module _ (n : ℕ) (sys : System) (current : Float) (f : is_finite_of current ≡ true) where
  not_kept : (y : List Float) → huge (norm_of (weighted_of n (sys.res y) (sys.mag y))) ≡ true → kept_of n sys current (Some y) ≡ none
  unfolding kept_of
  not_kept y h = rw (no_less current _ f h) refl

cubic : (b c d : Float) → NeverKept 3 (cubic_system b c d)
unfolding norm_of weighted_of size_sum_of count_up
cubic b c d x (s ∷ t ∷ u ∷ []) current e f h =
    let p = sub binary64 (get_or x 0 nan) s in
    let q = sub binary64 (get_or x 1 nan) t in
    let r = sub binary64 (get_or x 2 nan) u in
    not_kept 3 (cubic_system b c d) current f (p ∷ q ∷ r ∷ [])
    (first_or _ s _
    (λ g. huge_more _ _ (huge_more _ _ (huge_last _ _ (difference_right q p b (less_right _ s g)))))
    (first_or _ t _
    (λ g. huge_more _ _ (huge_more _ _ (huge_last _ _ (difference_left q p b (less_right _ t g)))))
    (first_or _ u true
    (λ g. huge_more _ _ (huge_last _ _ (difference_left r _ c (less_right _ u g))))
    (λ g. absurd (true≢false g)))) h)
cubic b c d x [] current e f h = absurd (omega (arith, e))
cubic b c d x (s ∷ []) current e f h = absurd (omega (arith, e))
cubic b c d x (s ∷ t ∷ []) current e f h = absurd (omega (arith, e))
cubic b c d x (s ∷ t ∷ u ∷ v ∷ l) current e f h = absurd (omega (arith, e))

-- the same for a step of four numbers, by what each of them makes of the norm
module _ (sys : System) (x : List Float) (current : Float) (f : is_finite_of current ≡ true) where
  Found : List Float → Type 0
  Found step = all_finite_of step ≡ false → huge (norm_of (weighted_of 4 (sys.res (moved 4 x step)) (sys.mag (moved 4 x step)))) ≡ true

  four : ((s t u v : Float) → Found (s ∷ t ∷ u ∷ v ∷ [])) → (step : List Float) → length step ≡ 4 → all_finite_of step ≡ false
      → kept_of 4 sys current (Some (moved 4 x step)) ≡ none
  unfolding Found
  four found step e h = not_kept 4 sys current f (moved 4 x step) (of_four Found found step e h)

quartic : (b c d e : Float) → NeverKept 4 (quartic_system b c d e)
unfolding norm_of weighted_of size_sum_of count_up Found
quartic b c d e x step current n f h = four (quartic_system b c d e) x current f found step n h
  where
    found : (s t u v : Float) → Found (quartic_system b c d e) x current f (s ∷ t ∷ u ∷ v ∷ [])
    found s t u v =
        let p = sub binary64 (get_or x 0 nan) s in
        let q = sub binary64 (get_or x 1 nan) t in
        let r = sub binary64 (get_or x 2 nan) u in
        let z = sub binary64 (get_or x 3 nan) v in
        first_or _ s _ (λ g. huge_more _ _ (huge_more _ _ (huge_more _ _ (huge_last _ _ (sum3_left p r b (less_right _ s g))))))
        (first_or _ t _ (λ g. huge_more _ _ (huge_more _ _ (huge_last _ _ (sum4_left q z _ c (less_right _ t g)))))
        (first_or _ u _ (λ g. huge_more _ _ (huge_more _ _ (huge_more _ _ (huge_last _ _ (sum3_right p r b (less_right _ u g))))))
        (first_or _ v true (λ g. huge_more _ _ (huge_more _ _ (huge_last _ _ (sum4_right q z _ c (less_right _ v g)))))
        (λ g. absurd (true≢false g)))))

peeled : (b c d e : Float) → NeverKept 4 (peel_system b c d e)
unfolding norm_of weighted_of size_sum_of count_up Found
peeled b c d e x step current n f h = four (peel_system b c d e) x current f found step n h
  where
    found : (s t u v : Float) → Found (peel_system b c d e) x current f (s ∷ t ∷ u ∷ v ∷ [])
    found s t u v =
        let p = sub binary64 (get_or x 0 nan) s in
        let q = sub binary64 (get_or x 1 nan) t in
        let r = sub binary64 (get_or x 2 nan) u in
        let z = sub binary64 (get_or x 3 nan) v in
        first_or _ s _ (λ g. huge_more _ _ (huge_more _ _ (huge_more _ _ (huge_last _ _ (difference_right q p b (less_right _ s g))))))
        (first_or _ t _ (λ g. huge_more _ _ (huge_more _ _ (huge_more _ _ (huge_last _ _ (difference_left q p b (less_right _ t g))))))
        (first_or _ u _ (λ g. huge_more _ _ (huge_more _ _ (huge_last _ _ (difference_left r _ c (less_right _ u g)))))
        (first_or _ v true (λ g. huge_more _ _ (huge_last _ _ (difference_left z _ d (less_right _ v g))))
        (λ g. absurd (true≢false g)))))

pub steps : Steps
steps = record { cubic = cubic; quartic = quartic; peeled = peeled; polished = never_polished }
