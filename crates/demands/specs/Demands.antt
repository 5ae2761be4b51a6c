-- What is promised, as theorems about the definitions: the customer's demands (document 00) and the claims of documents 01 and 02, in their words. Statements
-- only; proofs/Proved.antt has the proof of `Demands`, the last of them.
use Rattle.std.specs.Prelude.{◌≡◌, ◌⊎◌, Bool, true, false, cond, ◌&&◌, ◌||◌, ℕ, suc, ◌+◌, ◌-◌, ◌*◌, ◌^◌, ◌≤◌, ◌<◌, ltb, ℤ, pos, negsuc, ◌*ℤ◌, ◌≤ℤ◌}
use Rattle.std.specs.Prelude.{length, take, get_or, Float, Result, Ok}
use mathlib.Core.List.{List, [], ◌∷◌, ◌++◌, map, foldl, Memᴰ}
use Rattle.std.specs.Float.{nan, inf, fin, binary64}
use Rattle.std.specs.Float.Ieee.{up, down, lt, eq, fits, of_bits, neg}
use Rattle.std.specs.Float.Ieee.Exact.{HasValue}
use Rattle.std.specs.Float.Ieee.Positive.{positive}
use Rattle.facts.specs.Sort.{sorted_by}
use Rattle.facts.specs.Lists.{AllOf}
use Rattle.float.specs.Literals.{zero64, two64, four64}
use Rattle.float.specs.Bytes.{f64_at}
use Rattle.float.specs.Dyadic.{◌*2^◌, ◌/2^◌}
use Rattle.float.specs.Methods.{is_finite_of, is_sign_negative_of, total_le_of}
use Rattle.float.specs.Units.{units_of, Finite}
use Rattle.order.specs.Order.{falling_of}
use Rattle.decode.specs.Exponent.{exponent_of, regular_of}
use Rattle.ldexp.specs.Scale.{ldexp_of}
use Rattle.sqrt.specs.Root.{sqrt_of}
use Rattle.cbrt.specs.Root.{cbrt_of}
use Rattle.angle.specs.declared.Sine.{Sine}
use Rattle.angle.specs.declared.Sine.TheVariants.{OfRounded, OfExact}
use Rattle.angle.specs.Third.{sine_numbered, third_angle_of}
use Rattle.log2.specs.Log.{log2_grid_of}
use Rattle.cubic.specs.declared.CubicRoots.TheVariants.{Three}
use Rattle.cubic.specs.Cubic.{cubic_closed_form_of}
use Rattle.scaled.specs.declared.Scaled.{Scaled}
use Rattle.scaled.specs.Scaled.{scaled_of}
use Rattle.factors.specs.declared.Factors.{Factors}
use Rattle.large_factors.specs.Large.{unit_of, factor_units_of, no_smaller}
use Rattle.factorize.specs.Factorize.{factorize_of, factorize_systems_of}
use Rattle.roots.specs.declared.RootKind.TheVariants.{Crossing, Brush, Flat}
use Rattle.roots.specs.declared.RealRoot.{RealRoot}
use Rattle.roots.specs.Roots.{list_of, pair_list_of, roots_of, no_roots}
use Rattle.roots.specs.Listed.{Fits, Within, blank}
use Rattle.polish.specs.Polish.{polish_of}
use Rattle.accuracy.specs.Claims.{at_most, AllAtMost, Polished}
use Rattle.finish.specs.Finish.{by_value, Ordered, nowhere, ordered_of, polished_of, joined_of}
use Rattle.poly.specs.Coefficients.{trimmed_of, zeros_of, refusal_of, degree_left, poly_of}
use Rattle.poly.specs.Solve.{candidates_of, solve_of, solved_in}
use Rattle.poly.specs.RealRoots.{real_roots_of, real_roots_systems_of, roots_in}
use Rattle.poly.specs.Conditions.{Trimmed, AllDoubles, AllFinite, SomeNotFinite, Exactly}
use Rattle.solution.specs.declared.QuadraticSolution.{QuadraticSolution}
use Rattle.solution.specs.Solution.{number_of, values_of}
use Rattle.tally.specs.Tally.{tallied}
use Rattle.refusals.specs.declared.Refusal.{Refusal}
use Rattle.refusals.specs.Refusals.{outcome_of, value_or}
use Rattle.equation.specs.Quadratic.{solve_quadratic_of, quadratic_of, places_in}
use Rattle.asking.specs.Asking.{answered}
use Rattle.touching.specs.declared.Replies.{Replies}
use Rattle.touching.specs.Touching.{chained, touching}
use Rattle.touching.specs.Replies as given
use Rattle.touching.specs.Walk.{RepliesFit}
use Rattle.inquiry.specs.declared.Asked.{Asked}
use Rattle.inquiry.specs.declared.Seen.{Seen}
use Rattle.inquiry.specs.Inquiry.{list_in, is_question, unseen, after}
use Rattle.inquiry.specs.Start.{real_roots_touching_of, places_touching_of, start_of, inquiry_in, shown_after_of}
use Rattle.inquiry.specs.Claims.{Fed}
use Rattle.trig_quartic.specs.declared.TrigEquation.{TrigEquation}
use Rattle.crank.specs.declared.CrankShown.{CrankShown}
use Rattle.crank.specs.Crank.{trig_quartic_of, crank_start_of, crank_in, crank_after, crank_shown_of, crank_of, crank_roots_in, crank_systems_of}
use Rattle.crank.specs.Claims.{Cranks}
use Rattle.contact.specs.declared.Path.{Path}
use Rattle.contact.specs.declared.Circle.{Circle}
use Rattle.contact.specs.Contact.{made_of, pin_contact_of, pin_contact_systems_of}
use Rattle.contact.specs.Claims.{replies_of, Contacts}
use Rattle.formula.specs.Reading.{if_some, reading_of}
use Rattle.formula.specs.Parts.{sum_parts}
use Rattle.formula.specs.Formula.{formula_of}
use Rattle.formula_roots.specs.FormulaRoots.{handed_on, formula_roots_of, formula_systems_of}
use Rattle.formula_roots.specs.Claims.{Formulas}
use Rattle.records.specs.declared.Record.{Record}
use Rattle.listing.specs.Answers.{contact_at}
use Rattle.text.specs.Digits.{decimal}
use Rattle.listing.specs.Words.{letter_of}
use Rattle.listing.specs.Lines.{place_text, root_text, polynomial_text, words_of, head_of, total_text}
use Rattle.listing.specs.Totals.{line_total, record_total, total_of}
use Rattle.listing.specs.File.{listing}
use Rattle.demands.specs.Loops.{runs_from, chains_from}
use Rattle.demands.specs.Formed.{Formed, times_of, unasked, chains_formed, roots_formed, reply_in, SomeYes, unformed}
use Rattle.demands.specs.Table.{Row, table, row_answer_of}
use Rattle.demands.specs.Example.{ascii, example_file, example_listing}
use Rattle.demands.specs.Texts.{TextRow, texts, parts_in_order}
use Rattle.demands.specs.ByHand.{lines, word, before_last, same, number, like_list, like_crank, line_roots, line_multiplicities, roots_on, multiplicities_on}
use Rattle.demands.specs.ByHand.{closing_line}
use Rattle.demands.specs.Calls.{factorize_called}

-- ---- words

-- `-` is that of whole numbers from 0 on and stops at 0: the degree left of a list of zeros, 0 - 1, is 0.
-- `sine` is the mode of request Six. The reference build's is `OfRounded`, the lanes' `OfExact`; what takes a mode holds in every one, and 'the Rust's' is there
-- the Rust with that sine.

-- No double is nearer than r to a number of y units with the sign s, where `under h` says h / 2 ≤ y, and `over h` y ≤ h / 2: the middle of r and a smaller
-- double is not above y, and the middle of r and a larger one is not below y. Sizes are enough: of two doubles that differ in the sign alone, the one with
-- the number's sign is not farther.
pub record Nearest (s : Bool) (under over : ℕ → Type 0) (r : Float) : Type 0 where
  pub finite : Finite r
  pub sign : is_sign_negative_of r ≡ s
  pub smaller : (d : Float) → Finite d → units_of d < units_of r → under (units_of r + units_of d)
  pub larger : (d : Float) → Finite d → units_of r < units_of d → over (units_of r + units_of d)

-- The two sides of 4y³ ≤ 3y + v, as whole numbers. y is h / 2 units and |v| is n units, of 2^-1074. Counted in 2^-3223, which is 4·(2^-1075)³, 4y³ is h³, 3y is
-- 3h·2^2148 and |v| is 2n·2^2148. Where v is below 0 (s is true), 3y + v is 3y − |v|, and |v| goes to the other side: 4y³ + |v| ≤ 3y.
abbrev pub cube_side : Bool → ℕ → ℕ → ℕ
cube_side s n h = h * h * h + cond s (2 * n * 2 ^ 2148) 0

abbrev pub line_side : Bool → ℕ → ℕ → ℕ
line_side s n h = 3 * h * 2 ^ 2148 + cond s 0 (2 * n * 2 ^ 2148)

-- y is at most, or at least, the greatest solution of 4y³ − 3y = v, for v in [−1, 1]: it lies from 1/2 to 1, and from 1/2 on 4y³ − 3y grows. 1/2 is h = 2^1074.
abbrev pub AtMostSolution : Bool → ℕ → ℕ → Type 0
AtMostSolution s n h = (h ≤ 2 ^ 1074) ⊎ (cube_side s n h ≤ line_side s n h)

abbrev pub AtLeastSolution : Bool → ℕ → ℕ → Type 0
AtLeastSolution s n h = (2 ^ 1074 ≤ h) × (line_side s n h ≤ cube_side s n h)

-- The same of any fraction x = g / G, for a v of n units: the two sides of 4x³ ≤ 3x + v times G³ · 2^1074, with |v| on the side where it is added.
abbrev pub AtMostCosine : Bool → ℕ → ℕ → ℕ → Type 0
AtMostCosine s n g G = (2 * g ≤ G)
    ⊎ (4 * (g * g * g) * 2 ^ 1074 + cond s (n * (G * G * G)) 0 ≤ 3 * g * (G * G) * 2 ^ 1074 + cond s 0 (n * (G * G * G)))

abbrev pub AtLeastCosine : Bool → ℕ → ℕ → ℕ → Type 0
AtLeastCosine s n g G = (G ≤ 2 * g)
    × (3 * g * (G * G) * 2 ^ 1074 + cond s 0 (n * (G * G * G)) ≤ 4 * (g * g * g) * 2 ^ 1074 + cond s (n * (G * G * G)) 0)

-- y, of h / 2 units, is at most, or at least, √(1 − c²) for that solution c itself: x² + y² is at most 1 for every fraction x up to c, or at least 1 for every
-- fraction x from c on. Both sides are times 4G² · 2^2148.
abbrev pub AtMostSine : Bool → ℕ → ℕ → Type 0
AtMostSine s n h = (g G : ℕ) → 0 < G → AtMostCosine s n g G → 4 * (g * g) * 2 ^ 2148 + h * h * (G * G) ≤ 4 * (G * G) * 2 ^ 2148

abbrev pub AtLeastSine : Bool → ℕ → ℕ → Type 0
AtLeastSine s n h = (g G : ℕ) → 0 < G → AtLeastCosine s n g G → 4 * (G * G) * 2 ^ 2148 ≤ 4 * (g * g) * 2 ^ 2148 + h * h * (G * G)

-- 2^z ≤ n / d < 2^(z + 1), where 2^z is up z / down z
pub record Between (z : ℤ) (n d : ℕ) : Type 0 where
  pub low : up z * d ≤ n * down z
  pub high : n * down z < 2 * (up z * d)

-- y is x · 2^k, both being finite doubles
pub record TimesPower (x : Float) (k : ℤ) (y : Float) : Type 0 where
  pub from : Finite x
  pub to : Finite y
  pub sign : is_sign_negative_of x ≡ is_sign_negative_of y
  pub amount : units_of y * down k ≡ units_of x * up k

-- y has x's sign, and is x · 2^k but for at most 3/4 of a unit of 2^-1074
pub record NearPower (x : Float) (k : ℤ) (y : Float) : Type 0 where
  pub to : Finite y
  pub sign : is_sign_negative_of y ≡ is_sign_negative_of x
  pub over : 4 * (units_of y * down k) ≤ 4 * (units_of x * up k) + 3 * down k
  pub under : 4 * (units_of x * up k) ≤ 4 * (units_of y * down k) + 3 * down k

-- x is exactly z / d (`HasValue x s a d`: x is finite, has the sign s, and is a / d in size)
abbrev pub Ratio : Float → ℤ → ℕ → Type 0
Ratio x (pos a) d = HasValue x false a d
Ratio x (negsuc a) d = HasValue x true (suc a) d

-- a_0 to a_d, ascending, are finite, and the first and the last of them are not zero
pub record Coefficients (a : List Float) (d : ℕ) : Type 0 where
  pub degree : d ≤ 4
  pub finite : (i : ℕ) → i ≤ d → Finite (get_or a i nan)
  pub first : 0 < units_of (get_or a 0 nan)
  pub last : 0 < units_of (get_or a d nan)

-- |a_i| ≤ |a_d|·2^(e(d−i)) for all i < d
abbrev pub Bounds : List Float → ℕ → ℤ → Type 0
Bounds a d e = (i : ℕ) → i < d → let z = e *ℤ pos (d - i) in units_of (get_or a i nan) * down z ≤ units_of (get_or a d nan) * up z

-- s is l sorted, where `before` says of two that the first goes before the second or is level with it. What stands at k in s stood at `place k` in l, and no
-- place is taken twice; what is in s rises; and of two that are level the earlier stays first. `none` is what is read outside a list.
pub record Sorted {A : Type 0} (before : A → A → Bool) (none : A) (place : ℕ → ℕ) (l s : List A) : Type 0 where
  pub long : length s ≡ length l
  pub from : (k : ℕ) → k < length l → (place k < length l) × (get_or s k none ≡ get_or l (place k) none)
  pub once : (i j : ℕ) → i < j → j < length l → place i ≡ place j → ⊥
  pub rises : (i j : ℕ) → i < j → j < length l → before (get_or s i none) (get_or s j none) ≡ true
  pub ties : (i j : ℕ) → i < j → j < length l → before (get_or s j none) (get_or s i none) ≡ true → place i < place j

-- ---- 'whole numbers over a power of two, as every finite double is': so nobody has to believe how a definition rounds

-- a finite double is its sign and `units_of`, in units of 2^-1074, exactly; and no other has both
pub record Doubles : Type 0 where
  pub exact : (x : Float) → Finite x → HasValue x (is_sign_negative_of x) (units_of x) (2 ^ 1074)
  pub one : (x y : Float) → Finite x → Finite y → is_sign_negative_of x ≡ is_sign_negative_of y → units_of x ≡ units_of y → x ≡ y

-- ---- demand 2: 'Square root, cube root, third-angle cosine and power-of-two scale are proved against whole-number definitions.'
-- The functions' contracts name the definitions; here is what those mean, in the words of document 01 ('Reference build', 'From the leaves up').

-- Square root: the nearest double. That of n units has √(n · 2^1074). 'Square root of a negative is NaN, of −0 is −0.'
pub record SquareRoot : Type 0 where
  pub nearest : (x : Float) → Finite x → positive x ≡ true
      → let N = units_of x * 2 ^ 1074 in Nearest false (λ h. h * h ≤ 4 * N) (λ h. 4 * N ≤ h * h) (sqrt_of x)
  pub negative : (x : Float) → lt x zero64 ≡ true → sqrt_of x ≡ nan
  pub zero : (s : Bool) → sqrt_of (fin s 0 (pos 0)) ≡ fin s 0 (pos 0)

-- 'cube root: the nearest double; ±0, infinities and NaN return themselves.' That of n units has ∛(n · 2^2148), and x's sign.
pub record CubeRoot : Type 0 where
  pub nearest : (x : Float) → Finite x → regular_of x ≡ true
      → let N = units_of x * 2 ^ 2148 in Nearest (is_sign_negative_of x) (λ h. h * h * h ≤ 8 * N) (λ h. 8 * N ≤ h * h * h) (cbrt_of x)
  pub others : (x : Float) → regular_of x ≡ false → cbrt_of x ≡ x

-- 'c is the double nearest the greatest real solution of 4c³ − 3c = v, for v in [−1, 1]; s is the double nearest √(1 − c²) for that rounded c; NaN gives NaN
-- twice.' Like that solution, c lies from 1/2 to 1. This s is that of the old mode, `OfRounded`; that of the new one is in `SharperSine`, and c is the same.
pub record Third : Type 0 where
  pub cosine : (mode : Sine) (v : Float) → Finite v → units_of v ≤ 2 ^ 1074
      → let s = is_sign_negative_of v in let n = units_of v in Nearest false (AtMostSolution s n) (AtLeastSolution s n) (third_angle_of mode v).cos
  pub same : (v : Float) → (third_angle_of OfExact v).cos ≡ (third_angle_of OfRounded v).cos
  pub range : (mode : Sine) (v : Float) → Finite v → units_of v ≤ 2 ^ 1074
      → let c = units_of (third_angle_of mode v).cos in (2 ^ 1073 ≤ c) × (c ≤ 2 ^ 1074)
  pub sine : (v : Float) → Finite v → units_of v ≤ 2 ^ 1074
      → let c = units_of (third_angle_of OfRounded v).cos in
      Nearest false (λ h. h * h + 4 * (c * c) ≤ 4 * 2 ^ 2148) (λ h. 4 * 2 ^ 2148 ≤ h * h + 4 * (c * c)) (third_angle_of OfRounded v).sin
  pub twice : (mode : Sine) → ((third_angle_of mode nan).cos ≡ nan) × ((third_angle_of mode nan).sin ≡ nan)

-- 'L(a), the greatest multiple of 1/256 not above the exact logarithm; minus infinity for 0': z / 256 where 2^z ≤ a^256 < 2^(z + 1).
pub record Logarithm : Type 0 where
  pub greatest : (a : Float) → Finite a → positive a ≡ true → (z : ℤ) × Ratio (log2_grid_of a) z 256 × Between z (units_of a ^ 256) (2 ^ (1074 * 256))
  pub zero : (s : Bool) → log2_grid_of (fin s 0 (pos 0)) ≡ inf true

-- 'the exact exponent. The exponent of a number below 2^-1022 comes from its highest set bit': 2^k ≤ |x| < 2^(k + 1).
pub record Exponent : Type 0 where
  pub exact : (x : Float) → Finite x → regular_of x ≡ true → Between (exponent_of x) (units_of x) (2 ^ 1074)

-- Power-of-two scale, 'the Rust's chain of products with powers of two, each rounded once, so a result below 2^-1022 may be rounded twice'. For every x and k:
-- where x · 2^k is a double, `ldexp` gives it (`exact`), as it always is from 2^-1022 to below 2^1024, 2^52 to 2^2098 units (`normal`); from there on it gives
-- an infinity; below it is at most 3/4 of a unit off (`near`), 1/2 by the last rounding and half of 1/2 by one before it; and what is not finite stays.
pub record Scale : Type 0 where
  pub exact : (x : Float) (k : ℤ) (y : Float) → TimesPower x k y → ldexp_of x k ≡ y
  pub normal : (x : Float) (k : ℤ) → Finite x → 2 ^ 52 * down k ≤ units_of x * up k → units_of x * up k < 2 ^ 2098 * down k → TimesPower x k (ldexp_of x k)
  pub infinite : (x : Float) (k : ℤ) → Finite x → 2 ^ 2098 * down k ≤ units_of x * up k → ldexp_of x k ≡ inf (is_sign_negative_of x)
  pub near : (x : Float) (k : ℤ) → Finite x → units_of x * up k < 2 ^ 2098 * down k → NearPower x k (ldexp_of x k)
  pub others : (x : Float) (k : ℤ) → is_finite_of x ≡ false → ldexp_of x k ≡ x

-- 'e is the smallest whole number with |a_i| ≤ |a_d|·2^(e(d−i)) for all i < d; e = 0 where d = 0. Scaled coefficients are at most the leading one in size,
-- which lies in [1, 2).' 1 has 2^1074 units.
pub record ScaledCoefficients : Type 0 where
  pub bounds : (a : List Float) (d : ℕ) → Coefficients a d → Bounds a d (scaled_of a d).e
  pub smallest : (a : List Float) (d : ℕ) → Coefficients a d → 0 < d → (e : ℤ) → Bounds a d e → (scaled_of a d).e ≤ℤ e
  pub constant : (a : List Float) → (scaled_of a 0).e ≡ pos 0
  pub finite : (a : List Float) (d : ℕ) → Coefficients a d → (i : ℕ) → i ≤ d → Finite (get_or (scaled_of a d).f i nan)
  pub most : (a : List Float) (d : ℕ) → Coefficients a d → (i : ℕ) → i ≤ d
      → let f = (scaled_of a d).f in units_of (get_or f i nan) ≤ units_of (get_or f d nan)
  pub leading : (a : List Float) (d : ℕ) → Coefficients a d
      → let n = units_of (get_or (scaled_of a d).f d nan) in (2 ^ 1074 ≤ n) × (n < 2 ^ 1075)

-- 'Degree 3 splits into a line and a quadratic, degree 4 into two quadratics, or line and cubic': the degrees of the factors add up to d, from every depth on,
-- so that no factor is ever dropped for want of room.
pub record FactorDegrees (sine : Sine) : Type 0 where
  pub sum : (sc : Scaled) → sc.d ≤ 4 → (depth : ℕ) → let f = factorize_of sine sc depth in f.nlin + 2 * f.nquad ≡ sc.d

-- ---- 'sorts: ties stay in their earlier order'

-- The order is the Rust's `total_cmp`, all NaNs being one. Of two values one is not above the other; what is not above the next is not above the one after it;
-- and doubles that are not above each other are the same. A smaller number goes first, −0 before +0, and NaN last.
pub record TotalOrder : Type 0 where
  pub either : (x y : Float) → (total_le_of x y ≡ true) ⊎ (total_le_of y x ≡ true)
  pub onward : (x y z : Float) → total_le_of x y ≡ true → total_le_of y z ≡ true → total_le_of x z ≡ true
  pub same : (x y : Float) → fits binary64 x ≡ true → fits binary64 y ≡ true → total_le_of x y ≡ true → total_le_of y x ≡ true → x ≡ y
  pub smaller : (x y : Float) → lt x y ≡ true → total_le_of x y ≡ true
  pub zeros : total_le_of (fin true 0 (pos 0)) (fin false 0 (pos 0)) ≡ true
  pub last : (x : Float) → total_le_of x nan ≡ true

-- What is sorted: the candidates of `finish` and the items of an inquiry, by their places; the units of `factorize`, the largest first; and what the code's own
-- sort of n keys answers, the numbers of the keys' places.
pub record Sorts : Type 0 where
  pub places : (c : List RealRoot) → (place : ℕ → ℕ) × Sorted (λ a b. total_le_of a.value b.value) blank place c (by_value c)
  pub units : (f : Factors) → (place : ℕ → ℕ) × Sorted no_smaller (unit_of nan nan nan) place (factor_units_of f) (sorted_by no_smaller (factor_units_of f))
  pub falling : (key : List Float) (n : ℕ) → n ≤ length key
      → let at = falling_of key n in Sorted (λ a b. total_le_of b a) nan (λ k. get_or at k 0) (take n key) (map (λ i. get_or key i nan) (take n at))

-- ---- the Rust's loops in loops

-- Joining in `finish`, and chains in real_roots_touching, written with the two loops that the Rust has, are the definitions, which have one each: whatever the
-- number of turns that both loops are allowed, if only it is not below the number of places.
pub record Loops : Type 0 where
  pub runs : (poly : Scaled) (tol : Float) (v : List RealRoot) (turns : ℕ) → length v ≤ turns → runs_from poly tol v turns turns 0 [] ≡ joined_of poly tol v
  pub chains : (poly : Scaled) (tol : Float) (items : List RealRoot) (turns : ℕ) → length items ≤ turns
      → chains_from poly tol items turns turns 0 [] ≡ chained poly tol items

-- ---- demand 1, for a list of any length, bits and tolerance

-- 'An answer has at most four finite roots, each of multiplicity one or more, adding to no more than the degree left once trailing zeros are dropped. A refusal
-- has no root': `Within d` says this of a list of roots, and `Fits` that the array of four has room for them. The numbers: 'is answered', 0, 'or refused under
-- a number from document 01', each exactly under its condition: '1, some coefficient not finite, wherever it stands; 2, trimmed length 0 or 1; 3, trimmed
-- length above 5'.
pub record Lists (sine : Sine) : Type 0 where
  pub trimmed : (coeffs : List Float) → Trimmed coeffs (trimmed_of coeffs)
  pub roots : (coeffs : List Float) (tol : Float) → Within (trimmed_of coeffs - 1) (list_of (roots_in (real_roots_of sine coeffs tol)))
  pub array : (coeffs : List Float) (tol : Float) → Fits (roots_in (real_roots_of sine coeffs tol))
  pub refused : (coeffs : List Float) (tol : Float) → 0 < outcome_of (real_roots_of sine coeffs tol) → roots_in (real_roots_of sine coeffs tol) ≡ no_roots
  pub numbers : (coeffs : List Float) (tol : Float) → outcome_of (real_roots_of sine coeffs tol) ≤ 3
  pub zero : (coeffs : List Float) (tol : Float)
      → Exactly (outcome_of (real_roots_of sine coeffs tol) ≡ 0) (AllFinite coeffs × (2 ≤ trimmed_of coeffs) × (trimmed_of coeffs ≤ 5))
  pub one : (coeffs : List Float) (tol : Float) → Exactly (outcome_of (real_roots_of sine coeffs tol) ≡ 1) (SomeNotFinite coeffs)
  pub two : (coeffs : List Float) (tol : Float) → Exactly (outcome_of (real_roots_of sine coeffs tol) ≡ 2) (AllFinite coeffs × (trimmed_of coeffs ≤ 1))
  pub three : (coeffs : List Float) (tol : Float) → Exactly (outcome_of (real_roots_of sine coeffs tol) ≡ 3) (AllFinite coeffs × (5 < trimmed_of coeffs))

-- ---- 'Contacts that only brush'

-- The refusals are a list's. `Fed`: 'For every yes-or-no function of x, feeding its replies gives the Rust's list and asks at the Rust's places in its order',
-- and then nothing is asked. 'At most (degree − 1) questions, 0 where the degree is 1, the degree being that left once trailing zeros are dropped.' Demand 1
-- holds of the finished list.
pub record Inquiries (sine : Sine) : Type 0 where
  pub refusal : (coeffs : List Float) (tol : Float) → outcome_of (start_of sine coeffs tol) ≡ refusal_of coeffs
  pub fed : (touches : Float → Bool) (coeffs : List Float) (tol : Float) → Fed sine touches (inquiry_in (start_of sine coeffs tol)) coeffs tol
  pub questions : (touches : Float → Bool) (coeffs : List Float) (tol : Float) → length (places_touching_of sine touches coeffs tol) ≤ degree_left coeffs - 1
  pub roots : (touches : Float → Bool) (coeffs : List Float) (tol : Float) → Within (degree_left coeffs) (real_roots_touching_of sine touches coeffs tol)

-- ---- 'Quadratics'

-- 'Quadratic: 1, one of a, b, c not finite; 5, a number in the Rust's answer is not finite', each exactly there, and 0 where it is answered. 'Nothing else is
-- refused.'
pub record QuadraticNumbers (number : ℕ) (handed answer : List Float) : Type 0 where
  pub zero : Exactly (number ≡ 0) (AllFinite handed × AllFinite answer)
  pub one : Exactly (number ≡ 1) (SomeNotFinite handed)
  pub five : Exactly (number ≡ 5) (AllFinite handed × SomeNotFinite answer)
  pub nothing_else : (number ≡ 0) ⊎ (number ≡ 1) ⊎ (number ≡ 5)

-- 'An answer is two places, one, a linear place, degenerate, or empty': `number_of` is its word, 0 to 4 in this order, and `values_of` its places, which are
-- finite. It is the Rust's, and a refusal has no place.
pub record Quadratics : Type 0 where
  pub numbers : (a b c confusion angular : Float)
      → QuadraticNumbers (outcome_of (quadratic_of a b c confusion angular)) (a ∷ b ∷ c ∷ []) (values_of (solve_quadratic_of a b c confusion angular))
  pub answer : (a b c confusion angular : Float) → outcome_of (quadratic_of a b c confusion angular) ≡ 0
      → quadratic_of a b c confusion angular ≡ Ok (solve_quadratic_of a b c confusion angular)
  pub places : (a b c confusion angular : Float) → AllFinite (places_in (quadratic_of a b c confusion angular))
  pub refused : (a b c confusion angular : Float) → 0 < outcome_of (quadratic_of a b c confusion angular)
      → places_in (quadratic_of a b c confusion angular) ≡ []
  pub words : (s : QuadraticSolution) → (number_of s ≤ 4) × (length (values_of s) ≡ get_or (2 ∷ 1 ∷ 1 ∷ 0 ∷ 0 ∷ []) (number_of s) 0)

-- ---- 'Crank equations'

-- `Cranks`: each refusal stands exactly for its condition, k is 0 to 7, and what holds of inquiries about lists holds of those about a crank's quartic, whose
-- questions name k and u: the Rust's list, its places in its order, at most (degree − 1) questions, demand 1.
pub record CrankEquations (sine : Sine) : Type 0 where
  pub every : (confusion : Float) (trig : TrigEquation) → Cranks sine confusion trig

-- ---- demand 3: 'However many polishing steps are allowed, those that move nothing counted, and wherever they start, no run of them by demand 2's definition
-- can worsen a simple root beyond rounding.'

-- 'For every scaled polynomial of degree 1 to 4 with coefficients at most 2 in size, and whatever the neighbouring roots, let first and last place be at most 4
-- in size. With P the exact size of the polynomial at a place and M the exact sum of its terms' sizes, (2^53 − 1)·P(last) is at most
-- (2^53 + 1)·P(first) + 2^-45·(M(first) + M(last)) + 2^-946.' That is `Polished`, both sides times a power of two that makes them whole numbers. n is how many
-- turns are allowed, the gap is the distance to the nearest neighbour, and the polynomial is f_0 + f_1·y + .. + f_d·y^d.
pub record Polishing : Type 0 where
  pub run : (n : ℕ) (f : List Float) (d : ℕ) (gap first : Float) → d ≤ 4 → AllAtMost two64 f d → at_most four64 first ≡ true
      → let last = polish_of n f d gap first in at_most four64 last ≡ true → Polished f d first last

-- The places with which the roots come to polishing, in order, each with its multiplicity and its gap. All that begins with `solve_of`, as a list does, has
-- these.
abbrev pub places_of : Sine → List Float → Float → List Ordered
places_of sine coeffs tol =
    let s = solved_in (solve_of sine coeffs tol) in ordered_of (candidates_of s.poly (zeros_of coeffs) (factorize_of sine s.poly 0) s.tol).0

-- 'A simple root comes to polishing with multiplicity 1. First is the place it comes with, last the one where the loop leaves it.' Whatever the number of
-- turns n, the k-th place is not worsened where it comes with multiplicity 1; that the coefficients are at most 2 in size is no premise.
abbrev pub NotWorsened : Sine → List Float → Float → Type 0
NotWorsened sine coeffs tol =
    let s = solved_in (solve_of sine coeffs tol) in
    (n k : ℕ) → let first = get_or (places_of sine coeffs tol) k nowhere in let last = get_or (polished_of n s.poly (places_of sine coeffs tol)) k blank in
    first.multiplicity ≡ 1 → at_most four64 first.value ≡ true → at_most four64 last.value ≡ true
    → Polished s.poly.f s.poly.d first.value last.value

-- The same of every answer: what is found are these places, each polished by at most four turns, and then joined. The polynomial is the list's, scaled, 'with
-- those zeros removed'.
pub record SimpleRoots (sine : Sine) : Type 0 where
  pub polynomial : (coeffs : List Float) (tol : Float) → outcome_of (solve_of sine coeffs tol) ≡ 0
      → (solved_in (solve_of sine coeffs tol)).poly ≡ poly_of coeffs
  pub found : (coeffs : List Float) (tol : Float) → outcome_of (solve_of sine coeffs tol) ≡ 0
      → let s = solved_in (solve_of sine coeffs tol) in s.roots ≡ roots_of (joined_of s.poly s.tol (polished_of 4 s.poly (places_of sine coeffs tol)))
  pub polished : (coeffs : List Float) (tol : Float) → AllDoubles coeffs → outcome_of (solve_of sine coeffs tol) ≡ 0 → NotWorsened sine coeffs tol

-- ---- condition 4 on every contract: 'The entries marked P form one small table, shown from the definitions by one fact about all its rows.'

-- what the definitions answer to a row's call in the reference build's mode is the row's answer, for every row that stands in the table, whatever the
-- tolerance of its lists
pub record Entries : Type 0 where
  pub every : (tol : Float) (row : Row) → Memᴰ row (table tol) → row_answer_of OfRounded row.call ≡ row.answer

-- ---- 'The hall file'

-- Document 01's file has the listing that stands there, byte for byte, with what requests Two and Five add. '9, over 65,536 bytes, the only line then being
-- `0 -- refused 9`.' 'An empty file prints only `T 0 0 0`, and an over-long one `T 1 0 0` after its line. This amends document 01 on both, and its listing,
-- which now ends `T 5 4 4`.' No listing has more bytes than the program lends for it.
pub record HallFile (sine : Sine) : Type 0 where
  pub example : listing sine example_file ≡ example_listing
  pub empty : listing sine [] ≡ ascii "T 0 0 0\n"
  pub too_long : (s : List ℕ) → 65536 < length s → listing sine s ≡ ascii "0 -- refused 9\nT 1 0 0\n"
  pub room : (s : List ℕ) → length (listing sine s) ≤ 524328

-- ---- request One, 'Pin contact from path and circle'

-- `Contacts`: 'Errors: 10, a number of the record is not finite; 11, R is not above 0; 12, a coefficient made is not finite; in that order, then 2 as for a
-- list', each exactly there, and no other number. An answer is the Rust's list of the coefficients made, 'A question at t is replied yes exactly when |D − R|
-- is at most confusion'; at most three questions; demand 1. 'Demand 3, the accuracy rule, covers these roots through the list': what is asked about and listed
-- are the roots that the list of the same coefficients found, none of them worsened. 'A record PC holds ..', 'The line prints like PL': the listing of a file
-- of one such record, with its total.
pub record PinContacts (sine : Sine) : Type 0 where
  pub every : (confusion : Float) (path : Path) (circle : Circle) → Contacts sine confusion path circle
  pub through_the_list : (confusion : Float) (path : Path) (circle : Circle) → outcome_of (pin_contact_of sine confusion path circle) ≡ 0
      → let s = solved_in (solve_of sine (made_of path circle) confusion) in roots_in (pin_contact_of sine confusion path circle)
      ≡ roots_of (answered (replies_of confusion path circle) (touching s.poly s.tol (list_of s.roots) (pair_list_of s.pairs)))
  pub polished : (confusion : Float) (path : Path) (circle : Circle) → outcome_of (pin_contact_of sine confusion path circle) ≡ 0
      → NotWorsened sine (made_of path circle) confusion
  pub line : (s : List ℕ) → length s ≡ 80
      → let file = ascii "PC" ++ s in
      let a = contact_at sine file 0 in
      listing sine file ≡ ascii "1 PC " ++ (polynomial_text a ++ ascii "\n") ++ total_text (line_total (roots_in a))

-- ---- request Two, 'Say whether it crossed or brushed'

-- 'Each root gets a kind: crossing where its total multiplicity is 1, brush where at least one yes reply helped to form it, flat otherwise.' f is the place
-- as it is formed with these replies, which knows nothing of kinds: 'Bit equality with the Rust still speaks of place and multiplicity.'
pub record HasKind (replies : List Bool) (f : Formed) (r : RealRoot) : Type 0 where
  pub place : r.value ≡ f.value
  pub multiplicity : r.multiplicity ≡ f.multiplicity
  pub crossing : Exactly (r.kind ≡ Crossing) (r.multiplicity ≡ 1)
  pub brush : Exactly (r.kind ≡ Brush) ((r.multiplicity ≡ 1 → ⊥) × SomeYes replies f)
  pub flat : Exactly (r.kind ≡ Flat) ((r.multiplicity ≡ 1 → ⊥) × (SomeYes replies f → ⊥))

-- These are the roots of a run with these replies, each with its kind. `once`: every question of the run that was replied yes helped to form one chain, once,
-- and no other question helped to form any; the roots are the chains whose place is finite in x.
pub record KindsBy (sine : Sine) (replies : List Bool) (coeffs : List Float) (tol : Float) (roots : List RealRoot) : Type 0 where
  pub length_is : length roots ≡ length (roots_formed (reply_in replies) (solved_in (solve_of sine coeffs tol)))
  pub kinds : (k : ℕ) → k < length roots
      → HasKind replies (get_or (roots_formed (reply_in replies) (solved_in (solve_of sine coeffs tol))) k unformed) (get_or roots k blank)
  pub asked : (chains_formed (reply_in replies) (solved_in (solve_of sine coeffs tol))).0 ≤ length replies
  pub once : (i : ℕ) → let run = chains_formed (reply_in replies) (solved_in (solve_of sine coeffs tol)) in
      times_of i run.1 ≡ cond (ltb i run.0 && reply_in replies i) 1 0

-- 'crossing where its total multiplicity is 1, .. flat otherwise': no reply has helped to form these roots
abbrev pub NeverBrush : List RealRoot → Type 0
NeverBrush roots = (k : ℕ) → k < length roots → HasKind [] (unasked (get_or roots k blank)) (get_or roots k blank)

-- what is shown; where a start is refused, nothing is asked, and no root is listed
abbrev pub shown_in : Result Seen Refusal → Asked
shown_in shown = (value_or unseen shown).asked

abbrev pub crank_shown_in : Result CrankShown Refusal → Asked
crank_shown_in shown = (value_or (record { k = 0; seen = unseen }) shown).seen.asked

-- 'The kind follows the root everywhere': to the list, which never has a brush; to an inquiry's finished list, fed by a function or with whatever replies, and
-- to a crank's; to the record TG, whose questions are all replied no and which never has a brush either; and to a contact. 'The lines for PL, TG and PC print
-- it as c, b or f after the multiplicity and a blank.'
pub record Kinds (sine : Sine) : Type 0 where
  pub list : (coeffs : List Float) (tol : Float) → NeverBrush (list_of (roots_in (real_roots_of sine coeffs tol)))
  pub fed : (touches : Float → Bool) (coeffs : List Float) (tol : Float)
      → KindsBy sine (map touches (places_touching_of sine touches coeffs tol)) coeffs tol (real_roots_touching_of sine touches coeffs tol)
  pub inquiry : (replies : Replies) (coeffs : List Float) (tol : Float) → RepliesFit replies
      → let shown = shown_in (shown_after_of sine coeffs tol replies) in is_question shown ≡ false
      → KindsBy sine (given.replies_of replies) coeffs tol (list_of (list_in shown))
  pub crank_inquiry : (replies : Replies) (confusion : Float) (trig : TrigEquation) → RepliesFit replies
      → let shown = crank_shown_in (crank_shown_of sine confusion trig replies) in is_question shown ≡ false
      → KindsBy sine (given.replies_of replies) (trig_quartic_of trig) confusion (list_of (list_in shown))
  pub crank : (confusion : Float) (trig : TrigEquation) → NeverBrush (list_of (crank_roots_in (crank_of sine confusion trig)))
  pub contact : (confusion : Float) (path : Path) (circle : Circle) → outcome_of (pin_contact_of sine confusion path circle) ≡ 0
      → let touches = replies_of confusion path circle in
      KindsBy sine (map touches (places_touching_of sine touches (made_of path circle) confusion)) (made_of path circle) confusion
      (list_of (roots_in (pin_contact_of sine confusion path circle)))
  pub line : (r : RealRoot) → root_text r ≡ (place_text r.value ++ (32 ∷ decimal r.multiplicity)) ++ (32 ∷ letter_of r.kind ∷ [])
  pub letters : letter_of Crossing ∷ letter_of Brush ∷ letter_of Flat ∷ [] ≡ ascii "cbf"

-- ---- request Three, 'Formulas as mechanics write them'

-- `Formulas`, over the trees of the grammar and their parts: 'The texts that reach it are exactly those the grammar derives that meet the limits below, with
-- one reading each. Errors: 13, the text is not a sum; 14, some part of it has degree above 4 after zero terms are dropped; 15, some coefficient of a part is
-- above 2^53 in size. 13 comes before the others, and of 14 and 15 the one met first decides, 14 where one product meets both', each exactly there, then the
-- list's 2, and no other number. 'Expansion is exact over whole numbers'; 'The result, zero being +0, goes to the list operation'; demand 1. So demand 3
-- covers these roots through the list, and so do the kinds of request Two: none is a brush, since nothing is asked. 'A record TX holds a length byte 0 to 255,
-- a tolerance and that much ASCII', 'whose answer or refusal prints like PL': the listing of a file of one such record, with its total, and of one whose length
-- byte or later bytes are missing, '7, fewer bytes than the record needs'. `rows` and `order`: what some texts come to, and the parts of one.
pub record TypedFormulas (sine : Sine) : Type 0 where
  pub every : (s : List ℕ) (tol : Float) → Formulas sine s tol
  pub polished : (s : List ℕ) (tol : Float) → outcome_of (formula_roots_of sine s tol) ≡ 0 → NotWorsened sine (handed_on (formula_of s)) tol
  pub kinds : (s : List ℕ) (tol : Float) → NeverBrush (list_of (roots_in (formula_roots_of sine s tol)))
  pub line : (tolerance text : List ℕ) → length tolerance ≡ 8 → length text ≤ 255
      → let file = ascii "TX" ++ (length text ∷ tolerance ++ text) in
      let a = formula_roots_of sine text (f64_at file 3) in
      listing sine file ≡ ascii "1 TX " ++ (polynomial_text a ++ ascii "\n") ++ total_text (line_total (roots_in a))
  pub cut : (s : List ℕ) → get_or s 0 0 ≤ 255 → length s < 9 + get_or s 0 0 → listing sine (ascii "TX" ++ s) ≡ ascii "1 TX refused 7\nT 1 0 0\n"
  pub order : if_some (reading_of (ascii "2-(t+1)^2")) [] sum_parts ≡ parts_in_order
  pub rows : map (λ (r : TextRow). formula_of (ascii r.text)) texts ≡ map (λ (r : TextRow). r.value) texts

-- ---- request Five, 'A closing total'

-- A listing read as a person reads it, by lines, words and decimal numbers (ByHand.antt): all its lines but the last.
abbrev pub lines_before : Sine → List ℕ → List (List ℕ)
lines_before sine s = before_last (lines (listing sine s))

-- a record's line, without its end
abbrev pub record_line : Sine → ℕ → List ℕ → ℕ → Record → List ℕ
record_line sine n s at found = head_of n found.kind ++ words_of sine s at found

-- 'After the last record `hallroots` prints `T`, the number of record lines, the number of roots listed and the sum of their multiplicities. Every record
-- line counts, QD and `--` lines too, but roots come only from PL, TG, PC and TX lines. The three numbers are proved equal to what the printed records hold,
-- a refused one adding only its line.' For every file: `last`, the last line, `ended` by a line end, has the three numbers that a person counts in the lines
-- before it, in decimal `digits`; `only`, no other line is a `T` line; `marks`, a line that says a root has one of the four; `refused`, a refused line says
-- none. `each`, a record's line says the roots that its answer lists; `alone`, where it is refused, by its bytes or by the operation, it adds only the line;
-- `agrees`, the records' answers come to the same; `fits`, no number is above 65,536. An empty file, one that is too long, and the room: `HallFile`.
pub record ClosingTotal (sine : Sine) : Type 0 where
  pub last : (s : List ℕ) → let before = lines_before sine s in
      lines (listing sine s) ≡ before ++ (closing_line (length before) (roots_on before) (multiplicities_on before) ∷ [])
  pub ended : (s : List ℕ) → get_or (listing sine s) (length (listing sine s) - 1) 0 ≡ 10
  pub digits : (n : ℕ) → AllOf (λ (d : ℕ). (47 < d) × (d < 58)) (decimal n) × (number (decimal n) ≡ n)
  pub only : (s : List ℕ) (k : ℕ) → k < length (lines_before sine s) → same (word 0 (get_or (lines_before sine s) k [])) (ascii "T") ≡ false
  pub marks : (line : List ℕ) → 0 < line_roots line → let mark = word 1 line in (like_list mark || like_crank mark) ≡ true
  pub refused : (line : List ℕ) → word 2 line ≡ ascii "refused" → (line_roots line ≡ 0) × (line_multiplicities line ≡ 0)
  pub each : (n : ℕ) (s : List ℕ) (at : ℕ) (found : Record) → let line = record_line sine n s at found in let t = record_total sine s at found in
      (t.records ≡ 1) × (line_roots line ≡ t.roots) × (line_multiplicities line ≡ t.multiplicities)
  pub alone : (n : ℕ) (s : List ℕ) (at : ℕ) (found : Record) → word 2 (record_line sine n s at found) ≡ ascii "refused"
      → record_total sine s at found ≡ record { records = 1; roots = 0; multiplicities = 0 }
  pub agrees : (s : List ℕ) → let before = lines_before sine s in
      total_of sine s ≡ record { records = length before; roots = roots_on before; multiplicities = multiplicities_on before }
  pub fits : (s : List ℕ) → let before = lines_before sine s in
      (length before ≤ 65536) × (roots_on before ≤ 65536) × (multiplicities_on before ≤ 65536)

-- ---- request Six, 'A sharper sine in the third-angle pair'

-- the double k steps of 2^-53 below 1, for a small k
abbrev pub below_one : ℕ → Float
below_one k = of_bits binary64 (0x3FF0_0000_0000_0000 - k)

-- `nearest`: 'A new mode beside the old defines s as the double nearest √(1 − c²) for the exact c, before c is rounded.' No double is nearer, c being the
-- solution of the cubic itself. 'A path with two nearly equal contacts starts its refinement from one place instead of two, since c rounds to 1 and s to 0':
-- `merged`: in the old mode it is so at the four doubles next below 1. In the new one, `apart`, s is at least 2^-26/3, rounded, for every v from −1 on that is
-- below 1; `zero`, it is 0 for v = 1 alone. `range`: it lies from 0 to √3/2, rounded, which is 0.8660254037844386. `one_start` and `two_starts`: of a cubic for
-- which v is the double next below 1, y³ − 3y − (2 − 2^-52), two roots are near −1, about 1.7·10^-8 apart; the closed form's places for them are one double, −1,
-- in the old mode, and in the new one −0.9999999913968106 and −1.0000000086031895. 'The lanes and `hallroots` use the new mode; the old one remains':
-- `numbered`, which mode a number is; that `hallroots` and the C functions that take no number have `OfExact` is their contracts. 'Errors: no additions': what
-- is refused is refused under the same number in both modes. `count` and `line`: two listings of a file have as many lines, and a line that says a refusal is
-- the same in both. 'The accuracy rule covers both modes, being shown over whichever start is used': `SimpleRoots`, which `Demands` has of every mode.
pub record SharperSine : Type 0 where
  pub nearest : (v : Float) → Finite v → units_of v ≤ 2 ^ 1074
      → let s = is_sign_negative_of v in let n = units_of v in Nearest false (AtMostSine s n) (AtLeastSine s n) (third_angle_of OfExact v).sin
  pub merged : (k : ℕ) → 0 < k → k ≤ 4 → third_angle_of OfRounded (below_one k) ≡ record { cos = 1 /2^ 0; sin = 0 /2^ 0 }
  pub apart : (v : Float) → Finite v → units_of v ≤ 2 ^ 1074 → (v ≡ 1 /2^ 0 → ⊥) → 6004799503160661 * 2 ^ 994 ≤ units_of (third_angle_of OfExact v).sin
  pub zero : (v : Float) → Finite v → units_of v ≤ 2 ^ 1074 → Exactly ((third_angle_of OfExact v).sin ≡ 0 /2^ 0) (v ≡ 1 /2^ 0)
  pub range : (v : Float) → Finite v → units_of v ≤ 2 ^ 1074
      → let s = (third_angle_of OfExact v).sin in Finite s × (is_sign_negative_of s ≡ false) × (units_of s ≤ 7800463371553962 * 2 ^ 1021)
  pub one_start : cubic_closed_form_of OfRounded (0 /2^ 0) (neg (3 /2^ 0)) (neg (9007199254740991 /2^ 52))
      ≡ Three (1 *2^ 1 ∷ neg (1 /2^ 0) ∷ neg (1 /2^ 0) ∷ [])
  pub two_starts : cubic_closed_form_of OfExact (0 /2^ 0) (neg (3 /2^ 0)) (neg (9007199254740991 /2^ 52))
      ≡ Three (1 *2^ 1 ∷ neg (9007199177250351 /2^ 53) ∷ neg (4503599666115817 /2^ 52) ∷ [])
  pub numbered : (sine_numbered 0 ≡ OfExact) × ((n : ℕ) → 0 < n → sine_numbered n ≡ OfRounded)
  pub list : (a b : Sine) (coeffs : List Float) (tol : Float) → outcome_of (real_roots_of a coeffs tol) ≡ outcome_of (real_roots_of b coeffs tol)
  pub inquiry : (a b : Sine) (coeffs : List Float) (tol : Float) → outcome_of (start_of a coeffs tol) ≡ outcome_of (start_of b coeffs tol)
  pub crank : (a b : Sine) (confusion : Float) (trig : TrigEquation)
      → outcome_of (crank_start_of a confusion trig) ≡ outcome_of (crank_start_of b confusion trig)
  pub contact : (a b : Sine) (confusion : Float) (path : Path) (circle : Circle)
      → outcome_of (pin_contact_of a confusion path circle) ≡ outcome_of (pin_contact_of b confusion path circle)
  pub formula : (a b : Sine) (s : List ℕ) (tol : Float) → outcome_of (formula_roots_of a s tol) ≡ outcome_of (formula_roots_of b s tol)
  pub count : (a b : Sine) (s : List ℕ) → length (lines_before a s) ≡ length (lines_before b s)
  pub line : (a b : Sine) (s : List ℕ) (k : ℕ) → word 2 (get_or (lines_before a s) k []) ≡ ascii "refused"
      → get_or (lines_before a s) k [] ≡ get_or (lines_before b s) k []

-- ---- request Seven, 'How many systems were solved'

-- the degree left after zero roots are removed
abbrev pub degree_without_zeros : List Float → ℕ
degree_without_zeros coeffs = trimmed_of coeffs - zeros_of coeffs - 1

-- so many zeros come first: they are the zero roots
pub record ZerosFirst (coeffs : List Float) (zeros : ℕ) : Type 0 where
  pub zeros_so_far : (i : ℕ) → i < zeros → eq (get_or coeffs i nan) zero64 ≡ true
  pub no_more : zeros < length coeffs → eq (get_or coeffs zeros nan) zero64 ≡ false

-- 'With d the degree left after zero roots are removed, it is 0 for d at most 2, at most 8 for d = 3 and at most 32 for d = 4.'
pub record MostSystems (d systems : ℕ) : Type 0 where
  pub none : d ≤ 2 → systems ≡ 0
  pub cubic : d ≡ 3 → systems ≤ 8
  pub quartic : d ≡ 4 → systems ≤ 32

-- 'The list answer, an inquiry's finished list too, carries the number of calls to the square-system solver, calls that find no step counted.' `list`: it is
-- that of `factorize_called` (Calls.antt), in which a call of `solve_square` counts one, whether or not it finds a step, and nothing else counts; `calls`: what
-- is called so gives the definition's factors, and 'It equals the count in the definition, second scalings included'; `refused`: 'and is 0 in a refusal'.
-- `most`: the limits, of every list; of one that is answered d is at most 4 (`degree`). 'Where the loop limits of 000 allow more calls, the most they allow
-- replaces 8 or 32': they allow no more. `inquiry` and `crank`: the number that an inquiry holds, which `ask` and `see` show (their contracts), is that of the
-- list, whatever is replied and however often, a reply where nothing is asked too. A crank's, a contact's and a formula's are those of the list that is solved
-- for them, and 0 in a refusal. 'The listing does not print it': its lines are of answers without it. 'Errors: no additions': `Refusal` has none.
pub record SystemsSolved (sine : Sine) : Type 0 where
  pub list : (coeffs : List Float) (tol : Float) → outcome_of (real_roots_of sine coeffs tol) ≡ 0
      → real_roots_systems_of sine coeffs tol ≡ (factorize_called sine (poly_of coeffs) 0).systems
  pub calls : (sc : Scaled) (depth : ℕ)
      → factorize_called sine sc depth ≡ tallied (factorize_of sine sc depth) (factorize_systems_of sine sc depth)
  pub refused : (coeffs : List Float) (tol : Float) → 0 < outcome_of (real_roots_of sine coeffs tol) → real_roots_systems_of sine coeffs tol ≡ 0
  pub zeros : (coeffs : List Float) → ZerosFirst coeffs (zeros_of coeffs)
  pub degree : (coeffs : List Float) (tol : Float) → outcome_of (real_roots_of sine coeffs tol) ≡ 0 → degree_without_zeros coeffs ≤ 4
  pub most : (coeffs : List Float) (tol : Float) → MostSystems (degree_without_zeros coeffs) (real_roots_systems_of sine coeffs tol)
  pub inquiry : (coeffs : List Float) (tol : Float) (replies : List Bool)
      → (foldl after (inquiry_in (start_of sine coeffs tol)) replies).systems ≡ real_roots_systems_of sine coeffs tol
  pub crank : (confusion : Float) (trig : TrigEquation) (replies : List Bool)
      → (foldl crank_after (crank_in (crank_start_of sine confusion trig)) replies).inquiry.systems ≡ crank_systems_of sine confusion trig
  pub crank_list : (confusion : Float) (trig : TrigEquation)
      → crank_systems_of sine confusion trig ≡ real_roots_systems_of sine (trig_quartic_of trig) confusion
  pub crank_refused : (confusion : Float) (trig : TrigEquation) → 0 < outcome_of (crank_start_of sine confusion trig)
      → crank_systems_of sine confusion trig ≡ 0
  pub contact : (confusion : Float) (path : Path) (circle : Circle) → outcome_of (pin_contact_of sine confusion path circle) ≡ 0
      → pin_contact_systems_of sine confusion path circle ≡ real_roots_systems_of sine (made_of path circle) confusion
  pub contact_refused : (confusion : Float) (path : Path) (circle : Circle) → 0 < outcome_of (pin_contact_of sine confusion path circle)
      → pin_contact_systems_of sine confusion path circle ≡ 0
  pub formula : (s : List ℕ) (tol : Float) → formula_systems_of sine s tol ≡ real_roots_systems_of sine (handed_on (formula_of s)) tol
  pub formula_refused : (s : List ℕ) (tol : Float) → 0 < outcome_of (formula_roots_of sine s tol) → formula_systems_of sine s tol ≡ 0

-- ---- all of them
pub record Demands : Type 0 where
  pub doubles : Doubles
  pub square_root : SquareRoot
  pub cube_root : CubeRoot
  pub third : Third
  pub logarithm : Logarithm
  pub exponent : Exponent
  pub scale : Scale
  pub scaled_coefficients : ScaledCoefficients
  pub factor_degrees : (sine : Sine) → FactorDegrees sine
  pub total_order : TotalOrder
  pub sorts : Sorts
  pub loops : Loops
  pub lists : (sine : Sine) → Lists sine
  pub inquiries : (sine : Sine) → Inquiries sine
  pub quadratics : Quadratics
  pub crank_equations : (sine : Sine) → CrankEquations sine
  pub polishing : Polishing
  pub simple_roots : (sine : Sine) → SimpleRoots sine
  pub entries : Entries
  pub hall_file : (sine : Sine) → HallFile sine
  pub pin_contacts : (sine : Sine) → PinContacts sine
  pub kinds : (sine : Sine) → Kinds sine
  pub typed_formulas : (sine : Sine) → TypedFormulas sine
  pub closing_total : (sine : Sine) → ClosingTotal sine
  pub sharper_sine : SharperSine
  pub systems_solved : (sine : Sine) → SystemsSolved sine
