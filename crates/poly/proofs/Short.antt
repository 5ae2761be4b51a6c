-- A short list is solved as the whole one: all are finite in both or in neither, as many are left of both, counted up to six, and what is left of
-- at most five is the same.
use mathlib.Core.Path.{◌≡◌, refl, sym, ap, ◌∙◌, subst}
use mathlib.Core.Bool.{Bool, true, false, cond, ◌&&◌, and-true, and-false, and_assoc, true≢false}
use mathlib.Core.List.{List, [], ◌∷◌, foldl}
use Prim.Native.Nat.{ℕ, zero, suc, min, ◌+◌, ◌-◌, ◌≤◌, ◌<◌}
use native.Mathlib.Nat.{suc-min-suc}
use native.Mathlib.Omega.{arith}
use borrow.Author.Tests.{ltb-true, leb-true, leb-false, lt-leb}
use lib.Dec.{leb, ltb}
use lib.ListN.{length, get_or}
use lib.Ieee.{Float, nan, inf, fin, eq, of_bits, of_fields}
use Rattle.facts.specs.Cond.{either_way}
use Rattle.facts.specs.Arrays.{fill_from}
use Rattle.float.specs.Literals.{zero64}
use Rattle.float.specs.Methods.{is_finite_of, max_of, all_finite_of}
use Rattle.angle.specs.declared.Sine.{Sine}
use Rattle.scaled.specs.Scaled.{scaled_of}
use Rattle.std.specs.Prelude.{Result, Ok, Err}
use Rattle.refusals.specs.declared.Refusal.{Refusal}
use Rattle.refusals.specs.Refusals.{and_then}
use Rattle.poly.specs.declared.Solved.{Solved}
use Rattle.poly.specs.Coefficients.{trimmed_from, trimmed_of, zeros_of, counted_by, counted_of, middle_at, middle_of, poly_of}
use Rattle.poly.specs.Solve.{finished_of, solve_of}
use Rattle.poly.specs.RealRoots.{answer_of, real_roots_of}
use Rattle.poly.specs.Short.{rest_with, rest_of, short_from, short_of}
use Rattle.poly.proofs.Coefficients.{trimmed_most, room}

-- ---- the trimmed length, from the front
-- how many are left of a number and of those behind it: z where the number is a zero, and t are left of the others
abbrev before : Bool → ℕ → ℕ
before z zero = cond z 0 1
before z (suc t) = suc (suc t)

abbrev none : ℕ → Bool
none zero = true
none (suc t) = false

trim_from : (x : Float) (l : List Float) (k : ℕ) → trimmed_from (x ∷ l) (suc k) ≡ before (eq x zero64) (trimmed_from l k)
unfolding trimmed_from
trim_from x l zero = refl
trim_from x l (suc k) = go (eq (get_or l k nan) zero64) (trimmed_from l k) (trim_from x l k)
  where
    go : (b : Bool) {m : ℕ} (n : ℕ) → m ≡ before (eq x zero64) n → cond b m (suc (suc k)) ≡ before (eq x zero64) (cond b n (suc k))
    go true n i = i
    go false n i = refl

trim_cons : (x : Float) (l : List Float) → trimmed_of (x ∷ l) ≡ before (eq x zero64) (trimmed_of l)
unfolding trimmed_of
trim_cons x l = trim_from x l (length l)

before_min : (z : Bool) (t k : ℕ) → before z (min t (suc k)) ≡ min (before z t) (suc (suc k))
before_min z zero k =
    let e : min 0 (suc k) ≡ 0 = omega arith in
    ap (before z) e ∙ either_way (λ (n : ℕ). n ≡ min n (suc (suc k))) z (omega arith) (omega arith)
before_min z (suc t) k = rw suc-min-suc (omega arith)

-- ---- the number for the rest
zero_finite : (x : Float) → eq x zero64 ≡ true → is_finite_of x ≡ true
unfolding eq is_finite_of of_bits of_fields
zero_finite nan e = e
zero_finite (inf s) e = e
zero_finite (fin s m e) h = refl

module _ (r x : Float) where
  with_finite : is_finite_of (rest_with r x) ≡ (is_finite_of r && is_finite_of x)
  unfolding rest_with
  with_finite = go (is_finite_of r) (eq x zero64) refl refl
    where
      go : (p z : Bool) → is_finite_of r ≡ p → eq x zero64 ≡ z → is_finite_of (cond p (cond z r x) r) ≡ (p && is_finite_of x)
      go true true f e = f ∙ sym (zero_finite x e)
      go true false f e = refl
      go false z f e = f

  with_zero : eq (rest_with r x) zero64 ≡ (eq r zero64 && eq x zero64)
  unfolding rest_with
  with_zero = go (is_finite_of r) (eq x zero64) (eq r zero64) refl refl refl
    where
      go : (p z w : Bool) → is_finite_of r ≡ p → eq x zero64 ≡ z → eq r zero64 ≡ w → eq (cond p (cond z r x) r) zero64 ≡ (w && z)
      go true true w f e g = g ∙ sym (and-true w)
      go true false w f e g = e ∙ sym (and-false w)
      go false z true f e g = absurd (true≢false (sym (zero_finite r g) ∙ f))
      go false z false f e g = g

rest_finite : (r : Float) (l : List Float) → is_finite_of (foldl rest_with r l) ≡ (is_finite_of r && all_finite_of l)
rest_finite r [] = sym (and-true (is_finite_of r))
rest_finite r (x ∷ l) =
    rest_finite (rest_with r x) l ∙ ap (λ (b : Bool). b && all_finite_of l) (with_finite r x) ∙ and_assoc (is_finite_of r) (is_finite_of x) (all_finite_of l)

none_left : (z : Bool) (t : ℕ) → (z && none t) ≡ none (before z t)
none_left true zero = refl
none_left false zero = refl
none_left z (suc t) = and-false z

rest_zero : (r : Float) (l : List Float) → eq (foldl rest_with r l) zero64 ≡ (eq r zero64 && none (trimmed_of l))
unfolding trimmed_of trimmed_from
rest_zero r [] = sym (and-true (eq r zero64))
rest_zero r (x ∷ l) =
    rest_zero (rest_with r x) l
    ∙ ap (λ (b : Bool). b && none (trimmed_of l)) (with_zero r x)
    ∙ and_assoc (eq r zero64) (eq x zero64) (none (trimmed_of l))
    ∙ ap (λ (b : Bool). eq r zero64 && b) (none_left (eq x zero64) (trimmed_of l) ∙ ap none (sym (trim_cons x l)))

-- ---- the short list
short_finite : (k : ℕ) (l : List Float) → all_finite_of (short_from k l) ≡ all_finite_of l
unfolding short_from rest_of is_finite_of of_bits of_fields
short_finite zero l = and-true (is_finite_of (rest_of l)) ∙ rest_finite zero64 l
short_finite (suc k) [] = short_finite k []
short_finite (suc k) (x ∷ l) = ap (λ (b : Bool). is_finite_of x && b) (short_finite k l)

zero_left : (t : ℕ) → cond (none t) 0 1 ≡ min t 1
zero_left zero = refl
zero_left (suc t) = let e : 1 ≡ min (suc t) 1 = omega arith in e

short_trimmed : (k : ℕ) (l : List Float) → trimmed_of (short_from k l) ≡ min (trimmed_of l) (suc k)
unfolding short_from rest_of trimmed_of trimmed_from eq of_bits of_fields
short_trimmed zero l = trim_cons (rest_of l) [] ∙ ap (λ (z : Bool). before z 0) (rest_zero zero64 l) ∙ zero_left (trimmed_of l)
short_trimmed (suc k) [] = trim_cons zero64 (short_from k []) ∙ ap (before true) (short_trimmed k []) ∙ before_min true 0 k
short_trimmed (suc k) (x ∷ l) =
    trim_cons x (short_from k l)
    ∙ ap (before (eq x zero64)) (short_trimmed k l)
    ∙ before_min (eq x zero64) (trimmed_of l) k
    ∙ ap (λ (t : ℕ). min t (suc (suc k))) (sym (trim_cons x l))

-- six or more are refused alike
up_to_six : (f : Bool) (t : ℕ) → counted_by f (min t 6) ≡ counted_by f t
unfolding counted_by
up_to_six f t = go (leb t 5) refl
  where
    go : (b : Bool) → leb t 5 ≡ b → counted_by f (min t 6) ≡ counted_by f t
    go true h = let e : min t 6 ≡ t = omega (arith, leb-true t 5 h) in ap (counted_by f) e
    go false h =
        let more = leb-false t 5 h in
        rw (lt-leb (min t 6) 1 (omega arith), lt-leb (min t 6) 5 (omega arith), lt-leb t 1 (omega arith), h)

short_counted : (l : List Float) → counted_of (short_of l) ≡ counted_of l
short_counted l = rw (short_finite 5 l, short_trimmed 5 l) (up_to_six (all_finite_of l) (trimmed_of l))

short_zeros : (k : ℕ) (l : List Float) → 0 < trimmed_of l → trimmed_of l ≤ k → zeros_of (short_from k l) ≡ zeros_of l
unfolding short_from zeros_of trimmed_of
short_zeros zero l h e = absurd (omega arith)
short_zeros (suc k) [] h e = absurd (omega (arith, trimmed_most [] 0))
short_zeros (suc k) (x ∷ l) h e =
    go (eq x zero64) (trimmed_of l) (short_zeros k l) (subst (λ (t : ℕ). (0 < t) × (t ≤ suc k)) (trim_cons x l) (h, e))
  where
    go : (z : Bool) (t : ℕ) → (0 < t → t ≤ k → zeros_of (short_from k l) ≡ zeros_of l) → (0 < before z t) × (before z t ≤ suc k)
        → cond z (suc (zeros_of (short_from k l))) 0 ≡ cond z (suc (zeros_of l)) 0
    go true zero i h = absurd (omega (arith, h.0))
    go true (suc t) i h = ap suc (i (omega arith) (omega (arith, h.1)))
    go false t i h = refl

short_at : (k : ℕ) (l : List Float) (i : ℕ) → i < k → i < length l → get_or (short_from k l) i nan ≡ get_or l i nan
unfolding short_from
short_at zero l i h e = absurd (omega (arith, h))
short_at (suc k) [] i h e = absurd (omega (arith, e))
short_at (suc k) (x ∷ l) zero h e = refl
short_at (suc k) (x ∷ l) (suc i) h e = short_at k l i (omega arith) (omega arith)

fill_same : (f g : ℕ → Float) → ((i : ℕ) → f i ≡ g i) → (k i : ℕ) → fill_from i k f ≡ fill_from i k g
fill_same f g e zero i = refl
fill_same f g e (suc k) i = rw (e i, fill_same f g e k (i + 1))

-- ---- what is left of at most five
module _ (l : List Float) (from to : ℕ) (h : to ≤ 5) (e : to ≤ length l) where
  short_middle_at : (i : ℕ) → middle_at (short_of l) from to i ≡ middle_at l from to i
  unfolding middle_at
  short_middle_at i = go (ltb i (to - from)) refl
    where
      go : (b : Bool) → ltb i (to - from) ≡ b → cond b (get_or (short_of l) (from + i) nan) zero64 ≡ cond b (get_or l (from + i) nan) zero64
      go true t = let w = ltb-true i (to - from) t in short_at 5 l (from + i) (omega arith) (omega arith)
      go false t = refl

  short_middle : middle_of (short_of l) from to ≡ middle_of l from to
  unfolding middle_of
  short_middle = fill_same (middle_at (short_of l) from to) (middle_at l from to) short_middle_at 5 0

within : (l : List Float) → trimmed_of l ≤ length l
unfolding trimmed_of
within l = trimmed_most l (length l)

short_poly : (l : List Float) → 0 < trimmed_of l → trimmed_of l ≤ 5 → poly_of (short_of l) ≡ poly_of l
unfolding poly_of
short_poly l h e =
    let n : trimmed_of (short_of l) ≡ trimmed_of l = short_trimmed 5 l ∙ omega arith in
    rw (short_zeros 5 l h e, n)
    (ap (λ (a : List Float). scaled_of a (trimmed_of l - zeros_of l - 1)) (short_middle l (zeros_of l) (trimmed_of l) e (within l)))

-- ---- the law
module _ (sine : Sine) (coeffs : List Float) (tol : Float) where
  pub short_solves : solve_of sine (short_of coeffs) tol ≡ solve_of sine coeffs tol
  unfolding solve_of
  short_solves = rw (short_counted coeffs) (go (counted_of coeffs) refl)
    where
      solved : List Float → ℕ → Result Solved Refusal
      solved l n = Ok (finished_of sine (poly_of l) (zeros_of l) (max_of tol zero64))

      go : (r : Result ℕ Refusal) → counted_of coeffs ≡ r → and_then r (solved (short_of coeffs)) ≡ and_then r (solved coeffs)
      go (Ok n) e =
          let w = room coeffs n (zeros_of coeffs) e refl in
          let some : 0 < trimmed_of coeffs = omega (arith, w) in
          let five : trimmed_of coeffs ≤ 5 = omega (arith, w) in
          rw (short_poly coeffs some five, short_zeros 5 coeffs some five)
      go (Err refusal) e = refl

  pub short_lists : real_roots_of sine (short_of coeffs) tol ≡ real_roots_of sine coeffs tol
  unfolding real_roots_of
  short_lists = ap (λ (s : Result Solved Refusal). and_then s (λ x. Ok (answer_of x))) short_solves
