-- Where the sine of the exact c lies: it is at least 2^-26/3, rounded, unless v is 1, and at most √3/2, rounded. And both modes next below 1.
use mathlib.Core.Path.{◌≡◌, refl, sym, ap, ◌∙◌, subst}
use mathlib.Core.Logic.{◌⊎◌, inl, inr, ⊎_elim}
use mathlib.Core.Bool.{Bool, true, false, true≢false}
use mathlib.Core.List.{[], ◌∷◌}
use Prim.Native.Nat.{ℕ, zero, suc, ◌+◌, ◌-◌, ◌*◌, ◌^◌, ◌≤◌, ◌<◌}
use native.Mathlib.Omega.{arith}
use native.Mathlib.Nat.{le_trans, le_refl, le-suc, le_of_lt, le_of_suc-le-suc, eq-or-lt_of_le, not-le_of_lt, lt_of_lt_of_le}
use native.Mathlib.Nat.{mul-le-mul, mul-le-mul_left, mul-le-mul_right, lt_of_mul-lt-mul_right}
use lib.Dec.{T, le→leb, lit<, lit≤}
use lib.Ieee.{Float, nan, inf, fin, fits, of_bits, round, size, units, neg}
use lib.Count.{count_trailing_zeros}
use Rattle.algebra.specs.NatOrder.{le_or_lt, pow2_finer, pow2_twice}
use Rattle.float.specs.Dyadic.{◌*2^◌, ◌/2^◌}
use Rattle.float.specs.Methods.{is_finite_of, is_sign_negative_of}
use Rattle.float.specs.Units.{units_of, Finite}
use Rattle.float.proofs.Bits.{of_true}
use Rattle.decode.proofs.Fields.{shape}
use Rattle.nearest.specs.Greatest.{greatest, nearest_of}
use Rattle.nearest.proofs.ByTest.{apart}
use Rattle.sqrt.specs.Root.{floor_sqrt}
use Rattle.poly.specs.Conditions.{Exactly}
use Rattle.angle.specs.declared.Sine.TheVariants.{OfRounded, OfExact}
use Rattle.angle.specs.Third.{turned, given, at_most_sine, sine_units, cos_units, cos_of, sin_of, exact_sin_of, sine_of, third_angle_of}
use Rattle.angle.proofs.Turning.{monotone}
use Rattle.cubic.specs.declared.CubicRoots.TheVariants.{Three}
use Rattle.cubic.specs.Cubic.{cubic_closed_form_of}
use Rattle.cubic.proofs.Vectors.{computes}
use Rattle.demands.specs.Demands.{Nearest, below_one}
use Rattle.demands.proofs.Doubles.{only_one}
use Rattle.demands.proofs.Cosine.{one_finite}
use Rattle.demands.proofs.ExactSine.{sine_whole, sine_by, exact_is, exact_sine, square_most, smaller}

-- ---- a double below b * 2 ^ j, for a b of 53 digits, is below it by 2 ^ j at least

multiple : (w k b j : ℕ) → w < 2 ^ 53 → 2 ^ 52 < b → w * 2 ^ k < b * 2 ^ j → w * 2 ^ k ≤ (b - 1) * 2 ^ j
multiple w k b j s h l = ⊎_elim coarse fine (le_or_lt j k)
  where
    coarse : j ≤ k → w * 2 ^ k ≤ (b - 1) * 2 ^ j
    coarse q =
        let e = pow2_finer w q in
        let less = lt_of_mul-lt-mul_right (2 ^ j) (subst (λ (x : ℕ). x < b * 2 ^ j) e l) in
        subst (λ (x : ℕ). x ≤ (b - 1) * 2 ^ j) (sym e) (mul-le-mul_right (2 ^ j) (let z : w * 2 ^ (k - j) ≤ b - 1 = omega (arith, less) in z))

    fine : k < j → w * 2 ^ k ≤ (b - 1) * 2 ^ j
    fine q =
        le_trans (let z : w * 2 ^ k ≤ 2 ^ 52 * 2 ^ j = omega (arith, mul-le-mul_right (2 ^ k) (le_of_lt s), pow2_twice q) in z)
        (mul-le-mul_right (2 ^ j) (let z : 2 ^ 52 ≤ b - 1 = omega arith in z))

next_below : (x : Float) → Finite x → (b j : ℕ) → 2 ^ 52 < b → units_of x < b * 2 ^ j → units_of x ≤ (b - 1) * 2 ^ j
unfolding is_finite_of
next_below nan f b j h l = absurd (true≢false (sym f.finite))
next_below (inf s) f b j h l = absurd (true≢false (sym f.finite))
next_below (fin s m e) f b j h l =
    let d = shape s m e (of_true f.held) in
    subst (λ (x : ℕ). x ≤ (b - 1) * 2 ^ j) d.whole.value
    (multiple d.w d.k b j d.whole.short h (subst (λ (x : ℕ). x < b * 2 ^ j) (sym d.whole.value) l))

-- ---- s beside the whole number of units that the definition finds

module _ (v : Float) (f : Finite v) (l : units_of v ≤ 2 ^ 1074) where
  abbrev s : Bool
  s = is_sign_negative_of v

  abbrev n : ℕ
  n = units_of v

  abbrev t : ℕ
  t = sine_units s n

  beside : Nearest false (λ h. h ≤ 2 * t) (λ h. 2 * t ≤ h) (exact_sin_of v)
  beside =
      rw (exact_is v f.finite l)
      (sine_by s n l (λ h. h ≤ 2 * t) (λ h. 2 * t ≤ h) (λ a b g h. le_trans g h) (λ a b g h. le_trans h g) (le_refl (2 * t)) (λ e. le_refl (2 * t))
      (mul-le-mul_left 2 (le-suc t)))

  passes : T (at_most_sine s n t)
  passes = (sine_whole s n l).0

  held : (a : ℕ) → T (at_most_sine s n a) → a ≤ t
  held a y = le_of_suc-le-suc (apart (at_most_sine s n) (monotone s n) a (suc t) y (sine_whole s n l).1)

-- ---- the least

-- 2^-26/3, rounded
least_finite : Finite (6004799503160661 /2^ 80)
unfolding fits is_finite_of
least_finite = record { held = refl; finite = refl }

least_passes : (s : Bool) (n : ℕ) → (s ≡ false → n ≤ (2 ^ 53 - 1) * 2 ^ 1021) → T (at_most_sine s n (6004799503160661 * 2 ^ 994))
least_passes true n h = tt
least_passes false n h =
    le→leb (given n) (turned false (6004799503160661 * 2 ^ 994)) (le_trans (smaller n ((2 ^ 53 - 1) * 2 ^ 1021) (h refl)) (lit≤ tt))

-- v is 1, or the least passes
placed : (v : Float) → Finite v → units_of v ≤ 2 ^ 1074 → (v ≡ 1 /2^ 0) ⊎ T (at_most_sine (is_sign_negative_of v) (units_of v) (6004799503160661 * 2 ^ 994))
unfolding is_sign_negative_of
placed v f l =
    ⊎_elim (λ e. level (is_sign_negative_of v) refl e) (λ g. inr (least_passes (is_sign_negative_of v) (units_of v) (λ e. below g))) (eq-or-lt_of_le l)
  where
    below : units_of v < 2 ^ 1074 → units_of v ≤ (2 ^ 53 - 1) * 2 ^ 1021
    below g = next_below v f (2 ^ 53) 1021 (lit< tt) g

    level : (s : Bool) → is_sign_negative_of v ≡ s → units_of v ≡ 2 ^ 1074
        → (v ≡ 1 /2^ 0) ⊎ T (at_most_sine (is_sign_negative_of v) (units_of v) (6004799503160661 * 2 ^ 994))
    level true e g = inr (subst (λ (s : Bool). T (at_most_sine s (units_of v) (6004799503160661 * 2 ^ 994))) (sym e) tt)
    level false e g = inl (only_one v (1 /2^ 0) f one_finite e g)

least : (v : Float) (f : Finite v) (l : units_of v ≤ 2 ^ 1074) → T (at_most_sine (is_sign_negative_of v) (units_of v) (6004799503160661 * 2 ^ 994))
    → 6004799503160661 * 2 ^ 994 ≤ units_of (exact_sin_of v)
least v f l y =
    ⊎_elim (λ h. h)
    (λ g. absurd (no (t v f l) (units_of (exact_sin_of v)) (6004799503160661 * 2 ^ 994) (held v f l _ y) g
    ((beside v f l).larger (6004799503160661 /2^ 80) least_finite g)))
    (le_or_lt (6004799503160661 * 2 ^ 994) (units_of (exact_sin_of v)))
  where
    no : (t r a : ℕ) → a ≤ t → r < a → 2 * t ≤ r + a → ⊥
    no t r a h g k = omega arith

pub sine_apart : (v : Float) → Finite v → units_of v ≤ 2 ^ 1074 → (v ≡ 1 /2^ 0 → ⊥) → 6004799503160661 * 2 ^ 994 ≤ units_of (exact_sin_of v)
sine_apart v f l other = ⊎_elim (λ e. absurd (other e)) (least v f l) (placed v f l)

at_one : exact_sin_of (1 /2^ 0) ≡ 0 /2^ 0
unfolding exact_sin_of sine_units nearest_of greatest round size units count_trailing_zeros
at_one = refl

pub sine_zero : (v : Float) → Finite v → units_of v ≤ 2 ^ 1074 → Exactly (exact_sin_of v ≡ 0 /2^ 0) (v ≡ 1 /2^ 0)
sine_zero v f l = record {
  where_it_holds = λ e. ap exact_sin_of e ∙ at_one;
  only_there =
      λ e. ⊎_elim (λ x. x)
      (λ y. absurd (not-le_of_lt (lit< tt) (subst (λ (x : Float). 6004799503160661 * 2 ^ 994 ≤ units_of x) e (least v f l y)))) (placed v f l);
}

-- ---- the most

-- √3/2, rounded
most_finite : Finite (3900231685776981 /2^ 52)
unfolding fits is_finite_of
most_finite = record { held = refl; finite = refl }

sine_most : (v : Float) → Finite v → units_of v ≤ 2 ^ 1074 → units_of (exact_sin_of v) ≤ 7800463371553962 * 2 ^ 1021
sine_most v f l =
    ⊎_elim (λ h. absurd (middle h)) (λ g. next_below (exact_sin_of v) (exact_sine v f l).finite 7800463371553963 1021 (lit< tt) g)
    (le_or_lt (7800463371553963 * 2 ^ 1021) (units_of (exact_sin_of v)))
  where
    half : (t r : ℕ) → r + 7800463371553962 * 2 ^ 1021 ≤ 2 * t → 7800463371553963 * 2 ^ 1021 ≤ r → 15600926743107925 * 2 ^ 1020 ≤ t
    half t r h g = omega arith

    -- that of the next double and this one is above √3/2
    middle : 7800463371553963 * 2 ^ 1021 ≤ units_of (exact_sin_of v) → ⊥
    middle h =
        let g : 15600926743107925 * 2 ^ 1020 ≤ t v f l = half (t v f l) (units_of (exact_sin_of v))
        ((beside v f l).smaller (3900231685776981 /2^ 52) most_finite (lt_of_lt_of_le (lit< tt) h)) h in
        not-le_of_lt (lit< tt) (le_trans (mul-le-mul g g) (square_most (s v f l) (n v f l) (t v f l) (passes v f l)))

pub sine_range : (v : Float) → Finite v → units_of v ≤ 2 ^ 1074
    → let s = exact_sin_of v in Finite s × (is_sign_negative_of s ≡ false) × (units_of s ≤ 7800463371553962 * 2 ^ 1021)
sine_range v f l = let e = exact_sine v f l in (e.finite, e.sign, sine_most v f l)

-- ---- next below 1: the old mode's pair, and the places of a cubic in both modes

pub merged : (k : ℕ) → 0 < k → k ≤ 4 → third_angle_of OfRounded (below_one k) ≡ record { cos = 1 /2^ 0; sin = 0 /2^ 0 }
unfolding third_angle_of sine_of cos_of cos_units sin_of floor_sqrt nearest_of greatest round size units of_bits count_trailing_zeros
merged zero a b = absurd (omega arith)
merged (suc zero) a b = refl
merged (suc (suc zero)) a b = refl
merged (suc (suc (suc zero))) a b = refl
merged (suc (suc (suc (suc zero)))) a b = refl
merged (suc (suc (suc (suc (suc k))))) a b = absurd (omega arith)

pub one_start : cubic_closed_form_of OfRounded (0 /2^ 0) (neg (3 /2^ 0)) (neg (9007199254740991 /2^ 52))
    ≡ Three (1 *2^ 1 ∷ neg (1 /2^ 0) ∷ neg (1 /2^ 0) ∷ [])
unfolding computes sine_of
one_start = refl

pub two_starts : cubic_closed_form_of OfExact (0 /2^ 0) (neg (3 /2^ 0)) (neg (9007199254740991 /2^ 52))
    ≡ Three (1 *2^ 1 ∷ neg (9007199177250351 /2^ 53) ∷ neg (4503599666115817 /2^ 52) ∷ [])
unfolding computes sine_of
two_starts = refl
