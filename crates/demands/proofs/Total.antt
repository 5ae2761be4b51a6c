-- total_cmp with one NaN is a total order: minus infinity, the negative numbers, the others, infinity and NaN; and numbers of one sign by their fractions.
use mathlib.Core.Path.{◌≡◌, refl, sym, ap, ◌∙◌}
use mathlib.Core.Logic.{◌⊎◌, inl, inr, ⊎_elim}
use mathlib.Core.Bool.{Bool, true, false, not, ◌&&◌, ◌||◌, and-false, or-true, false≢true}
use Prim.Native.Nat.{ℕ, ◌+◌, ◌*◌, ◌^◌, ◌≤◌, ◌<◌}
use native.Mathlib.Omega.{arith}
use native.Mathlib.Nat.{le_of_mul-le-mul_right, mul-le-mul_right, eq-or-lt_of_le}
use borrow.Author.Tests.{leb-true, leb-false, ltb-false, lt-ltb, le-ltb, le-leb, eq-eqb, ne_eqb}
use lib.Dec.{ltb, leb, eqb}
use lib.IntN.{ℤ}
use lib.Ieee.{Float, nan, inf, fin, binary64, up, down, below, level, lt, eq, fits, is_nan}
use lib.Ieee.Fits.{down_pos}
use lib.Ieee.Nearest.{div_same}
use Rattle.float.specs.Methods.{is_finite_of, is_sign_negative_of, total_le_of}
use Rattle.float.specs.Units.{units_of}
use Rattle.demands.proofs.Doubles.{only_one}

-- ---- numbers of sizes a and b over one denominator, with their signs
abbrev signed : Bool → Bool → ℕ → ℕ → Bool
signed false false a b = leb a b
signed false true a b = false
signed true false a b = true
signed true true a b = leb b a

-- less or equal is at most, where e says whether they are equal
at_most : (a b : ℕ) (e : Bool) → (a ≡ b → e ≡ true) → ((a ≡ b → ⊥) → e ≡ false) → (ltb a b || ((e && true) && true)) ≡ leb a b
at_most a b e same apart = go (leb a b) refl
  where
    go : (t : Bool) → leb a b ≡ t → (ltb a b || ((e && true) && true)) ≡ t
    go true h = ⊎_elim (λ q. rw (le-ltb a b (omega arith), same q)) (λ l. rw (lt-ltb a b l)) (eq-or-lt_of_le (leb-true a b h))
    go false h = rw (le-ltb a b (omega (arith, leb-false a b h)), apart (λ q. omega (arith, leb-false a b h, q)))

signed_is : (s t : Bool) (a b : ℕ) → (below s a t b || (level s a t b && (s || not t))) ≡ signed s t a b
signed_is false false a b = at_most a b (eqb a b) (eq-eqb a b) (ne_eqb a b)
signed_is false true a b = and-false (level false a true b)
signed_is true false a b = go (ltb 0 (a + b)) refl
  where
    go : (t : Bool) → ltb 0 (a + b) ≡ t → (t || (level true a false b && true)) ≡ true
    go true h = refl
    go false h =
        let none = ltb-false 0 (a + b) h in
        rw (eq-eqb a b (omega (arith, none)), eq-eqb a 0 (omega (arith, none)))
signed_is true true a b = at_most b a (eqb a b) (λ q. eq-eqb a b (sym q)) (λ n. ne_eqb a b (λ q. n (sym q)))

-- ---- all values
abbrev ordered : Float → Float → Bool
ordered nan nan = true
ordered nan (inf t) = false
ordered nan (fin t n d) = false
ordered (inf s) nan = true
ordered (inf s) (inf t) = s || not t
ordered (inf s) (fin t n d) = s
ordered (fin s m e) nan = true
ordered (fin s m e) (inf t) = not t
ordered (fin s m e) (fin t n d) = signed s t (m * up e * down d) (n * up d * down e)

ordered_is : (x y : Float) → total_le_of x y ≡ ordered x y
unfolding total_le_of is_sign_negative_of is_nan lt eq
ordered_is nan nan = refl
ordered_is nan (inf t) = refl
ordered_is nan (fin t n d) = refl
ordered_is (inf s) nan = refl
ordered_is (inf true) (inf true) = refl
ordered_is (inf true) (inf false) = refl
ordered_is (inf false) (inf true) = refl
ordered_is (inf false) (inf false) = refl
ordered_is (inf true) (fin t n d) = refl
ordered_is (inf false) (fin t n d) = refl
ordered_is (fin s m e) nan = refl
ordered_is (fin s m e) (inf true) = refl
ordered_is (fin s m e) (inf false) = refl
ordered_is (fin s m e) (fin t n d) = signed_is s t (m * up e * down d) (n * up d * down e)

-- ---- of two, one is not above the other
either_signed : (s t : Bool) (a b : ℕ) → (signed s t a b ≡ true) ⊎ (signed t s b a ≡ true)
either_signed false false a b = or (leb a b) refl
  where
    or : (t : Bool) → leb a b ≡ t → (leb a b ≡ true) ⊎ (leb b a ≡ true)
    or true h = inl h
    or false h = inr (le-leb b a (omega (arith, leb-false a b h)))
either_signed false true a b = inr refl
either_signed true false a b = inl refl
either_signed true true a b = or (leb b a) refl
  where
    or : (t : Bool) → leb b a ≡ t → (leb b a ≡ true) ⊎ (leb a b ≡ true)
    or true h = inl h
    or false h = inr (le-leb a b (omega (arith, leb-false b a h)))

either_ordered : (x y : Float) → (ordered x y ≡ true) ⊎ (ordered y x ≡ true)
either_ordered nan nan = inl refl
either_ordered nan (inf t) = inr refl
either_ordered nan (fin t n d) = inr refl
either_ordered (inf s) nan = inl refl
either_ordered (inf true) (inf t) = inl refl
either_ordered (inf false) (inf true) = inr refl
either_ordered (inf false) (inf false) = inl refl
either_ordered (inf true) (fin t n d) = inl refl
either_ordered (inf false) (fin t n d) = inr refl
either_ordered (fin s m e) nan = inl refl
either_ordered (fin s m e) (inf true) = inr refl
either_ordered (fin s m e) (inf false) = inl refl
either_ordered (fin s m e) (fin t n d) = either_signed s t (m * up e * down d) (n * up d * down e)

pub either : (x y : Float) → (total_le_of x y ≡ true) ⊎ (total_le_of y x ≡ true)
either x y = rw (ordered_is x y, ordered_is y x) (either_ordered x y)

-- ---- a / b ≤ c / d ≤ e / f
fractions : (a b c d e f : ℕ) → 0 < d → a * d ≤ c * b → c * f ≤ e * d → a * f ≤ e * b
fractions a b c d e f p h g = le_of_mul-le-mul_right {k = d} (omega (arith, mul-le-mul_right f h, mul-le-mul_right b g)) p

onward_signed : (s t u : Bool) (a b c d e f : ℕ) → 0 < d → signed s t (a * d) (c * b) ≡ true
    → signed t u (c * f) (e * d) ≡ true → signed s u (a * f) (e * b) ≡ true
onward_signed false false false a b c d e f p h g = le-leb _ _ (fractions a b c d e f p (leb-true _ _ h) (leb-true _ _ g))
onward_signed false false true a b c d e f p h g = g
onward_signed false true u a b c d e f p h g = absurd (false≢true h)
onward_signed true false false a b c d e f p h g = refl
onward_signed true false true a b c d e f p h g = absurd (false≢true g)
onward_signed true true false a b c d e f p h g = refl
onward_signed true true true a b c d e f p h g = le-leb _ _ (fractions e f c d a b p (leb-true _ _ g) (leb-true _ _ h))

onward_ordered : (x y z : Float) → ordered x y ≡ true → ordered y z ≡ true → ordered x z ≡ true
onward_ordered nan nan z h g = g
onward_ordered nan (inf t) z h g = absurd (false≢true h)
onward_ordered nan (fin t n d) z h g = absurd (false≢true h)
onward_ordered (inf s) y nan h g = refl
onward_ordered (inf s) nan (inf u) h g = absurd (false≢true g)
onward_ordered (inf s) nan (fin u l c) h g = absurd (false≢true g)
onward_ordered (inf true) (inf t) (inf u) h g = refl
onward_ordered (inf false) (inf true) (inf u) h g = absurd (false≢true h)
onward_ordered (inf false) (inf false) (inf u) h g = g
onward_ordered (inf true) (inf t) (fin u l c) h g = refl
onward_ordered (inf false) (inf true) (fin u l c) h g = absurd (false≢true h)
onward_ordered (inf false) (inf false) (fin u l c) h g = g
onward_ordered (inf true) (fin t n d) (inf u) h g = refl
onward_ordered (inf false) (fin t n d) (inf u) h g = absurd (false≢true h)
onward_ordered (inf s) (fin t n d) (fin u l c) h g = h
onward_ordered (fin s m e) y nan h g = refl
onward_ordered (fin s m e) nan (inf u) h g = absurd (false≢true g)
onward_ordered (fin s m e) nan (fin u l c) h g = absurd (false≢true g)
onward_ordered (fin s m e) (inf true) (inf u) h g = absurd (false≢true h)
onward_ordered (fin s m e) (inf false) (inf u) h g = g
onward_ordered (fin s m e) (inf true) (fin u l c) h g = absurd (false≢true h)
onward_ordered (fin s m e) (inf false) (fin u l c) h g = absurd (false≢true g)
onward_ordered (fin s m e) (fin t n d) (inf u) h g = g
onward_ordered (fin s m e) (fin t n d) (fin u l c) h g =
    onward_signed s t u (m * up e) (down e) (n * up d) (down d) (l * up c) (down c) (down_pos d) h g

pub onward : (x y z : Float) → total_le_of x y ≡ true → total_le_of y z ≡ true → total_le_of x z ≡ true
onward x y z h g = ordered_is x z ∙ onward_ordered x y z (sym (ordered_is x y) ∙ h) (sym (ordered_is y z) ∙ g)

-- ---- of two doubles that are not above each other, both are the same
level_signed : (s t : Bool) (a b : ℕ) → signed s t a b ≡ true → signed t s b a ≡ true → (s ≡ t) × (a ≡ b)
level_signed false false a b h g = (refl, omega (arith, leb-true a b h, leb-true b a g))
level_signed false true a b h g = absurd (false≢true h)
level_signed true false a b h g = absurd (false≢true g)
level_signed true true a b h g = (refl, omega (arith, leb-true b a h, leb-true a b g))

same_units : (s t : Bool) (m n : ℕ) (e d : ℤ) → m * up e * down d ≡ n * up d * down e → units_of (fin s m e) ≡ units_of (fin t n d)
same_units s t m n e d q =
    div_same (m * up e * 2 ^ 1074) (down e) (n * up d * 2 ^ 1074) (down d) (down_pos e) (down_pos d)
    (moved (m * up e) (down d) (n * up d) (down e) (2 ^ 1074) q)
  where
    moved : (a d c b U : ℕ) → a * d ≡ c * b → a * U * d ≡ c * U * b
    moved a d c b U q = omega (arith, ap (λ (k : ℕ). k * U) q)

level_ordered : (x y : Float) → fits binary64 x ≡ true → fits binary64 y ≡ true → ordered x y ≡ true → ordered y x ≡ true → x ≡ y
unfolding is_finite_of is_sign_negative_of
level_ordered nan nan p q h g = refl
level_ordered nan (inf t) p q h g = absurd (false≢true h)
level_ordered nan (fin t n d) p q h g = absurd (false≢true h)
level_ordered (inf s) nan p q h g = absurd (false≢true g)
level_ordered (inf true) (inf true) p q h g = refl
level_ordered (inf true) (inf false) p q h g = absurd (false≢true g)
level_ordered (inf false) (inf true) p q h g = absurd (false≢true h)
level_ordered (inf false) (inf false) p q h g = refl
level_ordered (inf true) (fin t n d) p q h g = absurd (false≢true g)
level_ordered (inf false) (fin t n d) p q h g = absurd (false≢true h)
level_ordered (fin s m e) nan p q h g = absurd (false≢true g)
level_ordered (fin s m e) (inf true) p q h g = absurd (false≢true h)
level_ordered (fin s m e) (inf false) p q h g = absurd (false≢true g)
level_ordered (fin s m e) (fin t n d) p q h g =
    let l = level_signed s t (m * up e * down d) (n * up d * down e) h g in
    only_one (fin s m e) (fin t n d) (record { held = p; finite = refl }) (record { held = q; finite = refl }) l.0 (same_units s t m n e d l.1)

pub level_one : (x y : Float) → fits binary64 x ≡ true → fits binary64 y ≡ true → total_le_of x y ≡ true → total_le_of y x ≡ true → x ≡ y
level_one x y p q h g = level_ordered x y p q (sym (ordered_is x y) ∙ h) (sym (ordered_is y x) ∙ g)

pub smaller : (x y : Float) → lt x y ≡ true → total_le_of x y ≡ true
unfolding total_le_of
smaller x y h = rw h (or-true (is_nan y))
