-- A whole number is at most x exactly where it is at most x rounded down.
use mathlib.Core.Path.{◌≡◌, refl, sym, ap, subst, ◌∙◌}
use mathlib.Core.Bool.{Bool, true, false, cond, ◌&&◌, ◌||◌, and-false}
use mathlib.Core.Logic.{◌↔◌}
use Prim.Native.Nat.{ℕ, zero, suc, ◌+◌, ◌-◌, ◌*◌, ◌/◌, ◌<◌, ◌≤◌, min, zero-le}
use native.Mathlib.Nat.{mul-one, mul_right_comm, suc-mul, zero-mul, mul-pos, zero-lt-suc, le_of_lt}
use native.Mathlib.Nat.{le_of_eq, lt_of_not-le, mul-le-mul_right, le_of_mul-le-mul_right, le-div_iff_mul-le, div-lt_iff_lt-mul}
use native.Mathlib.Omega.{arith}
use borrow.Author.Tests.{ltb-true, ltb-false, leb-true, leb-false, eqb-true, eqb-false, lt-ltb, le-ltb, ne_eqb, le-leb, lt-leb}
use lib.Dec.{ltb, leb}
use lib.IntN.{ℤ, pos, negsuc}
use lib.Ieee.{Float, nan, inf, fin, binary64, up, down, minus, lt, le, eq, of_int, round}
use lib.Ieee.Exact.{HasValue}
use lib.Ieee.Back.{round_whole}
use lib.Ieee.Fits.{down_pos}
use Rattle.float.specs.Floor.{floor_of}

-- ---- tests

same_test : (b : Bool) (c d : ℕ) → (b ≡ true → c ≤ d) → (b ≡ false → d < c) → b ≡ leb c d
same_test true c d y n = sym (le-leb c d (y refl))
same_test false c d y n = sym (lt-leb c d (n refl))

leb_iff : (a b c d : ℕ) → ((a ≤ b) ↔ (c ≤ d)) → leb a b ≡ leb c d
leb_iff a b c d h = same_test (leb a b) c d (λ e. h.0 (leb-true a b e)) (λ e. lt_of_not-le (λ k. no (leb-false a b e) (h.1 k)))
  where
    no : b < a → a ≤ b → ⊥
    no l k = omega arith

lt_or_eq : (A B : ℕ) (q : Bool) → (q ≡ true → A ≡ B) → (q ≡ false → A ≡ B → ⊥) → (ltb A B || (q && true)) ≡ leb A B
lt_or_eq A B q y n = go (ltb A B) q refl y n
  where
    strict : B ≤ A → (A ≡ B → ⊥) → B < A
    strict l k = omega arith

    go : (b q : Bool) → ltb A B ≡ b → (q ≡ true → A ≡ B) → (q ≡ false → A ≡ B → ⊥) → (b || (q && true)) ≡ leb A B
    go true q e y n = sym (le-leb A B (le_of_lt (ltb-true A B e)))
    go false true e y n = sym (le-leb A B (le_of_eq (y refl)))
    go false false e y n = sym (lt-leb A B (strict (ltb-false A B e) (n refl)))

-- ---- n, as p * 2 ^ g, against m * 2 ^ e: n * down e against m * up e, in size

module _ (p : ℕ) (g : ℤ) (n : ℕ) (v : p * up g * 1 ≡ n * down g) (m : ℕ) (e : ℤ) where
  crossed : p * up g * down e ≡ n * down e * down g
  crossed = ap (λ (y : ℕ). y * down e) (sym (mul-one (p * up g)) ∙ v) ∙ mul_right_comm n (down g) (down e)

  some : 0 < n → 0 < p * up g * down e
  some o = subst (λ (y : ℕ). 0 < y) (sym crossed) (mul-pos (mul-pos o (down_pos e)) (down_pos g))

  up_up : le (fin false p g) (fin false m e) ≡ leb (n * down e) (m * up e)
  unfolding le lt eq
  up_up =
      lt_or_eq (p * up g * down e) (m * up e * down g) _ (eqb-true _ _) (eqb-false _ _)
      ∙ ap (λ (y : ℕ). leb y (m * up e * down g)) crossed
      ∙ leb_iff (n * down e * down g) (m * up e * down g) (n * down e) (m * up e) ((λ h. le_of_mul-le-mul_right h (down_pos g)), mul-le-mul_right (down g))

  down_down : le (fin true p g) (fin true m e) ≡ leb (m * up e) (n * down e)
  unfolding le lt eq
  down_down =
      lt_or_eq (m * up e * down g) (p * up g * down e) _ (λ q. sym (eqb-true _ _ q)) (λ q r. eqb-false _ _ q (sym r))
      ∙ ap (λ (y : ℕ). leb (m * up e * down g) y) crossed
      ∙ leb_iff (m * up e * down g) (n * down e * down g) (m * up e) (n * down e) ((λ h. le_of_mul-le-mul_right h (down_pos g)), mul-le-mul_right (down g))

-- ---- b / d against n, rounded down and up

cut_down : (b d n : ℕ) → 0 < d → n < 8192 → leb (n * d) b ≡ leb (8192 + n) (min (8192 + b / d) 16383)
cut_down b d n D l = leb_iff (n * d) b (8192 + n) (min (8192 + b / d) 16383) ((λ h. fwd ((le-div_iff_mul-le D).1 h)), (λ h. (le-div_iff_mul-le D).0 (back h)))
  where
    fwd : n ≤ b / d → 8192 + n ≤ min (8192 + b / d) 16383
    fwd h = omega arith

    back : 8192 + n ≤ min (8192 + b / d) 16383 → n ≤ b / d
    back h = omega arith

cut_up : (b d n : ℕ) → 0 < d → n < 8192 → leb b (n * d) ≡ leb (8192 - n) (8192 - (b + (d - 1)) / d)
cut_up b d n D l =
    leb_iff b (n * d) (8192 - n) (8192 - (b + (d - 1)) / d)
    ((λ h. fwd ((div-lt_iff_lt-mul D).1 (room h (suc-mul n d)))), (λ h. tight ((div-lt_iff_lt-mul D).0 (back h)) (suc-mul n d)))
  where
    fwd : (b + (d - 1)) / d < suc n → 8192 - n ≤ 8192 - (b + (d - 1)) / d
    fwd h = omega arith

    back : 8192 - n ≤ 8192 - (b + (d - 1)) / d → (b + (d - 1)) / d < suc n
    back h = omega arith

    room : b ≤ n * d → suc n * d ≡ n * d + d → b + (d - 1) < suc n * d
    room h e = omega arith

    tight : b + (d - 1) < suc n * d → suc n * d ≡ n * d + d → b ≤ n * d
    tight h e = omega arith

-- ---- n, and -n, against x

-- +0 against a number with the sign set is as -0 against it, and nothing above 0 is at most such a number
up_down : (p : ℕ) (g : ℤ) (n : ℕ) (v : p * up g * 1 ≡ n * down g) (m : ℕ) (e : ℤ)
    → le (fin false p g) (fin true m e) ≡ leb (8192 + n) (8192 - (m * up e + (down e - 1)) / down e)
unfolding le lt eq
up_down p g zero v m e =
    let none : p * up g * down e ≡ 0 = crossed p g 0 v m e ∙ simp zero-mul in
    let turned : le (fin false p g) (fin true m e) ≡ le (fin true p g) (fin true m e) = simp (none, le-ltb (m * up e * down g) 0 zero-le) in
    turned ∙ down_down p g 0 v m e ∙ cut_up (m * up e) (down e) 0 (down_pos e) (omega arith)
up_down p g (suc k) v m e =
    simp (ne_eqb (p * up g * down e) 0 (no (some p g (suc k) v m e (zero-lt-suc k))), and-false) (sym (lt-leb (8192 + suc k) _ (omega arith)))
  where
    no : 0 < p * up g * down e → p * up g * down e ≡ 0 → ⊥
    no h z = omega arith

module _ (p : ℕ) (g : ℤ) (n : ℕ) (v : p * up g * 1 ≡ n * down g) (l : n < 8192) where
  up_is : (x : Float) → le (fin false p g) x ≡ leb (8192 + n) (floor_of x)
  unfolding le lt eq floor_of
  up_is nan = sym (lt-leb (8192 + n) 0 (omega arith))
  up_is (inf true) = sym (lt-leb (8192 + n) 0 (omega arith))
  up_is (inf false) = sym (le-leb (8192 + n) 16383 (omega arith))
  up_is (fin false m e) = up_up p g n v m e ∙ cut_down (m * up e) (down e) n (down_pos e) l
  up_is (fin true m e) = up_down p g n v m e

  down_is : 0 < n → (x : Float) → le (fin true p g) x ≡ leb (8192 - n) (floor_of x)
  unfolding le lt eq floor_of
  down_is o nan = sym (lt-leb (8192 - n) 0 (omega arith))
  down_is o (inf true) = sym (lt-leb (8192 - n) 0 (omega arith))
  down_is o (inf false) = sym (le-leb (8192 - n) 16383 (omega arith))
  down_is o (fin false m e) =
      simp (lt-ltb 0 (p * up g * down e + m * up e * down g) (omega (arith, some p g n v m e o))) (sym (le-leb (8192 - n) _ (omega arith)))
  down_is o (fin true m e) = down_down p g n v m e ∙ cut_up (m * up e) (down e) n (down_pos e) l

in_form : (z : Float) (s : Bool) (n : ℕ) (C : Float → Type 0) → HasValue z s n 1 → ((p : ℕ) (g : ℤ) → p * up g * 1 ≡ n * down g → C (fin s p g)) → C z
in_form (fin t p g) s n C v k = subst (λ (b : Bool). C (fin b p g)) (sym v.0) (k p g v.1)
in_form nan s n C v k = elim v [ ]
in_form (inf _) s n C v k = elim v [ ]

-- ---- t - 8192 against x

pub le_floor : (x : Float) (t : ℕ) → 0 < t → t < 16384 → le (of_int binary64 (minus t 8192)) x ≡ leb t (floor_of x)
unfolding of_int
le_floor x t o l = go (leb 8192 t) refl
  where
    go : (b : Bool) → leb 8192 t ≡ b → le (of_int binary64 (cond b (pos (t - 8192)) (negsuc (8192 - suc t)))) x ≡ leb t (floor_of x)
    go true q =
        let k : 8192 ≤ t = leb-true 8192 t q in
        let e : 8192 + (t - 8192) ≡ t = omega arith in
        in_form (round binary64 false (t - 8192) 1) false (t - 8192) (λ z. le z x ≡ leb t (floor_of x)) (round_whole binary64 false (t - 8192) (omega arith))
        (λ p g v. up_is p g (t - 8192) v (omega arith) x ∙ ap (λ (y : ℕ). leb y (floor_of x)) e)
    go false q =
        let k : t < 8192 = leb-false 8192 t q in
        let e : 8192 - suc (8192 - suc t) ≡ t = omega arith in
        in_form (round binary64 true (suc (8192 - suc t)) 1) true (suc (8192 - suc t)) (λ z. le z x ≡ leb t (floor_of x))
        (round_whole binary64 true (suc (8192 - suc t)) (omega arith))
        (λ p g v. down_is p g (suc (8192 - suc t)) v (omega arith) (omega arith) x ∙ ap (λ (y : ℕ). leb y (floor_of x)) e)

-- what a test of it says
module _ (x : Float) (t : ℕ) (o : 0 < t) (l : t < 16384) where
  pub reached : le (of_int binary64 (minus t 8192)) x ≡ true → t ≤ floor_of x
  reached h = leb-true _ _ (sym (le_floor x t o l) ∙ h)

  pub missed : le (of_int binary64 (minus t 8192)) x ≡ false → floor_of x < t
  missed h = leb-false _ _ (sym (le_floor x t o l) ∙ h)

pub floor_below : (x : Float) → floor_of x < 16384
unfolding floor_of
floor_below nan = omega arith
floor_below (inf true) = omega arith
floor_below (inf false) = omega arith
floor_below (fin false m e) = omega arith
floor_below (fin true m e) = omega arith
