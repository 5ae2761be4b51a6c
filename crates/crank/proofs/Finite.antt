-- A sum or a product is finite only where its parts are: the quartic's first coefficient is finite only where the equation's five numbers are.
use mathlib.Core.Path.{◌≡◌, refl}
use mathlib.Core.Bool.{Bool, true, false, cond, beq, false≢true}
use Prim.Native.Nat.{ℕ, ◌*◌, ◌%◌}
use lib.Dec.{eqb}
use lib.Ieee.{Float, nan, inf, fin, binary64, unlike, add, mul}
use Rattle.facts.specs.Cond.{first_holds}
use Rattle.float.specs.Methods.{is_finite_of, all_finite_of}
use Rattle.trig_quartic.specs.declared.TrigEquation.{TrigEquation}
use Rattle.trig_quartic.specs.Crank.{eighth_of, numbers_of, quartic_of}

-- an infinity or NaN, by a test
is_not_finite : (b s t : Bool) → (is_finite_of (cond b (inf s) nan) ≡ true → ⊥) × (is_finite_of (cond b nan (inf t)) ≡ true → ⊥)
unfolding is_finite_of
is_not_finite true s t = (λ e. false≢true e, λ e. false≢true e)
is_not_finite false s t = (λ e. false≢true e, λ e. false≢true e)

sum_finite : (x y : Float) → is_finite_of (add binary64 x y) ≡ true → (is_finite_of x ≡ true) × (is_finite_of y ≡ true)
unfolding is_finite_of add
sum_finite nan y e = absurd (false≢true e)
sum_finite (inf s) nan e = absurd (false≢true e)
sum_finite (inf s) (inf t) e = absurd ((is_not_finite (beq s t) s t).0 e)
sum_finite (inf s) (fin t n d) e = absurd (false≢true e)
sum_finite (fin s m c) nan e = absurd (false≢true e)
sum_finite (fin s m c) (inf t) e = absurd (false≢true e)
sum_finite (fin s m c) (fin t n d) e = (refl, refl)

product_finite : (x y : Float) → is_finite_of (mul binary64 x y) ≡ true → is_finite_of x ≡ true
unfolding is_finite_of mul
product_finite nan y e = absurd (false≢true e)
product_finite (inf s) nan e = absurd (false≢true e)
product_finite (inf s) (inf t) e = absurd (false≢true e)
product_finite (inf s) (fin t n d) e = absurd ((is_not_finite (eqb n 0) s (unlike s t)).1 e)
product_finite (fin s m c) y e = refl

-- x*cos + y*sin
abbrev turned : Float → Float → Float → Float → Float
turned x y cos sin = add binary64 (mul binary64 x cos) (mul binary64 y sin)

turned_finite : (x y cos sin : Float) → is_finite_of (turned x y cos sin) ≡ true → (is_finite_of x ≡ true) × (is_finite_of y ≡ true)
turned_finite x y cos sin h = let s = sum_finite (mul binary64 x cos) (mul binary64 y sin) h in (product_finite x cos s.0, product_finite y sin s.1)

pub numbers_finite : (trig : TrigEquation) (k : ℕ) → all_finite_of (quartic_of trig k) ≡ true → all_finite_of (numbers_of trig) ≡ true
unfolding quartic_of
numbers_finite trig k h =
    let u1 = eighth_of k in
    let u2 = eighth_of (2 * k % 8) in
    let a = turned trig.a2 trig.b2 u2.cos u2.sin in
    let c = turned trig.c1 trig.d1 u1.cos u1.sin in
    let whole = sum_finite (add binary64 a c) trig.e (first_holds (is_finite_of (add binary64 (add binary64 a c) trig.e)) _ h) in
    let both = sum_finite a c whole.0 in
    let double = turned_finite trig.a2 trig.b2 u2.cos u2.sin both.0 in
    let single = turned_finite trig.c1 trig.d1 u1.cos u1.sin both.1 in
    simp (double.0, double.1, single.0, single.1, whole.1)
