-- |a_i| ≤ |a_d|·2^(e(d−i)) in natural numbers, e being p - q; and a larger e holds what a smaller one holds.
use mathlib.Core.Path.{◌≡◌, refl, sym, ap, ◌∙◌, subst}
use mathlib.Core.Bool.{true, false}
use mathlib.Core.List.{List}
use mathlib.Core.Logic.{⊎_elim}
use Prim.Native.Nat.{ℕ, zero, suc, ◌+◌, ◌-◌, ◌*◌, ◌^◌, ◌≤◌, ◌<◌}
use native.Mathlib.Omega.{arith}
use native.Mathlib.Nat.{le_trans, lt_of_not-le, not-le_of_lt, mul-le-mul_left, mul-le-mul_right, le_of_mul-le-mul_right, mul-one, one-mul, add-zero}
use borrow.Author.Tests.{leb-true, le-leb, lt-leb, le-ltb, lt-ltb}
use lib.Pow.{pow-add, pow_pos, pow_mono}
use lib.IntN.{ℤ, pos, negsuc, ◌+ℤ◌, ◌-ℤ◌, ◌*ℤ◌}
use lib.Signed.{◌≤ℤ◌}
use lib.ListN.{get_or}
use lib.Ieee.{Float, nan, up, down}
use lib.Ieee.Fits.{down_pos}
use Rattle.algebra.specs.RingInt.{ringℤ, ◌:+◌, ◌:-◌, ◌:*◌, ◌:=◌}
use Rattle.algebra.specs.NatOrder.{le_or_lt}
use Rattle.algebra.specs.IntOrder.{diff}
use Rattle.facts.specs.Cond.{both_hold, first_holds, second_holds}
use Rattle.float.specs.Units.{units_of}
use Rattle.scaled.specs.Exponent.{held_at, held_below}

-- ---- p - q, by which is larger
pub above : (p q : ℕ) → q ≤ p → pos p -ℤ pos q ≡ pos (p - q)
above p zero h = let e : p + 0 ≡ p - 0 = omega arith in ap pos e
above p (suc q) h = rw (le-ltb p (suc q) h)

pub below : (p q : ℕ) → p < q → pos p -ℤ pos q ≡ negsuc (q - suc p)
below p zero h = absurd (none h)
  where
    none : p < 0 → ⊥
    none h = omega arith
below p (suc q) h = rw (lt-ltb p (suc q) h)

-- every whole number is such a difference
pub parts : (e : ℤ) → (p : ℕ) × (q : ℕ) × (e ≡ pos p -ℤ pos q)
parts (pos n) = (n, 0, ap pos (sym (add-zero n)))
parts (negsuc n) = (0, suc n, sym (below 0 (suc n) (omega arith) ∙ (let e : suc n - 1 ≡ n = omega arith in ap negsuc e)))

-- 2^(p - q) is 2^p / 2^q
power : (p q : ℕ) → up (pos p -ℤ pos q) * 2 ^ q ≡ 2 ^ p * down (pos p -ℤ pos q)
power p q = ⊎_elim over under (le_or_lt q p)
  where
    over : q ≤ p → up (pos p -ℤ pos q) * 2 ^ q ≡ 2 ^ p * down (pos p -ℤ pos q)
    over h = rw (above p q h) (sym (pow-add 2 (p - q) q) ∙ (let e : p - q + q ≡ p = omega arith in ap (λ (n : ℕ). 2 ^ n) e) ∙ sym (mul-one (2 ^ p)))

    under : p < q → up (pos p -ℤ pos q) * 2 ^ q ≡ 2 ^ p * down (pos p -ℤ pos q)
    under h = rw (below p q h) (one-mul (2 ^ q) ∙ (let e : q ≡ p + suc (q - suc p) = omega arith in ap (λ (n : ℕ). 2 ^ n) e) ∙ pow-add 2 p (suc (q - suc p)))

-- ---- u / 2^p ≤ t / 2^q, and u · down ≤ t · up
module _ (u t p q : ℕ) (z : ℤ) (E : z ≡ pos p -ℤ pos q) where
  ratio : up z * 2 ^ q ≡ 2 ^ p * down z
  ratio = subst (λ (y : ℤ). up y * 2 ^ q ≡ 2 ^ p * down y) (sym E) (power p q)

  into : u * 2 ^ q ≤ t * 2 ^ p → u * down z ≤ t * up z
  into h = le_of_mul-le-mul_right (omega (arith, mul-le-mul_right (down z) h, ap (λ (x : ℕ). t * x) ratio)) (pow_pos q)

  pub out_of : u * down z ≤ t * up z → u * 2 ^ q ≤ t * 2 ^ p
  out_of h = le_of_mul-le-mul_right (omega (arith, mul-le-mul_right (2 ^ q) h, ap (λ (x : ℕ). t * x) ratio)) (down_pos z)

pub times : (p q j : ℕ) → (pos p -ℤ pos q) *ℤ pos j ≡ pos (p * j) -ℤ pos (q * j)
times p q j = ringℤ 3 (λ p q j. (p :- q) :* j := p :* j :- q :* j) tt (pos p) (pos q) (pos j)

module _ (a : List Float) (d i p q : ℕ) where
  pub held : units_of (get_or a i nan) * 2 ^ (q * (d - i)) ≤ units_of (get_or a d nan) * 2 ^ (p * (d - i)) → held_at a d (pos p -ℤ pos q) i ≡ true
  unfolding held_at
  held h = le-leb _ _ (into (units_of (get_or a i nan)) (units_of (get_or a d nan)) (p * (d - i)) (q * (d - i)) _ (times p q (d - i)) h)

  pub held_says : held_at a d (pos p -ℤ pos q) i ≡ true → units_of (get_or a i nan) * 2 ^ (q * (d - i)) ≤ units_of (get_or a d nan) * 2 ^ (p * (d - i))
  unfolding held_at
  held_says h = out_of (units_of (get_or a i nan)) (units_of (get_or a d nan)) (p * (d - i)) (q * (d - i)) _ (times p q (d - i)) (leb-true _ _ h)

  pub not_held : units_of (get_or a d nan) * 2 ^ (p * (d - i)) < units_of (get_or a i nan) * 2 ^ (q * (d - i)) → held_at a d (pos p -ℤ pos q) i ≡ false
  unfolding held_at
  not_held h =
      lt-leb _ _ (lt_of_not-le (λ l. not-le_of_lt h (out_of (units_of (get_or a i nan)) (units_of (get_or a d nan)) (p * (d - i)) (q * (d - i)) _
      (times p q (d - i)) l)))

-- ---- a larger e
module _ (a : List Float) (d : ℕ) where
  one_more : (e : ℤ) (n i : ℕ) → held_at a d e i ≡ true → held_at a d (e +ℤ pos n) i ≡ true
  one_more e n i h =
      let s = parts e in
      let p = s.0 in
      let q = s.1 in
      let l = held_says a d i p q (subst (λ (x : ℤ). held_at a d x i ≡ true) s.2 h) in
      let m = held a d i (p + n) q (le_trans l (mul-le-mul_left (units_of (get_or a d nan))
      (pow_mono (mul-le-mul_right (d - i) (let x : p ≤ p + n = omega arith in x))))) in
      subst (λ (x : ℤ). held_at a d x i ≡ true) (sym (ap (λ (x : ℤ). x +ℤ pos n) s.2 ∙ regroup p q n)) m
    where
      regroup : (p q n : ℕ) → (pos p -ℤ pos q) +ℤ pos n ≡ pos (p + n) -ℤ pos q
      regroup p q n = ringℤ 3 (λ p q n. (p :- q) :+ n := p :+ n :- q) tt (pos p) (pos q) (pos n)

  below_more : (e : ℤ) (n k : ℕ) → held_below a d e k ≡ true → held_below a d (e +ℤ pos n) k ≡ true
  unfolding held_below
  below_more e n zero h = refl
  below_more e n (suc k) h = both_hold _ _ (one_more e n k (first_holds _ _ h)) (below_more e n k (second_holds (held_at a d e k) _ h))

  pub one_held_more : (e e' : ℤ) (i : ℕ) → e ≤ℤ e' → held_at a d e i ≡ true → held_at a d e' i ≡ true
  one_held_more e e' i l h = let s = diff l in subst (λ (x : ℤ). held_at a d x i ≡ true) (sym s.1) (one_more e s.0 i h)

  pub held_more : (e e' : ℤ) (k : ℕ) → e ≤ℤ e' → held_below a d e k ≡ true → held_below a d e' k ≡ true
  held_more e e' k l h = let s = diff l in subst (λ (x : ℤ). held_below a d x k ≡ true) (sym s.1) (below_more e s.0 k h)

  -- each of the first n is held
  pub held_one : (e : ℤ) (n i : ℕ) → held_below a d e n ≡ true → i < n → held_at a d e i ≡ true
  unfolding held_below
  held_one e zero i h l = absurd (none l)
    where
      none : i < 0 → ⊥
      none l = omega arith
  held_one e (suc n) i h l =
      ⊎_elim (λ m. held_one e n i (second_holds (held_at a d e n) _ h) m)
      (λ m. subst (λ (j : ℕ). held_at a d e j ≡ true) (last i n l m) (first_holds _ _ h))
      (le_or_lt (suc i) n)
    where
      last : (i n : ℕ) → i < suc n → n < suc i → n ≡ i
      last i n l m = omega arith
