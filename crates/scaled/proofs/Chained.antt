-- `ldexp` in units: a chain of products with powers of two. Going down each bound of 53 digits stays one, and going up nothing is rounded.
use mathlib.Core.Path.{◌≡◌, sym, ap, ◌∙◌, subst}
use mathlib.Core.Bool.{true, false}
use mathlib.Core.Logic.{⊎_elim}
use Prim.Native.Nat.{ℕ, zero, suc, ◌+◌, ◌-◌, ◌*◌, ◌^◌, ◌≤◌, ◌<◌}
use native.Mathlib.Omega.{arith}
use native.Mathlib.Nat.{mul-one, one-mul, mul-le-mul_left, le_trans, le_of_eq, le_of_lt}
use native.Mathlib.Nat.{lt_of_le_of_lt, le_of_mul-le-mul_right, le_antisymm, sub-add_cancel, eq_of_mul-eq-mul_right}
use lib.Dec.{lit<}
use lib.Pow.{pow-add, pow_pos, pow_mono}
use lib.IntN.{pos, negsuc, ◌-ℤ◌}
use lib.Ieee.{Float, binary64, mul}
use Rattle.algebra.specs.NatOrder.{le_or_lt, pow2_join}
use Rattle.float.specs.Units.{units_of, Finite}
use Rattle.ldexp.specs.Scale.{pow2_of, times_power_of, ldexp_of}
use Rattle.ldexp.proofs.Chain.{all_last, all_step, by_sign}
use Rattle.scaled.proofs.Digits.{digits, units_under}
use Rattle.scaled.proofs.Rounds.{times, kept_above, kept_below}
use Rattle.scaled.proofs.Held.{above, below}

-- ---- y is x / 2^n, rounded once or more: it keeps bounds
record Shrunk (x y : Float) (n : ℕ) : Type 0 where
  finite : Finite y
  over : (w g : ℕ) → w < 2 ^ 53 → units_of x ≤ w * 2 ^ (g + n) → units_of y ≤ w * 2 ^ g
  under : (w g : ℕ) → w < 2 ^ 53 → w * 2 ^ (g + n) ≤ units_of x → w * 2 ^ g ≤ units_of y

shrink : (x : Float) (n : ℕ) → Finite x → Shrunk x (mul binary64 x (pow2_of (negsuc n))) (suc n)
shrink x n F =
    let P = times x (negsuc n) F 1 2097 (lit< tt) (lit< tt) (le_trans (le_of_eq (mul-one (units_of x))) (le_trans (le_of_lt (units_under x F)) room)) in
    record {
      finite = P.finite;
      over =
          λ w g W h. kept_above (pow_pos (suc n)) P.rounds w g W
          (le_trans (le_of_eq (mul-one (units_of x))) (le_trans h (le_of_eq (sym (pow2_join w g (suc n))))));
      under =
          λ w g W h. kept_below (pow_pos (suc n)) P.rounds w g W
          (le_trans (le_of_eq (pow2_join w g (suc n))) (le_trans h (le_of_eq (sym (mul-one (units_of x))))));
    }
  where
    room : 2 ^ 2098 ≤ 1 * 2 ^ 2097 * 2 ^ suc n
    room =
        le_trans (pow_mono (let l : 2098 ≤ 2097 + suc n = omega arith in l))
        (le_of_eq (sym (ap (λ (y : ℕ). y * 2 ^ suc n) (one-mul (2 ^ 2097)) ∙ sym (pow-add 2 2097 (suc n)))))

and_then : (x y z : Float) (a b : ℕ) → Shrunk x y a → Shrunk y z b → Shrunk x z (b + a)
and_then x y z a b P Q = record {
  finite = Q.finite;
  over = λ w g W h. Q.over w g W (P.over w (g + b) W (le_trans h (le_of_eq (ap (λ (k : ℕ). w * 2 ^ k) (parts g)))));
  under = λ w g W h. Q.under w g W (P.under w (g + b) W (le_trans (le_of_eq (ap (λ (k : ℕ). w * 2 ^ k) (sym (parts g)))) h));
}
  where
    parts : (g : ℕ) → g + (b + a) ≡ g + b + a
    parts g = omega arith

fall_last : (n : ℕ) (x : Float) → Finite x → suc n ≤ 1000 → Shrunk x (times_power_of true (suc n) x) (suc n)
fall_last n x F h = subst (λ (y : Float). Shrunk x y (suc n)) (sym (all_last true (suc n) x h)) (shrink x n F)

fall_step : (n : ℕ) (x : Float) → Finite x → 1000 < suc n → ((y : Float) → Finite y
    → Shrunk y (times_power_of true (suc (n - 1000)) y) (suc (n - 1000))) → Shrunk x (times_power_of true (suc n) x) (suc n)
fall_step n x F h rest =
    let y = mul binary64 x (pow2_of (negsuc 999)) in
    let P = shrink x 999 F in
    let m = n - 1000 in
    let q : suc n - 1000 ≡ suc m = omega arith in
    subst (λ (z : Float). Shrunk x z (suc n)) (sym (all_step true (suc n) x h ∙ ap (λ (k : ℕ). times_power_of true k y) q))
    (subst (λ (k : ℕ). Shrunk x (times_power_of true (suc m) y) k) (let e : suc (n - 1000) + 1000 ≡ suc n = omega arith in e)
    (and_then x y (times_power_of true (suc m) y) 1000 (suc m) P (rest y P.finite)))

fall : (steps n : ℕ) → n < 1000 * suc steps → (x : Float) → Finite x → Shrunk x (times_power_of true (suc n) x) (suc n)
fall zero n l x F = fall_last n x F l
fall (suc f) n l x F = ⊎_elim (λ h. fall_last n x F h) (λ h. fall_step n x F h (λ y G. fall f (n - 1000) (omega arith) y G)) (le_or_lt (suc n) 1000)

-- ---- y is x * 2^n
record Grown (x y : Float) (n : ℕ) : Type 0 where
  finite : Finite y
  is : units_of y ≡ units_of x * 2 ^ n

grow : (x : Float) (n : ℕ) → Finite x → units_of x * 2 ^ n < 2 ^ 2098 → Grown x (mul binary64 x (pow2_of (pos n))) n
grow x n F h =
    let d = digits x F in
    let w = d.0 in
    let g = d.1 + n in
    let W = d.2.short in
    let e : units_of x * 2 ^ n ≡ w * 2 ^ g = ap (λ (u : ℕ). u * 2 ^ n) (sym d.2.value) ∙ pow2_join w d.1 n in
    let e₁ : units_of x * 2 ^ n ≡ w * 2 ^ g * 1 = e ∙ sym (mul-one (w * 2 ^ g)) in
    let P = times x (pos n) F w g W (subst (λ (u : ℕ). u < 2 ^ 2098) e h) (le_of_eq e₁) in
    record {
      finite = P.finite;
      is = le_antisymm (kept_above (pow_pos 0) P.rounds w g W (le_of_eq e₁)) (kept_below (pow_pos 0) P.rounds w g W (le_of_eq (sym e₁))) ∙ sym e;
    }

rise_last : (n : ℕ) (x : Float) → Finite x → units_of x * 2 ^ n < 2 ^ 2098 → n ≤ 1000 → Grown x (times_power_of false n x) n
rise_last n x F b h = subst (λ (y : Float). Grown x y n) (sym (all_last false n x h)) (grow x n F b)

rise_step : (n : ℕ) (x : Float) → Finite x → units_of x * 2 ^ n < 2 ^ 2098 → 1000 < n
    → ((y : Float) → Finite y → units_of y * 2 ^ (n - 1000) < 2 ^ 2098 → Grown y (times_power_of false (n - 1000) y) (n - 1000))
    → Grown x (times_power_of false n x) n
rise_step n x F b h rest =
    let y = mul binary64 x (pow2_of (pos 1000)) in
    let m = n - 1000 in
    let P = grow x 1000 F (lt_of_le_of_lt (mul-le-mul_left (units_of x) (pow_mono (le_of_lt h))) b) in
    let e : units_of y * 2 ^ m ≡ units_of x * 2 ^ n = ap (λ (u : ℕ). u * 2 ^ m) P.is ∙ pow2_join (units_of x) 1000 m
    ∙ (let q : 1000 + (n - 1000) ≡ n = omega arith in ap (λ (k : ℕ). units_of x * 2 ^ k) q) in
    let Q = rest y P.finite (subst (λ (u : ℕ). u < 2 ^ 2098) (sym e) b) in
    subst (λ (z : Float). Grown x z n) (sym (all_step false n x h)) (record { finite = Q.finite; is = Q.is ∙ e })

rise : (steps n : ℕ) → n ≤ 1000 * suc steps → (x : Float) → Finite x → units_of x * 2 ^ n < 2 ^ 2098 → Grown x (times_power_of false n x) n
rise zero n l x F b = rise_last n x F b l
rise (suc f) n l x F b = ⊎_elim (λ h. rise_last n x F b h) (λ h. rise_step n x F b h (λ y G c. rise f (n - 1000) (omega arith) y G c)) (le_or_lt n 1000)

-- ---- x * 2^(p - q) against w * 2^g
pub record Bounded (x y : Float) (p q w g : ℕ) : Type 0 where
  pub finite : Finite y
  pub over : units_of y ≤ w * 2 ^ g
  pub exact : units_of x * 2 ^ p ≡ w * 2 ^ (g + q) → units_of y ≡ w * 2 ^ g

pub bounded : (x : Float) (p q w g : ℕ) → Finite x → w < 2 ^ 53 → w * 2 ^ g < 2 ^ 2098 → units_of x * 2 ^ p ≤ w * 2 ^ (g + q)
    → Bounded x (ldexp_of x (pos p -ℤ pos q)) p q w g
bounded x p q w g F W O h = ⊎_elim up_there down_there (le_or_lt q p)
  where
    up_there : q ≤ p → Bounded x (ldexp_of x (pos p -ℤ pos q)) p q w g
    up_there l =
        let n = p - q in
        let e : units_of x * 2 ^ n * 2 ^ q ≡ units_of x * 2 ^ p = pow2_join (units_of x) n q ∙ ap (λ (k : ℕ). units_of x * 2 ^ k) (sub-add_cancel l) in
        let b : units_of x * 2 ^ n ≤ w * 2 ^ g = le_of_mul-le-mul_right (le_trans (le_of_eq e) (le_trans h (le_of_eq (sym (pow2_join w g q))))) (pow_pos q) in
        let P = rise n n (omega arith) x F (lt_of_le_of_lt b O) in
        rw (above p q l, by_sign false n x)
        (record {
          finite = P.finite;
          over = le_trans (le_of_eq P.is) b;
          exact = λ k. P.is ∙ eq_of_mul-eq-mul_right (2 ^ q) (pow_pos q) (units_of x * 2 ^ n) (w * 2 ^ g) (e ∙ k ∙ sym (pow2_join w g q));
        })

    down_there : p < q → Bounded x (ldexp_of x (pos p -ℤ pos q)) p q w g
    down_there l =
        let n = q - suc p in
        let e : w * 2 ^ (g + suc n) * 2 ^ p ≡ w * 2 ^ (g + q) = pow2_join w (g + suc n) p
        ∙ (let d : g + suc (q - suc p) + p ≡ g + q = omega arith in ap (λ (k : ℕ). w * 2 ^ k) d) in
        let P = fall n n (omega arith) x F in
        let b = P.over w g W (le_of_mul-le-mul_right (le_trans h (le_of_eq (sym e))) (pow_pos p)) in
        rw (below p q l, by_sign true (suc n) x)
        (record {
          finite = P.finite;
          over = b;
          exact = λ k. le_antisymm b (P.under w g W (le_of_mul-le-mul_right (le_of_eq (e ∙ sym k)) (pow_pos p)));
        })
