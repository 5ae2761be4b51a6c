-- The digits of a number: the last one apart, and how many there are.
use mathlib.Core.Path.{◌≡◌, refl, sym, ap, subst, ◌∙◌}
use mathlib.Core.Bool.{Bool, true, false, cond}
use mathlib.Core.List.{List, [], ◌∷◌, ◌++◌}
use Prim.Native.Nat.{ℕ, zero, suc, ◌+◌, ◌-◌, ◌*◌, ◌/◌, ◌%◌, ◌^◌, ◌<◌, ◌≤◌}
use native.Mathlib.Omega.{arith}
use mathlib.Core.Logic.{◌⊎◌, inl, inr, ⊎_elim}
use native.Mathlib.Nat.{div-add-mod, div-lt_iff_lt-mul, pow-zero, pow-suc}
use lib.Dec.{ltb}
use lib.ListN.{length, length-append}
use borrow.Author.Tests.{lt-ltb, le-ltb, ltb-true, ltb-false}
use lib.IntN.{ℤ, pos, negsuc, nat_abs}
use Rattle.text.specs.Digits.{hex_digit, hex_digits, decimal_within, decimal, signed_decimal}

pub hex_none : (k n : ℕ) → k ≡ 0 → hex_digits k n ≡ []
unfolding hex_digits
hex_none k n e = ap (λ (j : ℕ). hex_digits j n) e

pub hex_step : (k n : ℕ) → (k ≡ 0 → ⊥) → hex_digits k n ≡ hex_digits (k - 1) (n / 16) ++ (hex_digit (n % 16) ∷ [])
unfolding hex_digits
hex_step zero n h = absurd (h refl)
hex_step (suc k) n h =
    let e : k ≡ suc k - 1 = omega arith in
    ap (λ (j : ℕ). hex_digits j (n / 16) ++ (hex_digit (n % 16) ∷ [])) e

pub hex_length : (k n : ℕ) → length (hex_digits k n) ≡ k
unfolding hex_digits
hex_length zero n = refl
hex_length (suc k) n = length-append (hex_digits k (n / 16)) (hex_digit (n % 16) ∷ []) ∙ omega (arith, hex_length k (n / 16))

-- the list that a test picks is the same where what it holds in its second case is
same : (n : ℕ) (a t x y : List ℕ) (b : Bool) → ltb n 10 ≡ b → (10 ≤ n → x ≡ y) → cond (ltb n 10) a (x ++ t) ≡ cond (ltb n 10) a (y ++ t)
same n a t x y true e h = ap (λ (b : Bool). cond b a (x ++ t)) e ∙ sym (ap (λ (b : Bool). cond b a (y ++ t)) e)
same n a t x y false e h = ap (λ (z : List ℕ). cond (ltb n 10) a (z ++ t)) (h (ltb-false n 10 e))

-- any fuel above n gives the same digits
enough : (f g n : ℕ) → n < f → n < g → decimal_within f n ≡ decimal_within g n
unfolding decimal_within
enough zero g n p q = absurd (omega arith)
enough (suc f) zero n p q = absurd (omega arith)
enough (suc f) (suc g) n p q =
    same n ((48 + n) ∷ []) ((48 + n % 10) ∷ []) (decimal_within f (n / 10)) (decimal_within g (n / 10)) (ltb n 10) refl
    (λ h. enough f g (n / 10) (omega (arith, div-add-mod n 10)) (omega (arith, div-add-mod n 10)))

pub decimal_low : (n : ℕ) → n < 10 → decimal n ≡ (48 + n) ∷ []
unfolding decimal decimal_within
decimal_low n h = ap (λ (b : Bool). cond b ((48 + n) ∷ []) (decimal_within n (n / 10) ++ ((48 + n % 10) ∷ []))) (lt-ltb n 10 h)

pub decimal_short : (n : ℕ) → n < 10 → length (decimal n) ≡ 1
decimal_short n h = ap length (decimal_low n h)

pub decimal_step : (n : ℕ) → 10 ≤ n → decimal n ≡ decimal (n / 10) ++ ((48 + n % 10) ∷ [])
unfolding decimal decimal_within
decimal_step n h =
    ap (λ (b : Bool). cond b ((48 + n) ∷ []) (decimal_within n (n / 10) ++ ((48 + n % 10) ∷ []))) (le-ltb n 10 h)
    ∙ ap (λ (z : List ℕ). z ++ ((48 + n % 10) ∷ [])) (enough n (suc (n / 10)) (n / 10) (omega (arith, div-add-mod n 10)) (omega arith))

pub decimal_longer : (n : ℕ) → 10 ≤ n → length (decimal n) ≡ length (decimal (n / 10)) + 1
decimal_longer n h = ap length (decimal_step n h) ∙ length-append (decimal (n / 10)) ((48 + n % 10) ∷ [])

pub ruleset decimal_lengths = (decimal_short, decimal_longer, div-add-mod)

below_or : (m n : ℕ) (b : Bool) → ltb m n ≡ b → (m < n) ⊎ (n ≤ m)
below_or m n true e = inl (ltb-true m n e)
below_or m n false e = inr (ltb-false m n e)

-- a number of two digits or more below 10 ^ (k + 1) leaves a digit to k
room : (k n : ℕ) → 10 ≤ n → n < 10 ^ k * 10 → 0 < k
room zero n h p = absurd (omega (arith, subst (λ (m : ℕ). n < m * 10) (pow-zero 10) p))
room (suc k) n h p = omega arith

-- a number below 10 ^ k has at most k digits
pub decimal_length : (k n : ℕ) → 0 < k → n < 10 ^ k → length (decimal n) ≤ k
decimal_length zero n h p = absurd (omega arith)
decimal_length (suc k) n h p =
    let q : n < 10 ^ k * 10 = subst (λ (m : ℕ). n < m) (pow-suc 10 k) p in
    ⊎_elim
    (λ (low : n < 10). rw (decimal_low n low) (omega arith))
    (λ (high : 10 ≤ n).
    let fewer : length (decimal (n / 10)) ≤ k = decimal_length k (n / 10) (room k n high q) ((div-lt_iff_lt-mul (omega arith)).1 q) in
    rw (decimal_step n high, length-append) (omega arith))
    (below_or n 10 (ltb n 10) refl)

-- and one byte more with a sign
pub signed_length : (m : ℕ) (k : ℤ) → 0 < m → nat_abs k < 10 ^ m → length (signed_decimal k) ≤ m + 1
unfolding signed_decimal
signed_length m (pos n) h p = omega (arith, decimal_length m n h p)
signed_length m (negsuc n) h p = omega (arith, decimal_length m (suc n) h p)
