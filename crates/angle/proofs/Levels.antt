-- The level of v, 2 ^ 160 * (1 ± v) rounded down, by its words.
use mathlib.Core.Path.{◌≡◌, refl, sym, ap, ap₂, ◌∙◌, subst}
use mathlib.Core.Logic.{◌⊎◌, inl, inr}
use mathlib.Core.Bool.{Bool, true, false, cond}
use Prim.Native.Nat.{ℕ, ◌+◌, ◌-◌, ◌*◌, ◌/◌, ◌%◌, ◌^◌, ◌≤◌, ◌<◌}
use native.Mathlib.Omega.{arith}
use native.Mathlib.Nat.{zero-add, add-zero, one-mul, zero-mul, mul_assoc, add-mul, mul-pos, mul-le-mul_right}
use native.Mathlib.Nat.{mul-le-mul_left, mul-lt-mul_of_pos_right, lt_of_mul-lt-mul_right, lt_of_lt_of_le, lt_of_le_of_lt, le-add_right, le_trans, mod-lt}
use native.Mathlib.Nat.{mod-eq_of_lt, div-add-mod', eq-zero-or-pos, mul-add-div_right, div-lt_iff_lt-mul, sub-le}
use borrow.Author.Tests.{lt-ltb, le-ltb}
use lib.Dec.{ltb}
use lib.Pow.{pow-add, pow_pos, pow_mono, pow-lt}
use Rattle.algebra.specs.RingNat.{ring, ◌:+◌, ◌:*◌, ◌:=◌}
use Rattle.algebra.specs.NatOrder.{div_unique, div_mod_unique}
use Rattle.angle.specs.Parts.{value, level_of, WholePart}

-- ---- w * 2 ^ k / 2 ^ 966

cut : (w k q r : ℕ) (rest : Bool) → w * 2 ^ k ≡ q * 2 ^ 966 + r → r < 2 ^ 966 → rest ≡ ltb 0 r → WholePart w k q rest
cut w k q r rest e l b =
    let d = div_mod_unique q r e l in
    record { whole = sym d.0; left = b ∙ ap (λ (x : ℕ). ltb 0 x) (sym d.1) }

joined : (a b l : ℕ) → a + b ≡ l → 2 ^ a * 2 ^ b ≡ 2 ^ l
joined a b l e = sym (pow-add 2 a b) ∙ ap (λ (x : ℕ). 2 ^ x) e

-- nothing but a rest
pub none : (w k : ℕ) → 0 < w → w < 2 ^ 53 → k < 903 → WholePart w k (value 0 0 0) true
none w k p h l =
    cut w k 0 (w * 2 ^ k) true (sym (zero-add (w * 2 ^ k)))
    (lt_of_lt_of_le (mul-lt-mul_of_pos_right h (pow_pos k)) (subst (λ (x : ℕ). x ≤ 2 ^ 966) (pow-add 2 53 k)
    (pow_mono (let e : 53 + k ≤ 966 = omega arith in e))))
    (sym (lt-ltb 0 (w * 2 ^ k) (mul-pos p (pow_pos k))))

-- the machine's 1 << d
pub bit : (d : ℕ) → d < 64 → 1 * 2 ^ d % 2 ^ 64 ≡ 2 ^ d
bit d h = ap (λ (x : ℕ). x % 2 ^ 64) (one-mul (2 ^ d)) ∙ mod-eq_of_lt (pow-lt h)

pub bit_pos : (d : ℕ) → d < 64 → 0 < 1 * 2 ^ d % 2 ^ 64
bit_pos d h = subst (λ (x : ℕ). 0 < x) (sym (bit d h)) (pow_pos d)

-- the digits from 2 ^ (966 - k) on, and the others
pub low : (w k : ℕ) → 903 ≤ k → k < 966 → WholePart w k (value 0 0 (w / (1 * 2 ^ (966 - k) % 2 ^ 64))) (ltb 0 (w % (1 * 2 ^ (966 - k) % 2 ^ 64)))
low w k a b = subst (λ (x : ℕ). WholePart w k (value 0 0 (w / x)) (ltb 0 (w % x))) (sym (bit (966 - k) (let e : 966 - k < 64 = omega arith in e))) digits
  where
    whole : 2 ^ (966 - k) * 2 ^ k ≡ 2 ^ 966
    whole = joined (966 - k) k 966 (let e : 966 - k + k ≡ 966 = omega arith in e)

    sum : (w d y l : ℕ) → d * y ≡ l → w * y ≡ w / d * l + w % d * y
    sum w d y l e =
        ap (λ (x : ℕ). x * y) (sym (div-add-mod' w d)) ∙ add-mul (w / d * d) (w % d) y
        ∙ ap (λ (x : ℕ). x + w % d * y) (mul_assoc (w / d) d y ∙ ap (λ (x : ℕ). w / d * x) e)

    some_left : (r y : ℕ) → 0 < y → ltb 0 r ≡ ltb 0 (r * y)
    some_left r y p = go (eq-zero-or-pos r)
      where
        go : (r ≡ 0) ⊎ (0 < r) → ltb 0 r ≡ ltb 0 (r * y)
        go (inl e) = ap (λ (x : ℕ). ltb 0 x) (e ∙ sym (ap (λ (x : ℕ). x * y) e ∙ zero-mul y))
        go (inr h) = lt-ltb 0 r h ∙ sym (lt-ltb 0 (r * y) (mul-pos h p))

    digits : WholePart w k (value 0 0 (w / 2 ^ (966 - k))) (ltb 0 (w % 2 ^ (966 - k)))
    digits =
        subst (λ (x : ℕ). WholePart w k x (ltb 0 (w % 2 ^ (966 - k)))) (sym (zero-add (w / 2 ^ (966 - k))))
        (cut w k (w / 2 ^ (966 - k)) (w % 2 ^ (966 - k) * 2 ^ k) (ltb 0 (w % 2 ^ (966 - k))) (sum w (2 ^ (966 - k)) (2 ^ k) (2 ^ 966) whole)
        (subst (λ (x : ℕ). w % 2 ^ (966 - k) * 2 ^ k < x) whole (mul-lt-mul_of_pos_right (mod-lt w (pow_pos (966 - k))) (pow_pos k)))
        (some_left (w % 2 ^ (966 - k)) (2 ^ k) (pow_pos k)))

-- a whole number of them
exact : (w k n : ℕ) → 966 ≤ k → n ≡ w * 2 ^ (k - 966) → WholePart w k n false
exact w k n a v =
    subst (λ (x : ℕ). WholePart w k x false) (sym v)
    (cut w k (w * 2 ^ (k - 966)) 0 false
    (sym (add-zero (w * 2 ^ (k - 966) * 2 ^ 966) ∙ mul_assoc w (2 ^ (k - 966)) (2 ^ 966)
    ∙ ap (λ (x : ℕ). w * x) (joined (k - 966) 966 k (let e : k - 966 + 966 ≡ k = omega arith in e)))) (pow_pos 966) refl)

pub mid : (w k n : ℕ) → 966 ≤ k → k < 1030 → n ≡ w * (1 * 2 ^ (k - 966) % 2 ^ 64) → WholePart w k n false
mid w k n a b e = exact w k n a (e ∙ ap (λ (x : ℕ). w * x) (bit (k - 966) (let q : k - 966 < 64 = omega arith in q)))

pub high : (w k n : ℕ) → 1030 ≤ k → k < 1074 → n ≡ w * (1 * 2 ^ (k - 1030) % 2 ^ 64) * 2 ^ 64 → WholePart w k n false
high w k n a b e =
    exact w k n (let q : 966 ≤ k = omega arith in q)
    (e
    ∙ ap (λ (x : ℕ). x * 2 ^ 64) (ap (λ (x : ℕ). w * x) (bit (k - 1030) (let q : k - 1030 < 64 = omega arith in q)))
    ∙ mul_assoc w (2 ^ (k - 1030)) (2 ^ 64)
    ∙ ap (λ (x : ℕ). w * x) (joined (k - 1030) 64 (k - 966) (let q : k - 1030 + 64 ≡ k - 966 = omega arith in q)))

-- ---- 2 ^ 160 less a number: word by word, with 1 carried as far as words of 0 go

pub sum : (a b c d e f : ℕ) {A B C : ℕ} → a + d ≡ A → b + e ≡ B → c + f ≡ C → value a b c + value d e f ≡ value A B C
sum a b c d e f ea eb ec =
    ring 7 (λ a b c d e f W. (a :* W :+ b) :* W :+ c :+ ((d :* W :+ e) :* W :+ f) := ((a :+ d) :* W :+ (b :+ e)) :* W :+ (c :+ f)) tt a b c d e f (2 ^ 64)
    ∙ ap₂ (λ (x y : ℕ). x * 2 ^ 64 + y) (ap₂ (λ (x y : ℕ). x * 2 ^ 64 + y) ea eb) ec

-- with what is carried where there is no rest
pub filled : (a b c d e f A B C : ℕ) (rest : Bool) {t : Bool} → rest ≡ t → a + d ≡ A → b + e ≡ B → c + f ≡ C
    → value A B C + cond t 1 0 ≡ 2 ^ 160 → value a b c + value d e f + cond rest 1 0 ≡ 2 ^ 160
filled a b c d e f A B C rest r ea eb ec whole = ap₂ (λ (x : ℕ) (u : Bool). x + cond u 1 0) (sum a b c d e f ea eb ec) r ∙ whole

pub top_lt : (hi mid lo : ℕ) → value hi mid lo < 2 ^ 160 → hi < 2 ^ 32
top_lt hi mid lo h =
    lt_of_mul-lt-mul_right (2 ^ 128)
    (lt_of_le_of_lt (subst (λ (x : ℕ). x ≤ value hi mid lo) (mul_assoc hi (2 ^ 64) (2 ^ 64))
    (le_trans (mul-le-mul_right (2 ^ 64) (le-add_right (hi * 2 ^ 64) mid)) (le-add_right ((hi * 2 ^ 64 + mid) * 2 ^ 64) lo))) h)

-- ---- the level

small : (w k : ℕ) → w < 2 ^ 53 → k < 1074 → w * 2 ^ k < 2 ^ 1126
small w k h l = lt_of_lt_of_le (mul-lt-mul_of_pos_right h (pow_pos k)) (mul-le-mul_left (2 ^ 53) (pow_mono (let e : k ≤ 1073 = omega arith in e)))

module _ (w k : ℕ) (h : w < 2 ^ 53) (l : k < 1074) where
  pub part_lt : (n : ℕ) (rest : Bool) → WholePart w k n rest → n < 2 ^ 160
  part_lt n rest s = subst (λ (x : ℕ). x < 2 ^ 160) (sym s.whole) ((div-lt_iff_lt-mul (pow_pos 966)).1 (small w k h l))

  pub level_lt : (s : Bool) → level_of s w k < 2 ^ 161
  level_lt false = (div-lt_iff_lt-mul (pow_pos 966)).1 (twice (2 ^ 1126) (w * 2 ^ k) (small w k h l))
    where
      twice : (u a : ℕ) → a < u → u + a < 2 * u
      twice u a h = omega arith
  level_lt true = (div-lt_iff_lt-mul (pow_pos 966)).1 (lt_of_le_of_lt (sub-le (2 ^ 1126) (w * 2 ^ k)) (pow-lt (let e : 1126 < 1127 = omega arith in e)))

  pub level_above : (hi mid lo : ℕ) (rest : Bool) → WholePart w k (value hi mid lo) rest → value (2 ^ 32 + hi) mid lo ≡ level_of false w k
  level_above hi mid lo rest s =
      sym (sum (2 ^ 32) 0 0 hi mid lo refl (zero-add mid) (zero-add lo)) ∙ ap (λ (x : ℕ). 2 ^ 160 + x) s.whole
      ∙ sym (mul-add-div_right (pow_pos 966) (2 ^ 160) (w * 2 ^ k))

-- B * G - a has one more than q whole parts G below B where nothing is left of a
less_div : (B G a q : ℕ) → 0 < G → q + a / G + cond (ltb 0 (a % G)) 1 0 ≡ B → (B * G - a) / G ≡ q
less_div B G a q p e = go (eq-zero-or-pos (a % G))
  where
    parts : q * G + a / G * G + cond (ltb 0 (a % G)) 1 0 * G ≡ B * G
    parts =
        ap (λ (x : ℕ). x + cond (ltb 0 (a % G)) 1 0 * G) (sym (add-mul q (a / G) G))
        ∙ sym (add-mul (q + a / G) (cond (ltb 0 (a % G)) 1 0) G) ∙ ap (λ (x : ℕ). x * G) e

    go : (a % G ≡ 0) ⊎ (0 < a % G) → (B * G - a) / G ≡ q
    go (inl z) =
        let d = div-add-mod' a G in
        let b : q * G + a / G * G + 0 * G ≡ B * G = subst (λ (b : Bool). q * G + a / G * G + cond b 1 0 * G ≡ B * G)
        (le-ltb 0 (a % G) (let y : a % G ≤ 0 = omega arith in y)) parts in
        div_unique G q (omega arith) (omega arith)
    go (inr r) =
        let d = div-add-mod' a G in
        let m = mod-lt a p in
        let b : q * G + a / G * G + 1 * G ≡ B * G = subst (λ (b : Bool). q * G + a / G * G + cond b 1 0 * G ≡ B * G) (lt-ltb 0 (a % G) r) parts in
        div_unique G q (omega arith) (omega arith)

pub level_below : (w k n : ℕ) (rest : Bool) (q : ℕ) → WholePart w k n rest → q + n + cond rest 1 0 ≡ 2 ^ 160 → q ≡ level_of true w k
level_below w k n rest q s e =
    sym (less_div (2 ^ 160) (2 ^ 966) (w * 2 ^ k) q (pow_pos 966) (ap₂ (λ (x : ℕ) (b : Bool). q + x + cond b 1 0) (sym s.whole) (sym s.left) ∙ e))

-- the level, and that c is below 1
pub level_is : (w k : ℕ) → w < 2 ^ 53 → k < 1074 → (s t : Bool) {q : ℕ} → s ≡ t → q ≡ level_of t w k → (q ≡ level_of s w k) × (q < 2 ^ 161)
level_is w k h l s t e is = (is ∙ ap (λ (b : Bool). level_of b w k) (sym e), subst (λ (x : ℕ). x < 2 ^ 161) (sym is) (level_lt w k h l t))

-- what `level` rests on
pub ruleset levels = (part_lt, top_lt, level_above, level_below, level_lt)
