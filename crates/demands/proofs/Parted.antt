-- Texts by their parts: lines by line ends, words by blanks, and numbers by their digits.
use mathlib.Core.Path.{◌≡◌, refl, sym, ap, subst, ◌∙◌}
use mathlib.Core.Bool.{Bool, true, false, cond, ◌&&◌}
use mathlib.Core.List.{List, [], ◌∷◌, ◌++◌}
use Prim.Native.Nat.{ℕ, zero, suc, ◌+◌, ◌-◌, ◌*◌, ◌/◌, ◌%◌, ◌<◌, ◌≤◌}
use native.Mathlib.Nat.{div-add-mod, mod-lt}
use native.Mathlib.Omega.{arith}
use borrow.Author.Tests.{ltb-true, ltb-false, eq-eqb, ne_eqb}
use lib.Dec.{ltb}
use Rattle.std.proofs.Common.{true≢false}
use Rattle.facts.specs.Lists.{AllOf, all_append}
use Rattle.text.specs.Digits.{hex_digit, hex_digits, decimal_within, decimal}
use Rattle.demands.specs.ByHand.{begun_by, cut_at, words, read_on, number}

-- ---- parts, of texts whose bytes are above b
abbrev pub Above : ℕ → List ℕ → Type 0
Above b w = AllOf (λ (x : ℕ). b < x) w

pub part_then : (b : ℕ) (w t : List ℕ) → Above b w → cut_at b (w ++ (b ∷ t)) ≡ w ∷ cut_at b t
unfolding cut_at
part_then b [] t h = simp (eq-eqb b b refl)
part_then b (x ∷ w) t h = simp (ne_eqb x b (λ e. omega (arith, e, h.0))) (ap (begun_by x) (part_then b w t h.1))

part_last : (b x : ℕ) (w : List ℕ) → Above b (x ∷ w) → cut_at b (x ∷ w) ≡ (x ∷ w) ∷ []
unfolding cut_at
part_last b x [] h = simp (ne_eqb x b (λ e. omega (arith, e, h.0)))
part_last b x (y ∷ w) h = simp (ne_eqb x b (λ e. omega (arith, e, h.0))) (ap (begun_by x) (part_last b y w h.1))

pub all_under : {b c : ℕ} → b ≤ c → (w : List ℕ) → Above c w → Above b w
all_under e [] h = tt
all_under e (x ∷ w) h = (omega (arith, e, h.0), all_under e w h.1)

pub above_append : (b : ℕ) (v w : List ℕ) → Above b v → Above b w → Above b (v ++ w)
above_append b v w g h = all_append (λ (x : ℕ). b < x) v w g h

-- of a text that is written out, by computation
abbrev pub all_above : ℕ → List ℕ → Bool
all_above b [] = true
all_above b (x ∷ w) = ltb b x && all_above b w

pub above_so : (b : ℕ) (w : List ℕ) → all_above b w ≡ true → Above b w
above_so b [] e = tt
above_so b (x ∷ w) e = go (ltb b x) refl e (above_so b w)
  where
    go : (c : Bool) → ltb b x ≡ c → (c && all_above b w) ≡ true → (all_above b w ≡ true → Above b w) → (b < x) × Above b w
    go true p e rest = (ltb-true b x p, rest e)
    go false p e rest = absurd (true≢false (sym e))

-- ---- decimal digits
abbrev pub Digit : ℕ → Type 0
Digit d = (47 < d) × (d < 58)

abbrev pub Digits : List ℕ → Type 0
Digits w = AllOf (λ (d : ℕ). Digit d) w

within_digits : (f n : ℕ) → Digits (decimal_within f n)
unfolding decimal_within
within_digits zero n = tt
within_digits (suc f) n = go (ltb n 10) refl (within_digits f (n / 10))
  where
    go : (b : Bool) → ltb n 10 ≡ b → Digits (decimal_within f (n / 10)) → Digits (cond b ((48 + n) ∷ []) (decimal_within f (n / 10) ++ ((48 + n % 10) ∷ [])))
    go true e h = ((omega arith, omega (arith, ltb-true n 10 e)), tt)
    go false e h =
        let low : n % 10 < 10 = mod-lt n (omega arith) in
        all_append (λ (d : ℕ). Digit d) (decimal_within f (n / 10)) ((48 + n % 10) ∷ []) h ((omega arith, omega (arith, low)), tt)

read_snoc : (n : ℕ) (w : List ℕ) (d : ℕ) → read_on n (w ++ (d ∷ [])) ≡ read_on n w * 10 + (d - 48)
unfolding read_on
read_snoc n [] d = refl
read_snoc n (x ∷ w) d = read_snoc (n * 10 + (x - 48)) w d

within_reads : (f n : ℕ) → n < f → read_on 0 (decimal_within f n) ≡ n
unfolding read_on decimal_within
within_reads zero n h = absurd (omega arith)
within_reads (suc f) n h = go (ltb n 10) refl (λ m. within_reads f (n / 10) m)
  where
    go : (b : Bool) → ltb n 10 ≡ b → (n / 10 < f → read_on 0 (decimal_within f (n / 10)) ≡ n / 10)
        → read_on 0 (cond b ((48 + n) ∷ []) (decimal_within f (n / 10) ++ ((48 + n % 10) ∷ []))) ≡ n
    go true e on = omega arith
    go false e on =
        let high = ltb-false n 10 e in
        read_snoc 0 (decimal_within f (n / 10)) (48 + n % 10) ∙ omega (arith, on (omega (arith, div-add-mod n 10)), div-add-mod n 10)

pub digits_read : (n : ℕ) → number (decimal n) ≡ n
unfolding decimal
digits_read n = within_reads (suc n) n (omega arith)

-- ---- words
-- a text without blanks and line ends, of one byte at least
pub record Word (w : List ℕ) : Type 0 where
  pub first : ℕ
  pub rest : List ℕ
  pub is : w ≡ first ∷ rest
  pub above : Above 32 w

pub word_last : (w : List ℕ) → Word w → words w ≡ w ∷ []
word_last w h = rw h.is (part_last 32 h.first h.rest (subst (λ (v : List ℕ). Above 32 v) h.is h.above))

digits_above : (w : List ℕ) → Digits w → Above 32 w
digits_above [] h = tt
digits_above (d ∷ w) h = (omega (arith, h.0.0), digits_above w h.1)

pub digits_of : (n : ℕ) → Digits (decimal n)
unfolding decimal
digits_of n = within_digits (suc n) n

begun : (w : List ℕ) (d : ℕ) → (a : ℕ) × (v : List ℕ) × (w ++ (d ∷ []) ≡ a ∷ v)
begun [] d = (d, [], refl)
begun (x ∷ w) d = (x, w ++ (d ∷ []), refl)

pub decimal_begun : (n : ℕ) → (a : ℕ) × (v : List ℕ) × (decimal n ≡ a ∷ v)
unfolding decimal decimal_within
decimal_begun n = go (ltb n 10)
  where
    go : (b : Bool) → (a : ℕ) × (v : List ℕ) × (cond b ((48 + n) ∷ []) (decimal_within n (n / 10) ++ ((48 + n % 10) ∷ [])) ≡ a ∷ v)
    go true = (48 + n, [], refl)
    go false = begun (decimal_within n (n / 10)) (48 + n % 10)

pub decimal_word : (n : ℕ) → Word (decimal n)
decimal_word n =
    let b = decimal_begun n in record { first = b.0; rest = b.1; is = b.2; above = digits_above (decimal n) (digits_of n) }

pub hex_above : (k n : ℕ) → Above 32 (hex_digits k n)
unfolding hex_digits hex_digit
hex_above zero n = tt
hex_above (suc k) n =
    all_append (λ (x : ℕ). 32 < x) (hex_digits k (n / 16)) (hex_digit (n % 16) ∷ []) (hex_above k (n / 16)) (go (ltb (n % 16) 10), tt)
  where
    go : (b : Bool) → 32 < cond b (48 + n % 16) (55 + n % 16)
    go true = omega arith
    go false = omega arith
