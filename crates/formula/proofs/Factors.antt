-- Factors, from the first byte to the power.
use mathlib.Core.Path.{◌≡◌, refl, sym, ap, subst, ◌∙◌}
use mathlib.Core.Bool.{Bool, true, false, cond, ◌&&◌, and-false, true≢false}
use mathlib.Core.List.{List, [], ◌∷◌}
use mathlib.Core.Logic.{⊎_elim}
use mathlib.Core.Option.{Option}
use Prim.Native.Nat.{ℕ, suc, ◌+◌, ◌-◌, ◌*◌, ◌^◌, ◌≤◌, ◌<◌}
use native.Mathlib.Omega.{arith}
use native.Mathlib.Nat.{le_refl, lt_of_lt_of_le, pow-le-pow_right}
use lib.Dec.{T, leb, lit≤}
use lib.ListN.{length, get_or, drop, drop_of_length-le}
use lib.IntN.{pos}
use borrow.Author.Tests.{le-leb, lt-leb}
use Rattle.algebra.specs.NatOrder.{le_or_lt}
use Rattle.facts.specs.Lists.{drop_next}
use Rattle.parts.specs.Value.{limited, power_of}
use Rattle.parts.specs.Part.{value_in}
use Rattle.formula.specs.declared.cursor.Cursor.{Cursor}
use Rattle.formula.specs.Grammar.{is_digit, all_digits, is_number, Number, Power, plain, power, Sum, Factor, number, letter, bracket}
use Rattle.formula.specs.Parts.{digits_from}
use Rattle.formula.specs.Expansion.{powered_of, factor_of}
use Rattle.formula.specs.Reading.{Read, fails, reads, and_then, if_some, digits_of, behind_digits, checked}
use Rattle.formula.specs.Reading.{read_digit, read_power, read_number, read_unit, read_closed}
use Rattle.std.specs.Prelude as Prelude
use Rattle.std.specs.Prelude.{Some, None, Ok}
use Rattle.formula.specs.Readers.{is_at, digit_at, Digit, Ahead, Further, Based, Closed, Powered, Shut}
use Rattle.formula.proofs.Bytes.{at_inside, digit_inside, digit_is, after_true, after_false, no_digit}
use Rattle.formula.proofs.Bytes.{digits_true, digits_false, behind_true, behind_false}
use Rattle.formula.proofs.Complete.{checked_true}
use Rattle.formula.proofs.Cursors.{ahead_then}

-- ---- brackets
module _ (s : List ℕ) (inner : Cursor) where
  -- what is read behind the sum a
  behind_sum : Sum → Option (List ℕ) → Read Factor
  behind_sum a o = if_some o fails (read_power (bracket a))

  pub closed_open : is_at s inner.next 41 ≡ false → Closed s inner None
  unfolding behind_sum
  closed_open e a m = ap (behind_sum a) (after_false s inner.next 41 e)

  pub closed_shut : is_at s inner.next 41 ≡ true → (c : Cursor) → c.next ≡ inner.next + 1 → c.part ≡ inner.part → Ahead s inner.next c × Closed s inner (Some c)
  unfolding behind_sum factor_of
  closed_shut e c n q = (record { low = omega (arith, n); high = omega (arith, n, at_inside s inner.next 41 e) }, is)
    where
      is : Closed s inner (Some c)
      is a m = (
        bracket a,
        ap (behind_sum a) (after_true s inner.next 41 e) ∙ ap (λ (i : ℕ). read_power (bracket a) (drop i s)) (sym n),
        λ p. ap (powered_of p) (sym m ∙ ap value_in (sym q)),
      )

-- ---- powers
no_digit_read : (make : Power → Factor) (s : List ℕ) (i : ℕ) → digit_at s i ≡ false → read_digit make (drop i s) ≡ fails
no_digit_read make s i e = ⊎_elim (λ (h : length s ≤ i). ap (read_digit make) (drop_of_length-le s {i = i} h))
    (λ (h : i < length s). ap (read_digit make) (drop_next s i 0 h) ∙ go (is_digit (get_or s i 0)) (no_digit s i e h) (power (get_or s i 0)))
    (le_or_lt (length s) i)
  where
    go : (b : Bool) → b ≡ false → (f : T b → Power) → if_some (checked b f) fails (λ p. reads (make p) (drop (i + 1) s)) ≡ fails
    go true q f = absurd (true≢false q)
    go false q f = refl

digit_read : (make : Power → Factor) (s : List ℕ) (i : ℕ) → digit_at s i ≡ true → (t : T (is_digit (get_or s i 0)))
    → read_digit make (drop i s) ≡ reads (make (power (get_or s i 0) t)) (drop (i + 1) s)
digit_read make s i e t =
    ap (read_digit make) (drop_next s i 0 (digit_inside s i e))
    ∙ ap (λ (o : Option Power). if_some o fails (λ p. reads (make p) (drop (i + 1) s))) (checked_true (is_digit (get_or s i 0)) (power (get_or s i 0)) t)

module _ (s : List ℕ) (base : Cursor) where
  by_caret : (Power → Factor) → Option (List ℕ) → Read Factor
  by_caret make o = if_some o (reads (make plain) (drop base.next s)) (read_digit make)

  pub powered_plain : is_at s base.next 94 ≡ false → Powered s base (Some base)
  unfolding by_caret
  powered_plain e make p = (make plain, ap (by_caret make) (after_false s base.next 94 e), sym (p plain))

  module _ (e : is_at s base.next 94 ≡ true) where
    power_next : (make : Power → Factor) → read_power make (drop base.next s) ≡ read_digit make (drop (base.next + 1) s)
    unfolding by_caret
    power_next make = ap (by_caret make) (after_true s base.next 94 e)

    pub powered_none : digit_at s (base.next + 1) ≡ false → Powered s base None
    powered_none d make p = power_next make ∙ no_digit_read make s (base.next + 1) d

    pub powered_digit : (k : ℕ) → Digit s (base.next + 1) (Some k) → (c : Cursor) → c.next ≡ base.next + 2
        → value_in c.part ≡ power_of (value_in base.part) k → Ahead s base.next c × Powered s base (Some c)
    powered_digit k d c n v = (record { low = omega (arith, n); high = omega (arith, n, digit_inside s (base.next + 1) d.0) }, powered)
      where
        is : T (is_digit (get_or s (base.next + 1) 0))
        is = subst T (sym (digit_is s (base.next + 1) d.0)) tt

        two : base.next + 1 + 1 ≡ c.next
        two = omega (arith, n)

        powered : Powered s base (Some c)
        powered make p =
            let q = power (get_or s (base.next + 1) 0) is in (
              make q,
              power_next make ∙ digit_read make s (base.next + 1) d.0 is ∙ ap (λ (i : ℕ). reads (make q) (drop i s)) two,
              v ∙ ap (power_of (value_in base.part)) d.1 ∙ sym (p q),
            )

-- ---- brackets with no power
pub shut_plain : (s : List ℕ) (inner base : Cursor) → is_at s base.next 94 ≡ false → Closed s inner (Some base) → Shut s (Some inner) (Some base)
shut_plain s inner base e k x h =
    let m = k h.0 h.2 in
    let p = powered_plain s base e m.0 m.2 in
    (p.0, ap (λ (y : Read Sum). and_then y read_closed) h.1 ∙ m.1 ∙ p.1, p.2)

pub bracket_none : (s : List ℕ) → Shut s None None
bracket_none s x e = ap (λ (y : Read Sum). and_then y read_closed) e

pub bracket_plain : (s : List ℕ) (inner c : Cursor) → is_at s inner.next 41 ≡ true → is_at s (inner.next + 1) 94 ≡ false → c.next ≡ inner.next + 1
    → c.part ≡ inner.part → Further s (Some inner) (Some c) × Shut s (Some inner) (Some c)
bracket_plain s inner c e f n q =
    let w = closed_shut s inner e c n q in
    (λ at h. ahead_then s at inner.next (Some c) h.low w.0, shut_plain s inner c (subst (λ (i : ℕ). is_at s i 94 ≡ false) (sym n) f) w.1)

-- ---- whole numbers
all_are_digits : (s : List ℕ) → all_digits (digits_of s) ≡ true
all_are_digits [] = refl
all_are_digits (b ∷ s) = go (is_digit b) refl (all_are_digits s)
  where
    go : (t : Bool) → is_digit b ≡ t → all_digits (digits_of s) ≡ true → all_digits (cond t (b ∷ digits_of s) []) ≡ true
    go true d e = rw (d, e)
    go false d e = refl

number_when : (s : List ℕ) (b : Bool) → (leb 1 (length (digits_of s)) && leb (length (digits_of s)) 9) ≡ b → is_number (digits_of s) ≡ b
number_when s b e = rw (all_are_digits s) e

-- n is the value of the digits from at to i, of which there are at most nine
pub record Counted (s : List ℕ) (at i n : ℕ) : Type 0 where
  pub low : at ≤ i
  pub high : i ≤ length s
  pub few : i ≤ at + 9
  pub below : n < 10 ^ (i - at)
  pub value : digits_from 0 (digits_of (drop at s)) ≡ digits_from n (digits_of (drop i s))
  pub count : at + length (digits_of (drop at s)) ≡ i + length (digits_of (drop i s))
  pub behind : behind_digits (drop at s) ≡ behind_digits (drop i s)

pub counted_none : (s : List ℕ) (at : ℕ) → at ≤ length s → Counted s at at 0
counted_none s at h = record {
  low = le_refl at;
  high = h;
  few = omega arith;
  below = subst (λ (k : ℕ). 0 < 10 ^ k) (sym none_yet) (lit≤ tt);
  value = refl;
  count = refl;
  behind = refl;
}
  where
    none_yet : at - at ≡ 0
    none_yet = omega arith

pub counted_small : (s : List ℕ) (at i n : ℕ) → Counted s at i n → n < 10 ^ 9
counted_small s at i n w = lt_of_lt_of_le w.below (pow-le-pow_right (lit≤ tt) few)
  where
    few : i - at ≤ 9
    few = omega (arith, w.few)

pub counted_next : (s : List ℕ) (at i n d : ℕ) → Counted s at i n → (i - at ≡ 9 → ⊥) → digit_at s i ≡ true → (d ≡ get_or s i 0 - 48) × (d < 10)
    → Counted s at (i + 1) (10 * n + d)
counted_next s at i n d w f e g = record {
  low = omega (arith, w.low);
  high = omega (arith, digit_inside s i e);
  few = omega (arith, w.low, w.few, f);
  below = subst (λ (k : ℕ). 10 * n + d < 10 ^ k) one_more (omega (arith, w.below, g.1));
  value = w.value ∙ ap (digits_from n) (digits_true s i e) ∙ ap (λ (x : ℕ). digits_from (10 * n + x) (digits_of (drop (i + 1) s))) (sym g.0);
  count = w.count ∙ ap (λ (l : List ℕ). i + length l) (digits_true s i e) ∙ omega arith;
  behind = w.behind ∙ behind_true s i e;
}
  where
    one_more : suc (i - at) ≡ i + 1 - at
    one_more = omega (arith, w.low)

-- digits of which there are none, or more than nine, are no number
read_none : (s : List ℕ) → is_number (digits_of s) ≡ false → read_number s ≡ fails
read_none s e = go (is_number (digits_of s)) e (λ t. record { digits = digits_of s; number = t })
  where
    go : (b : Bool) → b ≡ false → (g : T b → Number) → if_some (checked b g) fails (λ m. read_power (number m) (behind_digits s)) ≡ fails
    go true q g = absurd (true≢false q)
    go false q g = refl

pub read_long : (s : List ℕ) → 9 < length (digits_of s) → read_number s ≡ fails
read_long s h =
    let digits = digits_of s in
    read_none s (number_when s false (rw (lt-leb (length digits) 9 h) (and-false (leb 1 (length digits)))))

pub digit_more : (s : List ℕ) (i : ℕ) → digit_at s i ≡ true → length (digits_of (drop i s)) ≡ suc (length (digits_of (drop (i + 1) s)))
digit_more s i e = ap length (digits_true s i e)

module _ (s : List ℕ) (at i n : ℕ) (w : Counted s at i n) where
  abbrev digits : List ℕ
  digits = digits_of (drop at s)

  counted_all : digit_at s i ≡ false → at + length digits ≡ i
  counted_all e = w.count ∙ ap (λ (l : List ℕ). i + length l) (digits_false s i e) ∙ omega arith

  none_read : i ≡ at → digit_at s i ≡ false → is_number digits ≡ false
  none_read f e = number_when (drop at s) false (rw (lt-leb 1 (length digits) (omega (arith, counted_all e))))

  some_read : (i ≡ at → ⊥) → digit_at s i ≡ false → is_number digits ≡ true
  some_read f e =
      let c = counted_all e in
      number_when (drop at s) true (rw (le-leb 1 (length digits) (omega (arith, w.low)), le-leb (length digits) 9 (omega (arith, w.few))))

  pub number_none : digit_at s i ≡ false → i ≡ at → Based s None (read_number (drop at s))
  number_none e f = read_none (drop at s) (none_read f e)

  pub number_some : digit_at s i ≡ false → (i ≡ at → ⊥) → (c : Cursor) → c.next ≡ i → value_in c.part ≡ limited (pos n ∷ [])
      → Ahead s at c × Based s (Some c) (read_number (drop at s))
  unfolding factor_of
  number_some e f c j v = (
    record { low = omega (arith, j, w.low); high = omega (arith, j, w.high) },
    (number m, is ∙ ap (λ (k : ℕ). read_power (number m) (drop k s)) (sym j), made),
  )
    where
      all : T (is_number digits)
      all = subst T (sym (some_read f e)) tt

      m : Number
      m = record { digits = digits; number = all }

      is : read_number (drop at s) ≡ read_power (number m) (drop i s)
      is =
          ap (λ (o : Option Number). if_some o fails (λ k. read_power (number k) (behind_digits (drop at s))))
          (checked_true {A = Number} (is_number digits) (λ t. record { digits = digits; number = t }) all)
          ∙ ap (read_power (number m)) (w.behind ∙ behind_false s i e)

      worth : digits_from 0 digits ≡ n
      worth = w.value ∙ ap (digits_from n) (digits_false s i e)

      made : (p : Power) → powered_of p (limited (pos (digits_from 0 digits) ∷ [])) ≡ powered_of p (value_in c.part)
      made p = ap (powered_of p) (ap (λ (k : ℕ). limited (pos k ∷ [])) worth ∙ sym v)

pub ruleset numbers = (read_long, digit_more, digit_inside, number_none)

-- ---- the letter
module _ (s : List ℕ) (at : ℕ) where
  by_letter : Option (List ℕ) → Read Factor
  by_letter o = if_some o (read_number (drop at s)) (read_power letter)

  pub unit_letter : is_at s at 116 ≡ true → (c : Cursor) → c.next ≡ at + 1 → value_in c.part ≡ Ok (pos 0 ∷ pos 1 ∷ [])
      → Ahead s at c × Based s (Some c) (read_unit (drop at s))
  unfolding factor_of by_letter
  unit_letter e c n v = (
    record { low = omega (arith, n); high = omega (arith, n, at_inside s at 116 e) },
    (
      letter,
      ap by_letter (after_true s at 116 e) ∙ ap (λ (i : ℕ). read_power letter (drop i s)) (sym n),
      λ p. ap (powered_of p) (sym v),
    ),
  )

  pub unit_number : is_at s at 116 ≡ false → (c : Prelude.Option Cursor) → Based s c (read_number (drop at s)) → Based s c (read_unit (drop at s))
  unfolding by_letter
  unit_number e c w = subst (Based s c) (sym (ap by_letter (after_false s at 116 e))) w
