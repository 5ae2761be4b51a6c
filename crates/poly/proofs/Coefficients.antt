-- The coefficients that count, one place of each recursion as a loop has it; and of those left at least one is no zero.
use mathlib.Core.Path.{◌≡◌, refl, sym, ap, ◌∙◌, subst}
use mathlib.Core.Logic.{⊎_elim}
use mathlib.Core.Bool.{Bool, true, false, cond}
use mathlib.Core.List.{List, [], ◌∷◌}
use Prim.Native.Nat.{ℕ, zero, suc, ◌+◌, ◌-◌, ◌≤◌, ◌<◌}
use native.Mathlib.Nat.{eq-or-lt_of_le}
use native.Mathlib.Omega.{arith}
use native.Mathlib.Numerals.{add-one}
use borrow.Author.Tests.{leb-true, leb-false, not-true, not-false}
use lib.Dec.{leb}
use lib.ListN.{length, get_or, drop, drop_of_length-le}
use lib.Ieee.{Float, nan, eq, ne}
use lib.Seq.{drop-cons}
use Rattle.std.specs.List.{prefix_len}
use Rattle.std.proofs.Common.{one-add}
use Rattle.facts.specs.Cond.{either_way}
use Rattle.float.specs.Literals.{zero64}
use Rattle.float.specs.Methods.{all_finite_of}
use Rattle.std.specs.Prelude.{Result, Ok, Err}
use Rattle.refusals.specs.declared.Refusal.{Refusal}
use Rattle.refusals.specs.declared.Refusal.TheVariants.{NotFinite, TooFew, TooMany}
use Rattle.refusals.specs.Refusals.{outcome_of, value_or}
use Rattle.poly.specs.Coefficients.{trimmed_from, trimmed_of, zeros_of, counted_by, counted_of, refusal_of}

-- ---- trailing zeros
trimmed_at : (s : List Float) (i m : ℕ) → i < m → eq (get_or s i nan) zero64 ≡ false
    → ((k : ℕ) → i + 1 ≤ k → k < m → eq (get_or s k nan) zero64 ≡ true) → trimmed_from s m ≡ i + 1
unfolding trimmed_from
trimmed_at s i zero h last zeros = absurd (omega (arith, h))
trimmed_at s i (suc m) h last zeros =
    ⊎_elim here (λ l. below l (trimmed_at s i m l last (λ k a b. zeros k a (omega arith)))) (eq-or-lt_of_le (let l : i ≤ m = omega arith in l))
  where
    here : i ≡ m → trimmed_from s (suc m) ≡ i + 1
    here e = let none : eq (get_or s m nan) zero64 ≡ false = subst (λ (k : ℕ). eq (get_or s k nan) zero64 ≡ false) e last in rw none (omega arith)

    below : i < m → trimmed_from s m ≡ i + 1 → trimmed_from s (suc m) ≡ i + 1
    below l rest = rw (zeros m (omega arith) (omega arith)) rest

trim_turn : (s : List Float) (n : ℕ) → 0 < n
    → trimmed_from s n ≡ cond (eq (get_or s (n - 1) nan) zero64) (trimmed_from s (n - 1)) n
unfolding trimmed_from
trim_turn s n h =
    let e : n ≡ suc (n - 1) = omega arith in
    ap (λ (k : ℕ). trimmed_from s k) e
    ∙ ap (λ (k : ℕ). cond (eq (get_or s (n - 1) nan) zero64) (trimmed_from s (n - 1)) k) (sym e)

pub trim_stop : (s : List Float) (n : ℕ) → 0 < n → eq (get_or s (n - 1) nan) zero64 ≡ false
    → trimmed_from s n ≡ n
trim_stop s n h t = trim_turn s n h ∙ simp t

pub trim_go : (s : List Float) (n : ℕ) → 0 < n → eq (get_or s (n - 1) nan) zero64 ≡ true
    → trimmed_from s n ≡ trimmed_from s (n - 1)
trim_go s n h t = trim_turn s n h ∙ simp t

pub trim_end : (s : List Float) (n : ℕ) → n ≤ 0 → trimmed_from s n ≡ 0
unfolding trimmed_from
trim_end s n h = let e : n ≡ 0 = omega arith in ap (λ (k : ℕ). trimmed_from s k) e

-- up to the last one that is no zero
pub trimmed_last : (s : List Float) (i : ℕ) → i < length s → ne (get_or s i nan) zero64 ≡ true
    → ((k : ℕ) → i + 1 ≤ k → k < length s → ne (get_or s k nan) zero64 ≡ false) → i + 1 ≡ trimmed_of s
unfolding trimmed_of ne
trimmed_last s i h last zeros = sym (trimmed_at s i (length s) h (not-true _ last) (λ k a b. not-false _ (zeros k a b)))

none_from : (s : List Float) (m : ℕ) → ((k : ℕ) → k < m → eq (get_or s k nan) zero64 ≡ true) → trimmed_from s m ≡ 0
unfolding trimmed_from
none_from s zero zeros = refl
none_from s (suc m) zeros = rw (zeros m (omega arith)) (none_from s m (λ k l. zeros k (omega arith)))

pub trimmed_none : (s : List Float) → ((k : ℕ) → k < length s → ne (get_or s k nan) zero64 ≡ false) → 0 ≡ trimmed_of s
unfolding trimmed_of ne
trimmed_none s zeros = sym (none_from s (length s) (λ k l. not-false _ (zeros k l)))

-- ---- leading zeros
abbrev pub is_zero : Float → Bool
is_zero c = eq c zero64

pub zeros_prefix : (s : List Float) → prefix_len is_zero s ≡ zeros_of s
unfolding zeros_of
zeros_prefix [] = refl
zeros_prefix (c ∷ s) = ap (λ (n : ℕ). cond (eq c zero64) n 0) (one-add (prefix_len is_zero s) ∙ ap (λ (n : ℕ). suc n) (zeros_prefix s))

zeros_turn : (s : List Float) (i : ℕ) → i < length s
    → zeros_of (drop i s) ≡ cond (eq (get_or s i nan) zero64) (suc (zeros_of (drop (i + 1) s))) 0
unfolding zeros_of
zeros_turn s i h = rw (add-one, drop-cons s i nan)

pub zeros_go : (s : List Float) (i : ℕ) → i < length s → eq (get_or s i nan) zero64 ≡ true
    → i + zeros_of (drop i s) ≡ i + 1 + zeros_of (drop (i + 1) s)
zeros_go s i h t =
    let e : zeros_of (drop i s) ≡ suc (zeros_of (drop (i + 1) s)) = zeros_turn s i h ∙ simp t in
    omega arith

pub zeros_stop : (s : List Float) (i : ℕ) → i < length s → eq (get_or s i nan) zero64 ≡ false
    → i + zeros_of (drop i s) ≡ i
zeros_stop s i h t = let e : zeros_of (drop i s) ≡ 0 = zeros_turn s i h ∙ simp t in omega arith

pub zeros_end : (s : List Float) (i : ℕ) → length s ≤ i → i + zeros_of (drop i s) ≡ i
unfolding zeros_of
zeros_end s i h =
    let e : zeros_of (drop i s) ≡ 0 = ap zeros_of (drop_of_length-le s {i = i} h) in omega arith

-- ---- the last one left is no zero, so fewer zeros than are left come first
pub last_left : (s : List Float) (m : ℕ) → 0 < trimmed_from s m → eq (get_or s (trimmed_from s m - 1) nan) zero64 ≡ false
unfolding trimmed_from
last_left s zero h = absurd (omega (arith, h))
last_left s (suc k) h = go (eq (get_or s k nan) zero64) refl (last_left s k) h
  where
    go : (b : Bool) → eq (get_or s k nan) zero64 ≡ b → (0 < trimmed_from s k → eq (get_or s (trimmed_from s k - 1) nan) zero64 ≡ false)
        → 0 < cond b (trimmed_from s k) (suc k) → eq (get_or s (cond b (trimmed_from s k) (suc k) - 1) nan) zero64 ≡ false
    go true e i h = i h
    go false e i h = let last : suc k - 1 ≡ k = omega arith in rw last e

pub trimmed_most : (s : List Float) (m : ℕ) → trimmed_from s m ≤ m
unfolding trimmed_from
trimmed_most s zero = omega arith
trimmed_most s (suc k) = let i = trimmed_most s k in either_way (λ (n : ℕ). n ≤ suc k) (eq (get_or s k nan) zero64) (omega arith) (omega arith)

zeros_most : (s : List Float) (k : ℕ) → eq (get_or s k nan) zero64 ≡ false → zeros_of s ≤ k
unfolding zeros_of
zeros_most [] k e = omega arith
zeros_most (c ∷ s) zero e = rw e (omega arith)
zeros_most (c ∷ s) (suc k) e = let i = zeros_most s k e in either_way (λ (n : ℕ). n ≤ suc k) (eq c zero64) (omega arith) (omega arith)

pub zeros_below : (s : List Float) → 0 < trimmed_of s → zeros_of s < trimmed_of s
unfolding trimmed_of
zeros_below s h = let m = zeros_most s (trimmed_of s - 1) (last_left s (length s) h) in omega arith

-- ---- what is not refused
-- how many count, by the three tests
abbrev pub tested : Bool → Bool → Bool → ℕ → Result ℕ Refusal
tested finite few five n = cond finite (cond few (Err TooFew) (cond five (Ok n) (Err TooMany))) (Err NotFinite)

tested_is : (f a b : Bool) (n k : ℕ) → tested f a b n ≡ Ok k → (k ≡ n) × (a ≡ false) × (b ≡ true)
tested_is false a b n k e = absurd (omega (arith, ap outcome_of e))
tested_is true true b n k e = absurd (omega (arith, ap outcome_of e))
tested_is true false false n k e = absurd (omega (arith, ap outcome_of e))
tested_is true false true n k e = (sym (ap (value_or 0) e), refl, refl)

counted_is : (finite : Bool) (n k : ℕ) → counted_by finite n ≡ Ok k → (k ≡ n) × (1 < n) × (n ≤ 5)
unfolding counted_by
counted_is finite n k e = let t = tested_is finite (leb n 1) (leb n 5) n k e in (t.0, leb-false n 1 t.1, leb-true n 5 t.2)

-- a list that no number refuses: as many count as are left
tested_when : (f a b : Bool) (n : ℕ) → outcome_of (tested f a b n) ≡ 0 → tested f a b n ≡ Ok n
tested_when false a b n e = absurd (omega (arith, e))
tested_when true true b n e = absurd (omega (arith, e))
tested_when true false false n e = absurd (omega (arith, e))
tested_when true false true n e = refl

pub counted_when : (s : List Float) → refusal_of s ≡ 0 → counted_of s ≡ Ok (trimmed_of s)
unfolding counted_by
counted_when s e = tested_when (all_finite_of s) (leb (trimmed_of s) 1) (leb (trimmed_of s) 5) (trimmed_of s) e

-- the polynomial without its zeros is of a degree from 0 to 4
pub room : (s : List Float) (n zeros : ℕ) → counted_of s ≡ Ok n → zeros ≡ zeros_of s
    → (n ≡ trimmed_of s) × (zeros < n) × (n ≤ 5) × (n ≤ length s)
unfolding trimmed_of
room s n zeros e z =
    let w = counted_is (all_finite_of s) (trimmed_of s) n e in
    let h = w.1 in
    let b = zeros_below s (omega arith) in
    (w.0, omega (arith, w.0, z, b), omega (arith, w.0, w.2), omega (arith, w.0, trimmed_most s (length s)))
