-- Where the power of a significand w of 53 digits lies, by the thresholds that it reaches.
use mathlib.Core.Path.{◌≡◌, sym, ap, ◌∙◌, subst}
use mathlib.Core.Logic.{⊎_elim}
use mathlib.Core.List.{List}
use lib.ListN.{get_or, length}
use Rattle.std.proofs.Common.{take, drop, get_or-take, get_or-drop, length-take}
use Prim.Native.Nat.{ℕ, zero, suc, ◌+◌, ◌-◌, ◌^◌, ◌≤◌, ◌<◌}
use native.Mathlib.Omega.{arith}
use native.Mathlib.Nat.{le_trans, lt_of_le_of_lt, lt_irrefl, eq-zero-or-pos, pow-le-pow_left, pow-lt-pow_left}
use Rattle.algebra.specs.NatOrder.{le_or_lt}
use Rattle.log2.specs.Parts.{Threshold, Thresholds, Fraction}

-- every w reaches the first threshold
pub not_first : (n w t : ℕ) → Threshold n t → 2 ^ 52 ≤ w → w < t → 0 < n
not_first n w t q a l =
    ⊎_elim (λ z. absurd (lt_irrefl (2 ^ 13312) (lt_of_le_of_lt (pow-le-pow_left (le_trans a (under w t l)) 256)
    (subst (λ (m : ℕ). (t - 1) ^ 256 < 2 ^ (m + 13312)) z q.least)))) (λ p. p) (eq-zero-or-pos n)
  where
    under : (w t : ℕ) → w < t → w ≤ t - 1
    under w t l = omega arith

-- a threshold that w reaches
pub reached : (n w t : ℕ) → Threshold n t → t ≤ w → 2 ^ (n + 13312) ≤ w ^ 256
reached n w t q l = le_trans q.reaches (pow-le-pow_left l 256)

pub first : (table : List ℕ) (w : ℕ) → Thresholds table → 2 ^ 52 ≤ w → 2 ^ (0 + 13312) ≤ w ^ 256
first table w q a =
    let t = get_or table 0 0 in
    let h = q.entry 0 (omega arith) in
    ⊎_elim (λ l. reached 0 w t h l) (λ l. absurd (lt_irrefl 0 (not_first 0 w t h a l))) (le_or_lt t w)

-- and the next one, which it does not
pub next_above : (n w t : ℕ) → n < 255 → 2 ^ (n + 13312) ≤ w ^ 256 → Threshold (n + 1) t → w < t → Fraction w n
next_above n w t s a q l = record {
  small = omega arith;
  low = a;
  high =
      lt_of_le_of_lt (pow-le-pow_left (let e : w ≤ t - 1 = omega arith in e) 256)
      (subst (λ (m : ℕ). (t - 1) ^ 256 < 2 ^ (m + 13312)) (let e : n + 1 ≡ suc n = omega arith in e) q.least);
}

-- above the last one is 2 ^ 53
pub last_one : (n w : ℕ) → n < 256 → 255 ≤ n → 2 ^ (n + 13312) ≤ w ^ 256 → w < 2 ^ 53 → Fraction w n
last_one n w s g a l = record {
  small = s;
  low = a;
  high = subst (λ (m : ℕ). w ^ 256 < 2 ^ (m + 13312)) (let e : 256 ≡ suc n = omega arith in e) (pow-lt-pow_left l not_zero);
}
  where
    not_zero : ◌≡◌ {A = ℕ} 256 0 → ⊥
    not_zero e = omega arith

-- ---- the two searches, each of a part s of the table
within : (table s : List ℕ) (a m i : ℕ) → s ≡ take m (drop a table) → i < length s → i < m
within table s a m i e l = let h = subst (λ (x : List ℕ). i < length x) e l in omega (arith, length-take m (drop a table), h)

item : (table s : List ℕ) (a m i k : ℕ) → s ≡ take m (drop a table) → i < length s → k ≡ a + i → get_or s i 0 ≡ get_or table k 0
item table s a m i k e l h =
    ap (λ (s : List ℕ). get_or s i 0) e ∙ get_or-take m (drop a table) i 0 (within table s a m i e l)
    ∙ get_or-drop a table i 0 ∙ ap (λ (k : ℕ). get_or table k 0) (sym h)

-- one up to the guess that w reaches
pub down : (table s : List ℕ) (guess i w : ℕ) → Thresholds table → s ≡ take (guess + 1 - 1) (drop 1 table) → guess < 256 → i < length s → get_or s i 0 ≤ w
    → 2 ^ (i + 1 + 13312) ≤ w ^ 256
down table s guess i w q e h l a =
    let b = within table s 1 (guess + 1 - 1) i e l in
    reached (i + 1) w (get_or table (i + 1) 0) (q.entry (i + 1) (omega arith))
    (subst (λ (x : ℕ). x ≤ w) (item table s 1 (guess + 1 - 1) i (i + 1) e l (omega arith)) a)

module _ (table s : List ℕ) (n w : ℕ) (q : Thresholds table) (e : s ≡ take (256 - (n + 1)) (drop (n + 1) table)) (a : 2 ^ (n + 13312) ≤ w ^ 256) where
  -- the last one below which w reaches all
  all : (i : ℕ) → n + i < 256 → i ≤ length s → ((k : ℕ) → k < i → get_or s k 0 ≤ w) → 2 ^ (n + i + 13312) ≤ w ^ 256
  all zero h l g = subst (λ (m : ℕ). 2 ^ (m + 13312) ≤ w ^ 256) (let z : n ≡ n + 0 = omega arith in z) a
  all (suc j) h l g =
      reached (n + suc j) w (get_or table (n + suc j) 0) (q.entry (n + suc j) h)
      (subst (λ (x : ℕ). x ≤ w) (item table s (n + 1) (256 - (n + 1)) j (n + suc j) e (omega arith) (omega arith)) (g j (omega arith)))

  pub up : (i : ℕ) → i < length s → ((k : ℕ) → k < i → get_or s k 0 ≤ w) → w < get_or s i 0 → Fraction w (n + i)
  up i l g b =
      let m = within table s (n + 1) (256 - (n + 1)) i e l in
      next_above (n + i) w (get_or table (n + i + 1) 0) (omega arith) (all i (omega arith) (omega arith) g)
      (q.entry (n + i + 1) (omega arith))
      (subst (λ (x : ℕ). w < x) (item table s (n + 1) (256 - (n + 1)) i (n + i + 1) e l (omega arith)) b)

  pub top : n < 256 → length s ≡ 256 - (n + 1) → ((k : ℕ) → k < length s → get_or s k 0 ≤ w) → w < 2 ^ 53 → Fraction w 255
  top h l g b =
      last_one 255 w (omega arith) (omega arith)
      (subst (λ (m : ℕ). 2 ^ (m + 13312) ≤ w ^ 256) (let z : n + length s ≡ 255 = omega arith in z) (all (length s) (omega arith) (omega arith) g)) b
