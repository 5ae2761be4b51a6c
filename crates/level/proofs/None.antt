-- A level list has no gap: where the exponents, raised by s at each place, lie in one window, magnitude_split finds none (`level_none`).
use mathlib.Core.Path.{◌≡◌, refl, sym, subst}
use mathlib.Core.Logic.{⊎_elim}
use mathlib.Core.Bool.{false}
use mathlib.Core.List.{List}
use Prim.Native.Nat.{ℕ, zero, suc, ◌+◌, ◌-◌, ◌*◌, ◌^◌, ◌≤◌, ◌<◌}
use native.Mathlib.Omega.{arith}
use native.Mathlib.Nat.{le_trans, le_of_eq, le_refl, mul-le-mul, mul-le-mul_right}
use borrow.Author.Tests.{le-leb}
use lib.Dec.{lit≤}
use lib.IntN.{ℤ, pos, negsuc, nat_abs, neg_ℤ, ◌*ℤ◌}
use lib.ListN.{get_or}
use lib.Ieee.{Float, nan, binary64, add, sub, div, lt, of_int}
use Rattle.algebra.specs.NatOrder.{le_or_lt}
use Rattle.algebra.specs.IntOrder.{nat_abs_mul, nat_abs_add, nat_abs_sub}
use Rattle.rounding.specs.Units.{one_units}
use Rattle.rounding.proofs.Value.{limit}
use Rattle.float.specs.Literals.{eight64}
use Rattle.float.specs.Methods.{abs_of}
use Rattle.decode.specs.Exponent.{exponent_of}
use Rattle.log2.specs.Log.{log2_grid_of}
use Rattle.scaled.specs.Exponent.{scale_exponent_of}
use Rattle.scaled.specs.Scaled.{top_of, shift_of, sizes_of, log_size_of, log_sizes_of, scaled_of}
use Rattle.scaled.proofs.Best.{exponent_bounded}
use Rattle.scaled.proofs.Digits.{exponent_small}
use Rattle.split.specs.declared.Hull.{Hull}
use Rattle.split.specs.Hull.{width_of, hull_of, mag_of}
use Rattle.std.specs.Prelude.{None}
use Rattle.split.specs.Gap.{split_from, magnitude_split_of}
use Rattle.split.proofs.Rises.{hull_rising}
use Rattle.split.proofs.Gaps.{gap_end}
use Rattle.level.specs.Level.{NoGap, Raised}
use Rattle.level.proofs.Gap.{no_gap}
use Rattle.level.proofs.Logs.{Is, is_sum, is_neg, is_times, Log, log_of}

-- ---- where no three logarithms give a gap, none is found: the indices of a hull rise
abbrev Flat : List Float → ℕ → Type 0
Flat lg d = (i j l : ℕ) → i < j → j < l → l ≤ d
    → lt eight64 (sub binary64 (div binary64 (sub binary64 (get_or lg j nan) (get_or lg l nan)) (width_of j l))
    (div binary64 (sub binary64 (get_or lg i nan) (get_or lg j nan)) (width_of i j))) ≡ false

module _ (lg : List Float) (d : ℕ) (D : d ≤ 4) (N : Flat lg d) where
  abbrev s : Hull
  s = hull_of lg d

  from_none : (k : ℕ) → k + 1 < s.h → split_from lg s.at k ≡ None
  unfolding split_from mag_of
  from_none zero l = refl
  from_none (suc k) l =
      let R = hull_rising lg d D in
      let c = R.below (k + 1 + 1) (omega arith) in
      rw (N (get_or s.at k 0) (get_or s.at (k + 1) 0) (get_or s.at (k + 1 + 1) 0) (R.order k (omega arith)) (R.order (k + 1) (omega arith)) (omega arith))
      (from_none k (omega arith))

  no_split : magnitude_split_of lg d ≡ None
  unfolding magnitude_split_of
  no_split = ⊎_elim (λ l. from_none (s.h - 2) (omega arith)) (λ l. sym (gap_end lg s.at s.h (omega arith))) (le_or_lt 2 s.h)

-- ---- a whole number by its two sides
record Signed (z : ℤ) : Type 0 where
  up : ℕ
  down : ℕ
  is : Is z up down

signed : (z : ℤ) → Signed z
signed (pos k) = record { up = k; down = 0; is = omega arith }
signed (negsuc k) = record { up = 0; down = suc k; is = omega arith }

-- ---- three logarithms, at i, i + w and i + w + w', in units of which 1 has 2 ^ 30
module _ (i w k k' e e' t t' s lo q p n p' n' : ℕ) (W : 0 < w) (H : k' + s * (i + w) + 8400 ≤ lo + 3 + 2100 * (i + w))
    (high : p' + (1074 + (e' * (i + w) + t)) * (2 ^ 30 * q) + 2 ^ 22 * q ≤ n' + (k' + 1 + (e * (i + w) + t')) * (2 ^ 30 * q) + q) where
  rise : lo + 2100 * i ≤ k + s * i + 8400 → n + (k + (e * i + t')) * (2 ^ 30 * q) ≤ p + (1074 + (e' * i + t)) * (2 ^ 30 * q) + q
      → n + p' + w * ((e' + s) * (2 ^ 30 * q)) + 2 ^ 21 * q ≤ p + n' + w * ((4 + (e + 2100)) * (2 ^ 30 * q))
  rise l low =
      let a : k' + s * (i + w) ≤ k + s * i + (3 + 2100 * w) = omega arith in
      let b = mul-le-mul_right q a in
      let c = mul-le-mul_right q W in
      omega (arith, b, c, high, low)

module _ (i w k k' e e' t t' s lo q p n p' n' : ℕ) (W : 0 < w) (H : k' + s * i + 8400 ≤ lo + 3 + 2100 * i)
    (high : p' + (1074 + (e' * i + t)) * (2 ^ 30 * q) + 2 ^ 22 * q ≤ n' + (k' + 1 + (e * i + t')) * (2 ^ 30 * q) + q) where
  drop : lo + 2100 * (i + w) ≤ k + s * (i + w) + 8400 → n + (k + (e * (i + w) + t')) * (2 ^ 30 * q) ≤ p + (1074 + (e' * (i + w) + t)) * (2 ^ 30 * q) + q
      → p' + n + w * ((e + 2100) * (2 ^ 30 * q)) + 2 ^ 21 * q ≤ n' + p + w * ((4 + (e' + s)) * (2 ^ 30 * q))
  drop l low =
      let a : k' + s * i + 2100 * w ≤ k + s * (i + w) + 3 = omega arith in
      let b = mul-le-mul_right q a in
      let c = mul-le-mul_right q W in
      omega (arith, b, c, high, low)

-- ---- the whole
module _ (g : ℕ) (one : one_units ≡ 2 ^ 30 * 2 ^ g) (room : 2 ^ 53 * 2 ^ g ≤ limit)
    (a : List Float) (d : ℕ) (h : 3 ≤ d) (D : d ≤ 4) (s lo : ℕ) (R : (i : ℕ) → i ≤ d → Raised a d s lo (lo + 3) i) where
  abbrev e : ℤ
  e = scale_exponent_of a d

  abbrev top : ℤ
  top = top_of (get_or a d nan) e d

  E : Signed e
  E = signed e

  t : Signed top
  t = signed top

  times_small : (i : ℕ) → i ≤ 4 → nat_abs (e *ℤ pos i) ≤ 2 ^ 13 * 4
  times_small i l = le_trans (le_of_eq (nat_abs_mul e (pos i))) (mul-le-mul (exponent_bounded a d) l)

  shift_small : (i : ℕ) → i ≤ 4 → nat_abs (shift_of e top i) ≤ 2 ^ 18
  unfolding shift_of top_of
  shift_small i l =
      let x = exponent_small (get_or a d nan) (R d (le_refl d)).binade.held in
      omega (arith, nat_abs_sub (e *ℤ pos i) top, nat_abs_add (exponent_of (get_or a d nan)) (e *ℤ pos d), times_small i l, times_small d D, x)

  shift_is : (i : ℕ) → Is (shift_of e top i) (E.up * i + t.down) (E.down * i + t.up)
  unfolding shift_of
  shift_is i =
      is_sum (e *ℤ pos i) (neg_ℤ top) (E.up * i) (E.down * i) t.down t.up (is_times e i E.up E.down E.is) (is_neg top t.up t.down t.is)

  abbrev lg : List Float
  lg = log_sizes_of a d e top

  abbrev log_at : ℕ → Float
  log_at i = add binary64 (log2_grid_of (abs_of (get_or a i nan))) (of_int binary64 (shift_of e top i))

  log_at_is : (i : ℕ) → i ≤ d → log_at i ≡ get_or lg i nan
  unfolding log_sizes_of log_size_of sizes_of
  log_at_is zero l = rw (le-leb 3 d h, le-leb 0 d l)
  log_at_is (suc zero) l = rw (le-leb 3 d h, le-leb 1 d l)
  log_at_is (suc (suc zero)) l = rw (le-leb 3 d h, le-leb 2 d l)
  log_at_is (suc (suc (suc zero))) l = rw (le-leb 3 d h)
  log_at_is (suc (suc (suc (suc zero)))) l = rw (le-leb 3 d h, le-leb 4 d l)
  log_at_is (suc (suc (suc (suc (suc i))))) l = absurd (omega arith)

  log : (i : ℕ) (l : i ≤ d) → Log g (get_or lg i nan) (R i l).k (E.up * i + t.down) (E.down * i + t.up)
  log i l =
      subst (λ (x : Float). Log g x (R i l).k (E.up * i + t.down) (E.down * i + t.up)) (log_at_is i l)
      (log_of g one room (get_or a i nan) (R i l).k (R i l).binade (shift_of e top i) (shift_small i (le_trans l D)) _ _ (shift_is i))

  abbrev FlatAt : ℕ → ℕ → ℕ → ℕ → ℕ → Type 0
  FlatAt i j l w w' =
      lt eight64 (sub binary64 (div binary64 (sub binary64 (get_or lg j nan) (get_or lg l nan)) (of_int binary64 (pos w')))
      (div binary64 (sub binary64 (get_or lg i nan) (get_or lg j nan)) (of_int binary64 (pos w)))) ≡ false

  flat_at : (i w w' : ℕ) → 0 < w → 0 < w' → i + w + w' ≤ d → FlatAt i (i + w) (i + w + w') w w'
  flat_at i w w' W W' F = go (omega arith) (omega arith)
    where
      eight : (e e' q o : ℕ) → o ≡ 2 ^ 30 * q → (4 + (e + 2100)) * (2 ^ 30 * q) + (4 + (e' + s)) * (2 ^ 30 * q)
          ≤ (e' + s) * (2 ^ 30 * q) + (e + 2100) * (2 ^ 30 * q) + 8 * o
      eight e e' q o is = omega (arith, is)

      go : (x : i ≤ d) (y : i + w ≤ d) → FlatAt i (i + w) (i + w + w') w w'
      go x y =
          let A = log i x in
          let B = log (i + w) y in
          let C = log (i + w + w') F in
          let H = (R (i + w) y).high (omega arith) (omega arith) in
          let u = 2 ^ 30 * 2 ^ g in
          no_gap g one room A.is B.is C.is A.small B.small C.small w w' W (omega arith) W' (omega arith)
          ((4 + (E.up + 2100)) * u) ((E.down + s) * u) ((4 + (E.down + s)) * u) ((E.up + 2100) * u)
          (rise i w (R i x).k (R (i + w) y).k E.up E.down t.up t.down s lo (2 ^ g) A.p A.n B.p B.n W H B.high
          (R i x).low A.low)
          (drop (i + w) w' (R (i + w + w') F).k (R (i + w) y).k E.up E.down t.up t.down s lo (2 ^ g) C.p C.n B.p
          B.n W' H B.high (R (i + w + w') F).low C.low)
          (eight E.up E.down (2 ^ g) one_units one)

  flat : Flat lg d
  flat i j l ij jl ld =
      let x : i + (j - i) ≡ j = omega arith in
      let y : j + (l - j) ≡ l = omega arith in
      subst (λ (n : ℕ). FlatAt i j n (j - i) (l - j)) y
      (subst (λ (n : ℕ). FlatAt i n (n + (l - j)) (j - i) (l - j)) x (flat_at i (j - i) (l - j) (omega arith) (omega arith) (omega arith)))

  none : NoGap a d
  unfolding scaled_of
  none = no_split lg d D flat

pub level_none : (a : List Float) (d : ℕ) → 3 ≤ d → d ≤ 4 → (s lo : ℕ) → ((i : ℕ) → i ≤ d → Raised a d s lo (lo + 3) i) → NoGap a d
unfolding one_units limit
level_none = none 1044 refl (lit≤ tt)
