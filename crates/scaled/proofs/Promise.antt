-- 'Scaled coefficients are at most the leading one in size, which lies in [1, 2)', for all finite coefficients and a last one that is not zero. In units: with
-- e = p - q and the leading exponent t - 1074, f_i is a_i times 2^(1074 + q j) / 2^(t + p j), j = d - i; |a_d| has w * 2^t / 2^52 units, and so |a_i| at most
-- that times 2^(p j) / 2^(q j): |f_i| is at most w * 2^1022, which rounding keeps, and |f_d| is just that.
use mathlib.Core.Path.{◌≡◌, refl, sym, ap, ◌∙◌, subst}
use mathlib.Core.Bool.{true, false, ◌&&◌, false≢true}
use mathlib.Core.List.{List}
use mathlib.Core.Logic.{◌⊎◌, inl, inr, ⊎_elim}
use Prim.Native.Nat.{ℕ, zero, suc, ◌+◌, ◌-◌, ◌*◌, ◌^◌, ◌≤◌, ◌<◌}
use native.Mathlib.Omega.{arith}
use native.Mathlib.Nat.{le_of_mul-le-mul_right, mul_assoc, mul-one, mul-zero, mul_right_comm, mul-le-mul_right, le_trans}
use native.Mathlib.Nat.{le_refl, le_of_eq, le_of_lt, le_of_suc-le-suc, lt_of_lt_of_le, lt_of_le_of_lt, sub_self}
use borrow.Author.Tests.{le-leb}
use lib.Dec.{lit≤}
use lib.Pow.{pow-add, pow_pos, shl_lt}
use lib.IntN.{ℤ, pos, ◌+ℤ◌, ◌-ℤ◌, ◌*ℤ◌}
use lib.ListN.{get_or}
use lib.Ieee.{Float, nan, inf, fin, binary64, fits, le, up, down, of_bits}
use lib.Ieee.Bits.{is_true}
use lib.Ieee.Fits.{down_pos}
use lib.Ieee.Order.{le_of_values}
use Rattle.algebra.specs.RingInt.{ringℤ, ◌:+◌, ◌:-◌, ◌:*◌, ◌:=◌}
use Rattle.algebra.specs.NatOrder.{le_or_lt, pow2_join}
use Rattle.facts.specs.Arrays.{fill_from}
use Rattle.facts.specs.Cond.{both_hold}
use Rattle.float.specs.Literals.{two64}
use Rattle.float.specs.Methods.{abs_of, is_finite_of}
use Rattle.float.specs.Units.{units_of, Finite}
use Rattle.decode.specs.Shape.{Significand, Normal}
use Rattle.decode.proofs.Fields.{shifted}
use Rattle.decode.proofs.Highest.{exponent_is}
use Rattle.scaled.specs.Exponent.{scale_exponent_of}
use Rattle.scaled.specs.Scaled.{top_of, shift_of, coefficient_of, coefficients_of, scaled_of}
use Rattle.scaled.proofs.Digits.{digits, units_fraction}
use Rattle.scaled.proofs.Held.{parts, out_of, times}
use Rattle.scaled.proofs.Smallest.{regular, exponent_holds}
use Rattle.scaled.proofs.Chained.{Bounded, bounded}

-- ---- a place of an array made by a rule
fill_at : (h : ℕ → Float) (n i k : ℕ) → i < n → get_or (fill_from k n h) i nan ≡ h (k + i)
fill_at h zero i k l = absurd (none l)
  where
    none : i < 0 → ⊥
    none l = omega arith
fill_at h (suc n) zero k l = let e : k ≡ k + 0 = omega arith in ap h e
fill_at h (suc n) (suc i) k l = fill_at h n i (k + 1) (le_of_suc-le-suc l) ∙ (let e : k + 1 + i ≡ k + suc i = omega arith in ap h e)

f_at : (a : List Float) (d i : ℕ) → i ≤ 4 → let e = scale_exponent_of a d in
    get_or (scaled_of a d).f i nan ≡ coefficient_of a d e (top_of (get_or a d nan) e d) i
unfolding scaled_of coefficients_of
f_at a d i l =
    let e = scale_exponent_of a d in
    fill_at (coefficient_of a d e (top_of (get_or a d nan) e d)) 5 i 0 (omega arith)
    ∙ (let z : 0 + i ≡ i = omega arith in ap (coefficient_of a d e (top_of (get_or a d nan) e d)) z)

-- ---- 53 digits of a number that is not zero
normal : (n w k : ℕ) → Significand n w k → 0 < n → (w' : ℕ) × (t : ℕ) × Normal n w' t
normal n w k h P = go h.led
  where
    full : 2 ^ 52 ≤ w → Normal n w (k + 52)
    full l =
        record {
          value = ap (λ (x : ℕ). w * x) (pow-add 2 k 52) ∙ sym (mul_assoc w (2 ^ k) (2 ^ 52))
              ∙ ap (λ (x : ℕ). x * 2 ^ 52) h.value;
          short = h.short;
          led = l;
          reach = omega (arith, h.reach);
        }

    same : k ≡ 0 → w ≡ n
    same z = sym (mul-one w) ∙ ap (λ (x : ℕ). w * 2 ^ x) (sym z) ∙ h.value

    go : (2 ^ 52 ≤ w) ⊎ (k ≡ 0) → (w' : ℕ) × (t : ℕ) × Normal n w' t
    go (inl l) = (w, k + 52, full l)
    go (inr z) =
        ⊎_elim (λ l. (w, k + 52, full l)) (λ l. (_, _, (shifted n (λ e. omega arith) (subst (λ (x : ℕ). x < 2 ^ 52) (same z) l)).digits)) (le_or_lt (2 ^ 52) w)

-- ---- at most 2
small : (x : Float) → Finite x → units_of x ≤ 2 ^ 1075 → (fits binary64 x && le (abs_of x) two64) ≡ true
unfolding is_finite_of abs_of of_bits
small nan G h = absurd (false≢true G.finite)
small (inf s) G h = absurd (false≢true G.finite)
small (fin s m e) G h =
    both_hold _ _ G.held
    (is_true (le (fin false m e) (fin false 1 (pos 1)))
    (le_of_values (fin false m e) (fin false 1 (pos 1)) (m * up e) (down e) 2 1 (down_pos e) (pow_pos 0) (refl, refl) (refl, refl)
    (le_of_mul-le-mul_right
    (le_trans (le_of_eq (ap (λ (y : ℕ). y * 2 ^ 1074) (mul-one (m * up e)) ∙ sym (units_fraction s m e G.held)))
    (le_trans (mul-le-mul_right (down e) h) (le_of_eq (twice (down e) (2 ^ 1074) (2 ^ 1075) refl))))
    (pow_pos 1074))))
  where
    twice : (z x y : ℕ) → y ≡ 2 * x → y * z ≡ 2 * z * x
    twice z x y e = ap (λ (u : ℕ). u * z) e ∙ mul_right_comm 2 x z

-- ---- the shift
shift_is : (p q t i j : ℕ) → (pos p -ℤ pos q) *ℤ pos i -ℤ ((pos t -ℤ pos 1074) +ℤ (pos p -ℤ pos q) *ℤ pos (i + j)) ≡ pos (1074 + q * j) -ℤ pos (t + p * j)
shift_is p q t i j =
    ringℤ 6 (λ p q t i j o. (p :- q) :* i :- ((t :- o) :+ (p :- q) :* (i :+ j)) := (o :+ q :* j) :- (t :+ p :* j)) tt (pos p) (pos q)
    (pos t) (pos i) (pos j) (pos 1074)

-- a_0 to a_d are finite, and a_d is not zero
module _ (a : List Float) (d : ℕ) (D : d ≤ 4) (F : (i : ℕ) → i ≤ d → Finite (get_or a i nan)) (P : 0 < units_of (get_or a d nan)) where
  abbrev lead : Float
  lead = get_or a d nan

  abbrev e : ℤ
  e = scale_exponent_of a d

  -- the digits w of the leading coefficient, and its t
  decoded : (w : ℕ) × (t : ℕ) × Normal (units_of lead) w t
  decoded = let v = digits lead (F d (le_refl d)) in normal (units_of lead) v.0 v.1 v.2 P

  w : ℕ
  w = decoded.0

  t : ℕ
  t = decoded.1

  N : Normal (units_of lead) w t
  unfolding w t
  N = decoded.2

  -- e = p - q
  split : (p : ℕ) × (q : ℕ) × (e ≡ pos p -ℤ pos q)
  split = parts e

  p : ℕ
  p = split.0

  q : ℕ
  q = split.1

  e_is : e ≡ pos p -ℤ pos q
  unfolding p q
  e_is = split.2

  shift : (i : ℕ) → i ≤ d → shift_of e (top_of lead e d) i ≡ pos (1074 + q * (d - i)) -ℤ pos (t + p * (d - i))
  unfolding shift_of top_of
  shift i l =
      ap (λ (z : ℤ). e *ℤ pos i -ℤ (z +ℤ e *ℤ pos d)) (exponent_is lead w t (regular lead P) N)
      ∙ ap (λ (z : ℤ). z *ℤ pos i -ℤ ((pos t -ℤ pos 1074) +ℤ z *ℤ pos d)) e_is
      ∙ (let m : d ≡ i + (d - i) = omega arith in ap (λ (k : ℕ). (pos p -ℤ pos q) *ℤ pos i -ℤ ((pos t -ℤ pos 1074) +ℤ (pos p -ℤ pos q) *ℤ pos k)) m)
      ∙ shift_is p q t i (d - i)

  lead_is : units_of lead * 2 ^ 1074 ≡ w * 2 ^ (1022 + t)
  lead_is =
      sym (pow2_join (units_of lead) 52 1022)
      ∙ ap (λ (x : ℕ). x * 2 ^ 1022) (sym N.value)
      ∙ mul_right_comm w (2 ^ t) (2 ^ 1022)
      ∙ pow2_join w 1022 t

  -- |a_i| ≤ |a_d|·2^(e(d − i))
  held : (i : ℕ) → i ≤ d → units_of (get_or a i nan) * 2 ^ (q * (d - i)) ≤ units_of lead * 2 ^ (p * (d - i))
  held i l = ⊎_elim under here (le_or_lt (suc i) d)
    where
      under : i < d → units_of (get_or a i nan) * 2 ^ (q * (d - i)) ≤ units_of lead * 2 ^ (p * (d - i))
      under m =
          out_of (units_of (get_or a i nan)) (units_of lead) (p * (d - i)) (q * (d - i)) (e *ℤ pos (d - i))
          (ap (λ (z : ℤ). z *ℤ pos (d - i)) e_is ∙ times p q (d - i)) (exponent_holds a d F P i m)

      here : d < suc i → units_of (get_or a i nan) * 2 ^ (q * (d - i)) ≤ units_of lead * 2 ^ (p * (d - i))
      here m =
          let z : i ≡ d = omega arith in
          rw (z, sub_self, mul-zero, mul-zero) (le_refl (units_of lead * 2 ^ 0))

  bound : (i : ℕ) → i ≤ d → units_of (get_or a i nan) * 2 ^ (1074 + q * (d - i)) ≤ w * 2 ^ (1022 + (t + p * (d - i)))
  bound i l =
      let j = d - i in
      let u = units_of (get_or a i nan) in
      le_trans (le_of_eq (sym (pow2_join u 1074 (q * j)) ∙ mul_right_comm u (2 ^ 1074) (2 ^ (q * j))))
      (le_trans (mul-le-mul_right (2 ^ 1074) (held i l)) (le_of_eq (scaled j)))
    where
      scaled : (j : ℕ) → units_of lead * 2 ^ (p * j) * 2 ^ 1074 ≡ w * 2 ^ (1022 + (t + p * j))
      scaled j =
          mul_right_comm (units_of lead) (2 ^ (p * j)) (2 ^ 1074) ∙ ap (λ (x : ℕ). x * 2 ^ (p * j)) lead_is ∙ pow2_join w (1022 + t) (p * j)
          ∙ (let s : 1022 + t + p * j ≡ 1022 + (t + p * j) = omega arith in ap (λ (k : ℕ). w * 2 ^ k) s)

  room : w * 2 ^ 1022 < 2 ^ 2098
  room = lt_of_lt_of_le (shl_lt 53 1022 N.short) (lit≤ tt)

  abbrev f : ℕ → Float
  f i = get_or (scaled_of a d).f i nan

  at : (i : ℕ) → i ≤ d → Bounded (get_or a i nan) (f i) (1074 + q * (d - i)) (t + p * (d - i)) w 1022
  at i l =
      rw (f_at a d i (omega arith))
      (unfold coefficient_of in rw (le-leb i d l, shift i l) (bounded (get_or a i nan) (1074 + q * (d - i)) (t + p * (d - i)) w 1022 (F i l)
      N.short room (bound i l)))

  -- the leading one is not rounded
  leading : units_of (f d) ≡ w * 2 ^ 1022
  leading =
      (at d (le_refl d)).exact (rw (sub_self, mul-zero, mul-zero) (lead_is ∙ (let s : 1022 + t ≡ 1022 + (t + 0) = omega arith in ap (λ (k : ℕ). w * 2 ^ k) s)))

  pub f_finite : (i : ℕ) → i ≤ d → Finite (f i)
  f_finite i l = (at i l).finite

  pub f_held : (i : ℕ) → i ≤ d → units_of (f i) ≤ units_of (f d)
  f_held i l = le_trans (at i l).over (le_of_eq (sym leading))

  pub f_leading : (2 ^ 1074 ≤ units_of (f d)) × (units_of (f d) < 2 ^ 1075)
  f_leading = (
    le_trans (le_of_eq (pow-add 2 52 1022)) (le_trans (mul-le-mul_right (2 ^ 1022) N.led) (le_of_eq (sym leading))),
    lt_of_le_of_lt (le_of_eq leading) (shl_lt 53 1022 N.short),
  )

  -- the premise of demand 3
  pub f_small : (i : ℕ) → i ≤ d → (fits binary64 (f i) && le (abs_of (f i)) two64) ≡ true
  f_small i l = small (f i) (f_finite i l) (le_trans (f_held i l) (le_of_lt f_leading.1))
