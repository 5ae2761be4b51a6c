-- The scaled logarithm of a coefficient by its exponent k and its shift: from k + shift on, and 1/256 below the next whole number at least, both moved by 2 ^
-- -31 at most.
use mathlib.Core.Path.{◌≡◌, refl, sym, ap, subst}
use mathlib.Core.Bool.{Bool, true, false, not, cond, false≢true, true≢false}
use mathlib.Core.Logic.{⊎_elim}
use Prim.Native.Nat.{ℕ, zero, suc, ◌+◌, ◌-◌, ◌*◌, ◌^◌, ◌≤◌, ◌<◌}
use native.Mathlib.Omega.{arith}
use native.Mathlib.Nat.{le_trans, le_of_eq, le_of_lt, lt_of_le_of_lt, lt_of_lt_of_le}
use native.Mathlib.Nat.{mul-le-mul_right, pow-le-pow_left, pow-lt-pow_left, zero-lt-suc, lt_irrefl}
use lib.Dec.{T, ltb, ltb→lt, nltb→le}
use lib.Pow.{pow_pos, pow_mono}
use lib.IntN.{ℤ, pos, negsuc, nat_abs, neg_ℤ, sub_ℕ, ◌+ℤ◌, ◌*ℤ◌}
use lib.Ieee.{Float, nan, inf, fin, binary64, up, add, of_int}
use lib.Ieee.Back.{round_whole}
use lib.Ieee.Exact.{HasValue}
use Rattle.algebra.specs.NatOrder.{le_or_lt, pow_mul}
use Rattle.rounding.specs.Units.{one_units}
use Rattle.rounding.proofs.Value.{limit, Val, plus_sign, minus_sign, add_near}
use Rattle.rounding.proofs.Exact.{half_unit}
use Rattle.float.specs.Methods.{abs_of}
use Rattle.float.specs.Units.{units_of}
use Rattle.decode.specs.Exponent.{regular_of}
use Rattle.log2.specs.Log.{grid_of, over256, log2_grid_of}
use Rattle.log2.proofs.Floor.{grid_floor, over256_exact}
use Rattle.level.specs.Level.{Binade}
use Rattle.level.proofs.Gap.{Small}

-- ---- z is p - n
abbrev pub Is : ℤ → ℕ → ℕ → Type 0
Is (pos k) p n = p ≡ k + n
Is (negsuc k) p n = n ≡ p + suc k

is_same : (z : ℤ) (p n q m : ℕ) → Is z p n → p + m ≡ q + n → Is z q m
is_same (pos k) p n q m h e = omega arith
is_same (negsuc k) p n q m h e = omega arith

is_difference : (a b : ℕ) → Is (sub_ℕ a b) a b
is_difference a b = go (ltb a b) (ltb→lt a b) (nltb→le a b)
  where
    go : (t : Bool) → (T t → a < b) → (T (not t) → b ≤ a) → Is (cond t (negsuc (b - suc a)) (pos (a - b))) a b
    go true h k = let l = h tt in omega arith
    go false h k = let l = k tt in omega arith

pub is_sum : (a b : ℤ) (p n q m : ℕ) → Is a p n → Is b q m → Is (a +ℤ b) (p + q) (n + m)
is_sum (pos a) (pos b) p n q m h l = omega arith
is_sum (pos a) (negsuc b) p n q m h l = is_same (sub_ℕ a (suc b)) a (suc b) (p + q) (n + m) (is_difference a (suc b)) (omega arith)
is_sum (negsuc a) (pos b) p n q m h l = is_same (sub_ℕ b (suc a)) b (suc a) (p + q) (n + m) (is_difference b (suc a)) (omega arith)
is_sum (negsuc a) (negsuc b) p n q m h l = omega arith

pub is_neg : (a : ℤ) (p n : ℕ) → Is a p n → Is (neg_ℤ a) n p
is_neg (pos zero) p n h = omega arith
is_neg (pos (suc k)) p n h = omega arith
is_neg (negsuc k) p n h = omega arith

pub is_times : (a : ℤ) (i p n : ℕ) → Is a p n → Is (a *ℤ pos i) (p * i) (n * i)
is_times (pos k) i p n h = omega (arith, ap (λ (x : ℕ). x * i) h)
is_times (negsuc k) i p n h = is_neg (pos (suc k * i)) (n * i) (p * i) (omega (arith, ap (λ (x : ℕ). x * i) h))

-- ---- x is z times c units
record Value (x : Float) (z : ℤ) (c : ℕ) : Type 0 where
  p : ℕ
  n : ℕ
  is : Val x p n
  size : p + n ≡ nat_abs z * c
  at : (q m : ℕ) → Is z q m → p + m * c ≡ n + q * c

abbrev Over : ℕ → Float → ℤ → Type 0
Over t x (pos k) = HasValue x false k t
Over t x (negsuc k) = HasValue x true (suc k) t

over_value : (t c : ℕ) → one_units ≡ t * c → (x : Float) (z : ℤ) → Over t x z → Value x z c
over_value t c o nan (pos k) v = absurd v
over_value t c o nan (negsuc k) v = absurd v
over_value t c o (inf s) (pos k) v = absurd v
over_value t c o (inf s) (negsuc k) v = absurd v
over_value t c o (fin true m d) (pos k) v = absurd (true≢false v.0)
over_value t c o (fin false m d) (negsuc k) v = absurd (true≢false (sym v.0))
over_value t c o (fin false m d) (pos k) v = record {
  p = k * c;
  n = 0;
  is = plus_sign {m = m} {p = k * c} {e = d} (omega (arith, ap (λ (x : ℕ). m * up d * x) o, ap (λ (x : ℕ). x * c) v.1));
  size = omega arith;
  at = λ q m h. omega (arith, ap (λ (x : ℕ). x * c) h);
}
over_value t c o (fin true m d) (negsuc k) v = record {
  p = 0;
  n = suc k * c;
  is = minus_sign {m = m} {n = suc k * c} {e = d} (omega (arith, ap (λ (x : ℕ). m * up d * x) o, ap (λ (x : ℕ). x * c) v.1));
  size = omega arith;
  at = λ q m h. omega (arith, ap (λ (x : ℕ). x * c) h);
}

whole_over : (z : ℤ) → nat_abs z ≤ 2 ^ 53 → Over 1 (of_int binary64 z) z
unfolding of_int
whole_over (pos n) h = round_whole binary64 false n h
whole_over (negsuc n) h = round_whole binary64 true (suc n) h

grid_over : (z : ℤ) → nat_abs z < 2 ^ 53 → Over 256 (over256 z) z
grid_over (pos n) h = over256_exact (pos n) h
grid_over (negsuc n) h = over256_exact (negsuc n) h

-- ---- L of a coefficient: its place is 256 for each exponent, and less than 256 more
place_is : (z : ℤ) (place : ℕ) → z +ℤ pos 274944 ≡ pos place → Is z place 274944
place_is (pos k) place e = sym (ap nat_abs e)
place_is (negsuc k) place e = subst (λ (z : ℤ). Is z 274944 (suc k)) e (is_difference 274944 (suc k))

log_is : (x : Float) → regular_of x ≡ true → log2_grid_of (abs_of x) ≡ over256 (grid_of (units_of x))
unfolding log2_grid_of abs_of
log_is nan r = absurd (false≢true r)
log_is (inf s) r = absurd (false≢true r)
log_is (fin s zero e) r = absurd (false≢true r)
log_is (fin s (suc m) e) r = refl

-- ---- the whole: x is the logarithm of a coefficient of exponent k, shifted by u - l
pub record Log (g : ℕ) (x : Float) (k u l : ℕ) : Type 0 where
  pub p : ℕ
  pub n : ℕ
  pub is : Val x p n
  pub small : Small g p n
  pub low : n + (k + u) * (2 ^ 30 * 2 ^ g) ≤ p + (1074 + l) * (2 ^ 30 * 2 ^ g) + 2 ^ g
  pub high : p + (1074 + l) * (2 ^ 30 * 2 ^ g) + 2 ^ 22 * 2 ^ g ≤ n + (k + 1 + u) * (2 ^ 30 * 2 ^ g) + 2 ^ g

-- from L, a place in 1/256, and the shift, both exact, to their sum, moved by half a unit
module _ (p' n' p'' n'' p n place k u l q : ℕ) (L : p' + 274944 * (2 ^ 22 * q) ≡ n' + place * (2 ^ 22 * q))
    (S : p'' + l * (2 ^ 30 * q) ≡ n'' + u * (2 ^ 30 * q))
    (lo : 2 * (p * 1) + 2 * (n' + n'') ≤ 2 * (p' + p'') + 2 * (n * 1) + 1 * q) (hi : 2 * (p' + p'') + 2 * (n * 1) ≤ 2 * (p * 1) + 2 * (n' + n'') + 1 * q) where
  sum_low : 256 * k ≤ place → n + (k + u) * (2 ^ 30 * q) ≤ p + (1074 + l) * (2 ^ 30 * q) + q
  sum_low h = let a = mul-le-mul_right q h in omega arith

  sum_high : place < 256 * suc k → p + (1074 + l) * (2 ^ 30 * q) + 2 ^ 22 * q ≤ n + (k + 1 + u) * (2 ^ 30 * q) + q
  sum_high h = let a = mul-le-mul_right q h in omega arith

exponents_order : (k j : ℕ) → 2 ^ k < 2 ^ j → k < j
exponents_order k j h = ⊎_elim (λ l. absurd (lt_irrefl (2 ^ j) (lt_of_le_of_lt (pow_mono l) h))) (λ l. l) (le_or_lt j k)

module _ (g : ℕ) (one : one_units ≡ 2 ^ 30 * 2 ^ g) (room : 2 ^ 53 * 2 ^ g ≤ limit) (x : Float) (k : ℕ) (B : Binade x k) where
  abbrev grid : ℤ
  grid = grid_of (units_of x)

  placed : (place : ℕ) × Is grid place 274944 × (256 * k ≤ place) × (place < 256 * suc k)
  placed =
      let f = grid_floor (units_of x) (lt_of_lt_of_le (pow_pos k) B.low) in
      let l : k * 256 < suc f.place = exponents_order _ _ (lt_of_le_of_lt
      (le_trans (le_of_eq (pow_mul 2 k 256)) (pow-le-pow_left B.low 256)) f.high) in
      let h : f.place < suc k * 256 = exponents_order _ _ (lt_of_le_of_lt f.low
      (lt_of_lt_of_le (pow-lt-pow_left B.high (λ (e : ◌≡◌ {A = ℕ} 256 0). omega arith)) (le_of_eq (sym (pow_mul 2 (suc k) 256))))) in
      (f.place, place_is grid f.place f.is, omega (arith, l), omega (arith, h))

  pub log_of : (z : ℤ) → nat_abs z ≤ 2 ^ 18 → (u l : ℕ) → Is z u l → Log g (add binary64 (log2_grid_of (abs_of x)) (of_int binary64 z)) k u l
  log_of z Z u l i =
      let P = placed in
      let few : nat_abs grid < 2 ^ 20 = few_of grid P.0 P.1 (lt_of_lt_of_le P.3 (omega (arith, B.reach))) in
      rw (log_is x B.regular)
      (go (over_value 256 (2 ^ 22 * 2 ^ g) (omega arith) (over256 grid) grid (grid_over grid (omega arith)))
      (over_value 1 (2 ^ 30 * 2 ^ g) (omega arith) (of_int binary64 z) z (whole_over z (omega arith))) few)
    where
      few_of : (z : ℤ) (place : ℕ) → Is z place 274944 → place < 2 ^ 19 + 2 ^ 14 → nat_abs z < 2 ^ 20
      few_of (pos n) place e h = omega arith
      few_of (negsuc n) place e h = omega arith

      go : (L : Value (over256 grid) grid (2 ^ 22 * 2 ^ g)) (S : Value (of_int binary64 z) z (2 ^ 30 * 2 ^ g)) → nat_abs grid < 2 ^ 20
          → Log g (add binary64 (over256 grid) (of_int binary64 z)) k u l
      go L S few =
          let P = placed in
          let a : L.p + L.n ≤ 2 ^ 42 * 2 ^ g = omega (arith, L.size, mul-le-mul_right (2 ^ 22 * 2 ^ g) (le_of_lt few)) in
          let b : S.p + S.n ≤ 2 ^ 48 * 2 ^ g = omega (arith, S.size, mul-le-mul_right (2 ^ 30 * 2 ^ g) Z) in
          let R = add_near L.is S.is (omega arith) (omega arith) in
          let h = half_unit (zero-lt-suc 0) R.near g (omega arith) (omega arith) in
          record {
            p = R.p;
            n = R.n;
            is = R.is;
            small = (omega (arith, h.0), omega (arith, h.1));
            low = sum_low L.p L.n S.p S.n R.p R.n P.0 k u l (2 ^ g) (L.at P.0 274944 P.1) (S.at u l i) h.0 h.1 P.2;
            high = sum_high L.p L.n S.p S.n R.p R.n P.0 k u l (2 ^ g) (L.at P.0 274944 P.1) (S.at u l i) h.0 h.1 P.3;
          }
