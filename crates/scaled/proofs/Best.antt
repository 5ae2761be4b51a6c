-- The smallest k for the first coefficients, found one by one, is the definition's: e + 2098.
use mathlib.Core.Path.{◌≡◌, refl, sym, ap, ◌∙◌, subst}
use mathlib.Core.Bool.{Bool, true, false, not, ◌&&◌, cond}
use mathlib.Core.List.{List}
use Prim.Native.Nat.{ℕ, zero, suc, ◌+◌, ◌-◌, ◌*◌, ◌^◌, ◌≤◌, ◌<◌}
use native.Mathlib.Omega.{arith}
use native.Mathlib.Nat.{mul_right_comm, le_trans, le_of_eq, le_of_lt, lt_irrefl, le_antisymm, le_of_mul-le-mul_right, lt_of_mul-lt-mul_right, pow-succ'}
use mathlib.Core.Logic.{⊎_elim}
use lib.Dec.{T}
use lib.Pow.{pow_pos}
use lib.IntN.{ℤ, pos, ◌+ℤ◌, ◌-ℤ◌, nat_abs}
use lib.Signed.{◌≤ℤ◌}
use mir.Syntax.{w32}
use mir.Val.{to_z, of_z}
use lib.ListN.{get_or}
use lib.Ieee.{Float, nan}
use lib.Ieee.Bits.{is_true, is_false}
use Rattle.algebra.specs.RingInt.{ringℤ, ◌:+◌, ◌:-◌, ◌:=◌}
use Rattle.algebra.specs.NatOrder.{le_or_lt}
use Rattle.algebra.specs.IntOrder.{≤ℤ_add, nat_abs_pos_sub}
use Rattle.facts.specs.Cond.{both_hold, first_fails, either_way}
use Rattle.float.specs.Units.{units_of}
use Rattle.std.specs.Prelude.{Some, None}
use Rattle.decode.specs.Exponent.{regular_of}
use Rattle.decode.specs.Shape.{Decoded}
use Rattle.decode.specs.declared.digits.Digits.{Digits}
use Rattle.decode.proofs.Class.{decoded_irregular, decoded_regular, decoded_normal}
use Rattle.nearest.specs.Greatest.{greatest}
use Rattle.nearest.proofs.Search.{found}
use Rattle.nearest.proofs.ByTest.{Monotone, apart}
use Rattle.scaled.specs.Exponent.{held_at, held_below, candidate, too_small, scale_exponent_of, Least}
use Rattle.scaled.proofs.Held.{held, not_held, one_held_more, held_more}
use Rattle.scaled.proofs.Needed.{reach_none}
use Rattle.scaled.proofs.Signed.{less}

-- ---- the candidates rise
pub rising : (k k' : ℕ) → k ≤ k' → candidate k ≤ℤ candidate k'
rising k k' l =
    subst (λ (z : ℤ). candidate k ≤ℤ z) (regroup k (k' - k) ∙ (let e : k + (k' - k) ≡ k' = omega arith in ap candidate e)) (≤ℤ_add (candidate k) (k' - k))
  where
    regroup : (k n : ℕ) → (pos k -ℤ pos 2098) +ℤ pos n ≡ pos (k + n) -ℤ pos 2098
    regroup k n = ringℤ 3 (λ k n c. (k :- c) :+ n := (k :+ n) :- c) tt (pos k) (pos n) (pos 2098)

pub falling : (a : List Float) (d : ℕ) → Monotone (too_small a d)
unfolding too_small
falling a d k k' l t = go (held_below a d (candidate k) d) refl
  where
    go : (b : Bool) → held_below a d (candidate k) d ≡ b → T (not (held_below a d (candidate k) d))
    go true e = absurd (subst (λ (b : Bool). T (not b)) (held_more a d (candidate k) (candidate k') d (rising k k' l) e) t)
    go false e = subst (λ (b : Bool). T (not b)) (sym e) tt

-- ---- the smallest k for the coefficients below n
pub record Best (a : List Float) (d n k : ℕ) : Type 0 where
  pub holds : held_below a d (candidate k) n ≡ true
  pub least : 0 < k → held_below a d (candidate (k - 1)) n ≡ false
  pub bound : k ≤ 4196

pub best_none : (a : List Float) (d : ℕ) → Best a d 0 0
unfolding held_below
best_none a d = record { holds = refl; least = λ p. absurd (lt_irrefl 0 p); bound = omega arith }

second_fails : (p q : Bool) → q ≡ false → (p && q) ≡ false
second_fails true q h = h
second_fails false q h = refl

-- One more coefficient, which needs r. The leading one has the digits w and z.
module _ (a : List Float) (d n k r w z : ℕ) (N : w * 2 ^ z ≡ units_of (get_or a d nan) * 2 ^ 52)
    (L : Least (w * 2 ^ z) (units_of (get_or a n nan) * 2 ^ 52) (d - n) r) (B : Best a d n k) where
  abbrev u : ℕ
  u = units_of (get_or a n nan)

  abbrev top : ℕ
  top = units_of (get_or a d nan)

  -- with the digits' 2^52 taken off
  lead : (x : ℕ) → w * 2 ^ z * 2 ^ x ≡ top * 2 ^ x * 2 ^ 52
  lead x = ap (λ (y : ℕ). y * 2 ^ x) N ∙ mul_right_comm top (2 ^ 52) (2 ^ x)

  this : (x : ℕ) → u * 2 ^ 52 * 2 ^ x ≡ u * 2 ^ x * 2 ^ 52
  this x = mul_right_comm u (2 ^ 52) (2 ^ x)

  holds_here : held_at a d (candidate r) n ≡ true
  holds_here = held a d n r 2098 (le_of_mul-le-mul_right (le_trans (le_of_eq (sym (this _))) (le_trans L.holds (le_of_eq (lead _)))) (pow_pos 52))

  least_here : 0 < r → held_at a d (candidate (r - 1)) n ≡ false
  least_here p =
      not_held a d n (r - 1) 2098 (lt_of_mul-lt-mul_right (2 ^ 52)
      (subst (λ (y : ℕ). y < u * 2 ^ (2098 * (d - n)) * 2 ^ 52) (lead _) (subst (λ (y : ℕ). w * 2 ^ z * 2 ^ ((r - 1) * (d - n)) < y) (this _) (L.least p))))

  next : {s : ℕ} → Best a d (suc n) s → Best a d (n + 1) s
  next {s} = subst (λ (m : ℕ). Best a d m s) (let e : suc n ≡ n + 1 = omega arith in e)

  -- it needs more than the others
  pub best_raised : (s : ℕ) → s ≡ r → k < r → Best a d (n + 1) s
  unfolding held_below
  best_raised s q l =
      subst (λ (t : ℕ). Best a d (n + 1) t) (sym q)
      (next
      (record {
        holds = both_hold _ _ holds_here (held_more a d (candidate k) (candidate r) n (rising k r (le_of_lt l)) B.holds);
        least = λ p. first_fails _ _ (least_here p);
        bound = L.bound;
      }))

  -- it does not
  pub best_kept : (s : ℕ) → s ≡ k → r ≤ k → Best a d (n + 1) s
  unfolding held_below
  best_kept s q l =
      subst (λ (t : ℕ). Best a d (n + 1) t) (sym q)
      (next
      (record {
        holds = both_hold _ _ (one_held_more a d (candidate r) (candidate k) n (rising r k l) holds_here) B.holds;
        least = λ p. second_fails (held_at a d (candidate (k - 1)) n) _ (B.least p);
        bound = B.bound;
      }))

  -- whichever it does
  pub best_more : (s : ℕ) → (k < r → s ≡ r) → (r ≤ k → s ≡ k) → Best a d (n + 1) s
  best_more s p q = ⊎_elim (λ l. best_kept s (q l) l) (λ l. best_raised s (p l) l) (le_or_lt r k)

-- the same by the digits of both: s is the larger of the two, whatever function gives it
pub best_by_digits : (a : List Float) (d n k r : ℕ) (lead m : Digits) → Decoded (get_or a d nan) (Some lead) → Decoded (get_or a n nan) (Some m)
    → Least (lead.w * 2 ^ lead.k) (m.w * 2 ^ m.k) (d - n) r → Best a d n k → (s : ℕ) → (k < r → s ≡ r) → (r ≤ k → s ≡ k) → Best a d (n + 1) s
best_by_digits a d n k r lead m D E L B =
    best_more a d n k r lead.w lead.k (decoded_normal _ _ D).value
    (subst (λ (u : ℕ). Least (lead.w * 2 ^ lead.k) u (d - n) r) (decoded_normal _ _ E).value L) B

-- one without digits needs nothing
pub best_same : (a : List Float) (d n k : ℕ) (lead : Digits) → Decoded (get_or a d nan) (Some lead) → Decoded (get_or a n nan) None → Best a d n k
    → Best a d (n + 1) k
best_same a d n k lead D E B =
    best_kept a d n k 0 lead.w lead.k (decoded_normal _ _ D).value (reach_none (get_or a n nan) _ _ E) B k refl (omega arith)

-- ---- the definition's e
pub exponent_is : (a : List Float) (d : ℕ) → scale_exponent_of a d
    ≡ cond (regular_of (get_or a d nan) && too_small a d 0) (candidate (suc (greatest (too_small a d) 13 0))) (pos 0)
unfolding scale_exponent_of
exponent_is a d = refl

pub exponent_irregular : (a : List Float) (d : ℕ) → regular_of (get_or a d nan) ≡ false → pos 0 ≡ scale_exponent_of a d
exponent_irregular a d h = rw (exponent_is, h)

-- it is small
greatest_below : (p : ℕ → Bool) (k t : ℕ) → greatest p k t < t + 2 ^ k
unfolding greatest
greatest_below p zero t = omega arith
greatest_below p (suc k) t =
    let twice : 2 ^ suc k ≡ 2 * 2 ^ k = pow-succ' 2 k in
    go (p (t + 2 ^ k)) (omega (arith, greatest_below p k (t + 2 ^ k))) (omega (arith, greatest_below p k t))
  where
    go : (b : Bool) → greatest p k (t + 2 ^ k) < t + 2 ^ suc k → greatest p k t < t + 2 ^ suc k → greatest p k (cond b (t + 2 ^ k) t) < t + 2 ^ suc k
    go true x y = x
    go false x y = y

pub exponent_bounded : (a : List Float) (d : ℕ) → nat_abs (scale_exponent_of a d) ≤ 2 ^ 13
exponent_bounded a d =
    rw exponent_is
    (either_way (λ (z : ℤ). nat_abs z ≤ 2 ^ 13) (regular_of (get_or a d nan) && too_small a d 0)
    (le_trans (le_of_eq (nat_abs_pos_sub (suc (greatest (too_small a d) 13 0)) 2098)) (omega (arith, greatest_below (too_small a d) 13 0)))
    (omega arith))

one_above : (p : ℕ → Bool) → Monotone p → (k : ℕ) → T (p 0) → T (not (p (2 ^ 13))) → T (p k) → T (not (p (suc k))) → greatest p 13 0 ≡ k
one_above p mono k lo hi x y =
    let f = found p 13 0 lo hi in
    let g = greatest p 13 0 in
    le_antisymm (before (apart p mono g (suc k) f.0 y)) (before (apart p mono k (suc g) x f.1))
  where
    before : {a b : ℕ} → a < suc b → a ≤ b
    before h = omega arith

-- at the loop's end, where n has come to d
module _ (a : List Float) (d n k : ℕ) (R : regular_of (get_or a d nan) ≡ true) (lo : n ≤ d) (hi : d ≤ n) (B : Best a d n k) where
  all : Best a d d k
  all = subst (λ (m : ℕ). Best a d m k) (le_antisymm lo hi) B

  small : (m : ℕ) → held_below a d (candidate m) d ≡ false → T (too_small a d m)
  unfolding too_small
  small m h = subst (λ (b : Bool). T (not b)) (sym h) tt

  large : (m : ℕ) → held_below a d (candidate m) d ≡ true → T (not (too_small a d m))
  unfolding too_small
  large m h = subst (λ (b : Bool). T (not (not b))) (sym h) tt

  pub exponent_none : k ≡ 0 → pos 0 ≡ scale_exponent_of a d
  exponent_none z = rw (exponent_is, R, is_false (too_small a d 0) (subst (λ (m : ℕ). T (not (too_small a d m))) z (large k all.holds)))

  pub exponent_candidate : (k ≡ 0 → ⊥) → candidate k ≡ scale_exponent_of a d
  exponent_candidate z = go k all (λ (h : 0 ≡ k). z (sym h))
    where
      go : (k : ℕ) → Best a d d k → (0 ≡ k → ⊥) → candidate k ≡ scale_exponent_of a d
      go zero A z = absurd (z refl)
      go (suc m) A z =
          let low = small m (subst (λ (x : ℕ). held_below a d (candidate x) d ≡ false) (let e : suc m - 1 ≡ m = omega arith in e) (A.least (omega arith))) in
          let first = falling a d 0 m (omega arith) low in
          let top = large (2 ^ 13) (held_more a d (candidate (suc m)) (candidate (2 ^ 13)) d (rising (suc m) (2 ^ 13) (omega (arith, A.bound))) A.holds) in
          rw (exponent_is, R, is_true (too_small a d 0) first) (ap (λ (x : ℕ). candidate (suc x))
          (sym (one_above (too_small a d) (falling a d) m first top low (large (suc m) A.holds))))

  -- as the machine computes it
  pub exponent_some : (k ≡ 0 → ⊥) → scale_exponent_of a d ≡ to_z w32 (of_z w32 (to_z w32 k -ℤ pos 2098))
  exponent_some z = sym (less k all.bound ∙ exponent_candidate z)

-- What the function's proof rests on.
pub ruleset best = (decoded_irregular, decoded_regular, decoded_normal, best_none, exponent_irregular, exponent_none)
