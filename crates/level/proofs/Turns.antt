-- What the functions on exponents say of one coefficient, and of all that were seen so far.
use mathlib.Core.Path.{◌≡◌, refl, subst}
use mathlib.Core.Bool.{true}
use mathlib.Core.List.{List}
use mathlib.Core.Logic.{⊎_elim}
use Prim.Native.Nat.{ℕ, suc, ◌+◌, ◌*◌, ◌^◌, ◌≤◌}
use native.Mathlib.Omega.{arith}
use native.Mathlib.Nat.{le_of_mul-le-mul_right, lt_of_mul-lt-mul_right, mul-le-mul_right, mul-lt-mul_of_pos_right}
use borrow.Author.Tests.{leb-true}
use lib.Dec.{leb}
use lib.Pow.{pow_pos}
use lib.ListN.{get_or}
use lib.Ieee.{Float, nan, binary64, fits}
use Rattle.algebra.specs.NatOrder.{le_or_lt, pow2_suc}
use Rattle.std.specs.Prelude.{Some}
use Rattle.std.specs.Ordering.{nat_cmp, ord_min, ord_max}
use Rattle.decode.specs.Shape.{Decoded}
use Rattle.decode.specs.declared.digits.Digits.{Digits}
use Rattle.decode.proofs.Class.{decoded_regular, decoded_normal}
use Rattle.level.specs.Level.{NoGap, Binade, Raised, SpanSeen}
use Rattle.level.proofs.None.{level_none}

-- the smaller and the larger of two numbers
smaller : {m : ℕ} (x y : ℕ) → m ≡ ord_min nat_cmp x y → (m ≤ x) × (m ≤ y)
smaller x y e = (grind arith, grind arith)

larger : {m : ℕ} (x y : ℕ) → m ≡ ord_max nat_cmp x y → (x ≤ m) × (y ≤ m)
larger x y e = (grind arith, grind arith)

pub binade_of : (x : Float) (d : Digits) → fits binary64 x ≡ true → Decoded x (Some d) → Binade x d.k
binade_of x d F D =
    let n = decoded_normal x d D in
    let l = mul-le-mul_right (2 ^ d.k) n.led in
    let m = mul-lt-mul_of_pos_right n.short (pow_pos d.k) in
    record {
      held = F;
      regular = decoded_regular x d D;
      low = le_of_mul-le-mul_right (omega (arith, l, n.value)) (pow_pos 52);
      high = lt_of_mul-lt-mul_right (2 ^ 52) (omega (arith, m, n.value, pow2_suc d.k));
      reach = n.reach;
    }

-- all that were seen before the place i, as the loop has it
unfoldable pub Seen : (a : List Float) (d s lo hi i : ℕ) → Type 0
Seen a d s lo hi i = SpanSeen a d s lo hi i

module _ (a : List Float) (d s : ℕ) where
  pub seen_start : (k k' x y : ℕ) → Binade (get_or a 0 nan) k → Binade (get_or a d nan) k' → x ≤ k + 8400 → y + 2100 * d ≤ k' + s * d + 8400
      → Seen a d s (ord_min nat_cmp x y) 0 1
  unfolding Seen
  seen_start k k' x y A B h l =
      let m = smaller x y refl in
      record {
        last = record { k = k'; binade = B; low = omega (arith, m, l); high = λ x y. omega arith };
        before =
            λ j m'. let z : 0 ≡ j = omega arith in subst (λ (i : ℕ). Raised a d s (ord_min nat_cmp x y) 0 i) z
            (record { k = k; binade = A; low = omega (arith, m, h); high = λ x y. omega arith });
      }

  pub seen_more : (lo hi i k t : ℕ) → Seen a d s lo hi i → Binade (get_or a i nan) k → t + 2100 * i ≡ k + s * i + 8400
      → Seen a d s (ord_min nat_cmp lo t) (ord_max nat_cmp hi t) (i + 1)
  unfolding Seen
  seen_more lo hi i k t S B e = record {
    last = wider S.last;
    before =
        λ j u. ⊎_elim (λ v. wider (S.before j v))
        (λ v. let z : i ≡ j = omega arith in subst (λ (x : ℕ). Raised a d s (ord_min nat_cmp lo t) (ord_max nat_cmp hi t) x) z here) (le_or_lt (suc j) i);
  }
    where
      below : ((ord_min nat_cmp lo t) ≤ lo) × ((ord_min nat_cmp lo t) ≤ t)
      below = smaller lo t refl

      above : (hi ≤ (ord_max nat_cmp hi t)) × (t ≤ (ord_max nat_cmp hi t))
      above = larger hi t refl

      here : Raised a d s (ord_min nat_cmp lo t) (ord_max nat_cmp hi t) i
      here = record { k = k; binade = B; low = omega (arith, below, e); high = λ x y. omega (arith, above, e) }

      wider : {j : ℕ} → Raised a d s lo hi j → Raised a d s (ord_min nat_cmp lo t) (ord_max nat_cmp hi t) j
      wider r = record { k = r.k; binade = r.binade; low = omega (arith, r.low, below); high = λ x y. let z = r.high x y in omega (arith, above, z) }

  -- at the loop's end: no gap
  pub seen_all : (lo hi i : ℕ) → 3 ≤ d → d ≤ 4 → Seen a d s lo hi i → d ≤ i → Some (leb hi (lo + 3)) ≡ Some true → NoGap a d
  unfolding Seen
  seen_all lo hi i three four S l e =
      level_none a d three four s lo (λ j m. ⊎_elim (λ v. wider (S.before j (omega arith))) (λ v. let z : d
      ≡ j = omega arith in subst (λ (x : ℕ). Raised a d s lo (lo + 3) x) z (wider S.last)) (le_or_lt (suc j) d))
    where
      h : hi ≤ lo + 3
      h = leb-true hi (lo + 3) (cc)

      wider : {j : ℕ} → Raised a d s lo hi j → Raised a d s lo (lo + 3) j
      wider r = record { k = r.k; binade = r.binade; low = r.low; high = λ x y. let z = r.high x y in omega (arith, h, z) }

-- What the function's proof rests on.
pub ruleset seen = (seen_start, seen_more, seen_all)
