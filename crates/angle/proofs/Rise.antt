-- The definition's test, 4t³ ≤ (3t ± n) * 2 ^ 2148 from a half on, is x²(x + 3) ≤ 2(1 ± v) for x = 2c - 1: it grows with t, and on the grid of 2 ^ 1020 units
-- it is the function's test.
use mathlib.Core.Path.{◌≡◌, refl, sym, ap, ap₂, ◌∙◌, subst}
use mathlib.Core.Bool.{Bool, true, false, ◌||◌}
use Prim.Native.Nat.{ℕ, ◌+◌, ◌-◌, ◌*◌, ◌/◌, ◌^◌, ◌≤◌, ◌<◌, zero-le}
use native.Mathlib.Omega.{arith}
use native.Mathlib.Nat.{le_trans, le_of_lt, mul-le-mul, zero-mul, add-mul, mul_assoc, le-div_iff_mul-le, div-lt_iff_lt-mul}
use borrow.Author.Tests.{le-leb, lt-leb, leb-true, leb-false}
use lib.Dec.{T, leb, leb→le, le→leb}
use lib.Pow.{pow_pos}
use Rattle.algebra.specs.NatOrder.{sub_mul}
use Rattle.algebra.specs.RingNat.{ring, #, ◌:+◌, ◌:*◌, ◌:=◌}
use Rattle.decode.specs.Shape.{Normal}
use Rattle.nearest.proofs.ByTest.{Monotone}
use Rattle.nearest.proofs.Powers.{leb_scaled}
use Rattle.angle.specs.Third.{left, right, at_most_solution}
use Rattle.angle.specs.Parts.{rise, one_plus, level_of, cos_le}

-- two tests with the same answer
pub leb_same : (a b c d : ℕ) → (a ≤ b → c ≤ d) → (b < a → d < c) → leb a b ≡ leb c d
leb_same a b c d p q = go (leb a b) refl
  where
    go : (t : Bool) → leb a b ≡ t → t ≡ leb c d
    go true e = sym (le-leb c d (p (leb-true a b e)))
    go false e = sym (lt-leb c d (q (leb-false a b e)))

pub leb_div : (a b c : ℕ) → 0 < c → leb (a * c) b ≡ leb a (b / c)
leb_div a b c p = leb_same (a * c) b a (b / c) (λ l. (le-div_iff_mul-le p).1 l) (λ l. (div-lt_iff_lt-mul p).1 l)

-- ---- the rise

pub rise_ordered : (h a b : ℕ) → a ≤ b → rise h a ≤ rise h b
rise_ordered h a b l = let y : a - h ≤ b - h = omega arith in mul-le-mul (mul-le-mul y y) (let z : a - h + 3 * h ≤ b - h + 3 * h = omega arith in z)

pub rise_none : (h t : ℕ) → t ≤ h → rise h t ≡ 0
rise_none h t l = ap (λ (y : ℕ). y * y * (y + 3 * h)) (let e : t - h ≡ 0 = omega arith in e) ∙ zero-mul (0 + 3 * h)

-- t³ - 3h²t + 2h³ = (t - h)²(t + 2h)
cubic : (h t : ℕ) → h ≤ t → t * t * t + 2 * (h * h * h) ≡ 3 * (h * h * t) + rise h t
cubic h t l =
    subst (λ (x : ℕ). x * x * x + 2 * (h * h * h) ≡ 3 * (h * h * x) + (t - h) * (t - h) * (t - h + 3 * h)) (let e : h + (t - h) ≡ t = omega arith in e)
    (ring 2 (λ h y. (h :+ y) :* (h :+ y) :* (h :+ y) :+ # 2 :* (h :* h :* h) := # 3 :* (h :* h :* (h :+ y)) :+ y :* y :* (y :+ # 3 :* h)) tt h (t - h))

rise_scaled : (h t X : ℕ) → rise (h * X) (t * X) ≡ rise h t * (X * X * X)
rise_scaled h t X =
    ap (λ (y : ℕ). y * y * (y + 3 * (h * X))) (sym (sub_mul t h X))
    ∙ ring 3 (λ y h X. y :* X :* (y :* X) :* (y :* X :+ # 3 :* (h :* X)) := y :* y :* (y :+ # 3 :* h) :* (X :* X :* X)) tt (t - h) h X

-- ---- the two sides of the definition, with H for a half and U for 4H²

module _ (H U n t : ℕ) (e : U ≡ 4 * (H * H)) (l : H ≤ t) where
  side_plus : leb (4 * (t * t * t)) ((3 * t + n) * U) ≡ leb (rise H t) ((2 * H + n) * (H * H))
  side_plus =
      let r : (3 * t + n) * U ≡ 4 * (3 * (H * H * t) + n * (H * H)) =
      ap (λ (x : ℕ). (3 * t + n) * x) e ∙ ring 3 (λ t n H. (# 3 :* t :+ n) :* (# 4 :* (H :* H)) := # 4 :* (# 3 :* (H :* H :* t) :+ n :* (H :* H))) tt t n H in
      let s : (2 * H + n) * (H * H) ≡ 2 * (H * H * H) + n * (H * H) = ring 2
      (λ H n. (# 2 :* H :+ n) :* (H :* H) := # 2 :* (H :* H :* H) :+ n :* (H :* H)) tt H n in
      ap (λ (x : ℕ). leb (4 * (t * t * t)) x) r ∙ moved (t * t * t) (H * H * t) (H * H * H) (n * (H * H)) (rise H t) (cubic H t l)
      ∙ ap (λ (x : ℕ). leb (rise H t) x) (sym s)
    where
      moved : (X A B C R : ℕ) → X + 2 * B ≡ 3 * A + R → leb (4 * X) (4 * (3 * A + C)) ≡ leb R (2 * B + C)
      moved X A B C R c = leb_same (4 * X) (4 * (3 * A + C)) R (2 * B + C) (λ q. omega arith) (λ q. omega arith)

  side_minus : n ≤ 2 * H → leb (4 * (t * t * t) + n * U) (3 * t * U) ≡ leb (rise H t) ((2 * H - n) * (H * H))
  side_minus h =
      let r : 3 * t * U ≡ 4 * (3 * (H * H * t)) = ap (λ (x : ℕ). 3 * t * x) e
      ∙ ring 2 (λ t H. # 3 :* t :* (# 4 :* (H :* H)) := # 4 :* (# 3 :* (H :* H :* t))) tt t H in
      let s : n * U ≡ 4 * (n * (H * H)) = ap (λ (x : ℕ). n * x) e ∙ ring 2 (λ n H. n :* (# 4 :* (H :* H)) := # 4 :* (n :* (H :* H))) tt n H in
      let q : (2 * H - n) * (H * H) + n * (H * H) ≡ 2 * (H * H * H) =
      sym (add-mul (2 * H - n) n (H * H)) ∙ ap (λ (x : ℕ). x * (H * H)) (let z : 2 * H - n + n ≡ 2 * H = omega arith in z)
      ∙ ring 1 (λ H. # 2 :* H :* (H :* H) := # 2 :* (H :* H :* H)) tt H in
      ap₂ (λ (x y : ℕ). leb (4 * (t * t * t) + x) y) s r ∙ moved (t * t * t) (H * H * t) (H * H * H) (n * (H * H)) (rise H t)
      ((2 * H - n) * (H * H)) (cubic H t l) q
    where
      moved : (X A B C R Q : ℕ) → X + 2 * B ≡ 3 * A + R → Q + C ≡ 2 * B → leb (4 * X + 4 * C) (4 * (3 * A)) ≡ leb R Q
      moved X A B C R Q c d = leb_same (4 * X + 4 * C) (4 * (3 * A)) R Q (λ q. omega arith) (λ q. omega arith)

-- for every t, for a v from -1 to 1
pub below_is : (s : Bool) (n t : ℕ) → n ≤ 2 ^ 1074 → at_most_solution s n t ≡ leb (rise (2 ^ 1073) t) (one_plus s (2 ^ 1074) n * (2 ^ 1073 * 2 ^ 1073))
below_is s n t h = go (leb t (2 ^ 1073)) refl
  where
    side : (s : Bool) → 2 ^ 1073 ≤ t → leb (left s n t) (right s n t) ≡ leb (rise (2 ^ 1073) t) (one_plus s (2 ^ 1074) n * (2 ^ 1073 * 2 ^ 1073))
    side false l = side_plus (2 ^ 1073) (2 ^ 2148) n t refl l
    side true l = side_minus (2 ^ 1073) (2 ^ 2148) n t refl l h

    go : (b : Bool) → leb t (2 ^ 1073) ≡ b → b || leb (left s n t) (right s n t) ≡ leb (rise (2 ^ 1073) t) (one_plus s (2 ^ 1074) n * (2 ^ 1073 * 2 ^ 1073))
    go true e =
        sym (ap (λ (x : ℕ). leb x (one_plus s (2 ^ 1074) n * (2 ^ 1073 * 2 ^ 1073))) (rise_none (2 ^ 1073) t (leb-true t (2 ^ 1073) e))
        ∙ le-leb 0 (one_plus s (2 ^ 1074) n * (2 ^ 1073 * 2 ^ 1073)) zero-le)
    go false e = side s (le_of_lt (leb-false t (2 ^ 1073) e))

pub monotone : (s : Bool) (n : ℕ) → n ≤ 2 ^ 1074 → Monotone (at_most_solution s n)
monotone s n h a b l t =
    let Q = one_plus s (2 ^ 1074) n * (2 ^ 1073 * 2 ^ 1073) in
    subst T (sym (below_is s n a h)) (le→leb (rise (2 ^ 1073) a) Q
    (le_trans (rise_ordered (2 ^ 1073) a b l) (leb→le (rise (2 ^ 1073) b) Q (subst T (below_is s n b h) t))))

-- ---- on the grid: K is the square of a half and X³ = Y * K, with P for 2 ^ 52 and G for Y * P

on_level : (f Q K Y P Z G : ℕ) → 0 < K → 0 < P → 0 < G → G ≡ Y * P → Q * P ≡ Z → leb (f * (Y * K)) (Q * K) ≡ leb f (Z / G)
on_level f Q K Y P Z G k p g eg ez =
    ap (λ (x : ℕ). leb x (Q * K)) (sym (mul_assoc f Y K))
    ∙ leb_scaled (f * Y) Q K k
    ∙ sym (leb_scaled (f * Y) Q P p)
    ∙ ap₂ leb (mul_assoc f Y P ∙ ap (λ (x : ℕ). f * x) (sym eg)) ez
    ∙ leb_div f Z G g

pub grid : (s : Bool) (n w k t : ℕ) → n ≤ 2 ^ 1074 → Normal n w k → at_most_solution s n (t * 2 ^ 1020) ≡ cos_le (level_of s w k) t
grid s n w k t h d =
    below_is s n (t * 2 ^ 1020) h
    ∙ ap (λ (x : ℕ). leb x (one_plus s (2 ^ 1074) n * (2 ^ 1073 * 2 ^ 1073))) (rise_scaled (2 ^ 53) t (2 ^ 1020))
    ∙ on_level (rise (2 ^ 53) t) (one_plus s (2 ^ 1074) n) (2 ^ 2146) (2 ^ 914) (2 ^ 52) (one_plus s (2 ^ 1126) (w * 2 ^ k)) (2 ^ 966)
    (pow_pos 2146) (pow_pos 52) (pow_pos 966) refl (scaled s)
  where
    scaled : (s : Bool) → one_plus s (2 ^ 1074) n * 2 ^ 52 ≡ one_plus s (2 ^ 1126) (w * 2 ^ k)
    scaled false = add-mul (2 ^ 1074) n (2 ^ 52) ∙ ap (λ (x : ℕ). 2 ^ 1126 + x) (sym d.value)
    scaled true = sub_mul (2 ^ 1074) n (2 ^ 52) ∙ ap (λ (x : ℕ). 2 ^ 1126 - x) (sym d.value)
