-- With a for the square of a sine and m for that of a half, in one unit, a(3m - a)² and (4m - a)(m - a)² are the squares of sine and cosine of three times the
-- angle: their sum is 4m³. The second falls up to a = m, where it is 0, and grows from there on to a = 3m.
use mathlib.Core.Path.{◌≡◌, sym, ap, ap₂, ◌∙◌, subst}
use mathlib.Core.Logic.{◌⊎◌, inl, inr, ⊎_elim}
use mathlib.Core.Bool.{Bool, true, false, ◌||◌, ◌&&◌}
use Prim.Native.Nat.{ℕ, ◌+◌, ◌-◌, ◌*◌, ◌^◌, ◌≤◌, ◌<◌}
use native.Mathlib.Omega.{arith}
use native.Mathlib.Nat.{le_trans, le_of_lt, le_dest, le-add_right, lt_of_lt_of_le, not-le_of_lt, mul-le-mul, le_of_mul-le-mul_left}
use lib.Dec.{T, leb, leb→le, le→leb}
use Rattle.algebra.specs.NatOrder.{le_or_lt}
use Rattle.algebra.specs.RingNat.{ring, #, ◌:+◌, ◌:*◌, ◌:=◌}
use Rattle.nearest.proofs.ByTest.{Monotone}
use Rattle.angle.specs.Third.{turned, given, at_most_sine}

-- ---- the sum of the squares

pub low_sum : (m a : ℕ) → a ≤ m → a * ((3 * m - a) * (3 * m - a)) + (4 * m - a) * ((m - a) * (m - a)) ≡ 4 * (m * m * m)
low_sum m a l = go (le_dest l)
  where
    sum : (d : ℕ) → a * ((3 * (a + d) - a) * (3 * (a + d) - a)) + (4 * (a + d) - a) * ((a + d - a) * (a + d - a)) ≡ 4 * ((a + d) * (a + d) * (a + d))
    sum d =
        let three : 3 * (a + d) - a ≡ 2 * a + 3 * d = omega arith in
        let four : 4 * (a + d) - a ≡ 3 * a + 4 * d = omega arith in
        let one : a + d - a ≡ d = omega arith in
        rw (three, four, one)
        (ring 2
        (λ a d. a :* ((# 2 :* a :+ # 3 :* d) :* (# 2 :* a :+ # 3 :* d)) :+ (# 3 :* a :+ # 4 :* d) :* (d :* d) := # 4 :* ((a :+ d) :* (a :+ d) :* (a :+ d)))
        tt a d)

    go : (d : ℕ) × (a + d ≡ m) → a * ((3 * m - a) * (3 * m - a)) + (4 * m - a) * ((m - a) * (m - a)) ≡ 4 * (m * m * m)
    go (d, e) = subst (λ (x : ℕ). a * ((3 * x - a) * (3 * x - a)) + (4 * x - a) * ((x - a) * (x - a)) ≡ 4 * (x * x * x)) e (sum d)

pub high_sum : (m a : ℕ) → m ≤ a → a ≤ 3 * m → a * ((3 * m - a) * (3 * m - a)) + (4 * m - a) * ((a - m) * (a - m)) ≡ 4 * (m * m * m)
high_sum m a l h =
    let d = a - m in
    let e = 3 * m - a in
    let first : a ≡ m + d = omega arith in
    let four : 4 * m - a ≡ m + e = omega arith in
    let both : d + e ≡ 2 * m = omega arith in
    ap₂ (λ (x y : ℕ). x * (e * e) + y * (d * d)) first four
    ∙ ring 3 (λ m d e. (m :+ d) :* (e :* e) :+ (m :+ e) :* (d :* d) := m :* (e :* e :+ d :* d) :+ d :* e :* (d :+ e)) tt m d e
    ∙ ap (λ (x : ℕ). m * (e * e + d * d) + d * e * x) both
    ∙ ring 3 (λ m d e. m :* (e :* e :+ d :* d) :+ d :* e :* (# 2 :* m) := m :* ((d :+ e) :* (d :+ e))) tt m d e
    ∙ ap (λ (x : ℕ). m * (x * x)) both
    ∙ ring 1 (λ m. m :* (# 2 :* m :* (# 2 :* m)) := # 4 :* (m :* m :* m)) tt m

-- ---- how the second changes

pub low_falls : (m a b : ℕ) → a ≤ b → (4 * m - b) * ((m - b) * (m - b)) ≤ (4 * m - a) * ((m - a) * (m - a))
low_falls m a b l =
    let four : 4 * m - b ≤ 4 * m - a = omega arith in
    let one : m - b ≤ m - a = omega arith in
    mul-le-mul four (mul-le-mul one one)

pub high_grows : (m a b : ℕ) → m ≤ a → a ≤ b → b ≤ 3 * m → (4 * m - a) * ((a - m) * (a - m)) ≤ (4 * m - b) * ((b - m) * (b - m))
high_grows m a b h l k =
    let d = a - m in
    let g = b - a in
    let e = 3 * m - b in
    let one : b - m ≡ d + g = omega arith in
    let less : 2 * (4 * m - a) ≡ d + 3 * g + 3 * e = omega arith in
    let more : 2 * (4 * m - b) ≡ d + g + 3 * e = omega arith in
    le_of_mul-le-mul_left
    (subst (λ (x : ℕ). x ≤ 2 * ((4 * m - b) * ((b - m) * (b - m)))) (sym (two (4 * m - a) (d * d) ∙ ap (λ (x : ℕ). x * (d * d)) less))
    (subst (λ (x : ℕ). (d + 3 * g + 3 * e) * (d * d) ≤ x) (sym (two (4 * m - b) ((b - m) * (b - m)) ∙ ap₂ (λ (x y : ℕ). x * (y * y)) more one)) (wider d g e)))
    (let q : 0 < 2 = omega arith in q)
  where
    two : (x y : ℕ) → 2 * (x * y) ≡ 2 * x * y
    two x y = ring 2 (λ x y. # 2 :* (x :* y) := # 2 :* x :* y) tt x y

    wider : (d g e : ℕ) → (d + 3 * g + 3 * e) * (d * d) ≤ (d + g + 3 * e) * ((d + g) * (d + g))
    wider d g e =
        subst (λ (x : ℕ). (d + 3 * g + 3 * e) * (d * d) ≤ x)
        (ring 3
        (λ d g e. (d :+ # 3 :* g :+ # 3 :* e) :* (d :* d) :+ (# 3 :* (d :* (g :* g)) :+ # 6 :* (d :* (g :* e)) :+ g :* (g :* g) :+ # 3 :* (e :* (g :* g)))
        := (d :+ g :+ # 3 :* e) :* ((d :+ g) :* (d :+ g))) tt d g e)
        (le-add_right ((d + 3 * g + 3 * e) * (d * d)) (3 * (d * (g * g)) + 6 * (d * (g * e)) + g * (g * g) + 3 * (e * (g * g))))

-- ---- a test of two parts, and one that passes below what passes

pub both : (a b : Bool) → T (a && b) → T a × T b
both true b t = (tt, t)
both false b t = absurd t

pub either : (a b : Bool) → T (a || b) → T a ⊎ T b
either true b t = inl tt
either false b t = inr t

pub and : (a b : Bool) → T a → T b → T (a && b)
and true b s t = t
and false b s t = absurd s

pub or_left : (a b : Bool) → T a → T (a || b)
or_left true b t = t
or_left false b t = absurd t

pub or_right : (a b : Bool) → T b → T (a || b)
or_right true b t = tt
or_right false b t = t

-- H is a half and 3M the square of the most: f is asked up to the one, or from there to the other
module _ (H M : ℕ) (f : ℕ → Bool) where
  pub to_half : ((a b : ℕ) → a ≤ b → b ≤ H → T (f b) → T (f a)) → Monotone (λ t. leb t H && f t)
  to_half falls a b l t =
      let x = both (leb b H) (f b) t in
      let k = leb→le b H x.0 in
      and (leb a H) (f a) (le→leb a H (le_trans l k)) (falls a b l k x.1)

  pub to_most : ((a b : ℕ) → H ≤ a → a ≤ b → b * b ≤ 3 * M → T (f b) → T (f a)) → Monotone (λ t. leb t H || (leb (t * t) (3 * M) && f t))
  to_most falls a b l t =
      ⊎_elim (λ h. or_left (leb a H) (leb (a * a) (3 * M) && f a) (le→leb a H h)) (λ h. or_right (leb a H) (leb (a * a) (3 * M) && f a) (above h))
      (le_or_lt a H)
    where
      above : H < a → T (leb (a * a) (3 * M) && f a)
      above h =
          ⊎_elim (λ y. absurd (not-le_of_lt (lt_of_lt_of_le h l) (leb→le b H y)))
          (λ y.
          let x = both (leb (b * b) (3 * M)) (f b) y in
          let k = leb→le (b * b) (3 * M) x.0 in
          and (leb (a * a) (3 * M)) (f a) (le→leb (a * a) (3 * M) (le_trans (mul-le-mul l l) k)) (falls a b (le_of_lt h) l k x.1))
          (either (leb b H) (leb (b * b) (3 * M) && f b) t)

pub monotone : (s : Bool) (n : ℕ) → Monotone (at_most_sine s n)
monotone false n =
    to_half (2 ^ 1073) (2 ^ 2146) (λ t. leb (given n) (turned false t))
    (λ a b l k y. le→leb (given n) (turned false a) (le_trans (leb→le (given n) (turned false b) y) (low_falls (2 ^ 2146) (a * a) (b * b) (mul-le-mul l l))))
monotone true n =
    to_most (2 ^ 1073) (2 ^ 2146) (λ t. leb (turned true t) (given n))
    (λ a b h l k y.
    le→leb (turned true a) (given n)
    (le_trans (high_grows (2 ^ 2146) (a * a) (b * b) (mul-le-mul h h) (mul-le-mul l l) k) (leb→le (turned true b) (given n) y)))
