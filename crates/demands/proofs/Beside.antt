-- z(4z - 3)², the square of what the angle with the cosine √z comes to three times, beside v²: C is x² for a cosine x = g / G, Q that of the sine of t units.
-- A and 4M are t² and 1 in one unit, and N is v²: Q + A = 4M.
use mathlib.Core.Path.{◌≡◌, sym, ap, ap₂, ◌∙◌, subst}
use mathlib.Core.Logic.{⊎_elim}
use Prim.Native.Nat.{ℕ, ◌+◌, ◌-◌, ◌*◌, ◌≤◌, ◌<◌}
use native.Mathlib.Omega.{arith}
use native.Mathlib.Nat.{le_of_lt, lt_of_lt_of_le, lt_of_le_of_lt, lt_irrefl, mul-le-mul, mul-le-mul_left}
use native.Mathlib.Nat.{mul-le-mul_right, mul-lt-mul_of_pos_right, mul-pos, mul_comm, sub-add_cancel}
use Rattle.algebra.specs.NatOrder.{le_or_lt, sub_mul}
use Rattle.algebra.specs.RingNat.{ring, #, ◌:+◌, ◌:*◌, ◌:=◌}

-- ---- z(4z - 3)² grows from 3/4 on, and falls from 1/4 to 3/4

pub low_strict : (M q c : ℕ) → 3 * M ≤ q → q < c → q * ((q - 3 * M) * (q - 3 * M)) < c * ((c - 3 * M) * (c - 3 * M))
low_strict M q c l k =
    let d : q - 3 * M ≤ c - 3 * M = omega arith in
    let p : 0 < (c - 3 * M) * (c - 3 * M) = let z : 0 < c - 3 * M = omega arith in mul-pos z z in
    lt_of_le_of_lt (mul-le-mul_left q (mul-le-mul d d)) (mul-lt-mul_of_pos_right k p)

pub high_strict : (M q c : ℕ) → M ≤ q → q < c → c ≤ 3 * M → c * ((3 * M - c) * (3 * M - c)) < q * ((3 * M - q) * (3 * M - q))
high_strict M q c l k m =
    let g = c - q in
    let e = 3 * M - c in
    let r = 2 * q - e in
    let upper : c ≡ q + g = omega arith in
    let both : 3 * M - q ≡ g + e = omega arith in
    let twice : 2 * q ≡ e + r = omega arith in
    let more : q * ((g + e) * (g + e)) ≡ (q + g) * (e * e) + (q * (g * g) + r * (g * e)) =
    ring 3 (λ q g e. q :* ((g :+ e) :* (g :+ e)) := q :* (g :* g) :+ # 2 :* q :* (g :* e) :+ q :* (e :* e)) tt q g e
    ∙ ap (λ (x : ℕ). q * (g * g) + x * (g * e) + q * (e * e)) twice
    ∙ ring 4 (λ q g e r. q :* (g :* g) :+ (e :+ r) :* (g :* e) :+ q :* (e :* e) := (q :+ g) :* (e :* e) :+ (q :* (g :* g) :+ r :* (g :* e))) tt q g e r in
    let some : 0 < q * (g * g) = let z : 0 < g = omega arith in mul-pos (let y : 0 < q = omega arith in y) (mul-pos z z) in
    subst (λ (x : ℕ). x * (e * e) < q * ((3 * M - q) * (3 * M - q))) (sym upper)
    (subst (λ (x : ℕ). (q + g) * (e * e) < q * (x * x)) (sym both)
    (subst (λ (x : ℕ). (q + g) * (e * e) < x) (sym more) (let z : (q + g) * (e * e) < (q + g) * (e * e) + (q * (g * g) + r * (g * e)) = omega arith in z)))

-- ---- sides of an inequality, x being z and the part y

pub part_most : (x y z w : ℕ) → x ≡ y + z → x + 0 ≤ z + w → y ≤ w
part_most x y z w e k = omega arith

pub part_least : (x y z w : ℕ) → x ≡ y + z → z + w ≤ x + 0 → w ≤ y
part_least x y z w e k = omega arith

pub part_none : (x y z w : ℕ) → x ≡ y + z → 0 < y → x + w ≤ z + 0 → ⊥
part_none x y z w e s k = omega arith

pub thrice : (x : ℕ) → x ≤ 3 * x
thrice x = omega arith

-- ---- what the cubic says of x, with U for 1, 4m = U², C = x² and M = 1/4 times G², and N = v² / 4

module _ (U m g G n : ℕ) (one : U * U ≡ 4 * m) where
  unfoldable pub C : ℕ
  C = g * g * (4 * m)

  unfoldable pub M : ℕ
  M = m * (G * G)

  unfoldable pub N : ℕ
  N = n * n * (m * m) * (G * G * G * (G * G * G))

  -- e is how far 4x² and 3 are apart, and f the product g * e * U
  pub squares : (e : ℕ) → g * e * U * (g * e * U) * (m * m) ≡ C * (m * e * (m * e))
  unfolding C
  squares e =
      ring 4 (λ U m g e. g :* e :* U :* (g :* e :* U) :* (m :* m) := g :* g :* (U :* U) :* (m :* e :* (m :* e))) tt U m g e
      ∙ ap (λ (x : ℕ). g * g * x * (m * e * (m * e))) one

  pub squared : (x y : ℕ) → x ≤ y → x * x * (m * m) ≤ y * y * (m * m)
  squared x y l = mul-le-mul_right (m * m) (mul-le-mul l l)

  pub given_is : n * (G * G * G) * (n * (G * G * G)) * (m * m) ≡ N
  unfolding N
  given_is = ring 3 (λ n G m. n :* (G :* G :* G) :* (n :* (G :* G :* G)) :* (m :* m) := n :* n :* (m :* m) :* (G :* G :* G :* (G :* G :* G))) tt n G m

  -- x above √3/2, and below it
  pub above_is : C - 3 * M ≡ m * (4 * (g * g) - 3 * (G * G))
  unfolding C M
  above_is =
      ap₂ (λ (x y : ℕ). x - y) (ring 2 (λ g m. g :* g :* (# 4 :* m) := # 4 :* (g :* g) :* m) tt g m)
      (ring 2 (λ G m. # 3 :* (m :* (G :* G)) := # 3 :* (G :* G) :* m) tt G m)
      ∙ sym (sub_mul (4 * (g * g)) (3 * (G * G)) m)
      ∙ mul_comm (4 * (g * g) - 3 * (G * G)) m

  pub below_is : 3 * M - C ≡ m * (3 * (G * G) - 4 * (g * g))
  unfolding C M
  below_is =
      ap₂ (λ (x y : ℕ). x - y) (ring 2 (λ G m. # 3 :* (m :* (G :* G)) := # 3 :* (G :* G) :* m) tt G m)
      (ring 2 (λ g m. g :* g :* (# 4 :* m) := # 4 :* (g :* g) :* m) tt g m)
      ∙ sym (sub_mul (3 * (G * G)) (4 * (g * g)) m)
      ∙ mul_comm (3 * (G * G) - 4 * (g * g)) m

  pub above_part : 3 * (G * G) ≤ 4 * (g * g) → 4 * (g * g * g) * U ≡ g * (4 * (g * g) - 3 * (G * G)) * U + 3 * g * (G * G) * U
  above_part l =
      ring 2 (λ g U. # 4 :* (g :* g :* g) :* U := g :* (# 4 :* (g :* g)) :* U) tt g U
      ∙ ap (λ (x : ℕ). g * x * U) (sym (sub-add_cancel l))
      ∙ ring 4 (λ g e G U. g :* (e :+ # 3 :* (G :* G)) :* U := g :* e :* U :+ # 3 :* g :* (G :* G) :* U) tt g (4 * (g * g) - 3 * (G * G)) G U

  pub below_part : 4 * (g * g) ≤ 3 * (G * G) → 3 * g * (G * G) * U ≡ g * (3 * (G * G) - 4 * (g * g)) * U + 4 * (g * g * g) * U
  below_part l =
      ring 3 (λ g G U. # 3 :* g :* (G :* G) :* U := g :* (# 3 :* (G :* G)) :* U) tt g G U
      ∙ ap (λ (x : ℕ). g * x * U) (sym (sub-add_cancel l))
      ∙ ring 3 (λ g e U. g :* (e :+ # 4 :* (g :* g)) :* U := g :* e :* U :+ # 4 :* (g :* g :* g) :* U) tt g (3 * (G * G) - 4 * (g * g)) U

  pub above_square : (e : ℕ) → g * e * U ≤ n * (G * G * G) → C * (m * e * (m * e)) ≤ N
  above_square e l =
      subst (λ (x : ℕ). x ≤ N) (squares e) (subst (λ (x : ℕ). g * e * U * (g * e * U) * (m * m) ≤ x) given_is (squared (g * e * U) (n * (G * G * G)) l))

  pub below_square : (e : ℕ) → n * (G * G * G) ≤ g * e * U → N ≤ C * (m * e * (m * e))
  below_square e l =
      subst (λ (x : ℕ). N ≤ x) (squares e) (subst (λ (x : ℕ). x ≤ g * e * U * (g * e * U) * (m * m)) given_is (squared (n * (G * G * G)) (g * e * U) l))

  -- 4x³ ≤ 3x + v, for a v not below zero and for one below
  pub most_above : 3 * (G * G) ≤ 4 * (g * g) → 4 * (g * g * g) * U + 0 ≤ 3 * g * (G * G) * U + n * (G * G * G) → C * ((C - 3 * M) * (C - 3 * M)) ≤ N
  most_above l k =
      let e = 4 * (g * g) - 3 * (G * G) in
      subst (λ (x : ℕ). C * (x * x) ≤ N) (sym above_is) (above_square e (part_most _ _ _ _ (above_part l) k))

  pub most_below : 4 * (g * g) ≤ 3 * (G * G) → 4 * (g * g * g) * U + n * (G * G * G) ≤ 3 * g * (G * G) * U + 0 → N ≤ C * ((3 * M - C) * (3 * M - C))
  most_below l k =
      let e = 3 * (G * G) - 4 * (g * g) in
      subst (λ (x : ℕ). N ≤ C * (x * x)) (sym below_is) (below_square e (part_least _ _ _ _ (below_part l) k))

  -- 3x + v ≤ 4x³
  pub least_above : 3 * (G * G) ≤ 4 * (g * g) → 3 * g * (G * G) * U + n * (G * G * G) ≤ 4 * (g * g * g) * U + 0 → N ≤ C * ((C - 3 * M) * (C - 3 * M))
  least_above l k =
      let e = 4 * (g * g) - 3 * (G * G) in
      subst (λ (x : ℕ). N ≤ C * (x * x)) (sym above_is) (below_square e (part_least _ _ _ _ (above_part l) k))

  pub least_below : 4 * (g * g) ≤ 3 * (G * G) → 3 * g * (G * G) * U + 0 ≤ 4 * (g * g * g) * U + n * (G * G * G) → C * ((3 * M - C) * (3 * M - C)) ≤ N
  least_below l k =
      let e = 3 * (G * G) - 4 * (g * g) in
      subst (λ (x : ℕ). C * (x * x) ≤ N) (sym below_is) (above_square e (part_most _ _ _ _ (below_part l) k))

  -- an x of a half at least is not 0, so the sign of v says on which side of √3/2 it is
  pub side_most : 0 < g → 0 < U → 4 * (g * g * g) * U + n * (G * G * G) ≤ 3 * g * (G * G) * U + 0 → 4 * (g * g) ≤ 3 * (G * G)
  side_most p q k =
      ⊎_elim (λ l. l) (λ l. absurd
      (part_none _ _ _ _ (above_part (le_of_lt l)) (mul-pos (mul-pos p (let z : 0 < 4 * (g * g) - 3 * (G * G) = omega arith in z)) q) k))
      (le_or_lt (4 * (g * g)) (3 * (G * G)))

  pub side_least : 0 < g → 0 < U → 3 * g * (G * G) * U + n * (G * G * G) ≤ 4 * (g * g * g) * U + 0 → 3 * (G * G) ≤ 4 * (g * g)
  side_least p q k =
      ⊎_elim (λ l. l) (λ l. absurd
      (part_none _ _ _ _ (below_part (le_of_lt l)) (mul-pos (mul-pos p (let z : 0 < 3 * (G * G) - 4 * (g * g) = omega arith in z)) q) k))
      (le_or_lt (3 * (G * G)) (4 * (g * g)))

  -- x beside 1/2 and √3/2, by C and M
  pub half_most : 2 * g ≤ G → C ≤ M
  unfolding C M
  half_most l =
      subst (λ (x : ℕ). x ≤ m * (G * G)) (ring 2 (λ g m. m :* (# 2 :* g :* (# 2 :* g)) := g :* g :* (# 4 :* m)) tt g m) (mul-le-mul_left m (mul-le-mul l l))

  pub half_least : G ≤ 2 * g → M ≤ C
  unfolding C M
  half_least l =
      subst (λ (x : ℕ). m * (G * G) ≤ x) (ring 2 (λ g m. m :* (# 2 :* g :* (# 2 :* g)) := g :* g :* (# 4 :* m)) tt g m) (mul-le-mul_left m (mul-le-mul l l))

  pub three_most : 4 * (g * g) ≤ 3 * (G * G) → C ≤ 3 * M
  unfolding C M
  three_most l =
      subst (λ (x : ℕ). x ≤ 3 * (m * (G * G))) (ring 2 (λ g m. m :* (# 4 :* (g :* g)) := g :* g :* (# 4 :* m)) tt g m)
      (subst (λ (x : ℕ). m * (4 * (g * g)) ≤ x) (ring 2 (λ G m. m :* (# 3 :* (G :* G)) := # 3 :* (m :* (G :* G))) tt G m) (mul-le-mul_left m l))

  pub three_least : 3 * (G * G) ≤ 4 * (g * g) → 3 * M ≤ C
  unfolding C M
  three_least l =
      subst (λ (x : ℕ). 3 * (m * (G * G)) ≤ x) (ring 2 (λ g m. m :* (# 4 :* (g :* g)) := g :* g :* (# 4 :* m)) tt g m)
      (subst (λ (x : ℕ). x ≤ m * (4 * (g * g))) (ring 2 (λ G m. m :* (# 3 :* (G :* G)) := # 3 :* (m :* (G :* G))) tt G m) (mul-le-mul_left m l))

-- ---- C beside Q = 4M - A

module _ (M A C N : ℕ) where
  pub Q : ℕ
  Q = 4 * M - A

  -- s up to a half: A ≤ M
  pub most_low : A ≤ M → N ≤ (4 * M - A) * ((M - A) * (M - A)) → (3 * M ≤ C → C * ((C - 3 * M) * (C - 3 * M)) ≤ N) → C + A ≤ 4 * M
  unfolding Q
  most_low a p k =
      ⊎_elim (λ l. l)
      (λ l.
      let same : M - A ≡ Q - 3 * M = omega arith in
      let s = low_strict M Q C (omega arith) (omega arith) in
      absurd (lt_irrefl N (lt_of_le_of_lt (subst (λ (x : ℕ). N ≤ Q * (x * x)) same p) (lt_of_lt_of_le s (k (omega arith))))))
      (le_or_lt (C + A) (4 * M))

  pub least_low : A ≤ M → (4 * M - A) * ((M - A) * (M - A)) ≤ N → 3 * M ≤ C → N ≤ C * ((C - 3 * M) * (C - 3 * M)) → 4 * M ≤ C + A
  unfolding Q
  least_low a p h k =
      ⊎_elim (λ l. l)
      (λ l.
      let same : M - A ≡ Q - 3 * M = omega arith in
      let s = low_strict M C Q h (omega arith) in
      absurd (lt_irrefl N (lt_of_le_of_lt k (lt_of_lt_of_le s (subst (λ (x : ℕ). Q * (x * x) ≤ N) same p)))))
      (le_or_lt (4 * M) (C + A))

  -- and from there on
  pub most_high : M ≤ A → A ≤ 3 * M → (4 * M - A) * ((A - M) * (A - M)) ≤ N → C ≤ 3 * M → N ≤ C * ((3 * M - C) * (3 * M - C)) → C + A ≤ 4 * M
  unfolding Q
  most_high a b p h k =
      ⊎_elim (λ l. l)
      (λ l.
      let same : A - M ≡ 3 * M - Q = omega arith in
      let s = high_strict M Q C (omega arith) (omega arith) h in
      absurd (lt_irrefl N (lt_of_le_of_lt k (lt_of_lt_of_le s (subst (λ (x : ℕ). Q * (x * x) ≤ N) same p)))))
      (le_or_lt (C + A) (4 * M))

  pub least_high : M ≤ A → A ≤ 3 * M → N ≤ (4 * M - A) * ((A - M) * (A - M)) → M ≤ C → C * ((3 * M - C) * (3 * M - C)) ≤ N → 4 * M ≤ C + A
  unfolding Q
  least_high a b p h k =
      ⊎_elim (λ l. l)
      (λ l.
      let same : A - M ≡ 3 * M - Q = omega arith in
      let s = high_strict M C Q h (omega arith) (omega arith) in
      absurd (lt_irrefl N (lt_of_le_of_lt (subst (λ (x : ℕ). N ≤ Q * (x * x)) same p) (lt_of_lt_of_le s k))))
      (le_or_lt (4 * M) (C + A))
