-- Veltkamp's splitting: with c = (2 ^ 27 + 1) x, w = c - x, hi = c - w and lo = x - hi, each rounded, hi + lo is x, and neither part is large.
-- Where x has all of its 53 digits in use, x = X U with U = 2 ^ i and 2 ^ 52 ≤ |X| < 2 ^ 53 (`Full`), hi is a multiple of 2 ^ 27 U, and |lo| ≤ 2 ^ 26 U
-- (`halves`). Where x is below 2 ^ 52 units, neither part is above 3 |x| (`small_high`, `small_low`). The argument for a full x:
--   |c - (2 ^ 27 + 1) x| ≤ 2 ^ 27 U, and c is a multiple of 2 ^ 27 U
--   |c - x| ≥ 2 ^ 79 U: for |X| > 2 ^ 52 by that bound, for |X| = 2 ^ 52 since c is then exact. And |c - x| ≤ 2 ^ 80 U
--   so w is a multiple of 2 ^ 27 U within 2 ^ 26 U of c - x
--   so c - w is a multiple of 2 ^ 27 U by few, hi is exact, and so is x - hi, which is 2 ^ 26 U at most
-- A number x is the difference x1 - x2. 134217729 is 2 ^ 27 + 1.
use mathlib.Core.Path.{◌≡◌, sym, ap, ◌∙◌, subst}
use mathlib.Core.Logic.{◌⊎◌, inl, inr}
use Prim.Native.Nat.{ℕ, ◌+◌, ◌-◌, ◌*◌, ◌^◌, ◌≤◌, ◌<◌}
use native.Mathlib.Nat.{le_trans, le_of_eq, add_comm, le-add_left, zero-mul, mul-le-mul_right, mul-le-mul_left}
use native.Mathlib.Omega.{arith}
use lib.Dec.{lit≤}
use lib.Pow.{pow-add, pow_pos}
use Rattle.algebra.specs.NatOrder.{le_or_lt, pow2_finer}
use Rattle.rounding.specs.Diff.{Diff, ◌⊞◌, ◌⊟◌, ◌⊡◌, ◌≈◌, Apart, SizeAtMost}
use Rattle.rounding.proofs.Value.{Near}
use Rattle.rounding.proofs.Exact.{coarse, half_unit, exact_sum}
use Rattle.rounding.proofs.Moved.{Rounds, sum_moved, few_exact}

-- ---- the arithmetic, on plain numbers: U is a unit of x, and G is 2 ^ 27 U or 2 ^ 28 U
c_bound : (x1 x2 U G : ℕ) → G ≡ 2 ^ 28 * U → x1 + x2 + U ≤ 2 ^ 53 * U → 134217729 * x1 ≤ 134217729 * x2 + 2 ^ 53 * (1 * G)
c_bound x1 x2 U G g h =
    let y : x1 ≤ 2 ^ 53 * U = omega arith in
    let z : 2 ^ 28 * (2 ^ 53 * U) ≡ 2 ^ 53 * (1 * G) = omega arith in
    le_trans (mul-le-mul_right x1 (lit≤ tt))
    (le_trans (mul-le-mul_left (2 ^ 28) y) (le_trans (le_of_eq z) (le-add_left (2 ^ 53 * (1 * G)) (134217729 * x2))))

c_half : (c1 c2 P N U G : ℕ) → G ≡ 2 ^ 28 * U
    → 2 * (c1 * 1) + 2 * N ≤ 2 * P + 2 * (c2 * 1) + 1 * G → 2 * P + 2 * (c2 * 1) ≤ 2 * (c1 * 1) + 2 * N + 1 * G
    → (c1 + N ≤ c2 + P + 2 ^ 27 * U) × (c2 + P ≤ c1 + N + 2 ^ 27 * U)
c_half c1 c2 P N U G g h l = omega arith

-- where X is 2 ^ 52, c is a multiple of x itself
one_digit : (x1 x2 G : ℕ) → x1 ≡ G → x2 ≡ 0
    → (134217729 * x1 + 0 * G ≡ 134217729 * x2 + 134217729 * G)
    × (134217729 * x1 ≤ 134217729 * x2 + 2 ^ 53 * G) × (134217729 * x2 ≤ 134217729 * x1 + 2 ^ 53 * G)
one_digit x1 x2 G h o = omega arith

w_bound : (x1 x2 c1 c2 U G : ℕ) → G ≡ 2 ^ 27 * U → x1 + x2 + U ≤ 2 ^ 53 * U
    → c1 + 134217729 * x2 ≤ c2 + 134217729 * x1 + 2 ^ 27 * U → c1 + x2 ≤ c2 + x1 + 2 ^ 53 * (1 * G)
w_bound x1 x2 c1 c2 U G g h l = omega arith

-- c - x is 2 ^ 79 U or more: where X is above 2 ^ 52, and where c is exact
w_large : (X x1 x2 c1 c2 U G : ℕ) → G ≡ 2 ^ 27 * U → x2 ≡ 0 → x1 ≡ X * U → 2 ^ 52 < X
    → c2 + 134217729 * x1 ≤ c1 + 134217729 * x2 + 2 ^ 27 * U → 2 ^ 52 * (1 * G) + (c2 + x1) ≤ c1 + x2
w_large X x1 x2 c1 c2 U G g o e m h =
    let y : 2 ^ 52 * U + U ≤ x1 = omega (arith, mul-le-mul_right U m) in
    omega arith

w_large_exact : (x1 x2 c1 c2 U G : ℕ) → G ≡ 2 ^ 27 * U → x2 ≡ 0 → 2 ^ 52 * U ≤ x1
    → 134217729 * x1 + c2 ≡ 134217729 * x2 + c1 → 2 ^ 52 * (1 * G) + (c2 + x1) ≤ c1 + x2
w_large_exact x1 x2 c1 c2 U G g o h e = omega arith

mirror : (a b c d G : ℕ) → a + b ≤ c + d + G → b + a ≤ d + c + G
mirror a b c d G h = omega arith

-- hi is c - w, a multiple of G, and x - hi at most a half of G
regroup : (c1 c2 w1 w2 C1 C2 W1 W2 G : ℕ) → c1 ≡ C1 * G → c2 ≡ C2 * G → w1 ≡ W1 * G → w2 ≡ W2 * G → c1 + w2 + (C2 + W1) * G ≡ c2 + w1 + (C1 + W2) * G
regroup c1 c2 w1 w2 C1 C2 W1 W2 G a b c d = omega arith

rounded_is : (x1 x2 y1 y2 z1 z2 A B : ℕ) → x1 + y2 + B ≡ x2 + y1 + A → x1 + y2 + z2 ≡ x2 + y1 + z1 → z1 + B ≡ z2 + A
rounded_is x1 x2 y1 y2 z1 z2 A B e f = omega arith

hi_bound : (x1 x2 c1 c2 w1 w2 U G : ℕ) → G ≡ 2 ^ 27 * U → x1 + x2 + U ≤ 2 ^ 53 * U
    → 2 * (w2 * 1) + 2 * (c1 + x2) ≤ 2 * (c2 + x1) + 2 * (w1 * 1) + 1 * G → c1 + w2 ≤ c2 + w1 + 2 ^ 53 * G
hi_bound x1 x2 c1 c2 w1 w2 U G g s h =
    let y : x1 ≤ 2 ^ 26 * G = let z : x1 ≤ 2 ^ 53 * U = omega arith in omega arith in
    weak x1 x2 c1 c2 w1 w2 G y h
  where
    weak : (x1 x2 c1 c2 w1 w2 G : ℕ) → x1 ≤ 2 ^ 26 * G → 2 * (w2 * 1) + 2 * (c1 + x2) ≤ 2 * (c2 + x1) + 2 * (w1 * 1) + 1 * G → c1 + w2 ≤ c2 + w1 + 2 ^ 53 * G
    weak x1 x2 c1 c2 w1 w2 G y h = omega arith

lo_half : (x1 x2 c1 c2 w1 w2 h1 h2 G : ℕ) → c1 + w2 + h2 ≡ c2 + w1 + h1
    → 2 * (w1 * 1) + 2 * (c2 + x1) ≤ 2 * (c1 + x2) + 2 * (w2 * 1) + 1 * G → 2 * (x1 + h2) ≤ 2 * (x2 + h1) + G
lo_half x1 x2 c1 c2 w1 w2 h1 h2 G e h = omega arith

lo_bound : (x y U G : ℕ) → G ≡ 2 ^ 27 * U → 2 * x ≤ 2 * y + G → x ≤ y + 2 ^ 53 * U
lo_bound x y U G g h = omega arith

lo_multiple : (x1 x2 h1 h2 X1 X2 H1 H2 U G : ℕ) → G ≡ 2 ^ 27 * U → x1 ≡ X1 * U → x2 ≡ X2 * U → h1 + H2 * G ≡ h2 + H1 * G
    → x1 + h2 + (X2 + H1 * 2 ^ 27) * U ≡ x2 + h1 + (X1 + H2 * 2 ^ 27) * U
lo_multiple x1 x2 h1 h2 X1 X2 H1 H2 U G g x y h = omega (arith, ap (λ (z : ℕ). H1 * z) g, ap (λ (z : ℕ). H2 * z) g)

lo_size : (x1 x2 h1 h2 l1 l2 U G : ℕ) → G ≡ 2 ^ 27 * U → x1 + h2 + l2 ≡ x2 + h1 + l1 → 2 * (x1 + h2) ≤ 2 * (x2 + h1) + G → 2 * l1 ≤ 2 * l2 + 2 ^ 27 * U
lo_size x1 x2 h1 h2 l1 l2 U G g e h = omega arith

-- ---- x is a - b units of 2 ^ i, with all the 53 digits in use
pub record Full (x1 x2 : ℕ) : Type 0 where
  pub i : ℕ
  pub a : ℕ
  pub b : ℕ
  pub p_is : x1 ≡ a * 2 ^ i
  pub n_is : x2 ≡ b * 2 ^ i
  pub few : a + b < 2 ^ 53
  pub many : ((b ≡ 0) × (2 ^ 52 ≤ a)) ⊎ ((a ≡ 0) × (2 ^ 52 ≤ b))

-- ---- x in two parts: hi is a - b times 2 ^ 27 U, and lo is a' - b' times U
pub record Halves (x1 x2 U h1 h2 l1 l2 : ℕ) : Type 0 where
  pub a : ℕ
  pub b : ℕ
  pub a' : ℕ
  pub b' : ℕ
  pub hi : h1 + b * (2 ^ 27 * U) ≡ h2 + a * (2 ^ 27 * U)
  pub lo : l1 + b' * U ≡ l2 + a' * U
  pub adds_up : x1 + (h2 + l2) ≡ x2 + (h1 + l1)
  pub lo_few : (2 * l1 ≤ 2 * l2 + 2 ^ 27 * U) × (2 * l2 ≤ 2 * l1 + 2 ^ 27 * U)

module _ {x1 x2 c1 c2 w1 w2 h1 h2 l1 l2 : ℕ} (C : Near (134217729 * x1) (134217729 * x2) 1 c1 c2) (W : Near (c1 + x2) (c2 + x1) 1 w1 w2)
    (H : Near (c1 + w2) (c2 + w1) 1 h1 h2) (L : Near (x1 + h2) (x2 + h1) 1 l1 l2) where
  module _ (F : Full x1 x2) where
    abbrev U : ℕ
    U = 2 ^ F.i

    -- the unit of c, w and hi
    abbrev G : ℕ
    G = 2 ^ (27 + F.i)

    G_is : G ≡ 2 ^ 27 * U
    G_is = pow-add 2 27 F.i

    twice_G : 2 ^ (28 + F.i) ≡ 2 ^ 28 * U
    twice_G = pow-add 2 28 F.i

    x_few : x1 + x2 + U ≤ 2 ^ 53 * U
    x_few = omega (arith, F.p_is, F.n_is, mul-le-mul_right U F.few)

    x_few' : x2 + x1 + U ≤ 2 ^ 53 * U
    x_few' = le_trans (le_of_eq (ap (λ (z : ℕ). z + U) (add_comm x2 x1))) x_few

    -- one of the two parts is 0
    none : {x : ℕ} (a : ℕ) → x ≡ a * U → a ≡ 0 → x ≡ 0
    none a e o = e ∙ ap (λ (z : ℕ). z * U) o ∙ zero-mul U

    x_many : ((x2 ≡ 0) × (2 ^ 52 * U ≤ x1)) ⊎ ((x1 ≡ 0) × (2 ^ 52 * U ≤ x2))
    x_many = elim F.many [
      | inl o ↦ inl (none F.b F.n_is o.0, le_trans (mul-le-mul_right U o.1) (le_of_eq (sym F.p_is)))
      | inr o ↦ inr (none F.a F.p_is o.0, le_trans (mul-le-mul_right U o.1) (le_of_eq (sym F.n_is)))
    ]

    -- ---- c
    c_unit : 27 + F.i ≤ C.k
    c_unit = coarse (pow_pos 0) C (27 + F.i) (elim x_many [ inl o ↦ inl (omega (arith, G_is)) | inr o ↦ inr (omega (arith, G_is)) ])

    c_near : (c1 + 134217729 * x2 ≤ c2 + 134217729 * x1 + 2 ^ 27 * U) × (c2 + 134217729 * x1 ≤ c1 + 134217729 * x2 + 2 ^ 27 * U)
    c_near =
        let h = half_unit (pow_pos 0) C (28 + F.i) (c_bound x1 x2 U (2 ^ (28 + F.i)) twice_G x_few) (c_bound x2 x1 U (2 ^ (28 + F.i)) twice_G x_few') in
        c_half c1 c2 (134217729 * x1) (134217729 * x2) U (2 ^ (28 + F.i)) twice_G h.0 h.1

    c_exact : F.a + F.b ≡ 2 ^ 52 → 134217729 * x1 + c2 ≡ 134217729 * x2 + c1
    c_exact e = elim F.many [
      | inl o ↦
          let d = F.p_is ∙ ap (λ (z : ℕ). z * U) (omega (arith, o.0, e)) ∙ sym (pow-add 2 52 F.i) in
          let h = one_digit x1 x2 (2 ^ (52 + F.i)) d (none F.b F.n_is o.0) in
          exact_sum C (52 + F.i) 134217729 0 h.0 h.1 h.2
      | inr o ↦
          let d = F.n_is ∙ ap (λ (z : ℕ). z * U) (omega (arith, o.0, e)) ∙ sym (pow-add 2 52 F.i) in
          let h = one_digit x2 x1 (2 ^ (52 + F.i)) d (none F.a F.p_is o.0) in
          exact_sum C (52 + F.i) 0 134217729 (sym h.0) h.2 h.1
    ]

    -- ---- w
    w_unit : 27 + F.i ≤ W.k
    w_unit = coarse (pow_pos 0) W (27 + F.i) (elim (le_or_lt (F.a + F.b) (2 ^ 52)) [
      | inl z ↦ elim x_many [
        | inl o ↦ inl (w_large_exact x1 x2 c1 c2 U G G_is o.0 o.1 (c_exact (least z)))
        | inr o ↦ inr (w_large_exact x2 x1 c2 c1 U G G_is o.0 o.1 (sym (c_exact (least z))))
      ]
      | inr z ↦ elim F.many [
        | inl o ↦ inl (w_large F.a x1 x2 c1 c2 U G G_is (none F.b F.n_is o.0) F.p_is (omega (arith, o.0, z)) c_near.1)
        | inr o ↦ inr (w_large F.b x2 x1 c2 c1 U G G_is (none F.a F.p_is o.0) F.n_is (omega (arith, o.0, z)) c_near.0)
      ]
    ])
      where
        least : F.a + F.b ≤ 2 ^ 52 → F.a + F.b ≡ 2 ^ 52
        least z = elim F.many [ inl o ↦ omega (arith, o.1) | inr o ↦ omega (arith, o.1) ]

    w_near : (2 * (w1 * 1) + 2 * (c2 + x1) ≤ 2 * (c1 + x2) + 2 * (w2 * 1) + 1 * G) × (2 * (w2 * 1) + 2 * (c1 + x2) ≤ 2 * (c2 + x1) + 2 * (w1 * 1) + 1 * G)
    w_near =
        let h = half_unit (pow_pos 0) W (27 + F.i) (w_bound x1 x2 c1 c2 U G G_is x_few c_near.0) (w_bound x2 x1 c2 c1 U G G_is x_few' c_near.1) in
        (h.0, mirror (2 * (c1 + x2)) (2 * (w2 * 1)) (2 * (w1 * 1)) (2 * (c2 + x1)) (1 * G) h.1)

    -- ---- c - w is H1 - H2 times G, and so is hi
    H1 : ℕ
    H1 = C.a * 2 ^ (C.k - (27 + F.i)) + W.b * 2 ^ (W.k - (27 + F.i))

    H2 : ℕ
    H2 = C.b * 2 ^ (C.k - (27 + F.i)) + W.a * 2 ^ (W.k - (27 + F.i))

    c_w : c1 + w2 + H2 * G ≡ c2 + w1 + H1 * G
    unfolding H1 H2
    c_w =
        regroup c1 c2 w1 w2 _ _ _ _ G
        (C.p_is ∙ pow2_finer C.a c_unit) (C.n_is ∙ pow2_finer C.b c_unit) (W.p_is ∙ pow2_finer W.a w_unit) (W.n_is ∙ pow2_finer W.b w_unit)

    hi_exact : c1 + w2 + h2 ≡ c2 + w1 + h1
    hi_exact =
        exact_sum H (27 + F.i) H1 H2 c_w
        (hi_bound x1 x2 c1 c2 w1 w2 U G G_is x_few w_near.1) (hi_bound x2 x1 c2 c1 w2 w1 U G G_is x_few' w_near.0)

    hi_is : h1 + H2 * G ≡ h2 + H1 * G
    hi_is = rounded_is c1 c2 w1 w2 h1 h2 (H1 * G) (H2 * G) c_w hi_exact

    -- ---- lo
    lo_near : (2 * (x1 + h2) ≤ 2 * (x2 + h1) + G) × (2 * (x2 + h1) ≤ 2 * (x1 + h2) + G)
    lo_near = (lo_half x1 x2 c1 c2 w1 w2 h1 h2 G hi_exact w_near.0, lo_half x2 x1 c2 c1 w2 w1 h2 h1 G (sym hi_exact) w_near.1)

    lo_is : x1 + h2 + (F.b + H1 * 2 ^ 27) * U ≡ x2 + h1 + (F.a + H2 * 2 ^ 27) * U
    lo_is = lo_multiple x1 x2 h1 h2 F.a F.b H1 H2 U G G_is F.p_is F.n_is hi_is

    lo_exact : x1 + h2 + l2 ≡ x2 + h1 + l1
    lo_exact =
        exact_sum L F.i (F.a + H2 * 2 ^ 27) (F.b + H1 * 2 ^ 27) lo_is
        (lo_bound (x1 + h2) (x2 + h1) U G G_is lo_near.0) (lo_bound (x2 + h1) (x1 + h2) U G G_is lo_near.1)

    pub halves : Halves x1 x2 (2 ^ F.i) h1 h2 l1 l2
    halves =
        record {
          a = H1;
          b = H2;
          a' = F.a + H2 * 2 ^ 27;
          b' = F.b + H1 * 2 ^ 27;
          hi = subst (λ (g : ℕ). h1 + H2 * g ≡ h2 + H1 * g) G_is hi_is;
          lo = rounded_is x1 x2 h1 h2 l1 l2 ((F.a + H2 * 2 ^ 27) * U) ((F.b + H1 * 2 ^ 27) * U) lo_is lo_exact;
          adds_up = omega (arith, lo_exact);
          lo_few = (lo_size x1 x2 h1 h2 l1 l2 U G G_is lo_exact lo_near.0, lo_size x2 x1 h2 h1 l2 l1 U G G_is (sym lo_exact) lo_near.1);
        }

-- ---- a number x of no more than X < 2 ^ 52 units: each operation goes by X at most, x - hi is exact, and neither part is more than 3 X
module _ (x c w h l : Diff) (X : ℕ) (few : X < 2 ^ 52) (x_few : SizeAtMost x X)
    (C : Rounds (x ⊡ 134217729) 1 c) (W : Rounds (c ⊟ x) 1 w) (H : Rounds (c ⊟ w) 1 h) (L : Rounds (x ⊟ h) 1 l) where
  c_moved : Apart c (x ⊡ 134217729) X
  c_moved = sum_moved (x ⊡ 134217729) c X C (omega arith, omega arith)

  w_moved : Apart w (c ⊟ x) X
  w_moved = let c' = c_moved in sum_moved (c ⊟ x) w X W (omega arith, omega arith)

  h_moved : Apart h (c ⊟ w) X
  h_moved = let w' = w_moved in sum_moved (c ⊟ w) h X H (omega arith, omega arith)

  rest_few : SizeAtMost (x ⊟ h) (2 * X)
  rest_few = let w' = w_moved in let h' = h_moved in (omega arith, omega arith)

  pub small_whole : x ≈ h ⊞ l
  small_whole = let r = rest_few in let e = few_exact (x ⊟ h) l L (omega arith, omega arith) in omega arith

  pub small_high : SizeAtMost h (3 * X)
  small_high = let r = rest_few in (omega arith, omega arith)

  pub small_low : SizeAtMost l (3 * X)
  small_low = let r = rest_few in let e = small_whole in (omega arith, omega arith)
