-- s is nearest to √(1 - c²) for the exact c. With x = g / G for a cosine and t units for a sine, C, A and 4M are x², t² and 1 in one unit, and N is v² beside
-- the squares C(4C - 3)² and Q(4Q - 3)² of the cosines of three times the angles with the cosines x and q, where q belongs to t: Q + A = 4M.
use mathlib.Core.Path.{◌≡◌, refl, sym, ap, ap₂, ◌∙◌, subst}
use mathlib.Core.Logic.{◌⊎◌, inl, inr, ⊎_elim}
use mathlib.Core.Bool.{Bool, true, false, not, ◌&&◌, true≢false}
use Prim.Native.Nat.{ℕ, suc, ◌+◌, ◌-◌, ◌*◌, ◌^◌, ◌≤◌, ◌<◌, zero-le}
use native.Mathlib.Omega.{arith}
use native.Mathlib.Nat.{le_trans, le_of_lt, le_of_eq, le_of_suc-le-suc, eq-or-lt_of_le, lt_of_lt_of_le, mul-le-mul, mul-le-mul_left}
use native.Mathlib.Nat.{mul-le-mul_right, mul-zero, mul_assoc, add-mul, eq-zero-or-pos}
use borrow.Author.Tests.{le-leb}
use lib.Dec.{T, leb, leb→le, le→leb, nleb→lt, eqb, eqb→eq, lit≤}
use lib.Pow.{pow_pos}
use lib.Ieee.{Float, nan, inf, fin}
use Rattle.algebra.specs.NatOrder.{le_or_lt, sub_mul}
use Rattle.algebra.specs.RingNat.{ring, #, ◌:+◌, ◌:*◌, ◌:=◌}
use Rattle.float.specs.Methods.{is_finite_of, is_sign_negative_of}
use Rattle.float.specs.Units.{units_of, Finite}
use Rattle.nearest.specs.Greatest.{greatest, nearest_of}
use Rattle.nearest.proofs.Search.{found}
use Rattle.nearest.proofs.ByTest.{apart}
use Rattle.angle.specs.Third.{turned, given, at_most_sine, sine_units, exact_sin_of}
use Rattle.angle.proofs.Turning.{both, either, monotone}
use Rattle.demands.specs.Demands.{Nearest, AtMostCosine, AtLeastCosine, AtMostSine, AtLeastSine}
use Rattle.demands.proofs.Nearest.{nearest_is}
use Rattle.demands.proofs.Cosine.{neither}
use Rattle.demands.proofs.Beside.{thrice, C, M, N, most_above, most_below, least_above, least_below, side_most, side_least, half_most, half_least}
use Rattle.demands.proofs.Beside.{three_most, three_least, most_low, least_low, most_high, least_high}

-- ---- the definition's test, times G to the sixth

m : ℕ
m = 2 ^ 2146

sixth : ℕ → ℕ
sixth G = G * G * G * (G * G * G)

module _ (t G : ℕ) where
  upper : (a : ℕ) → (a * m - t * t) * (G * G) ≡ a * (m * (G * G)) - t * t * (G * G)
  upper a = sub_mul (a * m) (t * t) (G * G) ∙ ap (λ (x : ℕ). x - t * t * (G * G)) (mul_assoc a m (G * G))

  product : (f r F R : ℕ) → f * (G * G) ≡ F → r * (G * G) ≡ R → f * (r * r) * sixth G ≡ F * (R * R)
  unfolding sixth
  product f r F R a b =
      ring 3 (λ f r G. f :* (r :* r) :* (G :* G :* G :* (G :* G :* G)) := f :* (G :* G) :* (r :* (G :* G) :* (r :* (G :* G)))) tt f r G
      ∙ ap₂ (λ (x y : ℕ). x * (y * y)) a b

  turned_low : turned false t * sixth G ≡ (4 * (m * (G * G)) - t * t * (G * G)) * ((m * (G * G) - t * t * (G * G)) * (m * (G * G) - t * t * (G * G)))
  unfolding m
  turned_low = product (2 ^ 2148 - t * t) (2 ^ 2146 - t * t) _ _ (upper 4) (sub_mul (2 ^ 2146) (t * t) (G * G))

  turned_high : turned true t * sixth G ≡ (4 * (m * (G * G)) - t * t * (G * G)) * ((t * t * (G * G) - m * (G * G)) * (t * t * (G * G) - m * (G * G)))
  unfolding m
  turned_high = product (2 ^ 2148 - t * t) (t * t - 2 ^ 2146) _ _ (upper 4) (sub_mul (t * t) (2 ^ 2146) (G * G))

  -- the same with a half unit for a unit
  halves_most : (g : ℕ) → g * g * (4 * m) + t * t * (G * G) ≤ 4 * (m * (G * G)) → 4 * (g * g) * 2 ^ 2148 + 2 * t * (2 * t) * (G * G) ≤ 4 * (G * G) * 2 ^ 2148
  unfolding m
  halves_most g l = go (2 ^ 2146) l
    where
      go : (m : ℕ) → g * g * (4 * m) + t * t * (G * G) ≤ 4 * (m * (G * G)) → 4 * (g * g) * (4 * m) + 2 * t * (2 * t) * (G * G) ≤ 4 * (G * G) * (4 * m)
      go m l =
          subst (λ (x : ℕ). x ≤ 4 * (G * G) * (4 * m))
          (ring 4 (λ g m t G. # 4 :* (g :* g :* (# 4 :* m) :+ t :* t :* (G :* G)) := # 4 :* (g :* g) :* (# 4 :* m) :+ # 2 :* t :* (# 2 :* t) :* (G :* G))
          tt g m t G)
          (subst (λ (x : ℕ). 4 * (g * g * (4 * m) + t * t * (G * G)) ≤ x)
          (ring 2 (λ G m. # 4 :* (# 4 :* (m :* (G :* G))) := # 4 :* (G :* G) :* (# 4 :* m)) tt G m) (mul-le-mul_left 4 l))

  halves_least : (g : ℕ) → 4 * (m * (G * G)) ≤ g * g * (4 * m) + t * t * (G * G) → 4 * (G * G) * 2 ^ 2148 ≤ 4 * (g * g) * 2 ^ 2148 + 2 * t * (2 * t) * (G * G)
  unfolding m
  halves_least g l = go (2 ^ 2146) l
    where
      go : (m : ℕ) → 4 * (m * (G * G)) ≤ g * g * (4 * m) + t * t * (G * G) → 4 * (G * G) * (4 * m) ≤ 4 * (g * g) * (4 * m) + 2 * t * (2 * t) * (G * G)
      go m l =
          subst (λ (x : ℕ). 4 * (G * G) * (4 * m) ≤ x)
          (ring 4 (λ g m t G. # 4 :* (g :* g :* (# 4 :* m) :+ t :* t :* (G :* G)) := # 4 :* (g :* g) :* (# 4 :* m) :+ # 2 :* t :* (# 2 :* t) :* (G :* G))
          tt g m t G)
          (subst (λ (x : ℕ). x ≤ 4 * (g * g * (4 * m) + t * t * (G * G)))
          (ring 2 (λ G m. # 4 :* (# 4 :* (m :* (G :* G))) := # 4 :* (G :* G) :* (# 4 :* m)) tt G m) (mul-le-mul_left 4 l))

  -- t beside a half and √3/2
  half_below : t ≤ 2 ^ 1073 → t * t * (G * G) ≤ m * (G * G)
  unfolding m
  half_below l = mul-le-mul_right (G * G) (mul-le-mul l l)

  half_above : 2 ^ 1073 ≤ t → m * (G * G) ≤ t * t * (G * G)
  unfolding m
  half_above l = mul-le-mul_right (G * G) (mul-le-mul l l)

  three_below : t * t ≤ 3 * 2 ^ 2146 → t * t * (G * G) ≤ 3 * (m * (G * G))
  unfolding m
  three_below l = subst (λ (x : ℕ). t * t * (G * G) ≤ x) (mul_assoc 3 (2 ^ 2146) (G * G)) (mul-le-mul_right (G * G) l)

  three_above : 3 * 2 ^ 2146 ≤ t * t → 3 * (m * (G * G)) ≤ t * t * (G * G)
  unfolding m
  three_above l = subst (λ (x : ℕ). x ≤ t * t * (G * G)) (mul_assoc 3 (2 ^ 2146) (G * G)) (mul-le-mul_right (G * G) l)

-- ---- t units are at most s, and at least it

flat : (M C N : ℕ) → C ≤ 3 * M → C * ((C - 3 * M) * (C - 3 * M)) ≤ N
flat M C N l = subst (λ (x : ℕ). C * (x * x) ≤ N) (let e : 0 ≡ C - 3 * M = omega arith in e) (subst (λ (x : ℕ). x ≤ N) (sym (mul-zero C)) zero-le)

sum_most : (M A C i j : ℕ) → i + j ≡ 4 → C ≤ i * M → A ≤ j * M → C + A ≤ 4 * M
sum_most M A C i j e a b =
    subst (λ (x : ℕ). C + A ≤ x * M) e (subst (λ (x : ℕ). C + A ≤ x) (sym (add-mul i j M)) (let l : C + A ≤ i * M + j * M = omega arith in l))

sum_least : (M A C i j : ℕ) → i + j ≡ 4 → i * M ≤ C → j * M ≤ A → 4 * M ≤ C + A
sum_least M A C i j e a b =
    subst (λ (x : ℕ). x * M ≤ C + A) e (subst (λ (x : ℕ). x ≤ C + A) (sym (add-mul i j M)) (let l : i * M + j * M ≤ C + A = omega arith in l))

once : (M A : ℕ) → A ≤ M → A ≤ 1 * M
once M A l = omega arith

once_least : (M A : ℕ) → M ≤ A → 1 * M ≤ A
once_least M A l = omega arith

module _ (n t g G : ℕ) where
  -- x², t² and 1 / 4 in one unit, and v² / 4
  X : ℕ
  X = g * g * (4 * m)

  A : ℕ
  A = t * t * (G * G)

  H : ℕ
  H = m * (G * G)

  W : ℕ
  W = n * n * (m * m) * (G * G * G * (G * G * G))

  low_most : given n ≤ turned false t → W ≤ (4 * H - A) * ((H - A) * (H - A))
  unfolding A H W m sixth
  low_most p = subst (λ (x : ℕ). given n * sixth G ≤ x) (turned_low t G) (mul-le-mul_right (sixth G) p)

  low_least : turned false t ≤ given n → (4 * H - A) * ((H - A) * (H - A)) ≤ W
  unfolding A H W m sixth
  low_least p = subst (λ (x : ℕ). x ≤ given n * sixth G) (turned_low t G) (mul-le-mul_right (sixth G) p)

  high_least : turned true t ≤ given n → (4 * H - A) * ((A - H) * (A - H)) ≤ W
  unfolding A H W m sixth
  high_least p = subst (λ (x : ℕ). x ≤ given n * sixth G) (turned_high t G) (mul-le-mul_right (sixth G) p)

  high_most : given n ≤ turned true t → W ≤ (4 * H - A) * ((A - H) * (A - H))
  unfolding A H W m sixth
  high_most p = subst (λ (x : ℕ). given n * sixth G ≤ x) (turned_high t G) (mul-le-mul_right (sixth G) p)

  under_above : t ≤ 2 ^ 1073 → given n ≤ turned false t → AtMostCosine false n g G → X + A ≤ 4 * H
  unfolding C M N X A H W m
  under_above a p (inl h) =
      sum_most H A X 1 3 refl (once H X (half_most (2 ^ 1074) m g G n refl h)) (le_trans (half_below t G a) (thrice H))
  under_above a p (inr k) =
      most_low H A X W (half_below t G a) (low_most p)
      (λ h. ⊎_elim (λ l. most_above (2 ^ 1074) m g G n refl l k) (λ l. flat H X W (three_most (2 ^ 1074) m g G n refl (le_of_lt l)))
      (le_or_lt (3 * (G * G)) (4 * (g * g))))

  under_below : (t ≤ 2 ^ 1073) ⊎ ((t * t ≤ 3 * 2 ^ 2146) × (turned true t ≤ given n)) → AtMostCosine true n g G → X + A ≤ 4 * H
  unfolding C M N X A H W m
  under_below a c = go c
    where
      three : A ≤ 3 * H
      three = ⊎_elim (λ l. le_trans (half_below t G l) (thrice H)) (λ p. three_below t G p.0) a

      none : g ≡ 0 → X + A ≤ 4 * H
      none z = sum_most H A X 1 3 refl (once H X (half_most (2 ^ 1074) m g G n refl (subst (λ (x : ℕ). 2 * x ≤ G) (sym z) zero-le))) three

      some : 0 < g → 4 * (g * g * g) * 2 ^ 1074 + n * (G * G * G) ≤ 3 * g * (G * G) * 2 ^ 1074 + 0 → X + A ≤ 4 * H
      some q k =
          let side = side_most (2 ^ 1074) m g G n refl q (pow_pos 1074) k in
          let most = three_most (2 ^ 1074) m g G n refl side in
          ⊎_elim (λ l. sum_most H A X 3 1 refl most (once H A l))
          (λ l.
          ⊎_elim (λ h. sum_most H A X 3 1 refl most (once H A (half_below t G h)))
          (λ p. most_high H A X W (le_of_lt l) three (high_least p.1) most (most_below (2 ^ 1074) m g G n refl side k)) a)
          (le_or_lt A H)

      go : AtMostCosine true n g G → X + A ≤ 4 * H
      go (inl h) = sum_most H A X 1 3 refl (once H X (half_most (2 ^ 1074) m g G n refl h)) three
      go (inr k) = ⊎_elim none (λ q. some q k) (eq-zero-or-pos g)

  over_above : 0 < G → (2 ^ 1073 ≤ t) ⊎ ((t ≤ 2 ^ 1073) × (turned false t ≤ given n)) → AtLeastCosine false n g G → 4 * H ≤ X + A
  unfolding C M N X A H W m
  over_above b a c =
      let q : 0 < g = some g G b c.0 in
      let side = side_least (2 ^ 1074) m g G n refl q (pow_pos 1074) c.1 in
      let least = three_least (2 ^ 1074) m g G n refl side in
      ⊎_elim (λ l. sum_least H A X 3 1 refl least (once_least H A (half_above t G l)))
      (λ p. least_low H A X W (half_below t G p.0) (low_least p.1) least (least_above (2 ^ 1074) m g G n refl side c.1)) a
    where
      some : (g G : ℕ) → 0 < G → G ≤ 2 * g → 0 < g
      some g G b l = omega arith

  over_below : 0 < G → 2 ^ 1073 ≤ t → (3 * 2 ^ 2146 ≤ t * t) ⊎ ((t * t ≤ 3 * 2 ^ 2146) × (given n ≤ turned true t)) → AtLeastCosine true n g G → 4 * H ≤ X + A
  unfolding C M N X A H W m
  over_below b h a c =
      let least = half_least (2 ^ 1074) m g G n refl c.0 in
      ⊎_elim (λ l. sum_least H A X 3 1 refl (three_least (2 ^ 1074) m g G n refl l) (once_least H A (half_above t G h)))
      (λ l.
      ⊎_elim (λ k. sum_least H A X 1 3 refl (once_least H X least) (three_above t G k))
      (λ p. least_high H A X W (half_above t G h) (three_below t G p.0) (high_most p.1) least (least_below (2 ^ 1074) m g G n refl (le_of_lt l) c.1)) a)
      (le_or_lt (3 * (G * G)) (4 * (g * g)))

-- ---- by the test

under : (s : Bool) (n t : ℕ) → T (at_most_sine s n t) → AtMostSine s n (2 * t)
unfolding X A H
under false n t y g G b c =
    let x = both (leb t (2 ^ 1073)) (leb (given n) (turned false t)) y in
    halves_most t G g (under_above n t g G (leb→le t (2 ^ 1073) x.0) (leb→le (given n) (turned false t) x.1) c)
under true n t y g G b c =
    halves_most t G g
    (under_below n t g G
    (⊎_elim (λ l. inl (leb→le t (2 ^ 1073) l))
    (λ z. let x = both (leb (t * t) (3 * 2 ^ 2146)) (leb (turned true t) (given n)) z in
    inr (leb→le (t * t) (3 * 2 ^ 2146) x.0, leb→le (turned true t) (given n) x.1))
    (either (leb t (2 ^ 1073)) (leb (t * t) (3 * 2 ^ 2146) && leb (turned true t) (given n)) y))
    c)

-- what fails a test of two parts
not_both : (a b : Bool) → T (not (a && b)) → T (not a) ⊎ T (not b)
not_both true b y = inr y
not_both false b y = inl tt

over : (s : Bool) (n t : ℕ) → T (not (at_most_sine s n t)) → AtLeastSine s n (2 * t)
unfolding X A H
over false n t y g G b c =
    halves_least t G g
    (over_above n t g G b
    (⊎_elim (λ l. inl (le_of_lt (nleb→lt t (2 ^ 1073) l)))
    (λ l. ⊎_elim (λ h. inr (h, le_of_lt (nleb→lt (given n) (turned false t) l))) (λ h. inl (le_of_lt h)) (le_or_lt t (2 ^ 1073)))
    (not_both (leb t (2 ^ 1073)) (leb (given n) (turned false t)) y))
    c)
over true n t y g G b c =
    let x = neither (leb t (2 ^ 1073)) (leb (t * t) (3 * 2 ^ 2146) && leb (turned true t) (given n)) y in
    halves_least t G g
    (over_below n t g G b (le_of_lt (nleb→lt t (2 ^ 1073) x.0))
    (⊎_elim (λ l. inl (le_of_lt (nleb→lt (t * t) (3 * 2 ^ 2146) l)))
    (λ l. ⊎_elim (λ h. inr (h, le_of_lt (nleb→lt (turned true t) (given n) l))) (λ h. inl (le_of_lt h)) (le_or_lt (t * t) (3 * 2 ^ 2146)))
    (not_both (leb (t * t) (3 * 2 ^ 2146)) (leb (turned true t) (given n)) x.1))
    c)

-- what passes is at most √3 / 2
pub square_most : (s : Bool) (n t : ℕ) → T (at_most_sine s n t) → t * t ≤ 3 * 2 ^ 2146
square_most s n t = go s
  where
    half : T (leb t (2 ^ 1073)) → t * t ≤ 3 * 2 ^ 2146
    half y = let h = leb→le t (2 ^ 1073) y in le_trans (mul-le-mul h h) (lit≤ tt)

    go : (s : Bool) → T (at_most_sine s n t) → t * t ≤ 3 * 2 ^ 2146
    go false y = half (both (leb t (2 ^ 1073)) (leb (given n) (turned false t)) y).0
    go true y =
        ⊎_elim half (λ l. leb→le (t * t) (3 * 2 ^ 2146) (both (leb (t * t) (3 * 2 ^ 2146)) (leb (turned true t) (given n)) l).0)
        (either (leb t (2 ^ 1073)) (leb (t * t) (3 * 2 ^ 2146) && leb (turned true t) (given n)) y)

-- where s is t units
exactly : (s : Bool) (n t : ℕ) → T (at_most_sine s n t) → T (not (at_most_sine s n (suc t))) → turned s t ≡ given n → AtLeastSine s n (2 * t)
unfolding X A H
exactly false n t y z e g G b c =
    let x = both (leb t (2 ^ 1073)) (leb (given n) (turned false t)) y in
    halves_least t G g (over_above n t g G b (inr (leb→le t (2 ^ 1073) x.0, le_of_eq e)) c)
exactly true n t y z e g G b c =
    let x = neither (leb (suc t) (2 ^ 1073)) (leb (suc t * suc t) (3 * 2 ^ 2146) && leb (turned true (suc t)) (given n)) z in
    halves_least t G g (over_below n t g G b (le_of_suc-le-suc (nleb→lt (suc t) (2 ^ 1073) x.0)) (inr (square_most true n t y, le_of_eq (sym e))) c)

-- ---- the double

more : (x a b : ℕ) → a ≤ b → x + a ≤ x + b
more x a b l = omega arith

down : (s : Bool) (n a b : ℕ) → a ≤ b → AtMostSine s n b → AtMostSine s n a
down s n a b l u g G p c = le_trans (more (4 * (g * g) * 2 ^ 2148) (a * a * (G * G)) (b * b * (G * G)) (mul-le-mul_right (G * G) (mul-le-mul l l))) (u g G p c)

up : (s : Bool) (n a b : ℕ) → a ≤ b → AtLeastSine s n a → AtLeastSine s n b
up s n a b l u g G p c = le_trans (u g G p c) (more (4 * (g * g) * 2 ^ 2148) (a * a * (G * G)) (b * b * (G * G)) (mul-le-mul_right (G * G) (mul-le-mul l l)))

pub smaller : (n k : ℕ) → n ≤ k → given n ≤ given k
smaller n k l = mul-le-mul_right (2 ^ 4292) (mul-le-mul l l)

begins : (s : Bool) (n : ℕ) → n ≤ 2 ^ 1074 → T (at_most_sine s n 0)
begins false n l = le→leb (given n) (turned false 0) (le_trans (smaller n (2 ^ 1074) l) (lit≤ tt))
begins true n l = tt

ends : (s : Bool) (n : ℕ) → T (not (at_most_sine s n (0 + 2 ^ 1074)))
ends false n = tt
ends true n = tt

-- s is 0 or has 54 digits at least
low : (s : Bool) (n : ℕ) → n ≤ 2 ^ 1074 → ((n ≡ 2 ^ 1074) × (s ≡ false)) ⊎ T (at_most_sine s n (2 ^ 53))
low true n l = inr tt
low false n l =
    ⊎_elim (λ e. inl (e, refl)) (λ k. inr (le→leb (given n) (turned false (2 ^ 53)) (le_trans (smaller n (2 ^ 1074 - 1) (less n (2 ^ 1074) k)) (lit≤ tt))))
    (eq-or-lt_of_le l)
  where
    less : (n k : ℕ) → n < k → n ≤ k - 1
    less n k l = omega arith

at_one : eqb (turned false (sine_units false (2 ^ 1074))) (given (2 ^ 1074)) ≡ true
unfolding sine_units greatest
at_one = refl

pub sine_whole : (s : Bool) (n : ℕ) → n ≤ 2 ^ 1074 → let t = sine_units s n in T (at_most_sine s n t) × T (not (at_most_sine s n (suc t)))
unfolding sine_units
sine_whole s n l = found (at_most_sine s n) 1074 0 (begins s n l) (ends s n)

-- what `under` and `over` say of the numbers that the definition tries
pub sine_by : (s : Bool) (n : ℕ) → n ≤ 2 ^ 1074 → (under over : ℕ → Type 0) → ((a b : ℕ) → a ≤ b → under b → under a)
    → ((a b : ℕ) → a ≤ b → over a → over b)
    → let t = sine_units s n in under (2 * t) → (turned s t ≡ given n → over (2 * t)) → over (2 * suc t)
    → Nearest false under over (nearest_of t (eqb (turned s t) (given n)))
sine_by s n l under over down up low_is exact_is high_is =
    let t = sine_units s n in
    let f = sine_whole s n l in
    let above = apart (at_most_sine s n) (monotone s n) in
    nearest_is t (eqb (turned s t) (given n))
    (lt_of_lt_of_le (above t (0 + 2 ^ 1074) f.0 (ends s n)) (lit≤ tt))
    (λ e. ⊎_elim (λ x. absurd (one n s x.0 x.1 e)) (λ y. le_of_suc-le-suc (above (2 ^ 53) (suc t) y f.1)) (low s n l))
    under over down up low_is (λ e. exact_is (eqb→eq (turned s t) (given n) e)) high_is
  where
    one : (n : ℕ) (s : Bool) → n ≡ 2 ^ 1074 → s ≡ false → eqb (turned s (sine_units s n)) (given n) ≡ false → ⊥
    one n s a b e = true≢false (sym at_one ∙ sym (ap₂ (λ (n : ℕ) (s : Bool). eqb (turned s (sine_units s n)) (given n)) a b) ∙ e)

sine_nearest : (s : Bool) (n : ℕ) → n ≤ 2 ^ 1074
    → let t = sine_units s n in Nearest false (AtMostSine s n) (AtLeastSine s n) (nearest_of t (eqb (turned s t) (given n)))
sine_nearest s n l =
    let t = sine_units s n in
    let f = sine_whole s n l in
    sine_by s n l (AtMostSine s n) (AtLeastSine s n) (down s n) (up s n) (under s n t f.0) (exactly s n t f.0 f.1) (over s n (suc t) f.1)

pub exact_is : (v : Float) → is_finite_of v ≡ true → units_of v ≤ 2 ^ 1074
    → let s = is_sign_negative_of v in let n = units_of v in exact_sin_of v ≡ nearest_of (sine_units s n) (eqb (turned s (sine_units s n)) (given n))
unfolding exact_sin_of is_finite_of is_sign_negative_of
exact_is nan f l = absurd (true≢false (sym f))
exact_is (inf s) f l = absurd (true≢false (sym f))
exact_is (fin s m e) f l = rw (le-leb (units_of (fin s m e)) (2 ^ 1074) l) refl

pub exact_sine : (v : Float) → Finite v → units_of v ≤ 2 ^ 1074
    → let s = is_sign_negative_of v in let n = units_of v in Nearest false (AtMostSine s n) (AtLeastSine s n) (exact_sin_of v)
exact_sine v f l = rw (exact_is v f.finite l) (sine_nearest (is_sign_negative_of v) (units_of v) l)
