-- c is nearest to the greatest solution of 4c³ - 3c = v. Below, U is 1 and W is U * U, in units; n is the size of v.
use mathlib.Core.Path.{◌≡◌, refl, sym}
use mathlib.Core.Logic.{◌⊎◌, inl, inr, ⊎_elim}
use mathlib.Core.Bool.{Bool, true, false, not, cond, ◌||◌, true≢false}
use Prim.Native.Nat.{ℕ, suc, ◌+◌, ◌-◌, ◌*◌, ◌^◌, ◌≤◌, ◌<◌, zero-le}
use native.Mathlib.Omega.{arith}
use native.Mathlib.Nat.{le_trans, le_of_eq, le_of_lt, le_of_suc-le-suc, le-suc, le_dest, lt_of_le_of_lt}
use native.Mathlib.Nat.{lt_of_not-le, lt_of_lt_of_le, mul-le-mul, mul-le-mul_left, mul-le-mul_right, not-le_of_lt}
use borrow.Author.Tests.{le-leb}
use lib.Dec.{T, lit≤, lit<, leb, eqb, leb→le, nleb→lt, eqb→eq, not_T}
use lib.IntN.{pos, negsuc}
use lib.Ieee.{Float, nan, inf, fin, fits}
use Rattle.algebra.specs.NatOrder.{le_or_lt}
use Rattle.float.specs.Methods.{is_finite_of, is_sign_negative_of}
use Rattle.float.specs.Units.{units_of, Finite}
use Rattle.nearest.specs.Greatest.{nearest_of}
use Rattle.nearest.proofs.Search.{found}
use Rattle.sqrt.specs.Root.{nearest_sqrt}
use Rattle.angle.specs.Third.{left, right, at_most_solution, cos_units, cos_of, sin_of}
use Rattle.angle.proofs.Turning.{either}
use Rattle.demands.specs.Demands.{Nearest, cube_side, line_side, AtMostSolution, AtLeastSolution}
use Rattle.demands.proofs.Nearest.{nearest_is}

-- ---- from a half on y³ - 3yW grows, x and y being what stands on each side besides

module _ (a b W : ℕ) (l : a ≤ b) (h : W ≤ a * a) where
  grows : a * a * a + 3 * b * W ≤ b * b * b + 3 * a * W
  grows = go (le_dest l)
    where
      go : (d : ℕ) × (a + d ≡ b) → a * a * a + 3 * b * W ≤ b * b * b + 3 * a * W
      go (d, e) = rw (← e) (omega (arith, mul-le-mul_left d h))

  fall : (x y : ℕ) → b * b * b + x ≤ 3 * b * W + y → a * a * a + x ≤ 3 * a * W + y
  fall x y k = omega (arith, grows)

  rise : (x y : ℕ) → 3 * a * W + y ≤ a * a * a + x → 3 * b * W + y ≤ b * b * b + x
  rise x y k = omega (arith, grows)

-- ---- the words of specs/Demands, and the definition's test

under_down : (s : Bool) (n a b : ℕ) → a ≤ b → AtMostSolution s n b → AtMostSolution s n a
under_down s n a b l u =
    ⊎_elim (λ h. inl h) (λ g. ⊎_elim (λ h. absurd (not-le_of_lt (lt_of_lt_of_le g l) h))
    (λ h. inr (fall a b (2 ^ 2148) l (mul-le-mul (le_of_lt g) (le_of_lt g)) (cond s (2 * n * 2 ^ 2148) 0) (cond s 0 (2 * n * 2 ^ 2148)) h))
    u) (le_or_lt a (2 ^ 1074))

over_up : (s : Bool) (n a b : ℕ) → a ≤ b → AtLeastSolution s n a → AtLeastSolution s n b
over_up s n a b l o = (le_trans o.0 l, rise a b (2 ^ 2148) l (mul-le-mul o.0 o.0) (cond s (2 * n * 2 ^ 2148) 0) (cond s 0 (2 * n * 2 ^ 2148)) o.1)

cubes_twice : (s : Bool) (n t : ℕ) → cube_side s n (2 * t) ≡ 2 * left s n t
cubes_twice false n t = go t
  where
    go : (t : ℕ) → 2 * t * (2 * t) * (2 * t) + 0 ≡ 2 * (4 * (t * t * t))
    go t = omega arith
cubes_twice true n t = go t n (2 ^ 2148)
  where
    go : (t n W : ℕ) → 2 * t * (2 * t) * (2 * t) + 2 * n * W ≡ 2 * (4 * (t * t * t) + n * W)
    go t n W = omega arith

lines_twice : (s : Bool) (n t : ℕ) → line_side s n (2 * t) ≡ 2 * right s n t
lines_twice false n t = go t n (2 ^ 2148)
  where
    go : (t n W : ℕ) → 3 * (2 * t) * W + 2 * n * W ≡ 2 * ((3 * t + n) * W)
    go t n W = omega arith
lines_twice true n t = go t (2 ^ 2148)
  where
    go : (t W : ℕ) → 3 * (2 * t) * W + 0 ≡ 2 * (3 * t * W)
    go t W = omega arith

pub neither : (a b : Bool) → T (not (a || b)) → T (not a) × T (not b)
neither false b t = (tt, t)
neither true b t = absurd t

-- ---- c

under_whole : (s : Bool) (n t : ℕ) → T (at_most_solution s n t) → AtMostSolution s n (2 * t)
under_whole s n t y =
    ⊎_elim (λ h. inl (mul-le-mul_left 2 (leb→le t (2 ^ 1073) h)))
    (λ h. inr (rw (lines_twice s n t, cubes_twice s n t) (mul-le-mul_left 2 (leb→le (left s n t) (right s n t) h))))
    (either (leb t (2 ^ 1073)) (leb (left s n t) (right s n t)) y)

over_whole : (s : Bool) (n t : ℕ) → 2 ^ 1073 ≤ t → right s n t ≤ left s n t → AtLeastSolution s n (2 * t)
over_whole s n t g h = (mul-le-mul_left 2 g, rw (lines_twice s n t, cubes_twice s n t) (mul-le-mul_left 2 h))

-- above 2 U half units the cube is the larger side: (2 U + 1)³ > 3 (2 U + 1) U² + 2 U³
past : (s : Bool) (n h : ℕ) → n ≤ 2 ^ 1074 → 2 ^ 1075 < h → AtMostSolution s n h → ⊥
past s n h l g u =
    ⊎_elim (λ k. not-le_of_lt (lt_of_le_of_lt k (lit< tt)) (le_of_lt g))
    (λ k. large (2 ^ 1074) h (cond s (2 * n * 2 ^ 2148) 0) (cond s 0 (2 * n * 2 ^ 2148)) g (added s) k) u
  where
    added : (s : Bool) → cond s 0 (2 * n * 2 ^ 2148) ≤ 2 * 2 ^ 1074 * 2 ^ 2148
    added true = zero-le
    added false = mul-le-mul_right (2 ^ 2148) (mul-le-mul_left 2 l)

    large : (U h x y : ℕ) → 2 * U < h → y ≤ 2 * U * (U * U) → h * h * h + x ≤ 3 * h * (U * U) + y → ⊥
    large U h x y l b k = let f = fall (suc (2 * U)) h (U * U) l (let q : U * U ≤ suc (2 * U) * suc (2 * U) = omega arith in q) x y k in omega arith

cos_nearest : (s : Bool) (n : ℕ) → n ≤ 2 ^ 1074 → let t = cos_units s n in Nearest false (AtMostSolution s n) (AtLeastSolution s n)
    (nearest_of t (eqb (left s n t) (right s n t)))
unfolding cos_units
cos_nearest s n l =
    let p = at_most_solution s n in
    let t = cos_units s n in
    let fails : (t : ℕ) → 2 ^ 1075 ≤ t → T (p t) → ⊥ = λ t g y. past s n (2 * t) l (lt_of_lt_of_le (lit< tt) (mul-le-mul_left 2 g)) (under_whole s n t y) in
    let g = found p 1075 0 tt (not_T (p (0 + 2 ^ 1075)) (fails (2 ^ 1075) (lit≤ tt))) in
    let no = neither (leb (suc t) (2 ^ 1073)) (leb (left s n (suc t)) (right s n (suc t))) g.1 in
    let half : 2 ^ 1073 ≤ t = le_of_suc-le-suc (nleb→lt (suc t) (2 ^ 1073) no.0) in
    nearest_is t (eqb (left s n t) (right s n t))
    (lt_of_not-le (λ h. fails t (le_trans (lit≤ tt) h) g.0))
    (λ e. le_trans (lit≤ tt) half)
    (AtMostSolution s n) (AtLeastSolution s n) (under_down s n) (over_up s n)
    (under_whole s n t g.0)
    (λ e. over_whole s n t half (le_of_eq (sym (eqb→eq (left s n t) (right s n t) e))))
    (over_whole s n (suc t) (le_trans half (le-suc t)) (le_of_lt (nleb→lt (left s n (suc t)) (right s n (suc t)) no.1)))

cos_is : (v : Float) → is_finite_of v ≡ true → units_of v ≤ 2 ^ 1074
    → let s = is_sign_negative_of v in let n = units_of v in cos_of v ≡ nearest_of (cos_units s n) (eqb (left s n (cos_units s n)) (right s n (cos_units s n)))
unfolding cos_of is_finite_of is_sign_negative_of
cos_is nan f l = absurd (true≢false (sym f))
cos_is (inf s) f l = absurd (true≢false (sym f))
cos_is (fin s m e) f l = rw (le-leb (units_of (fin s m e)) (2 ^ 1074) l) refl

pub sin_is : (c : Float) → is_finite_of c ≡ true → sin_of c ≡ nearest_sqrt (2 ^ 2148 - units_of c * units_of c)
unfolding sin_of is_finite_of
sin_is nan f = absurd (true≢false (sym f))
sin_is (inf s) f = absurd (true≢false (sym f))
sin_is (fin s m e) f = refl

pub cosine : (v : Float) → Finite v → units_of v ≤ 2 ^ 1074
    → let s = is_sign_negative_of v in let n = units_of v in Nearest false (AtMostSolution s n) (AtLeastSolution s n) (cos_of v)
cosine v f l = rw (cos_is v f.finite l) (cos_nearest (is_sign_negative_of v) (units_of v) l)

-- ---- c lies from 1/2 to 1: those two are doubles, and no double is nearer than c

half_finite : Finite (fin false 1 (negsuc 0))
unfolding fits is_finite_of
half_finite = record { held = refl; finite = refl }

pub one_finite : Finite (fin false 1 (pos 0))
unfolding fits is_finite_of
one_finite = record { held = refl; finite = refl }

pub cosine_range : (v : Float) → Finite v → units_of v ≤ 2 ^ 1074 → (2 ^ 1073 ≤ units_of (cos_of v)) × (units_of (cos_of v) ≤ 2 ^ 1074)
cosine_range v f l =
    let r = units_of (cos_of v) in
    let c = cosine v f l in (
      ⊎_elim (λ h. h) (λ g. low (2 ^ 1073) r (c.larger (fin false 1 (negsuc 0)) half_finite g).0) (le_or_lt (2 ^ 1073) r),
      ⊎_elim (λ h. h) (λ g. absurd (past (is_sign_negative_of v) (units_of v) (r + 2 ^ 1074) l (high (2 ^ 1074) r g)
          (c.smaller (fin false 1 (pos 0)) one_finite g))) (le_or_lt r (2 ^ 1074)),
    )
  where
    low : (a r : ℕ) → 2 * a ≤ r + a → a ≤ r
    low a r h = omega arith

    high : (a r : ℕ) → a < r → 2 * a < r + a
    high a r g = omega arith
