-- The double nearest to a root, of any degree: what the square root and the cube root share.
use mathlib.Core.Path.{◌≡◌, refl, sym, ap, ap₂, ◌∙◌, subst}
use mathlib.Core.Bool.{Bool, true, false}
use Prim.Native.Nat.{ℕ, zero, suc, ◌+◌, ◌-◌, ◌*◌, ◌/◌, ◌%◌, ◌^◌, ◌≤◌, ◌<◌}
use native.Mathlib.Omega.{arith}
use native.Mathlib.Nat.{le_trans, lt_of_lt_of_le, mul_assoc, mul_comm, mul_right_comm, mul-add, mul-one}
use native.Mathlib.Nat.{mul-le-mul_left, mul-le-mul_right, mul-lt-mul_of_pos_right, eq_of_mul-eq-mul_right, div-add-mod', mod-lt, pow-succ'}
use borrow.Author.Tests.{le-leb, lt-leb, leb-true, leb-false, eqb-true}
use lib.Dec.{leb, eqb, leb→le, le→leb}
use lib.Pow.{pow-add, pow_pos, pow_mono}
use lib.Ieee.{odd, size}
use lib.Ieee.Digits.{size-lt}
use Rattle.algebra.specs.NatOrder.{pow2_join}
use Rattle.decode.specs.declared.digits.Digits.{Digits}
use Rattle.decode.specs.Shape.{Normal}
use Rattle.nearest.specs.Greatest.{greatest, nearest_of, Floor, NearestHalf}
use Rattle.nearest.proofs.ByTest.{Monotone, Sized, odd_middle, by_test, floor_bounds, half_of_floor, half_bounds}

-- f t is t to the power e
pub record Power (e : ℕ) (f : ℕ → ℕ) : Type 0 where
  pub degree : 0 < e
  pub none : f 0 ≡ 0
  pub ordered : (a b : ℕ) → a ≤ b → f a ≤ f b
  pub product : (a b : ℕ) → f (a * b) ≡ f a * f b
  pub twos : (k : ℕ) → f (2 ^ k) ≡ 2 ^ (e * k)
  pub odds : (a : ℕ) → a % 2 ≡ 1 → f a % 2 ≡ 1

-- whether t is at most the root of n
abbrev pub at_root : (ℕ → ℕ) → ℕ → ℕ → Bool
at_root f n t = leb (f t) n

pub leb_scaled : (a b c : ℕ) → 0 < c → leb (a * c) (b * c) ≡ leb a b
leb_scaled a b c h = go (leb a b) refl
  where
    go : (r : Bool) → leb a b ≡ r → leb (a * c) (b * c) ≡ r
    go true e = le-leb (a * c) (b * c) (mul-le-mul_right c (leb-true a b e))
    go false e = lt-leb (a * c) (b * c) (mul-lt-mul_of_pos_right (leb-false a b e) h)

pub odd_mul : (a b : ℕ) → a % 2 ≡ 1 → b % 2 ≡ 1 → a * b % 2 ≡ 1
odd_mul a b p q = let h : a * b ≡ (a / 2 * 2 + 1) * (b / 2 * 2 + 1) = ap₂ (λ (x y : ℕ). x * y) (omega arith) (omega arith) in omega arith

even_power : (a q : ℕ) → 0 < q → a * 2 ^ q % 2 ≡ 0
even_power a zero h = omega arith
even_power a (suc q) h =
    subst (λ (x : ℕ). x % 2 ≡ 0) (mul_assoc a (2 ^ q) 2 ∙ ap (λ (x : ℕ). a * x) (mul_comm (2 ^ q) 2 ∙ sym (pow-succ' 2 q))) (twice (a * 2 ^ q))
  where
    twice : (y : ℕ) → y * 2 % 2 ≡ 0
    twice y = omega arith

-- n units are w * 2 ^ k / 2 ^ p
on_units : (n w k d p q l i : ℕ) → w * 2 ^ k ≡ n * 2 ^ p → k + l ≡ d + q + i + p → n * 2 ^ l ≡ w * 2 ^ d * 2 ^ q * 2 ^ i
on_units n w k d p q l i v s =
    eq_of_mul-eq-mul_right (2 ^ p) (pow_pos p) (n * 2 ^ l) (w * 2 ^ d * 2 ^ q * 2 ^ i)
    (mul_right_comm n (2 ^ l) (2 ^ p)
    ∙ ap (λ (x : ℕ). x * 2 ^ l) (sym v)
    ∙ pow2_join w k l
    ∙ ap (λ (x : ℕ). w * 2 ^ x) s
    ∙ sym (ap (λ (x : ℕ). x * 2 ^ p) (ap (λ (x : ℕ). x * 2 ^ i) (pow2_join w d q) ∙ pow2_join w (d + q) i) ∙ pow2_join w (d + q + i) p))

module _ (e : ℕ) (f : ℕ → ℕ) (P : Power e f) where
  pub monotone : (n : ℕ) → Monotone (at_root f n)
  monotone n a b h t = le→leb (f a) n (le_trans (P.ordered a b h) (leb→le (f b) n t))

  -- A tie would need a middle between two neighbours, which is an odd number b of half steps, to be the root: but N is even and b to the power e is odd.
  pub no_tie : (b N : ℕ) → b % 2 ≡ 1 → N % 2 ≡ 0 → f b ≡ N → ⊥
  no_tie b N o z h = let c = P.odds b o in omega arith

  power_pos : (j : ℕ) → 0 < f (2 ^ j)
  power_pos j = subst (λ (x : ℕ). 0 < x) (sym (P.twos j)) (pow_pos (e * j))

  -- a test on the grid of 2 ^ j units is one of whole numbers
  grid : (N j b : ℕ) → at_root f (N * f (2 ^ j)) (b * 2 ^ j) ≡ at_root f N b
  grid N j b = ap (λ (x : ℕ). leb x (N * f (2 ^ j))) (P.product b (2 ^ j)) ∙ leb_scaled (f b) N (f (2 ^ j)) (power_pos j)

  above : (n : ℕ) → n < f (0 + 2 ^ (size n / e + 1))
  above n =
      let K = size n / e + 1 in
      subst (λ (x : ℕ). n < f x) (let z : 2 ^ K ≡ 0 + 2 ^ K = omega arith in z)
      (subst (λ (x : ℕ). n < x) (sym (P.twos K)) (lt_of_lt_of_le (size-lt n) (pow_mono (more (size n)))))
    where
      more : (z : ℕ) → z ≤ e * (z / e + 1)
      more z = let a = div-add-mod' z e in let b = mod-lt z P.degree in let c = mul-add e (z / e) 1 in let d = mul_comm e (z / e) in omega arith

  -- the root of n, in units, by the test's definition
  pub root_nearest : (N m j n : ℕ) → Sized (at_root f N) → N % 2 ≡ 0 → n ≡ N * f (2 ^ j) → NearestHalf (at_root f N) m → suc j < 2045
      → let t = greatest (at_root f n) (size n / e + 1) 0 in nearest_of t (eqb (f t) n) ≡ odd 54 false m (suc j) 1074
  root_nearest N m j n long even is h J =
      let t = greatest (at_root f n) (size n / e + 1) 0 in
      by_test (at_root f n) (monotone n) (size n / e + 1) 0 j m (eqb (f t) n)
      (le-leb (f 0) n (subst (λ (x : ℕ). x ≤ n) (sym P.none) (let l : 0 ≤ n = omega arith in l)))
      (lt-leb _ n (above n))
      (record { least = at (2 ^ 53) ∙ long.least; most = at (2 ^ 54) ∙ long.most })
      (record { some = h.some; low = at (2 * m - 1) ∙ h.low; high = at (2 * m + 1) ∙ h.high })
      (λ g x.
      no_tie (2 * m - 1) N (odd_middle m h.some) even
      (eq_of_mul-eq-mul_right (f (2 ^ j)) (power_pos j) (f (2 * m - 1)) N (sym (P.product (2 * m - 1) (2 ^ j)) ∙ ap f g ∙ eqb-true (f t) n x ∙ is)))
      J
    where
      at : (b : ℕ) → at_root f n (b * 2 ^ j) ≡ at_root f N b
      at b = ap (λ (x : ℕ). at_root f x (b * 2 ^ j)) is ∙ grid N j b

  -- ---- w has 53 digits, d is what is left of an exponent divided by e, and q digits more make 53 or 54 of the root

  module _ (q : ℕ) (full : q + 52 ≡ 53 * e) where
    pub of_size : (w d : ℕ) → 2 ^ 52 ≤ w → w < 2 ^ 53 → d < e → Sized (at_root f (w * 2 ^ d * 2 ^ q))
    of_size w d lo hi l = record {
      least = le-leb (f (2 ^ 53)) (w * 2 ^ d * 2 ^ q)
          (subst (λ (x : ℕ). x ≤ w * 2 ^ d * 2 ^ q) (sym (pow-add 2 52 q)
          ∙ ap (λ (x : ℕ). 2 ^ x) (let z : 52 + q ≡ e * 53 = omega arith in z) ∙ sym (P.twos 53))
          (mul-le-mul_right (2 ^ q) (le_trans lo (subst (λ (x : ℕ). x ≤ w * 2 ^ d) (mul-one w) (mul-le-mul_left w (pow_pos d))))));
      most = lt-leb (f (2 ^ 54)) (w * 2 ^ d * 2 ^ q)
          (subst (λ (x : ℕ). w * 2 ^ d * 2 ^ q < x) (sym (P.twos 54))
          (lt_of_lt_of_le (mul-lt-mul_of_pos_right (mul-lt-mul_of_pos_right hi (pow_pos d)) (pow_pos q))
          (subst (λ (x : ℕ). x ≤ 2 ^ (e * 54)) (pow-add 2 (53 + d) q ∙ ap (λ (x : ℕ). x * 2 ^ q) (pow-add 2 53 d))
          (pow_mono (let z : 53 + d + q ≤ e * 54 = omega arith in z)))));
    }

    pub sized : (n : Digits) → Sized (at_root f (n.w * 2 ^ (n.k % e) * 2 ^ q))
    sized n = of_size n.w (n.k % e) n.led n.short (mod-lt n.k P.degree)

    -- from the whole part that the search finds, to the whole number nearest to half the root
    pub from_floor : (w d t : ℕ) → 2 ^ 52 ≤ w → w < 2 ^ 53 → d < e → Floor (at_root f (w * 2 ^ d * 2 ^ q)) t → (t < 2 ^ 54)
        × NearestHalf (at_root f (w * 2 ^ d * 2 ^ q)) ((t + 1) / 2)
    from_floor w d t lo hi l g =
        let long = of_size w d lo hi l in
        ((floor_bounds _ (monotone _) long t g).1, half_of_floor _ (monotone _) long t g)

    pub half_digits : (n : Digits) (m : ℕ) → NearestHalf (at_root f (n.w * 2 ^ (n.k % e) * 2 ^ q)) m → (2 ^ 52 ≤ m) × (m ≤ 2 ^ 53)
    half_digits n m g = half_bounds _ (monotone _) (sized n) m g

    -- the double that the functions make of u units: they read the digits, and find m
    pub root_of : (l c u : ℕ) (n : Digits) (m : ℕ) → l + e ≡ q + e * c + 52 → 0 < c → Normal u n.w n.k → n.k / e + c < 2045
        → NearestHalf (at_root f (n.w * 2 ^ (n.k % e) * 2 ^ q)) m
        → let M = u * 2 ^ l in let t = greatest (at_root f M) (size M / e + 1) 0 in nearest_of t (eqb (f t) M) ≡ odd 54 false m (n.k / e + c) 1074
    root_of l c u n m is p h J g =
        let w = n.w in
        let k = n.k in
        let j = k / e + (c - 1) in
        let next : suc j ≡ k / e + c = omega arith in
        root_nearest (w * 2 ^ (k % e) * 2 ^ q) m j (u * 2 ^ l)
        (sized n)
        (even_power (w * 2 ^ (k % e)) q (let z : 0 < q = let d = P.degree in omega arith in z))
        (on_units u w k (k % e) 52 q l (e * j) h.value parts ∙ ap (λ (x : ℕ). w * 2 ^ (k % e) * 2 ^ q * x) (sym (P.twos j)))
        g (subst (λ (x : ℕ). x < 2045) (sym next) J)
        ∙ ap (λ (x : ℕ). odd 54 false m x 1074) next
      where
        parts : n.k + l ≡ n.k % e + q + e * (n.k / e + (c - 1)) + 52
        parts =
            let a = div-add-mod' n.k e in
            let b = mul-add e (n.k / e) (c - 1) in
            let d = mul_comm e (n.k / e) in
            let u : e * c ≡ e * (c - 1) + e = ap (λ (x : ℕ). e * x) (let z : c ≡ c - 1 + 1 = omega arith in z) ∙ mul-add e (c - 1) 1
            ∙ ap (λ (x : ℕ). e * (c - 1) + x) (mul-one e) in
            omega arith
