-- The test for s passes below what passes, and finds the binade of s, which is 2 ^ -28 at least where v is below 1.
use mathlib.Core.Path.{◌≡◌, refl, sym, ap, ap₂, ◌∙◌, subst}
use mathlib.Core.Bool.{Bool, true, false, cond, ◌||◌, ◌&&◌}
use Prim.Native.Nat.{ℕ, suc, ◌+◌, ◌-◌, ◌*◌, ◌/◌, ◌^◌, ◌≤◌, ◌<◌, zero-le}
use native.Mathlib.Omega.{arith}
use native.Mathlib.Nat.{le_trans, mul-le-mul, mul-le-mul_right}
use native.Mathlib.Nat.{mul-mul-mul_comm, mul_comm, zero-mul, sub-le-sub_left, pow-succ'}
use borrow.Author.Tests.{le-leb}
use lib.Dec.{T, leb, leb→le, le→leb, lit≤}
use lib.Pow.{pow_pos, pow_mono}
use lib.Ieee.Bits.{is_true}
use Rattle.algebra.specs.RingNat.{ring, #, ◌:*◌, ◌:=◌}
use Rattle.float.proofs.Bits.{of_true}
use Rattle.nearest.specs.Greatest.{Floor}
use Rattle.nearest.proofs.ByTest.{Monotone, Sized, half_of_floor, half_bounds}
use Rattle.nearest.proofs.Powers.{leb_scaled}
use Rattle.angle.specs.Parts.{tripled, gap_of, within, sin_le, Binade, Placed}
use Rattle.angle.proofs.Turning.{low_falls, high_grows, to_half, to_most}
use Rattle.angle.proofs.Gap.{low_parts, high_parts, regrid, sixfold}

-- ---- the square of the tripled sine grows up to a half, and falls from there on

module _ (h a b : ℕ) (l : a ≤ b) where
  other : (x y u v : ℕ) → x + y ≡ u + v → y ≤ v → u ≤ x
  other x y u v e k = omega arith

  grows : b ≤ h → tripled h a * tripled h a ≤ tripled h b * tripled h b
  grows k = other _ _ _ _ (low_parts h b k ∙ sym (low_parts h a (le_trans l k))) (low_falls (h * h) (a * a) (b * b) (mul-le-mul l l))

  falls : h ≤ a → b * b ≤ 3 * (h * h) → tripled h b * tripled h b ≤ tripled h a * tripled h a
  falls k m =
      other _ _ _ _ (high_parts h a k (le_trans (mul-le-mul l l) m) ∙ sym (high_parts h b (le_trans k l) m))
      (high_grows (h * h) (a * a) (b * b) (mul-le-mul k k) (mul-le-mul l l) m)

pub monotone : (s : Bool) (g k : ℕ) → Monotone (sin_le s g k)
monotone s g k = go s
  where
    h : ℕ
    h = 2 ^ (k - 1)

    G : ℕ
    G = g * 2 ^ (6 * k - 232)

    q : ℕ → ℕ
    q t = tripled h t * tripled h t

    go : (s : Bool) → Monotone (sin_le s g k)
    go false = to_half h (h * h) (λ t. leb (q t) G) (λ a b l k y. le→leb (q a) G (le_trans (grows h a b l k) (leb→le (q b) G y)))
    go true = to_most h (h * h) (λ t. leb G (q t)) (λ a b d l k y. le→leb G (q a) (le_trans (leb→le G (q b) y) (falls h a b l d k)))

pub none_passes : (s : Bool) (g k : ℕ) → sin_le s g k 0 ≡ true
none_passes false g k =
    ap₂ (λ (x y : Bool). x && y) (le-leb 0 (2 ^ (k - 1)) zero-le)
    (ap (λ (x : ℕ). leb (x * x) (g * 2 ^ (6 * k - 232))) (zero-mul (3 * (2 ^ (k - 1) * 2 ^ (k - 1)) - 0 * 0)) ∙ le-leb 0 (g * 2 ^ (6 * k - 232)) zero-le)
none_passes true g k =
    ap (λ (x : Bool). x ||
    (leb (0 * 0) (3 * (2 ^ (k - 1) * 2 ^ (k - 1))) && within true (g * 2 ^ (6 * k - 232)) (tripled (2 ^ (k - 1)) 0 * tripled (2 ^ (k - 1)) 0)))
    (le-leb 0 (2 ^ (k - 1)) zero-le)

-- ---- from one binade to the next

pub doubled : (s : Bool) (g k t : ℕ) → 54 ≤ k → sin_le s g (k + 1) (t * 2) ≡ sin_le s g k t
doubled s g k t l =
    ap₂ (λ (x y : Bool). cond s (x || (y && within s (g * 2 ^ (6 * (k + 1) - 232)) (tripled (2 ^ (k + 1 - 1)) (t * 2) * tripled (2 ^ (k + 1 - 1)) (t * 2))))
    (x && within s (g * 2 ^ (6 * (k + 1) - 232)) (tripled (2 ^ (k + 1 - 1)) (t * 2) * tripled (2 ^ (k + 1 - 1)) (t * 2)))) at_half at_most
    ∙ ap (λ (z : Bool). cond s (leb t h || (leb (t * t) (3 * (h * h)) && z)) (leb t h && z)) inside
  where
    h : ℕ
    h = 2 ^ (k - 1)

    twice : 2 ^ (k + 1 - 1) ≡ h * 2
    twice = ap (λ (x : ℕ). 2 ^ x) (let e : k + 1 - 1 ≡ suc (k - 1) = omega arith in e) ∙ pow-succ' 2 (k - 1) ∙ mul_comm 2 h

    at_half : leb (t * 2) (2 ^ (k + 1 - 1)) ≡ leb t h
    at_half = ap (λ (x : ℕ). leb (t * 2) x) twice ∙ leb_scaled t h 2 (pow_pos 1)

    at_most : leb (t * 2 * (t * 2)) (3 * (2 ^ (k + 1 - 1) * 2 ^ (k + 1 - 1))) ≡ leb (t * t) (3 * (h * h))
    at_most =
        ap₂ leb (mul-mul-mul_comm t 2 t 2) (ap (λ (x : ℕ). 3 * (x * x)) twice ∙ ring 1 (λ h. # 3 :* (h :* # 2 :* (h :* # 2)) := # 3 :* (h :* h) :* # 4) tt h)
        ∙ leb_scaled (t * t) (3 * (h * h)) 4 (pow_pos 2)

    inside : within s (g * 2 ^ (6 * (k + 1) - 232)) (tripled (2 ^ (k + 1 - 1)) (t * 2) * tripled (2 ^ (k + 1 - 1)) (t * 2))
        ≡ within s (g * 2 ^ (6 * k - 232)) (tripled h t * tripled h t)
    inside =
        ap (λ (x : ℕ). within s (g * 2 ^ (6 * (k + 1) - 232)) (tripled x (t * 2) * tripled x (t * 2))) twice
        ∙ regrid s h t g 2 (2 ^ (6 * k - 232)) (2 ^ (6 * (k + 1) - 232)) (pow_pos 1)
        (sixfold (6 * k - 232) 1 (6 * (k + 1) - 232) (let e : 6 * k - 232 + 6 * 1 ≡ 6 * (k + 1) - 232 = omega arith in e))

-- ---- the first and the last binade

pub one_fails : (s : Bool) (g : ℕ) → sin_le s g 54 (2 ^ 54) ≡ false
one_fails false g = refl
one_fails true g = refl

pub least_passes : (s : Bool) (w k : ℕ) → w < 2 ^ 53 → k < 1074 → sin_le s (gap_of w k) 81 (2 ^ 53) ≡ true
least_passes true w k a b = refl
least_passes false w k a b =
    let size : w * 2 ^ (k - 1012) ≤ (2 ^ 53 - 1) * 2 ^ 61 =
    mul-le-mul {n₁ = w} {m₁ = 2 ^ (k - 1012)} {n₂ = 2 ^ 53 - 1} {m₂ = 2 ^ 61} (let e : w ≤ 2 ^ 53 - 1 = omega arith in e)
    (pow_mono (let e : k - 1012 ≤ 61 = omega arith in e)) in
    le-leb _ (gap_of w k * 2 ^ 254) (le_trans (lit≤ tt) (mul-le-mul_right (2 ^ 254) (sub-le-sub_left (mul-le-mul size size) (2 ^ 228))))

-- ---- what the functions find

sized : (s : Bool) (g k : ℕ) → Binade s g k → Sized (sin_le s g k)
sized s g k d = record { least = d.first; most = d.beyond }

-- the next binade, and the last one
pub next_fails : (s : Bool) (g k : ℕ) → 54 ≤ k → sin_le s g k (2 ^ 53) ≡ false → sin_le s g (k + 1) (2 ^ 54) ≡ false
next_fails s g k l e = doubled s g k (2 ^ 53) l ∙ e

pub last_binade : (s : Bool) (g k : ℕ) → 81 ≤ k → k ≤ 81 → sin_le s g k (2 ^ 54) ≡ false → sin_le s g 81 (2 ^ 53) ≡ true → Binade s g 81
last_binade s g k a b e f =
    let last : k ≡ 81 = omega arith in
    record { least = omega arith; most = omega arith; first = f; beyond = subst (λ (x : ℕ). sin_le s g x (2 ^ 54) ≡ false) last e }

-- A guess between its middles. The lower one is tried where it has 54 digits: below a power of 2 doubles are closer, and s is not to be there.
pub placed : (s : Bool) (g k m l : ℕ) → 54 ≤ k → k ≤ 81 → 2 ^ 52 ≤ m → m < 2 ^ 53 → 2 ^ 53 ≤ l → 2 * m - 1 ≤ l → sin_le s g k l ≡ true
    → sin_le s g k (2 * m + 1) ≡ false → Placed s g m k
placed s g k m l a b c d n o e f = record {
  binade = record {
    least = a;
    most = b;
    first = passes (2 ^ 53) n;
    beyond = fails (sin_le s g k (2 ^ 54)) (monotone s g k (2 * m + 1) (2 ^ 54) (let q : 2 * m + 1 ≤ 2 ^ 54 = omega arith in q));
  };
  half = record { some = omega arith; low = passes (2 * m - 1) o; high = f };
}
  where
    passes : (t : ℕ) → t ≤ l → sin_le s g k t ≡ true
    passes t h = is_true _ (monotone s g k t l h (of_true e))

    fails : (b : Bool) → (T b → T (sin_le s g k (2 * m + 1))) → b ≡ false
    fails true h = absurd (subst T f (h tt))
    fails false h = refl

-- what the searches find
pub searched : (s : Bool) (g k t : ℕ) → Binade s g k → Floor (sin_le s g k) t → Placed s g ((t + 1) / 2) k
searched s g k t d f = record { binade = d; half = half_of_floor (sin_le s g k) (monotone s g k) (sized s g k d) t f }

pub place_bounds : (s : Bool) (g m k : ℕ) → Placed s g m k → (2 ^ 52 ≤ m) × (m ≤ 2 ^ 53)
place_bounds s g m k d = half_bounds (sin_le s g k) (monotone s g k) (sized s g k d.binade) m d.half
