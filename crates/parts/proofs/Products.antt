-- Products added up: those before the i-th, and their sum's size.
use mathlib.Core.Path.{◌≡◌, sym, ap, ap₂, ◌∙◌}
use mathlib.Core.List.{List}
use Prim.Native.Nat.{ℕ, ◌+◌, ◌-◌, ◌*◌, ◌^◌, ◌≤◌, ◌<◌}
use native.Mathlib.Nat.{le_trans, lt_of_le_of_lt, mul-le-mul}
use native.Mathlib.Numerals.{add-one}
use native.Mathlib.Omega.{arith}
use lib.Dec.{lit≤}
use lib.IntN.{ℤ, pos, nat_abs, ◌+ℤ◌, ◌*ℤ◌}
use mir.Syntax.{w64, w128}
use mir.Val.{to_z, of_z}
use Rattle.std.proofs.lemmas.Int.{to_z-of_z, fits_signed_from_abs}
use Rattle.std.specs.Int.RustNames.{FitsSigned}
use Rattle.algebra.specs.IntOrder.{nat_abs_mul, nat_abs_add}
use Rattle.parts.specs.declared.Operator.TheVariants.{Product}
use Rattle.parts.specs.Polynomial.{coefficient_of}
use Rattle.parts.specs.Products.{products_to, made_of}
use Rattle.parts.specs.Kept.{Ends}
use Rattle.parts.proofs.Degrees.{products_before, products_behind}

-- ---- words of 64 bits and of 128
abbrev pub word : ℤ → ℤ
word z = to_z w64 (of_z w64 z)

abbrev pub wide : ℤ → ℤ
wide z = to_z w128 (of_z w128 z)

pub word_is : (z : ℤ) → nat_abs z ≤ 2 ^ 53 → word z ≡ z
word_is z h = to_z-of_z w64 z (fits_signed_from_abs w64 z (lt_of_le_of_lt h (lit≤ tt)))

wide_fits : (z : ℤ) → nat_abs z ≤ 2 ^ 110 → FitsSigned w128 z
wide_fits z h = fits_signed_from_abs w128 z (lt_of_le_of_lt h (lit≤ tt))

wide_is : (z : ℤ) → nat_abs z ≤ 2 ^ 110 → wide z ≡ z
wide_is z h = to_z-of_z w128 z (wide_fits z h)

pub narrow_is : (z : ℤ) → nat_abs z ≤ 2 ^ 53 → word (wide z) ≡ z
narrow_is z h = ap word (wide_is z (le_trans h (lit≤ tt))) ∙ word_is z h

pub wide_same : (z : ℤ) → FitsSigned w128 z → wide z ≡ z
wide_same z f = to_z-of_z w128 z f

-- the size as code takes it
pub narrow_size : (z : ℤ) → FitsSigned w128 z → nat_abs (wide z) ≡ nat_abs z
narrow_size z f = ap nat_abs (wide_same z f)

widened_is : (z : ℤ) → nat_abs z ≤ 2 ^ 53 → wide (word z) ≡ z
widened_is z h = ap wide (word_is z h) ∙ wide_is z (le_trans h (lit≤ tt))

product_small : (x y : ℤ) → nat_abs x ≤ 2 ^ 53 → nat_abs y ≤ 2 ^ 53 → nat_abs (x *ℤ y) ≤ 2 ^ 106
product_small x y h g = rw (nat_abs_mul x y) (mul-le-mul h g)

-- one product more, as code makes it
module _ (s x y : ℤ) (i : ℕ) (few : i < 5) (size : nat_abs s ≤ i * 2 ^ 106) (h : nat_abs x ≤ 2 ^ 53) (g : nat_abs y ≤ 2 ^ 53) where
  abbrev pub product : ℤ
  product = wide (wide (word x) *ℤ wide (word y))

  product_is : product ≡ x *ℤ y
  product_is =
      ap₂ (λ (u v : ℤ). wide (u *ℤ v)) (widened_is x h) (widened_is y g) ∙ wide_is (x *ℤ y) (le_trans (product_small x y h g) (lit≤ tt))

  more_small : nat_abs (s +ℤ product) ≤ (i + 1) * 2 ^ 106
  more_small = rw product_is (omega (arith, nat_abs_add s (x *ℤ y), product_small x y h g, size))

  more_within : nat_abs (s +ℤ product) ≤ 2 ^ 110
  more_within = omega (arith, more_small)

  pub more_fits : FitsSigned w128 (s +ℤ product)
  more_fits = wide_fits (s +ℤ product) more_within

  more_is : wide (s +ℤ product) ≡ s +ℤ x *ℤ y
  more_is = wide_is (s +ℤ product) more_within ∙ ap (λ (z : ℤ). s +ℤ z) product_is

  more_size : nat_abs (wide (s +ℤ product)) ≤ (i + 1) * 2 ^ 106
  more_size = rw (wide_is (s +ℤ product) more_within) more_small

-- ---- the products for t^k
module _ (a b : List ℤ) (k : ℕ) where
  abbrev products : ℕ → ℤ
  products i = products_to (coefficient_of a) (coefficient_of b) k i

  -- those before the i-th are added up
  pub record Added (i : ℕ) (sum : ℤ) : Type 0 where
    pub inside : i ≤ k + 1
    pub same : sum ≡ products i
    pub size : nat_abs sum ≤ i * 2 ^ 106

  module _ (m n : ℕ) (A : Ends a m) (B : Ends b n) where
    pub added_none : (i : ℕ) → i ≡ k + 1 - n → Added i (pos 0)
    added_none i e = record {
      inside = omega arith;
      same = sym (products_before (coefficient_of a) (coefficient_of b) m n A.zeros B.zeros k i e);
      size = omega arith;
    }

    module _ (i : ℕ) (l : i ≤ k) (f : k < 5) (s : ℤ) (w : Added i s) where
      pub added_fits : FitsSigned w128 (s +ℤ product s (coefficient_of a i) (coefficient_of b (k - i)) i (omega arith) w.size (A.small i) (B.small (k - i)))
      added_fits = more_fits s (coefficient_of a i) (coefficient_of b (k - i)) i (omega arith) w.size (A.small i) (B.small (k - i))

      pub added_turn : Added (i + 1)
          (wide (s +ℤ product s (coefficient_of a i) (coefficient_of b (k - i)) i (omega arith) w.size (A.small i) (B.small (k - i))))
      added_turn = record {
        inside = omega arith;
        same = more_is s (coefficient_of a i) (coefficient_of b (k - i)) i (omega arith) w.size (A.small i) (B.small (k - i))
            ∙ ap (λ (z : ℤ). z +ℤ coefficient_of a i *ℤ coefficient_of b (k - i)) w.same ∙ ap products (sym (add-one i));
        size = more_size s (coefficient_of a i) (coefficient_of b (k - i)) i (omega arith) w.size (A.small i) (B.small (k - i));
      }

    pub added_all : (i : ℕ) (s : ℤ) → (i < k + 1 → m ≤ i) → Added i s → s ≡ made_of Product (coefficient_of a) (coefficient_of b) k
    added_all i s g w = w.same ∙ sym (products_behind (coefficient_of a) (coefficient_of b) m n A.zeros B.zeros k i w.inside g)
