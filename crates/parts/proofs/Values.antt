-- The value of a sum, a difference and a product, at any whole number.
use mathlib.Core.Path.{◌≡◌, refl, sym, ap, ap₂, ◌∙◌}
use mathlib.Core.List.{List, [], ◌∷◌, map}
use lib.IntN.{ℤ, pos, neg_ℤ, ◌+ℤ◌, ◌-ℤ◌, ◌*ℤ◌, +ℤ_idl, +ℤ_idr, zero-*ℤ, *ℤ-zero}
use Rattle.algebra.specs.RingInt.{ringℤ, #, :neg, ◌:+◌, ◌:*◌, ◌:=◌}
use Rattle.parts.specs.Polynomial.{added, subtracted, multiplied, value_at}

pub added_value : (p q : List ℤ) (x : ℤ) → value_at (added p q) x ≡ value_at p x +ℤ value_at q x
added_value [] q x = sym (+ℤ_idl (value_at q x))
added_value (a ∷ p) [] x = sym (+ℤ_idr (value_at (a ∷ p) x))
added_value (a ∷ p) (b ∷ q) x =
    ap (λ (y : ℤ). (a +ℤ b) +ℤ x *ℤ y) (added_value p q x)
    ∙ ringℤ 5 (λ a b x y z. (a :+ b) :+ x :* (y :+ z) := (a :+ x :* y) :+ (b :+ x :* z)) tt a b x (value_at p x) (value_at q x)

negated_value : (p : List ℤ) (x : ℤ) → value_at (map neg_ℤ p) x ≡ neg_ℤ (value_at p x)
negated_value [] x = refl
negated_value (a ∷ p) x =
    ap (λ (y : ℤ). neg_ℤ a +ℤ x *ℤ y) (negated_value p x) ∙ ringℤ 3 (λ a x y. :neg a :+ x :* :neg y := :neg (a :+ x :* y)) tt a x (value_at p x)

pub subtracted_value : (p q : List ℤ) (x : ℤ) → value_at (subtracted p q) x ≡ value_at p x -ℤ value_at q x
subtracted_value p q x = added_value p (map neg_ℤ q) x ∙ ap (λ (y : ℤ). value_at p x +ℤ y) (negated_value q x)

scaled_value : (a : ℤ) (q : List ℤ) (x : ℤ) → value_at (map (λ b. a *ℤ b) q) x ≡ a *ℤ value_at q x
scaled_value a [] x = sym (*ℤ-zero a)
scaled_value a (b ∷ q) x =
    ap (λ (y : ℤ). a *ℤ b +ℤ x *ℤ y) (scaled_value a q x) ∙ ringℤ 4 (λ a b x y. a :* b :+ x :* (a :* y) := a :* (b :+ x :* y)) tt a b x (value_at q x)

pub multiplied_value : (p q : List ℤ) (x : ℤ) → value_at (multiplied p q) x ≡ value_at p x *ℤ value_at q x
multiplied_value [] q x = sym (zero-*ℤ (value_at q x))
multiplied_value (a ∷ p) q x =
    added_value (map (λ b. a *ℤ b) q) (pos 0 ∷ multiplied p q) x
    ∙ ap₂ (λ (y z : ℤ). y +ℤ (pos 0 +ℤ x *ℤ z)) (scaled_value a q x) (multiplied_value p q x)
    ∙ ringℤ 4 (λ a x y z. a :* z :+ (# 0 :+ x :* (y :* z)) := (a :+ x :* y) :* z) tt a x (value_at p x) (value_at q x)
