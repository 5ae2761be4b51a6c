-- The digits of a power of a double's units, by the power of its significand.
use mathlib.Core.Path.{◌≡◌, sym, ap, ◌∙◌, subst}
use Prim.Native.Nat.{ℕ, zero, suc, ◌+◌, ◌*◌, ◌^◌, ◌≤◌, ◌<◌}
use native.Mathlib.Omega.{arith}
use native.Mathlib.Nat.{one-mul, mul-mul-mul_comm, pow-zero, pow-suc, le_of_mul-le-mul_right, lt_of_mul-lt-mul_right, mul-le-mul_right, mul-lt-mul_of_pos_right}
use lib.Pow.{pow-add, pow_pos}
use lib.Ieee.{size}
use Rattle.algebra.specs.NatOrder.{pow_mul}
use Rattle.decode.proofs.Highest.{size_exact}

mul_pow : (a b e : ℕ) → (a * b) ^ e ≡ a ^ e * b ^ e
mul_pow a b zero = pow-zero (a * b) ∙ sym (ap (λ (x : ℕ). x * b ^ zero) (pow-zero a) ∙ one-mul (b ^ zero) ∙ pow-zero b)
mul_pow a b (suc e) =
    pow-suc (a * b) e ∙ ap (λ (x : ℕ). x * (a * b)) (mul_pow a b e) ∙ mul-mul-mul_comm (a ^ e) (b ^ e) a b
    ∙ ap (λ (x : ℕ). x * (b ^ e * b)) (sym (pow-suc a e)) ∙ ap (λ (x : ℕ). a ^ suc e * x) (sym (pow-suc b e))

-- n is w * 2 ^ k / 2 ^ p, so n ^ e lies between the powers of two k * e above those around w ^ e, p * e left out
module _ (n w k p e r : ℕ) (v : w * 2 ^ k ≡ n * 2 ^ p) where
  powers : w ^ e * 2 ^ (k * e) ≡ n ^ e * 2 ^ (p * e)
  powers =
      ap (λ (x : ℕ). w ^ e * x) (pow_mul 2 k e) ∙ sym (mul_pow w (2 ^ k) e) ∙ ap (λ (x : ℕ). x ^ e) v ∙ mul_pow n (2 ^ p) e
      ∙ ap (λ (x : ℕ). n ^ e * x) (sym (pow_mul 2 p e))

  joined : (r : ℕ) → 2 ^ (r + p * e) * 2 ^ (k * e) ≡ 2 ^ (k * e + r) * 2 ^ (p * e)
  joined r = sym (pow-add 2 (r + p * e) (k * e)) ∙ ap (λ (x : ℕ). 2 ^ x) (turned r (p * e) (k * e)) ∙ pow-add 2 (k * e + r) (p * e)
    where
      turned : (r a b : ℕ) → r + a + b ≡ b + r + a
      turned r a b = omega arith

  power_low : 2 ^ (r + p * e) ≤ w ^ e → 2 ^ (k * e + r) ≤ n ^ e
  power_low h =
      le_of_mul-le-mul_right
      (subst (λ (x : ℕ). 2 ^ (k * e + r) * 2 ^ (p * e) ≤ x) powers (subst (λ (x : ℕ). x ≤ w ^ e * 2 ^ (k * e)) (joined r) (mul-le-mul_right (2 ^ (k * e)) h)))
      (pow_pos (p * e))

  power_high : w ^ e < 2 ^ (suc r + p * e) → n ^ e < 2 ^ (k * e + suc r)
  power_high h =
      lt_of_mul-lt-mul_right (2 ^ (p * e))
      (subst (λ (x : ℕ). x < 2 ^ (k * e + suc r) * 2 ^ (p * e)) powers
      (subst (λ (x : ℕ). w ^ e * 2 ^ (k * e) < x) (joined (suc r)) (mul-lt-mul_of_pos_right h (pow_pos (k * e)))))

  pub power_size : 2 ^ (r + p * e) ≤ w ^ e → w ^ e < 2 ^ (suc r + p * e) → size (n ^ e) ≡ suc (k * e + r)
  power_size lo hi = size_exact (n ^ e) (k * e + r) (power_low lo) (subst (λ (x : ℕ). n ^ e < 2 ^ x) (next (k * e) r) (power_high hi))
    where
      next : (a r : ℕ) → a + suc r ≡ suc (a + r)
      next a r = omega arith
