-- How far rounding moves a signed number, and where it does not move it: the bounds of `Exact`, on differences.
use Prim.Native.Nat.{ℕ, ◌+◌, ◌*◌, ◌^◌, ◌≤◌, ◌<◌}
use native.Mathlib.Nat.{add_comm}
use native.Mathlib.Omega.{arith}
use mathlib.Core.Path.{◌≡◌}
use Rattle.rounding.specs.Diff.{Diff, ◌⊡◌, ◌≈◌, Apart, SizeAtMost}
use Rattle.rounding.proofs.Value.{Near}
use Rattle.rounding.proofs.Exact.{relative, relative_sum, exact_sum}
use Rattle.rounding.proofs.Diff.{within_times}

-- x / d, rounded, is r
abbrev pub Rounds : Diff → ℕ → Diff → Type 0
Rounds x d r = Near x.p x.n d r.p r.n

-- ---- a sum of size b at most is moved by b / 2 ^ 53 at most, and a product by a half more
pub sum_relative : (x r : Diff) (b : ℕ) → Rounds x 1 r → SizeAtMost x b → Apart (r ⊡ 2 ^ 53) (x ⊡ 2 ^ 53) b
sum_relative x r b R w = let m = relative_sum R b w.0 w.1 in go x r b m.0 m.1
  where
    go : (x r : Diff) (b : ℕ) → 2 ^ 53 * r.p + 2 ^ 53 * x.n ≤ 2 ^ 53 * x.p + 2 ^ 53 * r.n + b
        → 2 ^ 53 * x.p + 2 ^ 53 * r.n ≤ 2 ^ 53 * r.p + 2 ^ 53 * x.n + b → Apart (r ⊡ 2 ^ 53) (x ⊡ 2 ^ 53) b
    go x r b h k = (omega arith, omega arith)

pub product_relative : (x r : Diff) (b d : ℕ) → 0 < d → Rounds x d r → SizeAtMost x b → Apart (r ⊡ d ⊡ 2 ^ 53) (x ⊡ 2 ^ 53) (b + 2 ^ 52 * d)
product_relative x r b d D R w = let m = relative D R b w.0 w.1 in go x (r ⊡ d) b (2 ^ 52 * d) m.0 m.1
  where
    go : (x r : Diff) (b c : ℕ) → 2 ^ 53 * r.p + 2 ^ 53 * x.n ≤ 2 ^ 53 * x.p + 2 ^ 53 * r.n + b + c
        → 2 ^ 53 * x.p + 2 ^ 53 * r.n ≤ 2 ^ 53 * r.p + 2 ^ 53 * x.n + b + c → Apart (r ⊡ 2 ^ 53) (x ⊡ 2 ^ 53) (b + c)
    go x r b c h k = (omega arith, omega arith)

-- in whole numbers: one of size 2 ^ 53 b at most goes by b at most, and a product by b + 1
pub sum_moved : (x r : Diff) (b : ℕ) → Rounds x 1 r → SizeAtMost x (2 ^ 53 * b) → Apart r x b
sum_moved x r b R w = let m = sum_relative x r (2 ^ 53 * b) R w in go x r b m
  where
    go : (x r : Diff) (b : ℕ) → Apart (r ⊡ 2 ^ 53) (x ⊡ 2 ^ 53) (2 ^ 53 * b) → Apart r x b
    go x r b h = (omega arith, omega arith)

pub product_moved : (x r : Diff) (b d : ℕ) → 0 < d → Rounds x d r → SizeAtMost x (2 ^ 53 * (b * d)) → Apart (r ⊡ d) x ((b + 1) * d)
product_moved x r b d D R w = let m = product_relative x r (2 ^ 53 * (b * d)) d D R w in go x (r ⊡ d) (b * d) d ((b + 1) * d) (omega arith) m
  where
    go : (x r : Diff) (b d c : ℕ) → b + d ≡ c → Apart (r ⊡ 2 ^ 53) (x ⊡ 2 ^ 53) (2 ^ 53 * b + 2 ^ 52 * d) → Apart r x c
    go x r b d c e h = (omega arith, omega arith)

-- ---- a sum that is a multiple of 2 ^ g by no more than 2 ^ 53 is not moved
pub multiple_exact : (g : ℕ) (x κ r : Diff) → Rounds x 1 r → x ≈ κ ⊡ 2 ^ g → SizeAtMost x (2 ^ 53 * 2 ^ g) → x ≈ r
multiple_exact g x κ r R e h = exact_sum R g κ.p κ.n e h.0 h.1

pub digits_exact : (g : ℕ) (a r : Diff) → Rounds (a ⊡ 2 ^ g) 1 r → SizeAtMost a (2 ^ 53) → a ⊡ 2 ^ g ≈ r
digits_exact g a r R h = multiple_exact g (a ⊡ 2 ^ g) a r R (add_comm (a.p * 2 ^ g) (a.n * 2 ^ g)) (within_times a (2 ^ 53) (2 ^ g) h)

pub few_exact : (x r : Diff) → Rounds x 1 r → SizeAtMost x (2 ^ 53) → x ≈ r
few_exact x r R h = exact_sum R 0 x.p x.n (omega arith) (omega arith) (omega arith)
