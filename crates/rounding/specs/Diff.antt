-- A whole number with a sign, as a difference of two natural numbers: p - n. Sums, products, equality and distance are those of the differences. Definitions
-- only. All but the record is `abbrev`, so that `omega` reads an equation or a bound of such numbers as one of natural numbers. (It reads none of the library's
-- ℤ.)
use Rattle.std.specs.Prelude.{◌≡◌, ◌⊎◌, ℕ, ◌+◌, ◌*◌, ◌≤◌}

pub record Diff : Type 0 where
  pub p : ℕ
  pub n : ℕ

infixl 6 ◌⊞◌ ◌⊟◌
infixl 7 ◌⊠◌ ◌⊡◌
infix 4 ◌≈◌
abbrev pub ◌⊞◌ : Diff → Diff → Diff
x ⊞ y = record { p = x.p + y.p; n = x.n + y.n }

abbrev pub ◌⊟◌ : Diff → Diff → Diff
x ⊟ y = record { p = x.p + y.n; n = x.n + y.p }

abbrev pub ◌⊠◌ : Diff → Diff → Diff
x ⊠ y = record { p = x.p * y.p + x.n * y.n; n = x.p * y.n + x.n * y.p }

-- a natural number times
abbrev pub ◌⊡◌ : Diff → ℕ → Diff
x ⊡ k = record { p = x.p * k; n = x.n * k }

-- the same whole number
abbrev pub ◌≈◌ : Diff → Diff → Type 0
x ≈ y = x.p + y.n ≡ x.n + y.p

-- |x - y| ≤ b
abbrev pub Apart : Diff → Diff → ℕ → Type 0
Apart x y b = (x.p + y.n ≤ x.n + y.p + b) × (x.n + y.p ≤ x.p + y.n + b)

-- |x| ≤ b
abbrev pub SizeAtMost : Diff → ℕ → Type 0
SizeAtMost x b = (x.p ≤ x.n + b) × (x.n ≤ x.p + b)

-- one of the two parts is 0, so that the size is their sum
abbrev pub OneSided : Diff → Type 0
OneSided x = (x.p ≡ 0) ⊎ (x.n ≡ 0)

abbrev pub magnitude : Diff → ℕ
magnitude x = x.p + x.n
