-- Dekker's product, exact: p = a b and e = (((ah bh - p) + ah bl) + al bh) + al bl, each operation rounded, and yet p + e is a b (`error_exact`).
-- That is where a and b have all their 53 digits in use and al bl is a whole number of units. With a = A U, b = B W, A = 2 ^ 27 H + L and B = 2 ^ 27 I + M,
-- the four parts at most 2 ^ 26 in size, and Z = 2 ^ z the unit of a b: p is a multiple of 2 ^ 52 Z within 2 ^ 52 Z of a b, and none of the eight operations
-- after it is rounded, since each result is a multiple of 2 ^ 54 Z, 2 ^ 52 Z, 2 ^ 27 Z or Z by 2 ^ 53 at most.
-- Below, α, β, γ, λ' and π are the whole numbers H I, H M, L I, L M and A B:
-- ah bh is α times 2 ^ 54 Z, ah bl and al bh are β and γ times 2 ^ 27 Z, al bl is λ' times Z, and a b is π times Z.
use mathlib.Core.Path.{◌≡◌, sym, ap, ◌∙◌, subst}
use mathlib.Core.Logic.{◌⊎◌, inl, inr}
use Prim.Native.Nat.{ℕ, ◌+◌, ◌-◌, ◌*◌, ◌^◌, ◌≤◌}
use native.Mathlib.Nat.{mul-le-mul_right}
use native.Mathlib.Omega.{arith}
use lib.Dec.{lit≤}
use lib.Pow.{pow-add, pow_pos}
use Rattle.algebra.specs.NatOrder.{pow2_finer}
use Rattle.rounding.specs.Diff.{Diff, ◌⊞◌, ◌⊟◌, ◌⊡◌, ◌≈◌, Apart, SizeAtMost}
use Rattle.rounding.proofs.Exact.{coarse, half_unit}
use Rattle.rounding.proofs.Diff.{same_parts, within_le, within_times}
use Rattle.rounding.proofs.Moved.{Rounds, multiple_exact, digits_exact}

-- ---- the arithmetic, on plain numbers
many : (a b Z G : ℕ) → G ≡ 2 ^ 52 * Z → 2 ^ 104 + b ≤ a → 2 ^ 52 * (1 * G) + b * Z ≤ a * Z
many a b Z G g h = omega (arith, mul-le-mul_right Z h)

few : (a b Z G : ℕ) → G ≡ 2 ^ 53 * Z → a ≤ b + 2 ^ 106 → a * Z ≤ b * Z + 2 ^ 53 * (1 * G)
few a b Z G g h = omega (arith, mul-le-mul_right Z h)

close_of : (x y : Diff) (Z G : ℕ) → G ≡ 2 ^ 53 * Z
    → (2 * (y.p * 1) + 2 * x.n ≤ 2 * x.p + 2 * (y.n * 1) + 1 * G) × (2 * x.p + 2 * (y.n * 1) ≤ 2 * (y.p * 1) + 2 * x.n + 1 * G) → Apart x y (2 ^ 52 * Z)
close_of x y Z G g h = (omega arith, omega arith)

grown : (x : Diff) (Z G : ℕ) → G ≡ 2 ^ 27 * Z → SizeAtMost x (3 * 2 ^ 51) → SizeAtMost (x ⊡ G) (3 * 2 ^ 78 * Z)
grown x Z G g h = within_le (x ⊡ G) (3 * 2 ^ 51 * G) (3 * 2 ^ 78 * Z) (omega arith) (within_times x (3 * 2 ^ 51) G h)

-- how large the partial sums are, before they are rounded: q is the product that is added, and r the sum so far
module _ (A B C L T p : Diff) (Z : ℕ) (split : T ≈ A ⊞ B ⊞ C ⊞ L) (close : Apart T p (2 ^ 52 * Z)) (q r : Diff) where
  r_bound : SizeAtMost B (3 * 2 ^ 78 * Z) → SizeAtMost C (3 * 2 ^ 78 * Z) → SizeAtMost L (2 ^ 52 * Z) → A ≈ q → SizeAtMost (q ⊟ p) (2 ^ 81 * Z)
  r_bound b c l e = (omega arith, omega arith)

  s_bound : SizeAtMost C (3 * 2 ^ 78 * Z) → SizeAtMost L (2 ^ 52 * Z) → B ≈ q → A ⊟ p ≈ r → SizeAtMost (r ⊞ q) (2 ^ 53 * (2 ^ 27 * Z))
  s_bound c l e f = (omega arith, omega arith)

  t_bound : SizeAtMost L (2 ^ 52 * Z) → C ≈ q → A ⊟ p ⊞ B ≈ r → SizeAtMost (r ⊞ q) (2 ^ 53 * Z)
  t_bound l e f = (omega arith, omega arith)

  e_bound : L ≈ q → A ⊟ p ⊞ B ⊞ C ≈ r → SizeAtMost (r ⊞ q) (2 ^ 53 * Z)
  e_bound e f = (omega arith, omega arith)

wider : (x : Diff) (Z : ℕ) → SizeAtMost x (2 ^ 81 * Z) → SizeAtMost x (2 ^ 53 * (2 ^ 52 * Z))
wider x Z h = within_le x (2 ^ 81 * Z) (2 ^ 53 * (2 ^ 52 * Z)) (omega arith) h

-- the partial sums as multiples of a unit
r_multiple : (α ρ q p : Diff) (Z G H : ℕ) → G ≡ 2 ^ 52 * Z → H ≡ 2 ^ 54 * Z → p ≈ ρ ⊡ G → α ⊡ H ≈ q → q ⊟ p ≈ (α ⊡ 4 ⊟ ρ) ⊡ G
r_multiple α ρ q p Z G H g h e f =
    omega (arith, ap (λ (x : ℕ). α.p * x) h, ap (λ (x : ℕ). α.n * x) h, ap (λ (x : ℕ). α.p * x) g, ap (λ (x : ℕ). α.n * x) g)

s_multiple : (α ρ β r q p : Diff) (Z F G H : ℕ) → F ≡ 2 ^ 27 * Z → G ≡ 2 ^ 52 * Z → H ≡ 2 ^ 54 * Z
    → p ≈ ρ ⊡ G → α ⊡ H ⊟ p ≈ r → β ⊡ F ≈ q → r ⊞ q ≈ (α ⊡ 2 ^ 27 ⊟ ρ ⊡ 2 ^ 25 ⊞ β) ⊡ F
s_multiple α ρ β r q p Z F G H f g h e d c =
    let h1 = ap (λ (x : ℕ). α.p * x) h in
    let h2 = ap (λ (x : ℕ). α.n * x) h in
    let g1 = ap (λ (x : ℕ). ρ.p * x) g in
    let g2 = ap (λ (x : ℕ). ρ.n * x) g in
    omega (arith, ap (λ (x : ℕ). α.p * x) f, ap (λ (x : ℕ). α.n * x) f, ap (λ (x : ℕ). ρ.p * x) f, ap (λ (x : ℕ). ρ.n * x) f)

t_multiple : (κ γ r q : Diff) (Z F : ℕ) → F ≡ 2 ^ 27 * Z → r ≈ κ ⊡ F → γ ⊡ F ≈ q → r ⊞ q ≈ ((κ ⊞ γ) ⊡ 2 ^ 27) ⊡ Z
t_multiple κ γ r q Z F f e d =
    omega (arith, ap (λ (x : ℕ). κ.p * x) f, ap (λ (x : ℕ). κ.n * x) f, ap (λ (x : ℕ). γ.p * x) f, ap (λ (x : ℕ). γ.n * x) f)

e_multiple : (κ μ r q : Diff) (Z : ℕ) → r ≈ κ ⊡ Z → μ ⊡ Z ≈ q → r ⊞ q ≈ (κ ⊞ μ) ⊡ Z
e_multiple κ μ r q Z e d = omega arith

-- a sum of terms that were not rounded, and was not rounded
less_exact : (A q p r : Diff) → A ≈ q → q ⊟ p ≈ r → A ⊟ p ≈ r
less_exact A q p r e f = omega arith

sum_exact : (x y r q s : Diff) → x ≈ r → y ≈ q → r ⊞ q ≈ s → x ⊞ y ≈ s
sum_exact x y r q s d e f = omega arith

same_through : (x y z : Diff) → x ≈ y → x ≈ z → z ≈ y
same_through x y z e f = omega arith

error_whole : (T A B C L p e : Diff) → T ≈ A ⊞ B ⊞ C ⊞ L → A ⊟ p ⊞ B ⊞ C ⊞ L ≈ e → T ≈ p ⊞ e
error_whole T A B C L p e h k = omega arith

-- ---- the products with their units, and each operation rounded
module _ (z : ℕ) (α β γ λ' π p qa qb qc ql r s t e : Diff)
    (split : π ⊡ 2 ^ z ≈ α ⊡ 2 ^ (54 + z) ⊞ β ⊡ 2 ^ (27 + z) ⊞ γ ⊡ 2 ^ (27 + z) ⊞ λ' ⊡ 2 ^ z)
    (α-few : SizeAtMost α (2 ^ 53)) (β-few : SizeAtMost β (3 * 2 ^ 51)) (γ-few : SizeAtMost γ (3 * 2 ^ 51)) (λ-few : SizeAtMost λ' (2 ^ 52))
    (π-few : SizeAtMost π (2 ^ 106)) (π-many : (2 ^ 104 + π.n ≤ π.p) ⊎ (2 ^ 104 + π.p ≤ π.n))
    (P : Rounds (π ⊡ 2 ^ z) 1 p) (QA : Rounds (α ⊡ 2 ^ (54 + z)) 1 qa) (QB : Rounds (β ⊡ 2 ^ (27 + z)) 1 qb)
    (QC : Rounds (γ ⊡ 2 ^ (27 + z)) 1 qc) (QL : Rounds (λ' ⊡ 2 ^ z) 1 ql)
    (R : Rounds (qa ⊟ p) 1 r) (S : Rounds (r ⊞ qb) 1 s) (T : Rounds (s ⊞ qc) 1 t) (E : Rounds (t ⊞ ql) 1 e) where
  abbrev Z : ℕ
  Z = 2 ^ z

  abbrev hh : Diff
  hh = α ⊡ 2 ^ (54 + z)

  abbrev hl : Diff
  hl = β ⊡ 2 ^ (27 + z)

  abbrev lh : Diff
  lh = γ ⊡ 2 ^ (27 + z)

  abbrev ll : Diff
  ll = λ' ⊡ Z

  abbrev ab : Diff
  ab = π ⊡ Z

  unit27 : 2 ^ (27 + z) ≡ 2 ^ 27 * Z
  unit27 = pow-add 2 27 z

  unit52 : 2 ^ (52 + z) ≡ 2 ^ 52 * Z
  unit52 = pow-add 2 52 z

  unit53 : 2 ^ (53 + z) ≡ 2 ^ 53 * Z
  unit53 = pow-add 2 53 z

  unit54 : 2 ^ (54 + z) ≡ 2 ^ 54 * Z
  unit54 = pow-add 2 54 z

  -- p is ρ times 2 ^ 52 Z, and off by no more than 2 ^ 52 Z
  p_unit : 52 + z ≤ P.k
  p_unit = coarse (pow_pos 0) P (52 + z) (elim π-many [
    | inl o ↦ inl (many π.p π.n Z (2 ^ (52 + z)) unit52 o)
    | inr o ↦ inr (many π.n π.p Z (2 ^ (52 + z)) unit52 o)
  ])

  close : Apart ab p (2 ^ 52 * Z)
  close =
      close_of ab p Z (2 ^ (53 + z)) unit53
      (half_unit (pow_pos 0) P (53 + z) (few π.p π.n Z (2 ^ (53 + z)) unit53 π-few.0) (few π.n π.p Z (2 ^ (53 + z)) unit53 π-few.1))

  ρ : Diff
  ρ = record { p = P.a * 2 ^ (P.k - (52 + z)); n = P.b * 2 ^ (P.k - (52 + z)) }

  p_is : p ≈ ρ ⊡ 2 ^ (52 + z)
  unfolding ρ
  p_is = same_parts p.p p.n _ _ (P.p_is ∙ pow2_finer P.a p_unit) (P.n_is ∙ pow2_finer P.b p_unit)

  -- the four products, none of them rounded
  hh_exact : hh ≈ qa
  hh_exact = digits_exact (54 + z) α qa QA α-few

  hl_exact : hl ≈ qb
  hl_exact = digits_exact (27 + z) β qb QB (within_le β (3 * 2 ^ 51) (2 ^ 53) (lit≤ tt) β-few)

  lh_exact : lh ≈ qc
  lh_exact = digits_exact (27 + z) γ qc QC (within_le γ (3 * 2 ^ 51) (2 ^ 53) (lit≤ tt) γ-few)

  ll_exact : ll ≈ ql
  ll_exact = digits_exact z λ' ql QL (within_le λ' (2 ^ 52) (2 ^ 53) (lit≤ tt) λ-few)

  hl_few : SizeAtMost hl (3 * 2 ^ 78 * Z)
  hl_few = grown β Z (2 ^ (27 + z)) unit27 β-few

  lh_few : SizeAtMost lh (3 * 2 ^ 78 * Z)
  lh_few = grown γ Z (2 ^ (27 + z)) unit27 γ-few

  ll_few : SizeAtMost ll (2 ^ 52 * Z)
  ll_few = within_times λ' (2 ^ 52) Z λ-few

  -- the four sums, none of them rounded
  r_exact : hh ⊟ p ≈ r
  r_exact =
      let b = wider (qa ⊟ p) Z (r_bound hh hl lh ll ab p Z split close qa r hl_few lh_few ll_few hh_exact) in
      let m = r_multiple α ρ qa p Z (2 ^ (52 + z)) (2 ^ (54 + z)) unit52 unit54 p_is hh_exact in
      less_exact hh qa p r hh_exact
      (multiple_exact (52 + z) (qa ⊟ p) (α ⊡ 4 ⊟ ρ) r R m (subst (λ (g : ℕ). SizeAtMost (qa ⊟ p) (2 ^ 53 * g)) (sym unit52) b))

  κ : Diff
  κ = α ⊡ 2 ^ 27 ⊟ ρ ⊡ 2 ^ 25 ⊞ β

  r_qb : r ⊞ qb ≈ κ ⊡ 2 ^ (27 + z)
  unfolding κ
  r_qb = s_multiple α ρ β r qb p Z (2 ^ (27 + z)) (2 ^ (52 + z)) (2 ^ (54 + z)) unit27 unit52 unit54 p_is r_exact hl_exact

  s_exact : r ⊞ qb ≈ s
  s_exact =
      let b = s_bound hh hl lh ll ab p Z split close qb r lh_few ll_few hl_exact r_exact in
      multiple_exact (27 + z) (r ⊞ qb) κ s S r_qb (subst (λ (g : ℕ). SizeAtMost (r ⊞ qb) (2 ^ 53 * g)) (sym unit27) b)

  s_sum : hh ⊟ p ⊞ hl ≈ s
  s_sum = sum_exact (hh ⊟ p) hl r qb s r_exact hl_exact s_exact

  s_qc : s ⊞ qc ≈ ((κ ⊞ γ) ⊡ 2 ^ 27) ⊡ Z
  s_qc = t_multiple κ γ s qc Z (2 ^ (27 + z)) unit27 (same_through (r ⊞ qb) (κ ⊡ 2 ^ (27 + z)) s r_qb s_exact) lh_exact

  t_exact : s ⊞ qc ≈ t
  t_exact = multiple_exact z (s ⊞ qc) ((κ ⊞ γ) ⊡ 2 ^ 27) t T s_qc (t_bound hh hl lh ll ab p Z split close qc s ll_few lh_exact s_sum)

  t_sum : hh ⊟ p ⊞ hl ⊞ lh ≈ t
  t_sum = sum_exact (hh ⊟ p ⊞ hl) lh s qc t s_sum lh_exact t_exact

  e_exact : t ⊞ ql ≈ e
  e_exact =
      let m = e_multiple ((κ ⊞ γ) ⊡ 2 ^ 27) λ' t ql Z (same_through (s ⊞ qc) (((κ ⊞ γ) ⊡ 2 ^ 27) ⊡ Z) t s_qc t_exact) ll_exact in
      multiple_exact z (t ⊞ ql) ((κ ⊞ γ) ⊡ 2 ^ 27 ⊞ λ') e E m (e_bound hh hl lh ll ab p Z split close ql t ll_exact t_sum)

  pub error_exact : π ⊡ 2 ^ z ≈ p ⊞ e
  error_exact = error_whole ab hh hl lh ll p e split (sum_exact (hh ⊟ p ⊞ hl ⊞ lh) ll t ql e t_sum ll_exact e_exact)
