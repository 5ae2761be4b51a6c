-- The numbers of the first k roots, and zeros behind them.
use mathlib.Core.Path.{◌≡◌, refl, ap, ◌∙◌}
use mathlib.Core.List.{List, [], ◌∷◌, ◌++◌}
use Prim.Native.Nat.{ℕ, zero, suc, ◌+◌, ◌-◌, ◌*◌, ◌≤◌, ◌<◌}
use native.Mathlib.Omega.{arith}
use lib.ListN.{get_or, set, replicate}
use lib.Ieee.{Float}
use Rattle.float.specs.Literals.{zero64}
use Rattle.roots.specs.declared.RealRoot.{RealRoot}
use Rattle.roots.specs.declared.Roots.{Roots}
use Rattle.roots.specs.Roots.{kind_number}
use Rattle.roots.specs.Listed.{blank}
use Rattle.lent_bytes.specs.Numbers.{number}
use Rattle.lent_bytes.specs.Lists.{root_at, root_numbers}

abbrev pub rows : Roots → ℕ → List Float
rows s zero = []
rows s (suc k) = rows s k ++ root_at s k

abbrev pub filled : Roots → ℕ → List Float
filled s k = number s.len ∷ (rows s k ++ replicate (12 - 3 * k) zero64)

abbrev here : Roots → ℕ → RealRoot
here s k = get_or s.root k blank

abbrev with_row : List Float → ℕ → RealRoot → List Float
with_row x k r = set (set (set x (3 * k + 1) r.value) (3 * k + 2) (number r.multiplicity)) (3 * k + 3) (number (kind_number r.kind))

module _ (s : Roots) (k : ℕ) {x : List Float} (so_far : x ≡ filled s k) where
  pub filled_next : {n : ℕ} → k < 4 → n ≡ kind_number (here s k).kind
      → set (set (set x (3 * k + 1) (here s k).value) (3 * k + 2) (number (here s k).multiplicity)) (3 * k + 3) (number n) ≡ filled s (k + 1)
  filled_next h e = rw (so_far, e) (go k h)
    where
      go : (k : ℕ) → k < 4 → with_row (filled s k) k (here s k) ≡ filled s (k + 1)
      go zero h = refl
      go (suc zero) h = refl
      go (suc (suc zero)) h = refl
      go (suc (suc (suc zero))) h = refl
      go (suc (suc (suc (suc k)))) h = absurd (omega arith)

  pub filled_all : k ≤ 4 → 4 ≤ k → x ≡ root_numbers s
  unfolding root_numbers
  filled_all h l = so_far ∙ (let e : k ≡ 4 = omega arith in ap (filled s) e) ∙ refl
