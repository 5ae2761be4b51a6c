-- An array by a rule for its places: Rust's array::from_fn. Definitions only.
use Rattle.std.specs.Prelude.{List, [], ◌∷◌, ℕ, zero, suc, ◌+◌}

module _ {A : Type 0} where
  -- k places, the first of them by the rule at i
  abbrev pub fill_from : ℕ → ℕ → (ℕ → A) → List A
  fill_from i zero f = []
  fill_from i (suc k) f = f i ∷ fill_from (i + 1) k f

  abbrev pub from_fn : ℕ → (ℕ → A) → List A
  from_fn n f = fill_from 0 n f
