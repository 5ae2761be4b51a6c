-- The loops of poly.rs over an array's places, downwards. Definitions only.
use Rattle.std.specs.Prelude.{ℕ, ◌+◌, ◌-◌, List, get_or, Float}
use Rattle.std.specs.Float.{nan}
use Rattle.facts.specs.Count.{count_down}

module _ {A : Type 0} where
  -- for i in (k..n).rev() { a = f(i, a) }
  unfoldable pub down_to : ℕ → (ℕ → A → A) → ℕ → A → A
  down_to k f n a = count_down (λ (j : ℕ). f (k + j)) (n - k) a

  -- a step that takes a coefficient, at place i of p: for &c in p[..d].iter().rev() { a = f(c, a) } is count_down (at_place f p) d a
  abbrev pub at_place : (Float → A → A) → List Float → ℕ → A → A
  at_place f p i a = f (get_or p i nan) a
