-- Five doubles and a degree, by what the test found.
use mathlib.Core.Path.{◌≡◌, refl, sym, ◌∙◌}
use mathlib.Core.Bool.{Bool, true, false, ◌||◌, false≢true}
use mathlib.Core.List.{List}
use Prim.Native.Nat.{ℕ, ◌≤◌}
use borrow.Author.Tests.{ltb-false}
use lib.Dec.{ltb}
use lib.ListN.{length}
use Rattle.lent_bytes.specs.Bytes.{lacks_five}

pub none_holds : (p q : Bool) → (p || q) ≡ false → (p ≡ false) × (q ≡ false)
none_holds true q h = absurd (false≢true (sym h))
none_holds false q h = (refl, h)

module _ (a : List ℕ) (d : ℕ) {b : Bool} (e : b ≡ lacks_five a d) where
  pub accepted : b ≡ false → (40 ≤ length a) × (d ≤ 4)
  unfolding lacks_five
  accepted t = let h = none_holds (ltb (length a) 40) (ltb 4 d) (sym e ∙ t) in (ltb-false (length a) 40 h.0, ltb-false 4 d h.1)
