-- An array that `std::array::from_fn` made by a closure that no call changes is the array of its rule: `made_by g rule f step ys n made`, where
-- `step` says of one call that its result is the rule at the place. For closures that return at once write `λ i y q l k. search rules`.
use mathlib.Core.Path.{◌≡◌, refl, sym, ap, subst, ◌∙◌}
use mathlib.Core.List.{List, [], ◌∷◌}
use Prim.Native.Nat.{ℕ, zero, suc, ◌+◌, ◌<◌}
use native.Mathlib.Omega.{arith}
use native.Mathlib.Nat.{add-zero}
use lib.ListN.{length, drop, get_or}
use lib.Seq.{get_or-drop, drop-drop}
use denote.Param.Members.{Mut, Called}
use Rattle.std.specs.Array.{IsFromFnResult, IsFromFnResultFrom}
use Rattle.facts.specs.Arrays.{fill_from, from_fn}

here : {B : Type 0} (whole ys : List B) (i : ℕ) (y : B) → drop i whole ≡ y ∷ ys → (d : B) → get_or whole i d ≡ y
here whole ys i y e d = ap (λ (k : ℕ). get_or whole k d) (sym (add-zero i)) ∙ sym (get_or-drop i whole 0 d) ∙ ap (λ (l : List _). get_or l 0 d) e

next : {B : Type 0} (whole ys : List B) (i : ℕ) (y : B) → drop i whole ≡ y ∷ ys → drop (i + 1) whole ≡ ys
next whole ys i y e = sym (drop-drop 1 i whole) ∙ ap (drop 1) e

module _ {F B : Type 0} (g : Mut F (ℕ × Unit {0}) B) (rule : ℕ → B) (f : F) where
  made_from : (n i : ℕ) (ys whole : List B) (q : F)
      → ((j : ℕ) (y : B) (r : F) → j < i + n → Called g f (j, tt) y r → (y ≡ rule j) × (r ≡ f))
      → q ≡ f → drop i whole ≡ ys → length ys ≡ n → IsFromFnResultFrom g q whole i n → ys ≡ fill_from i n rule
  made_from zero i [] whole q step k e l h = refl
  made_from zero i (y ∷ ys) whole q step k e l h = absurd (omega (arith, l))
  made_from (suc n) i [] whole q step k e l h = absurd (omega (arith, l))
  made_from (suc n) i (y ∷ ys) whole q step k e l h =
      let one = step i h.1 h.0 (omega arith) (subst (λ (p : F). Called g p (i, tt) h.1 h.0) k h.3) in
      let is : y ≡ rule i = sym (here whole ys i y e y) ∙ h.2.1 y ∙ one.0 in
      let rest = made_from n (i + 1) ys whole h.0 (λ j z r b c. step j z r (omega arith) c) one.1 (next whole ys i y e) (omega (arith, l)) h.4 in
      λ a. is a ∷ rest a

  pub made_by : (n : ℕ) (ys : List B) → ((j : ℕ) (y : B) (r : F) → j < n → Called g f (j, tt) y r → (y ≡ rule j) × (r ≡ f))
      → IsFromFnResult g f ys n → ys ≡ from_fn n rule
  made_by n ys step h = made_from n 0 ys ys f (λ j y r b c. step j y r (omega arith) c) refl refl h.long h.each
