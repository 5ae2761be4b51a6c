-- A loop of at most n turns, each of them written out: from any number k to the next.
use mathlib.Core.Path.{◌≡◌, refl, sym, ap, ◌∙◌}
use mathlib.Core.Bool.{Bool, true, false, cond}
use Prim.Native.Nat.{ℕ, zero, suc, ◌+◌, ◌-◌, ◌≤◌, ◌<◌}
use native.Mathlib.Nat.{sub-zero}
use native.Mathlib.Omega.{arith}
use borrow.Author.Tests.{ltb-true, ltb-false}
use lib.Dec.{ltb}
use lib.IntN.{ℤ}
use lib.ListN.{take}
use lib.Seq.{get_or-take}
use Rattle.facts.specs.Count.{count_up, up_turn, up_end}
use Rattle.roots.specs.declared.Roots.{Roots}
use Rattle.roots.specs.Roots.{list_of, roots_of, no_roots}
use Rattle.roots.specs.Listed.{Fits}
use Rattle.poly.specs.Found.{turn_at, unscaled_in}
use Rattle.poly.specs.RealRoots.{unscaled_all}
use Rattle.poly.proofs.Arrays.{unscaled_turn, unscaled_end}

-- ---- what is left from k on, done to the present value, is what was left before
module _ {A : Type 0} (n : ℕ) (f : ℕ → A → A) where
  pub first_turn : (a : A) → count_up n f (n - 0) a ≡ count_up n f n a
  first_turn a = simp sub-zero

  pub next_turn : (k : ℕ) (a : A) {b : A} → b ≡ turn_at n f k a
      → count_up n f (n - (k + 1)) b ≡ count_up n f (n - k) a
  next_turn k a e = rw e (go (ltb k n) refl)
    where
      go : (t : Bool) → ltb k n ≡ t
          → count_up n f (n - (k + 1)) (cond t (f k a) a) ≡ count_up n f (n - k) a
      go true t = sym (up_turn n f k a (ltb-true k n t))
      go false t =
          let h = ltb-false k n t in up_end n f (k + 1) a (omega arith) ∙ sym (up_end n f k a h)

  -- the same where the test is known
  pub taken_turn : (k : ℕ) (a : A) {b : A} → k < n → b ≡ f k a
      → count_up n f (n - (k + 1)) b ≡ count_up n f (n - k) a
  taken_turn k a h e = rw e (sym (up_turn n f k a h))

  pub last_turn : (k : ℕ) (a : A) → n ≤ k → a ≡ count_up n f (n - k) a
  last_turn k a h = sym (up_end n f k a h)

-- ---- the roots in x are such a loop
module _ (e : ℤ) (s : Roots) (fits : Fits s) where
  abbrev first_of : ℕ → Roots
  first_of k = roots_of (unscaled_all e (take k (list_of s)))

  unscaled_from : (k : ℕ) → k ≤ s.len
      → count_up s.len (unscaled_in e s) k (first_of (s.len - k))
      ≡ roots_of (unscaled_all e (list_of s))
  unfolding count_up
  unscaled_from zero h = unscaled_end e s (s.len - 0) fits (omega arith)
  unscaled_from (suc k) h =
      let next : s.len - suc k + 1 ≡ s.len - k = omega arith in
      ap (count_up s.len (unscaled_in e s) k)
      (unscaled_turn e s (s.len - suc k) fits (omega arith) ∙ ap first_of next)
      ∙ unscaled_from k (omega arith)

  pub unscaled_turns : {d : ℤ} {none : Roots} → d ≡ e → none ≡ no_roots
      → count_up s.len (unscaled_in d s) s.len none ≡ roots_of (unscaled_all e (list_of s))
  unfolding unscaled_all
  unscaled_turns {d} {none} same z =
      let start : 0 ≡ s.len - s.len = omega arith in
      ap (λ (i : ℤ). count_up s.len (unscaled_in i s) s.len none) same
      ∙ ap (count_up s.len (unscaled_in e s) s.len) (z ∙ ap first_of start)
      ∙ unscaled_from s.len (omega arith)

-- for `using`: what is left from k on, done to the present value, is what was left before
pub ruleset turns = (up_turn, up_end, get_or-take)
