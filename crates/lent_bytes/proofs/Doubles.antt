-- How many doubles are read; those read, as an array made place by place, of such an array with zeros behind them, and each by its place.
use mathlib.Core.Path.{◌≡◌, refl, ap, ◌∙◌, sym}
use mathlib.Core.Bool.{cond}
use mathlib.Core.List.{List, [], ◌∷◌, ◌++◌}
use Prim.Native.Nat.{ℕ, zero, suc, ◌+◌, ◌-◌, ◌*◌, ◌<◌, ◌≤◌}
use native.Mathlib.Omega.{arith}
use native.Mathlib.Numerals.{add-one}
use borrow.Author.Tests.{lt-ltb, le-ltb}
use lib.Dec.{ltb}
use lib.ListN.{length, take, replicate, set}
use lib.Seq.{take_at}
use lib.Ieee.{Float}
use denote.Param.Members.{Mut, Called}
use Rattle.std.specs.Array.{IsFromFnResult}
use Rattle.float.proofs.Made.{made_by}
use Rattle.facts.specs.Arrays.{fill_from, from_fn}
use Rattle.facts.specs.Lists.{padded_push}
use Rattle.float.specs.Literals.{zero64}
use Rattle.float.specs.Bytes.{f64_at}
use Rattle.lent_bytes.specs.Bytes.{f64s_at}

pub f64s_length : (k : ℕ) (s : List ℕ) (at : ℕ) → length (f64s_at k s at) ≡ k
unfolding f64s_at
f64s_length zero s at = refl
f64s_length (suc k) s at = ap suc (f64s_length k s (at + 8))

-- one more behind those read
f64s_suc : (i : ℕ) (s : List ℕ) (at : ℕ)
    → f64s_at (suc i) s at ≡ f64s_at i s at ++ (f64_at s (at + 8 * i) ∷ [])
unfolding f64s_at
f64s_suc zero s at =
    let e : at ≡ at + 8 * 0 = omega arith in
    ap (λ (k : ℕ). f64_at s k ∷ []) e
f64s_suc (suc i) s at =
    let e : at + 8 + 8 * i ≡ at + 8 * suc i = omega arith in
    ap (λ (l : List Float). f64_at s at ∷ l) (f64s_suc i s (at + 8) ∙ ap (λ (k : ℕ). f64s_at i s (at + 8) ++ (f64_at s k ∷ [])) e)

pub f64s_none : (s : List ℕ) (at : ℕ) (l : List Float) → l ≡ f64s_at 0 s at ++ l
unfolding f64s_at
f64s_none s at l = refl

-- the store of the next double behind those read, in an array of m
pub f64s_next : (m i : ℕ) (s : List ℕ) (at : ℕ) (x : Float) → i < m → x ≡ f64_at s (at + 8 * i)
    → set (f64s_at i s at ++ replicate (m - i) zero64) i x
    ≡ f64s_at (i + 1) s at ++ replicate (m - (i + 1)) zero64
f64s_next m i s at x h e =
    let one : f64s_at i s at ++ x ∷ [] ≡ f64s_at (i + 1) s at = rw (add-one, e) (sym (f64s_suc i s at)) in
    simp f64s_length at (rw one at (padded_push m zero64 (f64s_at i s at) x (omega (arith, f64s_length i s at))))

-- those read, as the start of the array
pub f64s_taken : (k : ℕ) (s : List ℕ) (at : ℕ) (l r : List Float) → r ≡ f64s_at k s at ++ l → take k r ≡ f64s_at k s at
f64s_taken k s at l r e = rw e (take_at (f64s_at k s at) l k (f64s_length k s at))

-- those read, as an array made place by place
f64s_made : (k : ℕ) (s : List ℕ) (at i : ℕ) → fill_from i k (λ j. f64_at s (at + 8 * j)) ≡ f64s_at k s (at + 8 * i)
unfolding f64s_at
f64s_made zero s at i = refl
f64s_made (suc k) s at i =
    let e : at + 8 * (i + 1) ≡ at + 8 * i + 8 = omega arith in
    ap (λ (l : List Float). f64_at s (at + 8 * i) ∷ l) (f64s_made k s at (i + 1) ∙ ap (f64s_at k s) e)

pub f64s_all : (k : ℕ) (s : List ℕ) (at : ℕ) {r : List Float} → r ≡ from_fn k (λ j. f64_at s (at + 8 * j)) → r ≡ f64s_at k s at
f64s_all k s at e = let h : at + 8 * 0 ≡ at = omega arith in e ∙ f64s_made k s at 0 ∙ ap (f64s_at k s) h

-- an array of m with those before the end read, and zeros behind them
module _ (s : List ℕ) (at end : ℕ) where
  unfoldable pub or_zero : ℕ → Float
  or_zero j = cond (ltb j end) (f64_at s (at + 8 * j)) zero64

  zeros_made : (m i : ℕ) → end ≤ i → fill_from i m or_zero ≡ replicate m zero64
  unfolding or_zero
  zeros_made zero i h = refl
  zeros_made (suc m) i h = simp (le-ltb i end h) (ap (λ (l : List Float). zero64 ∷ l) (zeros_made m (i + 1) (omega arith)))

  padded_made : (m k i : ℕ) → end ≡ i + k → k ≤ m → fill_from i m or_zero ≡ f64s_at k s (at + 8 * i) ++ replicate (m - k) zero64
  unfolding f64s_at or_zero
  padded_made m zero i e h =
      let all : m - 0 ≡ m = omega arith in
      rw all (zeros_made m i (omega arith))
  padded_made zero (suc k) i e h = absurd (omega arith)
  padded_made (suc m) (suc k) i e h =
      let p : at + 8 * (i + 1) ≡ at + 8 * i + 8 = omega arith in
      let rest = padded_made m k (i + 1) (omega arith) (omega arith) in
      let q : suc m - suc k ≡ m - k = omega arith in
      simp (lt-ltb i end (omega arith), q) (ap (λ (l : List Float). f64_at s (at + 8 * i) ∷ l) (rw p at rest))

  pub f64s_padded : {F : Type 0} (g : Mut F (ℕ × Unit {0}) Float) (f : F) (m : ℕ) (ys : List Float)
      → ((j : ℕ) (y : Float) (r : F) → j < m → Called g f (j, tt) y r → (y ≡ or_zero j) × (r ≡ f))
      → IsFromFnResult g f ys m → end ≤ m → ys ≡ f64s_at end s at ++ replicate (m - end) zero64
  f64s_padded g f m ys step made h =
      let p : at + 8 * 0 ≡ at = omega arith in
      made_by g or_zero f m ys step made ∙ rw p at (padded_made m end 0 (omega arith) h)

-- the k doubles from at + m on, each by its place
abbrev pub by_places : ℕ → List ℕ → ℕ → ℕ → List Float
by_places zero s at m = []
by_places (suc k) s at m = f64_at s (at + m) ∷ by_places k s at (m + 8)

pub f64s_placed : (k : ℕ) (s : List ℕ) (at m : ℕ) → f64s_at k s (at + m) ≡ by_places k s at m
unfolding f64s_at
f64s_placed zero s at m = refl
f64s_placed (suc k) s at m =
    let e : at + m + 8 ≡ at + (m + 8) = omega arith in
    ap (λ (l : List Float). f64_at s (at + m) ∷ l) (ap (f64s_at k s) e ∙ f64s_placed k s at (m + 8))
