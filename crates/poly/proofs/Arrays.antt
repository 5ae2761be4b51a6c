-- The candidates in their arrays are those of the lists: the factors one by one, and the roots in x.
use mathlib.Core.Path.{◌≡◌, refl, sym, ap, ◌∙◌}
use mathlib.Core.Bool.{Bool, true, false, cond}
use mathlib.Core.List.{List, [], ◌∷◌, ◌++◌, append-nil}
use Prim.Native.Nat.{ℕ, zero, suc, ◌+◌, ◌-◌, ◌≤◌, ◌<◌}
use native.Mathlib.Numerals.{add-one}
use native.Mathlib.Omega.{arith}
use borrow.Author.Tests.{lt-ltb, le-ltb}
use lib.Dec.{ltb}
use lib.IntN.{ℤ}
use lib.ListN.{length, take, get_or}
use lib.Seq.{take-suc, take_all, get_or-take, length-take-le}
use lib.Ieee.{Float}
use Rattle.facts.specs.Count.{count_up}
use Rattle.float.specs.Literals.{zero64}
use Rattle.float.specs.Methods.{is_finite_of}
use Rattle.scaled.specs.declared.Scaled.{Scaled}
use Rattle.factors.specs.declared.Factors.{Factors}
use Rattle.factors.specs.Factors.{quad_at}
use Rattle.roots.specs.declared.RealRoot.{RealRoot}
use Rattle.roots.specs.declared.Roots.{Roots}
use Rattle.roots.specs.declared.Pair.{Pair}
use Rattle.roots.specs.Roots.{root, list_of, roots_of, held, kept, kept_in, no_roots, no_pairs}
use Rattle.roots.specs.Listed.{Fits, blank}
use Rattle.roots.proofs.Laws.{length_list, kept_roots}
use Rattle.push.specs.declared.Found.{Found}
use Rattle.push.specs.Quadratic.{found_of}
use Rattle.push.proofs.Lists.{push_lists}
use Rattle.poly.specs.Solve.{zero_roots_of, with_lin, with_quad, candidates_of}
use Rattle.poly.specs.Found.{with_lin_in, with_quad_in}
use Rattle.poly.specs.RealRoots.{unscaled_of, unscaled_all}

-- a loop over what stands for something is a loop over that
up_same : {A B : Type 0} (stands : A → B) (f : ℕ → A → A) (g : ℕ → B → B) → ((i : ℕ) (a : A) → g i (stands a) ≡ stands (f i a))
    → (n k : ℕ) (a : A) → count_up n g k (stands a) ≡ stands (count_up n f k a)
unfolding count_up
up_same stands f g same n zero a = refl
up_same {A} {B} stands f g same n (suc k) a = ap (λ (b : B). count_up n g k b) (same (n - suc k) a) ∙ up_same stands f g same n k (f (n - suc k) a)

-- ---- the zero roots
pub zeros_some : (zeros : ℕ) → 0 < zeros → kept_in no_roots (root zero64 zeros) ≡ roots_of (zero_roots_of zeros)
unfolding zero_roots_of
zeros_some zeros h = rw (lt-ltb 0 zeros h) (kept_roots [] (root zero64 zeros))

pub zeros_none : (zeros : ℕ) → zeros ≤ 0 → no_roots ≡ roots_of (zero_roots_of zeros)
unfolding zero_roots_of
zeros_none zeros h = rw (le-ltb 0 zeros h)

-- ---- the factors
module _ (poly : Scaled) (f : Factors) (tol : Float) where
  quad_found : (i : ℕ) (s : List RealRoot × List Pair) → with_quad_in poly f tol i (found_of s) ≡ found_of (with_quad poly f tol i s)
  quad_found i s = push_lists poly (quad_at f i).al (quad_at f i).be tol s.0 s.1

  lin_found : (i : ℕ) (l : List RealRoot) → with_lin_in f i (roots_of l) ≡ roots_of (with_lin f i l)
  lin_found i l = kept_roots l _

  -- the loops, one after the other
  pub candidates_found : (zeros : ℕ) (start lins : Roots) (r : Found) → start ≡ roots_of (zero_roots_of zeros)
      → lins ≡ count_up f.nlin (with_lin_in f) f.nlin start
      → r ≡ count_up f.nquad (with_quad_in poly f tol) f.nquad (record { roots = lins; pairs = no_pairs })
      → r ≡ found_of (candidates_of poly zeros f tol)
  unfolding candidates_of
  candidates_found zeros start lins r a b c =
      let l = b ∙ ap (count_up f.nlin (with_lin_in f) f.nlin) a
      ∙ up_same roots_of (with_lin f) (with_lin_in f) lin_found f.nlin f.nlin (zero_roots_of zeros) in
      c ∙ ap (λ (s : Roots). count_up f.nquad (with_quad_in poly f tol) f.nquad (record { roots = s; pairs = no_pairs })) l
      ∙ up_same found_of (with_quad poly f tol) (with_quad_in poly f tol) quad_found f.nquad f.nquad
      (count_up f.nlin (with_lin f) f.nlin (zero_roots_of zeros), [])

-- ---- the roots in x
module _ (e : ℤ) where
  pub unscaled_length : (l : List RealRoot) → length (unscaled_all e l) ≤ length l
  unfolding unscaled_all
  unscaled_length [] = omega arith
  unscaled_length (r ∷ l) = go (is_finite_of (unscaled_of e r.value)) (unscaled_length l)
    where
      go : (b : Bool) → length (unscaled_all e l) ≤ length l → length
          (cond b (root (unscaled_of e r.value) r.multiplicity ∷ unscaled_all e l) (unscaled_all e l)) ≤ suc (length l)
      go true h = omega arith
      go false h = omega arith

  unscaled_append : (l m : List RealRoot) → unscaled_all e (l ++ m) ≡ unscaled_all e l ++ unscaled_all e m
  unfolding unscaled_all
  unscaled_append [] m = refl
  unscaled_append (r ∷ l) m = go (is_finite_of (unscaled_of e r.value)) (unscaled_append l m)
    where
      at : RealRoot
      at = root (unscaled_of e r.value) r.multiplicity

      go : (b : Bool) → unscaled_all e (l ++ m) ≡ unscaled_all e l ++ unscaled_all e m
          → cond b (at ∷ unscaled_all e (l ++ m)) (unscaled_all e (l ++ m)) ≡ cond b (at ∷ unscaled_all e l) (unscaled_all e l) ++ unscaled_all e m
      go true i = ap (λ (t : List RealRoot). at ∷ t) i
      go false i = i

  -- one root more, where there is room
  unscaled_one : (l : List RealRoot) (r : RealRoot) → length l < 4 → kept l (root (unscaled_of e r.value) r.multiplicity) ≡ l ++ unscaled_all e (r ∷ [])
  unfolding kept held unscaled_all
  unscaled_one l r h = go (is_finite_of (unscaled_of e r.value))
    where
      at : RealRoot
      at = root (unscaled_of e r.value) r.multiplicity

      go : (b : Bool) → cond b (cond (ltb (length l) 4) (l ++ at ∷ []) l) l ≡ l ++ cond b (at ∷ []) []
      go true = rw (lt-ltb (length l) 4 h)
      go false = sym (append-nil l)

  pub unscaled_turn : (s : Roots) (k : ℕ) → Fits s → k < s.len → (let r = get_or s.root k blank in
      kept_in (roots_of (unscaled_all e (take k (list_of s)))) (root (unscaled_of e r.value) r.multiplicity)
      ≡ roots_of (unscaled_all e (take (k + 1) (list_of s))))
  unscaled_turn s k f h =
      let n = length_list s f in
      let b = f.1 in
      let r = get_or s.root k blank in
      let l = take k (list_of s) in
      let m : length l ≡ k = length-take-le k (list_of s) (omega arith) in
      let u = unscaled_length l in
      let here : get_or (list_of s) k blank ≡ r = get_or-take s.len s.root k blank h in
      kept_roots (unscaled_all e l) (root (unscaled_of e r.value) r.multiplicity)
      ∙ ap roots_of
      (unscaled_one (unscaled_all e l) r (omega arith)
      ∙ sym (unscaled_append l (r ∷ []))
      ∙ ap (λ (x : RealRoot). unscaled_all e (l ++ x ∷ [])) (sym here)
      ∙ ap (unscaled_all e) (sym (take-suc (list_of s) k blank (omega arith)) ∙ ap (λ (j : ℕ). take j (list_of s)) (sym (add-one k))))

  pub unscaled_end : (s : Roots) (k : ℕ) → Fits s → s.len ≤ k → roots_of (unscaled_all e (take k (list_of s))) ≡ roots_of (unscaled_all e (list_of s))
  unscaled_end s k f h = let n = length_list s f in ap (λ (l : List RealRoot). roots_of (unscaled_all e l)) (take_all k (list_of s) (omega arith))
