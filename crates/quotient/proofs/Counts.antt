-- The counts where factors are merged: the sum of both, and no push meets a full array, since the degrees add to 4 at most.
use mathlib.Core.Path.{◌≡◌, refl, ◌∙◌, subst}
use Prim.Native.Nat.{ℕ, zero, suc, ◌+◌, ◌-◌, ◌≤◌, ◌<◌}
use native.Mathlib.Omega.{arith}
use lib.IntN.{ℤ}
use Rattle.facts.specs.Count.{count_up}
use Rattle.factors.specs.declared.Factors.{Factors}
use Rattle.factors.specs.Factors.{degree_of}
use Rattle.factors.proofs.Counts.{Counted, lin_counted, quad_counted}
use Rattle.quotient.specs.Quotient.{back_lin, back_quad, merged_of}

-- ---- k factors, of the n in all, are left
module _ (inner : Factors) (e : ℤ) (n : ℕ) where
  pub lins_counted : (k : ℕ) (m : Factors) (a b : ℕ) → Counted m a b → a + k ≤ 4 → Counted (count_up n (back_lin inner e) k m) (a + k) b
  unfolding count_up
  lins_counted zero m a b C h = record { nlin = C.nlin ∙ omega arith; nquad = C.nquad }
  lins_counted (suc k) m a b C h =
      subst (λ (j : ℕ). Counted (count_up n (back_lin inner e) k (back_lin inner e (n - suc k) m)) j b) (let q : a + 1 + k ≡ a + suc k = omega arith in q)
      (lins_counted k (back_lin inner e (n - suc k) m) (a + 1) b (lin_counted m _ a b C (omega arith)) (omega arith))

  pub quads_counted : (k : ℕ) (m : Factors) (a b : ℕ) → Counted m a b → b + k ≤ 2 → Counted (count_up n (back_quad inner e) k m) a (b + k)
  unfolding count_up
  quads_counted zero m a b C h = record { nlin = C.nlin; nquad = C.nquad ∙ omega arith }
  quads_counted (suc k) m a b C h =
      subst (λ (j : ℕ). Counted (count_up n (back_quad inner e) k (back_quad inner e (n - suc k) m)) a j) (let q : b + 1 + k ≡ b + suc k = omega arith in q)
      (quads_counted k (back_quad inner e (n - suc k) m) a (b + 1) (quad_counted m _ _ a b C (omega arith)) (omega arith))

-- the degrees add, where they add to 4 at most
module _ (large inner : Factors) (e : ℤ) (R : degree_of large + degree_of inner ≤ 4) where
  abbrev lins : Factors
  lins = count_up inner.nlin (back_lin inner e) inner.nlin large

  lins_in : Counted lins (large.nlin + inner.nlin) large.nquad
  lins_in = lins_counted inner e inner.nlin inner.nlin large large.nlin large.nquad (record { nlin = refl; nquad = refl }) (omega arith)

  merged_counted : Counted (merged_of large inner e) (large.nlin + inner.nlin) (large.nquad + inner.nquad)
  unfolding merged_of
  merged_counted = quads_counted inner e inner.nquad inner.nquad lins (large.nlin + inner.nlin) large.nquad lins_in (omega arith)

  pub merged_degree : degree_of (merged_of large inner e) ≡ degree_of large + degree_of inner
  merged_degree = omega (arith, merged_counted.nlin, merged_counted.nquad)

-- ---- room: i linear factors are in, or all of them and i quadratic ones
module _ (large inner : Factors) (e : ℤ) (R : degree_of large + degree_of inner ≤ 4) where
  abbrev start : Counted large large.nlin large.nquad
  start = record { nlin = refl; nquad = refl }

  pub lins_room : (i : ℕ) → i < inner.nlin → (count_up i (back_lin inner e) i large).nlin < 4
  lins_room i h = omega (arith, (lins_counted inner e i i large large.nlin large.nquad start (omega arith)).nlin)

  pub quads_room : (i : ℕ) → i < inner.nquad → (count_up i (back_quad inner e) i (count_up inner.nlin (back_lin inner e) inner.nlin large)).nquad < 2
  quads_room i h =
      let C = lins_counted inner e inner.nlin inner.nlin large large.nlin large.nquad start (omega arith) in
      omega (
        arith,
        (quads_counted inner e i i (count_up inner.nlin (back_lin inner e) inner.nlin large) (large.nlin + inner.nlin)
            large.nquad C (omega arith)).nquad,
      )
