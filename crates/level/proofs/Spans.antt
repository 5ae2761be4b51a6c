-- What was seen so far, by any bounds of it: of the first and the last coefficient, of one more, and of all.
use mathlib.Core.Path.{◌≡◌, subst}
use mathlib.Core.List.{List}
use mathlib.Core.Logic.{⊎_elim}
use Prim.Native.Nat.{ℕ, suc, ◌+◌, ◌*◌, ◌≤◌}
use native.Mathlib.Omega.{arith}
use lib.ListN.{get_or}
use lib.Ieee.{Float, nan}
use Rattle.algebra.specs.NatOrder.{le_or_lt}
use Rattle.level.specs.Level.{Binade, Raised, SpanSeen}

module _ {a : List Float} {d s : ℕ} where
  pub seen_start : (k k' lo : ℕ) → Binade (get_or a 0 nan) k → Binade (get_or a d nan) k'
      → lo ≤ k + 8400 → lo + 2100 * d ≤ k' + s * d + 8400
      → SpanSeen a d s lo 0 1
  seen_start k k' lo A B h l = record {
    last = record { k = k'; binade = B; low = l; high = λ x y. omega arith };
    before =
        λ j m. let z : 0 ≡ j = omega arith in subst (λ (i : ℕ). Raised a d s lo 0 i) z
        (record { k = k; binade = A; low = omega arith; high = λ x y. omega arith });
  }

  pub seen_more : {lo hi i : ℕ} (k lo' hi' : ℕ) → SpanSeen a d s lo hi i
      → Binade (get_or a i nan) k → lo' ≤ lo
      → lo' + 2100 * i ≤ k + s * i + 8400 → hi ≤ hi' → k + s * i + 8400 ≤ hi' + 2100 * i
      → SpanSeen a d s lo' hi' (i + 1)
  seen_more {lo} {hi} {i} k lo' hi' S B l m h n = record {
    last = wider S.last;
    before =
        λ j u. ⊎_elim (λ v. wider (S.before j v)) (λ v. let z : i
        ≡ j = omega arith in subst (λ (x : ℕ). Raised a d s lo' hi' x) z (record { k = k; binade = B; low = m; high = λ x y. n })) (le_or_lt (suc j) i);
  }
    where
      wider : {j : ℕ} → Raised a d s lo hi j → Raised a d s lo' hi' j
      wider r = record { k = r.k; binade = r.binade; low = omega (arith, r.low); high = λ x y. let z = r.high x y in omega arith }

  pub seen_all : {lo hi i : ℕ} → SpanSeen a d s lo hi i → d ≤ i → hi ≤ lo + 3 → (j : ℕ) → j ≤ d
      → Raised a d s lo (lo + 3) j
  seen_all {lo} {hi} {i} S l h j m =
      ⊎_elim (λ v. wider (S.before j (omega arith))) (λ v. let z : d
      ≡ j = omega arith in subst (λ (x : ℕ). Raised a d s lo (lo + 3) x) z (wider S.last)) (le_or_lt (suc j) d)
    where
      wider : {j : ℕ} → Raised a d s lo hi j → Raised a d s lo (lo + 3) j
      wider r = record { k = r.k; binade = r.binade; low = r.low; high = λ x y. let z = r.high x y in omega arith }
