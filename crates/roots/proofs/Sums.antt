-- What a push adds to a list of roots: at most its multiplicity; and the list stays one of at most four finite places that count.
use mathlib.Core.Path.{◌≡◌, refl}
use mathlib.Core.Bool.{Bool, true, false, cond, ◌&&◌}
use mathlib.Core.List.{List, [], ◌∷◌, ◌++◌}
use Prim.Native.Nat.{ℕ, ◌+◌, ◌≤◌}
use native.Mathlib.Omega.{arith}
use borrow.Author.Tests.{ltb-true}
use lib.Dec.{ltb}
use lib.ListN.{length}
use Rattle.facts.specs.Cond.{either_way}
use Rattle.facts.specs.Lists.{AllOf, length_snoc, sum_snoc, all_snoc}
use Rattle.float.specs.Methods.{is_finite_of}
use Rattle.roots.specs.declared.RealRoot.{RealRoot}
use Rattle.roots.specs.declared.Pair.{Pair}
use Rattle.roots.specs.Roots.{held, kept, paired}
use Rattle.roots.specs.Listed.{multiplicities, Counted, Listed, Within, Shared}

-- ---- counts
pub counted : (l : List RealRoot) → Listed l → Counted l
counted [] h = tt
counted (r ∷ l) h = (h.0.1, counted l h.1)

pub length_counted : (l : List RealRoot) → Counted l → length l ≤ multiplicities l
length_counted [] h = omega arith
length_counted (r ∷ l) h = let i = length_counted l h.1 in let p = h.0 in omega arith

pub sum_held : (l : List RealRoot) (r : RealRoot) → multiplicities (held l r) ≤ multiplicities l + r.multiplicity
unfolding held
sum_held l r = go (ltb (length l) 4)
  where
    go : (b : Bool) → multiplicities (cond b (l ++ r ∷ []) l) ≤ multiplicities l + r.multiplicity
    go true = let e = sum_snoc (λ (x : RealRoot). x.multiplicity) l r in omega arith
    go false = omega arith

pub length_held : (l : List RealRoot) (r : RealRoot) → length l ≤ 4 → length (held l r) ≤ 4
unfolding held
length_held l r h = go (ltb (length l) 4) refl
  where
    go : (b : Bool) → ltb (length l) 4 ≡ b → length (cond b (l ++ r ∷ []) l) ≤ 4
    go true t = let e = length_snoc l r in let lo = ltb-true (length l) 4 t in omega arith
    go false t = h

pub length_kept : (l : List RealRoot) (r : RealRoot) → length l ≤ 4 → length (kept l r) ≤ 4
unfolding kept
length_kept l r h = either_way (λ (m : List RealRoot). length m ≤ 4) (is_finite_of r.value) (length_held l r h) h

pub all_held : (P : RealRoot → Type 0) (l : List RealRoot) (r : RealRoot) → AllOf P l → P r → AllOf P (held l r)
unfolding held
all_held P l r h p = either_way (AllOf P) (ltb (length l) 4) (all_snoc P l r h p) h

-- ---- what demand 1 is made of
pub within_none : Within 0 []
within_none = record { four = omega arith; listed = tt; sum = omega arith }

pub within_more : (d e : ℕ) (l : List RealRoot) → d ≤ e → Within d l → Within e l
within_more d e l h a = let s = a.sum in record { four = a.four; listed = a.listed; sum = omega arith }

pub within_kept : (d : ℕ) (l : List RealRoot) (r : RealRoot) → Within d l → 1 ≤ r.multiplicity → Within (d + r.multiplicity) (kept l r)
unfolding kept
within_kept d l r a p = go (is_finite_of r.value) refl
  where
    go : (b : Bool) → is_finite_of r.value ≡ b → Within (d + r.multiplicity) (cond b (held l r) l)
    go true e =
        let s = a.sum in
        let k = sum_held l r in
        record { four = length_held l r a.four; listed = all_held _ l r a.listed (e, p); sum = omega arith }
    go false e = within_more d (d + r.multiplicity) l (omega arith) a

pub shared_none : (d : ℕ) (l : List RealRoot) → Within d l → Shared d l []
shared_none d l a = let s = a.sum in record { four = a.four; listed = a.listed; two = omega arith; sum = omega arith }

pub shared_more : (d e : ℕ) (l : List RealRoot) (ps : List Pair) → d ≤ e → Shared d l ps → Shared e l ps
shared_more d e l ps h a = let s = a.sum in record { four = a.four; listed = a.listed; two = a.two; sum = omega arith }

pub shared_kept : (d : ℕ) (l : List RealRoot) (ps : List Pair) (r : RealRoot) → Shared d l ps → 1 ≤ r.multiplicity → Shared (d + r.multiplicity) (kept l r) ps
shared_kept d l ps r a p =
    let w = within_kept (multiplicities l) l r (record { four = a.four; listed = a.listed; sum = omega arith }) p in
    let s = a.sum in
    let t = w.sum in
    record { four = w.four; listed = w.listed; two = a.two; sum = omega arith }

pub shared_paired : (d : ℕ) (l : List RealRoot) (ps : List Pair) (p : Pair) → Shared d l ps → Shared (d + 2) l (paired ps p)
unfolding paired
shared_paired d l ps p a = go (is_finite_of p.centre) (ltb (length ps) 2) refl
  where
    more : Shared (d + 2) l ps
    more = shared_more d (d + 2) l ps (omega arith) a

    go : (f b : Bool) → ltb (length ps) 2 ≡ b → Shared (d + 2) l (cond (f && b) (ps ++ p ∷ []) ps)
    go true true t =
        let e = length_snoc ps p in
        let h = ltb-true (length ps) 2 t in
        let s = a.sum in
        record { four = a.four; listed = a.listed; two = omega arith; sum = omega arith }
    go true false t = more
    go false b t = more
