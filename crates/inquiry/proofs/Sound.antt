-- Which values are sound: what the test says of their sizes, and the laws of its loop.
use mathlib.Core.Path.{◌≡◌, refl, sym, ap, ◌∙◌, subst}
use mathlib.Core.Bool.{Bool, true, false, ◌&&◌}
use mathlib.Core.List.{List, [], ◌∷◌}
use Prim.Native.Nat.{ℕ, ◌+◌, ◌-◌, ◌*◌, ◌≤◌, ◌<◌}
use native.Mathlib.Omega.{arith}
use borrow.Author.Tests.{ltb-true, leb-true, lt-ltb, le-ltb, le-leb, lt-leb}
use lib.Dec.{ltb, leb}
use lib.ListN.{length, drop, get_or}
use Rattle.std.proofs.Common.{drop_of_length-le}
use Rattle.facts.specs.Lists.{drop_next}
use Rattle.facts.specs.Cond.{both_hold, first_holds, second_holds}
use Rattle.roots.specs.declared.RealRoot.{RealRoot}
use Rattle.roots.specs.Roots.{list_of}
use Rattle.roots.specs.Listed.{multiplicities, Counted, Fits}
use Rattle.roots.proofs.Laws.{length_list}
use Rattle.roots.proofs.Sums.{length_counted}
use Rattle.touching.specs.Walk.{Held}
use Rattle.inquiry.specs.declared.Inquiry.{Inquiry}
use Rattle.inquiry.specs.Inquiry.{counted_in, sizes_fit, sound_of}

-- ---- the loop over the roots
module _ (l : List RealRoot) (d : RealRoot) (k n : ℕ) where
  pub count_none : k < length l → (get_or l k d).multiplicity ≡ 0 → counted_in n (drop k l) ≡ false
  unfolding counted_in
  count_none h z = ap (counted_in n) (drop_next l k d h) ∙ simp (le-ltb 0 (get_or l k d).multiplicity (omega (arith, z)))

  pub count_over : k < length l → n < (get_or l k d).multiplicity → counted_in n (drop k l) ≡ false
  unfolding counted_in
  count_over h t =
      ap (counted_in n) (drop_next l k d h)
      ∙ simp (lt-ltb 0 (get_or l k d).multiplicity (omega (arith, t)), lt-leb (get_or l k d).multiplicity n t)

  pub count_go : k < length l → ((get_or l k d).multiplicity ≡ 0 → ⊥) → (get_or l k d).multiplicity ≤ n
      → counted_in n (drop k l) ≡ counted_in (n - (get_or l k d).multiplicity) (drop (k + 1) l)
  unfolding counted_in
  count_go h p t =
      ap (counted_in n) (drop_next l k d h)
      ∙ simp (lt-ltb 0 (get_or l k d).multiplicity (omega (arith, p)), le-leb (get_or l k d).multiplicity n t)

  pub count_end : length l ≤ k → counted_in n (drop k l) ≡ true
  unfolding counted_in
  count_end h = ap (counted_in n) (drop_of_length-le l {i = k} h)

-- `counted_in`, by what is left of the roots and of the sum
pub ruleset counts = (count_none, count_over, count_go, count_end)

-- ---- what the tests say
counted_is : (n : ℕ) (l : List RealRoot) → counted_in n l ≡ true → Counted l × (multiplicities l ≤ n)
unfolding counted_in
counted_is n [] e = (tt, omega arith)
counted_is n (r ∷ l) e =
    let m = r.multiplicity in
    let rest = second_holds (ltb 0 m) (leb m n && counted_in (n - m) l) e in
    let some = ltb-true 0 m (first_holds (ltb 0 m) (leb m n && counted_in (n - m) l) e) in
    let most = leb-true m n (first_holds (leb m n) (counted_in (n - m) l) rest) in
    let i = counted_is (n - m) l (second_holds (leb m n) (counted_in (n - m) l) rest) in
    let less = i.1 in
    ((some, i.0), omega arith)

counted_holds : (n : ℕ) (l : List RealRoot) → Counted l → multiplicities l ≤ n → counted_in n l ≡ true
unfolding counted_in
counted_holds n [] c h = refl
counted_holds n (r ∷ l) c h =
    let m = r.multiplicity in
    both_hold (ltb 0 m) (leb m n && counted_in (n - m) l) (lt-ltb 0 m c.0)
    (both_hold (leb m n) (counted_in (n - m) l) (le-leb m n (omega arith)) (counted_holds (n - m) l c.1 (omega arith)))

pub record Sound (q : Inquiry) : Type 0 where
  pub degree : q.poly.d ≤ 4
  pub replies : q.replies.count ≤ 4
  pub roots : q.roots.len ≤ 4
  pub pairs : q.pairs.len ≤ 2
  pub counted : Counted (list_of q.roots)
  pub total : multiplicities (list_of q.roots) + 2 * q.pairs.len ≤ 4

pub sound_is : (q : Inquiry) → sound_of q ≡ true → Sound q
unfolding sound_of
sound_is q e =
    let d = q.poly.d in
    let rs = q.replies.count in
    let n = q.roots.len in
    let ps = q.pairs.len in
    let l = list_of q.roots in
    let sizes = first_holds (sizes_fit d rs n ps) (counted_in (4 - 2 * ps) l) e in
    let s2 = second_holds (leb d 4) (leb rs 4 && (leb n 4 && leb ps 2)) sizes in
    let s3 = second_holds (leb rs 4) (leb n 4 && leb ps 2) s2 in
    let two = leb-true ps 2 (second_holds (leb n 4) (leb ps 2) s3) in
    let c = counted_is (4 - 2 * ps) l (second_holds (sizes_fit d rs n ps) (counted_in (4 - 2 * ps) l) e) in
    let less = c.1 in
    record {
      degree = leb-true d 4 (first_holds (leb d 4) (leb rs 4 && (leb n 4 && leb ps 2)) sizes);
      replies = leb-true rs 4 (first_holds (leb rs 4) (leb n 4 && leb ps 2) s2);
      roots = leb-true n 4 (first_holds (leb n 4) (leb ps 2) s3);
      pairs = two;
      counted = c.0;
      total = omega arith;
    }

pub sound_holds : (q : Inquiry) → Sound q → sound_of q ≡ true
unfolding sound_of
sound_holds q s =
    let total = s.total in
    both_hold (sizes_fit q.poly.d q.replies.count q.roots.len q.pairs.len) (counted_in (4 - 2 * q.pairs.len) (list_of q.roots))
    (simp (le-leb _ _ s.degree, le-leb _ _ s.replies, le-leb _ _ s.roots, le-leb _ _ s.pairs))
    (counted_holds (4 - 2 * q.pairs.len) (list_of q.roots) s.counted (omega arith))

-- the two tests, one after the other
pub sound_by : (q : Inquiry) {b : Bool} (c : Bool) → b ≡ sizes_fit q.poly.d q.replies.count q.roots.len q.pairs.len → b ≡ true
    → c ≡ counted_in (4 - 2 * q.pairs.len) (list_of q.roots) → c ≡ sound_of q
unfolding sound_of
sound_by q c e t h = h ∙ rw (sym e, t)

-- a sound inquiry's arrays have the lengths of their types: so they hold their counts, and there is a place for each root and each pair
pub sound_held : (q : Inquiry) → sound_of q ≡ true → length q.roots.root ≡ 4 → length q.pairs.pair ≡ 2 → Held q.roots q.pairs
sound_held q e m n =
    let s = sound_is q e in
    let fits : Fits q.roots = (m, s.roots) in
    let each : q.roots.len ≤ multiplicities (list_of q.roots) = subst (λ (k : ℕ). k ≤ multiplicities (list_of q.roots))
    (length_list q.roots fits) (length_counted (list_of q.roots) s.counted) in
    (fits, (n, s.pairs), omega (arith, each, s.total), s.total)
