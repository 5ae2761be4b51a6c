-- What a person counts in a listing is its total.
use mathlib.Core.Path.{◌≡◌, refl, sym, ap, subst, ◌∙◌}
use mathlib.Core.Bool.{Bool, true, false, cond, ◌||◌}
use mathlib.Core.List.{List, [], ◌∷◌, ◌++◌, append_assoc}
use Prim.Native.Nat.{ℕ, zero, suc, ◌+◌, ◌-◌, ◌<◌, ◌≤◌}
use native.Mathlib.Omega.{arith}
use lib.Dec.{ltb}
use lib.ListN.{length, get_or, drop, length-append}
use Rattle.facts.specs.Lists.{AllOf, all_at}
use Rattle.text.specs.Digits.{decimal}
use Rattle.angle.specs.declared.Sine.{Sine}
use Rattle.refusals.specs.declared.Refusal.TheVariants.{FileTooLong}
use Rattle.roots.specs.Roots.{no_roots}
use Rattle.records.specs.declared.Kind.TheVariants.{Unknown}
use Rattle.records.specs.declared.Record.{Record}
use Rattle.records.specs.Records.{ended_of, record_at}
use Rattle.listing.specs.declared.total.Total.{Total}
use Rattle.listing.specs.Lines.{line_of, total_text}
use Rattle.listing.specs.Totals.{no_total, line_total, plus, record_total, total_from, total_of}
use Rattle.listing.specs.File.{lines_from, record_lines, listing}
use Rattle.listing.proofs.Totals.{same_total, total_fits}
use Rattle.demands.specs.Example.{ascii}
use Rattle.demands.specs.ByHand.{cut_at, lines, words, word, before_last, same, like_list, like_crank, root_words, roots_said, multiplicities_said}
use Rattle.demands.specs.ByHand.{line_roots, line_multiplicities, roots_on, multiplicities_on, closing_line}
use Rattle.demands.proofs.Parted.{part_then, above_append}
use Rattle.demands.specs.Demands.{record_line}
use Rattle.demands.proofs.Said.{line_told, line_parted, digits_plain}

-- ---- the lines of all records
-- these lines have this total, and none of them is one
record Tells (ls : List (List ℕ)) (t : Total) : Type 0 where
  count : length ls ≡ t.records
  roots : roots_on ls ≡ t.roots
  sum : multiplicities_on ls ≡ t.multiplicities
  not_a_total : AllOf (λ (l : List ℕ). same (word 0 l) (ascii "T") ≡ false) ls

tells_none : Tells [] no_total
tells_none = record { count = refl; roots = refl; sum = refl; not_a_total = tt }

tells_line : (sine : Sine) (n : ℕ) (s : List ℕ) (at : ℕ) (found : Record) (ls : List (List ℕ)) (t : Total) → Tells ls t
    → Tells (record_line sine n s at found ∷ ls) (plus (record_total sine s at found) t)
unfolding record_total
tells_line sine n s at found ls t h =
    let told = line_told sine n s at found in record {
      count = omega (arith, h.count);
      roots = omega (arith, told.roots_are, h.roots);
      sum = omega (arith, told.sum_is, h.sum);
      not_a_total = (told.not_a_total, h.not_a_total);
    }

unfoldable pub bodies : Sine → ℕ → List ℕ → ℕ → ℕ → List (List ℕ)
bodies sine zero s at n = []
bodies sine (suc f) s at n =
    let found = record_at s at in
    cond (ltb at (length s)) (record_line sine n s at found ∷ bodies sine f s found.next (n + 1)) []

bodies_parted : (sine : Sine) (f : ℕ) (s : List ℕ) (at n : ℕ) (t : List ℕ) → lines (lines_from sine f s at n ++ t) ≡ bodies sine f s at n ++ lines t
unfolding lines_from bodies
bodies_parted sine zero s at n t = refl
bodies_parted sine (suc f) s at n t = go (ltb at (length s)) (bodies_parted sine f s (record_at s at).next (n + 1) t)
  where
    found : Record
    found = record_at s at

    more : List ℕ
    more = lines_from sine f s found.next (n + 1)

    go : (b : Bool) → lines (more ++ t) ≡ bodies sine f s found.next (n + 1) ++ lines t
        → lines (cond b (line_of sine n s at found ++ more) [] ++ t) ≡ cond b (record_line sine n s at found ∷ bodies sine f s found.next (n + 1)) [] ++ lines t
    go true e =
        ap lines (append_assoc (line_of sine n s at found) more t) ∙ line_parted sine n s at found (more ++ t)
        ∙ ap (λ (ls : List (List ℕ)). record_line sine n s at found ∷ ls) e
    go false e = refl

bodies_tell : (sine : Sine) (f : ℕ) (s : List ℕ) (at n : ℕ) → Tells (bodies sine f s at n) (total_from sine f s at)
unfolding bodies total_from
bodies_tell sine zero s at n = tells_none
bodies_tell sine (suc f) s at n = go (ltb at (length s)) (bodies_tell sine f s (record_at s at).next (n + 1))
  where
    found : Record
    found = record_at s at

    go : (b : Bool) → Tells (bodies sine f s found.next (n + 1)) (total_from sine f s found.next)
        → Tells (cond b (record_line sine n s at found ∷ bodies sine f s found.next (n + 1)) [])
        (cond b (plus (record_total sine s at found) (total_from sine f s found.next)) no_total)
    go true h = tells_line sine n s at found (bodies sine f s found.next (n + 1)) (total_from sine f s found.next) h
    go false h = tells_none

-- ---- a listing
not_ok : same (ascii "refused") (ascii "ok") ≡ false
unfolding same ascii
not_ok = refl

refused_words : (ws : List (List ℕ)) → get_or ws 2 [] ≡ ascii "refused" → root_words ws ≡ []
unfolding root_words
refused_words [] e = refl
refused_words (v ∷ []) e = refl
refused_words (v ∷ w ∷ []) e = refl
refused_words (v ∷ w ∷ a ∷ rest) e = simp (ap (λ (x : List ℕ). same x (ascii "ok")) e ∙ not_ok)

last_left : (ls : List (List ℕ)) (l : List ℕ) → before_last (ls ++ (l ∷ [])) ≡ ls
unfolding before_last
last_left [] l = refl
last_left (k ∷ []) l = refl
last_left (k ∷ m ∷ ls) l = ap (λ (r : List (List ℕ)). k ∷ r) (last_left (m ∷ ls) l)

at_seam : (t : List ℕ) (d : ℕ) → get_or (t ++ (d ∷ [])) (length t) 0 ≡ d
at_seam [] d = refl
at_seam (x ∷ t) d = at_seam t d

last_is : (t : List ℕ) (d : ℕ) → get_or (t ++ (d ∷ [])) (length (t ++ (d ∷ [])) - 1) 0 ≡ d
last_is t d =
    let before : length (t ++ (d ∷ [])) - 1 ≡ length t = omega (arith, length-append t (d ∷ [])) in
    ap (λ (k : ℕ). get_or (t ++ (d ∷ [])) k 0) before ∙ at_seam t d

abbrev closing_of : Total → List ℕ
closing_of t = closing_line t.records t.roots t.multiplicities

closing_ended : (t : Total) → total_text t ≡ closing_of t ++ (10 ∷ [])
unfolding total_text closing_line ascii
closing_ended t =
    let a = decimal t.records in
    let b = decimal t.roots in
    let c = decimal t.multiplicities in
    sym (ap (λ (u : List ℕ). 84 ∷ 32 ∷ u)
    (append_assoc a (32 ∷ b ++ (32 ∷ c)) (10 ∷ [])
    ∙ ap (λ (u : List ℕ). a ++ (32 ∷ u)) (append_assoc b (32 ∷ c) (10 ∷ []))))

closing_parted : (t : Total) → lines (total_text t) ≡ closing_of t ∷ []
unfolding closing_line ascii cut_at
closing_parted t =
    let a = decimal t.records in
    let b = decimal t.roots in
    let c = decimal t.multiplicities in
    ap lines (closing_ended t)
    ∙ part_then 10 (closing_of t) [] (
      omega arith,
      (
        omega arith,
        above_append 10 a (32 ∷ b ++ (32 ∷ c)) (digits_plain t.records)
            (omega arith, above_append 10 b (32 ∷ c) (digits_plain t.roots) (omega arith, digits_plain t.multiplicities)),
      ),
    )

module _ (sine : Sine) (s : List ℕ) where
  abbrev too_long : Record
  too_long = ended_of Unknown FileTooLong s

  unfoldable pub record_bodies : List (List ℕ)
  record_bodies = cond (ltb 65536 (length s)) (record_line sine 0 s 0 too_long ∷ []) (bodies sine (length s) s 0 1)

  all_parted : (t : List ℕ) → lines (record_lines sine s ++ t) ≡ record_bodies ++ lines t
  unfolding record_lines record_bodies
  all_parted t = go (ltb 65536 (length s))
    where
      go : (b : Bool) → lines (cond b (line_of sine 0 s 0 too_long) (lines_from sine (length s) s 0 1) ++ t)
          ≡ cond b (record_line sine 0 s 0 too_long ∷ []) (bodies sine (length s) s 0 1) ++ lines t
      go true = line_parted sine 0 s 0 too_long t
      go false = bodies_parted sine (length s) s 0 1 t

  all_tell : Tells record_bodies (total_of sine s)
  unfolding record_bodies total_of record_total
  all_tell = go (ltb 65536 (length s))
    where
      go : (b : Bool) → Tells (cond b (record_line sine 0 s 0 too_long ∷ []) (bodies sine (length s) s 0 1))
          (cond b (line_total no_roots) (total_from sine (length s) s 0))
      go true = tells_line sine 0 s 0 too_long [] no_total tells_none
      go false = bodies_tell sine (length s) s 0 1

  listing_parted : lines (listing sine s) ≡ record_bodies ++ (closing_of (total_of sine s) ∷ [])
  unfolding listing
  listing_parted = all_parted (total_text (total_of sine s)) ∙ ap (λ (ls : List (List ℕ)). record_bodies ++ ls) (closing_parted (total_of sine s))

  abbrev before : List (List ℕ)
  before = before_last (lines (listing sine s))

  pub before_is : before ≡ record_bodies
  before_is = ap before_last listing_parted ∙ last_left record_bodies (closing_of (total_of sine s))

  before_tells : Tells before (total_of sine s)
  before_tells = subst (λ (ls : List (List ℕ)). Tells ls (total_of sine s)) (sym before_is) all_tell

  pub agrees : total_of sine s ≡ record { records = length before; roots = roots_on before; multiplicities = multiplicities_on before }
  agrees = let h = before_tells in same_total (sym h.count) (sym h.roots) (sym h.sum)

  pub last_line : lines (listing sine s) ≡ before ++ (closing_line (length before) (roots_on before) (multiplicities_on before) ∷ [])
  last_line =
      listing_parted ∙ ap (λ (ls : List (List ℕ)). ls ++ (closing_of (total_of sine s) ∷ [])) (sym before_is)
      ∙ ap (λ (t : Total). before ++ (closing_of t ∷ [])) agrees

  pub no_other : (k : ℕ) → k < length before → same (word 0 (get_or before k [])) (ascii "T") ≡ false
  no_other k h =
      all_at (λ (l : List ℕ). same (word 0 l) (ascii "T") ≡ false) before [] k (λ out. absurd (omega (arith, h, out))) before_tells.not_a_total

  pub fit : (length before ≤ 65536) × (roots_on before ≤ 65536) × (multiplicities_on before ≤ 65536)
  fit =
      let h = before_tells in
      let most = total_fits sine s in
      (omega (arith, h.count, most.records), omega (arith, h.roots, most.roots), omega (arith, h.sum, most.multiplicities))

  pub ends : get_or (listing sine s) (length (listing sine s) - 1) 0 ≡ 10
  unfolding listing
  ends =
      let line = closing_of (total_of sine s) in
      ap (λ (t : List ℕ). get_or t (length t - 1) 0)
      (ap (λ (t : List ℕ). record_lines sine s ++ t) (closing_ended (total_of sine s)) ∙ sym (append_assoc (record_lines sine s) line (10 ∷ [])))
      ∙ last_is (record_lines sine s ++ line) 10

-- a refused line says no root
pub refused_says : (line : List ℕ) → word 2 line ≡ ascii "refused" → (line_roots line ≡ 0) × (line_multiplicities line ≡ 0)
unfolding roots_said multiplicities_said
refused_says line e = let none = refused_words (words line) e in (ap roots_said none, ap multiplicities_said none)

-- a record's line says what its answer adds
module _ (sine : Sine) (n : ℕ) (s : List ℕ) (at : ℕ) (found : Record) where
  pub each : let line = record_line sine n s at found in let t = record_total sine s at found in
      (t.records ≡ 1) × (line_roots line ≡ t.roots) × (line_multiplicities line ≡ t.multiplicities)
  unfolding record_total
  each = let told = line_told sine n s at found in (refl, told.roots_are, told.sum_is)

  pub alone : word 2 (record_line sine n s at found) ≡ ascii "refused" → record_total sine s at found ≡ record { records = 1; roots = 0; multiplicities = 0 }
  alone e = let none = refused_says (record_line sine n s at found) e in same_total each.0 (sym each.1 ∙ none.0) (sym each.2 ∙ none.1)

-- a line that says a root has one of the four marks
pub marked_so : (line : List ℕ) → 0 < line_roots line → let mark = word 1 line in (like_list mark || like_crank mark) ≡ true
unfolding root_words roots_said
marked_so line h = go (words line) h
  where
    pick : (o l c : Bool) (m n : List (List ℕ)) → 0 < roots_said (cond o (cond c m (cond l n [])) []) → (l || c) ≡ true
    pick o true c m n h = refl
    pick o false true m n h = refl
    pick true false false m n h = absurd (omega (arith, h))
    pick false false false m n h = absurd (omega (arith, h))

    go : (ws : List (List ℕ)) → 0 < roots_said (root_words ws) → let mark = get_or ws 1 [] in (like_list mark || like_crank mark) ≡ true
    go [] h = absurd (omega (arith, h))
    go (v ∷ []) h = absurd (omega (arith, h))
    go (v ∷ w ∷ []) h = absurd (omega (arith, h))
    go (v ∷ w ∷ a ∷ rest) h = pick (same a (ascii "ok")) (like_list w) (like_crank w) (drop 2 rest) (drop 1 rest) h
