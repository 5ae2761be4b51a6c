-- Every claim about inquiries. An inquiry that was fed n replies has what it began with and those replies, and so shows the place number n of the Rust, or its
-- list.
use mathlib.Core.Path.{◌≡◌, refl, sym, ap, ◌∙◌, subst, subst⁻¹}
use mathlib.Core.Bool.{Bool, true}
use mathlib.Core.List.{List, [], ◌∷◌, ◌++◌, map}
use Prim.Native.Nat.{ℕ, zero, suc, ◌+◌, ◌*◌, ◌-◌, ◌≤◌, ◌<◌}
use native.Mathlib.Numerals.{add-one}
use native.Mathlib.Omega.{arith}
use lib.ListN.{length, take, get_or, set, length-set, length-map}
use lib.Seq.{length-take-le, take-suc, take-suc-set, take-length}
use lib.Ieee.{Float, nan}
use Rattle.facts.specs.Cond.{if_taken}
use Rattle.facts.specs.Lists.{length_snoc}
use Rattle.roots.specs.declared.RealRoot.{RealRoot}
use Rattle.roots.specs.Roots.{list_of, pair_list_of}
use Rattle.roots.specs.Listed.{multiplicities, Within}
use Rattle.roots.proofs.Laws.{length_pair_list}
use Rattle.roots.proofs.Sums.{counted, length_counted}
use Rattle.angle.specs.declared.Sine.{Sine}
use Rattle.poly.specs.Coefficients.{degree_left}
use Rattle.refusals.specs.Refusals.{value_or}
use Rattle.poly.specs.declared.Solved.{Solved}
use Rattle.poly.specs.Solve.{solve_of, solved_in}
use Rattle.poly.proofs.Sums.{solved_shared, solved_fits}
use Rattle.asking.specs.Asking.{Asking, answered, places_asked, walked, asks}
use Rattle.asking.specs.Within.{EndsWithin, AtStage}
use Rattle.asking.proofs.Feeding.{question, finish}
use Rattle.asking.proofs.Within.{answered_within, places_within, walked_within}
use Rattle.touching.specs.Replies.{replies_of}
use Rattle.touching.proofs.Bound.{ListedIn, touching_within}
use Rattle.inquiry.specs.declared.Inquiry.{Inquiry}
use Rattle.inquiry.specs.declared.Seen.{Seen}
use Rattle.inquiry.specs.Inquiry.{sound_of, asking, shown, seen_at, unseen, asked_of, place_of, is_question, seen_of, with_reply, after}
use Rattle.inquiry.specs.Start.{real_roots_touching, fresh_by, start_of, inquiry_in, fed}
use Rattle.inquiry.specs.Claims.{Fed}
use Rattle.inquiry.proofs.Sound.{sound_is, sound_holds}
use Rattle.inquiry.proofs.Shown.{asked_seen}
use Rattle.inquiry.proofs.Questions.{reply_taken, reply_refused}
use Rattle.inquiry.proofs.Fresh.{solved_sound, solved_asks, start_is}

-- ---- an inquiry with some replies
-- p asks what t asks, has these replies, and is sound
pub record Has (t : Asking (List RealRoot)) (rs : List Bool) (p : Inquiry) : Type 0 where
  pub asks_it : asking p ≡ t
  pub has : replies_of p.replies ≡ rs
  pub array : length p.replies.reply ≡ 4
  pub count : p.replies.count ≡ length rs
  pub sound : sound_of p ≡ true

pub has_seen : (t : Asking (List RealRoot)) (p : Inquiry) (rs : List Bool) → Has t rs p → seen_of p ≡ seen_at (walked rs t)
unfolding seen_of
has_seen t p rs h =
    sym (if_taken (seen_at (walked (replies_of p.replies) (asking p))) unseen h.sound refl)
    ∙ ap (λ (u : Asking (List RealRoot)). seen_at (walked (replies_of p.replies) u)) h.asks_it
    ∙ ap (λ (l : List Bool). seen_at (walked l t)) h.has

pub has_asked : (t : Asking (List RealRoot)) (p : Inquiry) (rs : List Bool) → Has t rs p → asked_of p ≡ shown (walked rs t)
has_asked t p rs h = asked_seen p ∙ ap (λ (s : Seen). s.asked) (has_seen t p rs h)

pub has_more : (t : Asking (List RealRoot)) (p : Inquiry) (rs : List Bool) (r : Bool) → length rs < 4 → Has t rs p → Has t (rs ++ r ∷ []) (with_reply p r)
has_more t p rs r room h =
    let s = sound_is p h.sound in
    let n = h.count in
    record {
      asks_it = h.asks_it;
      has =
          ap (λ (k : ℕ). take k (set p.replies.reply p.replies.count r)) (add-one p.replies.count)
          ∙ take-suc-set p.replies.reply p.replies.count r (omega (arith, h.array, n, room))
          ∙ ap (λ (l : List Bool). l ++ r ∷ []) h.has;
      array = length-set p.replies.reply p.replies.count r ∙ h.array;
      count = ap (λ (k : ℕ). k + 1) n ∙ sym (length_snoc rs r);
      sound =
          sound_holds (with_reply p r) (record {
            degree = s.degree;
            replies = omega (arith, n, room);
            roots = s.roots;
            pairs = s.pairs;
            counted = s.counted;
            total = s.total;
          });
    }

has_reply : (t : Asking (List RealRoot)) (p : Inquiry) (rs : List Bool) (x : Float) (touches : Float → Bool) → length rs < 4 → Has t rs p → walked rs t ≡ asks x
    → Has t (rs ++ touches x ∷ []) (after p (touches (place_of (asked_of p))))
unfolding shown
has_reply t p rs x touches room h e =
    let s = has_asked t p rs h ∙ ap shown e in
    rw (ap place_of s, ← (reply_taken p (touches x) (ap is_question s))) (has_more t p rs (touches x) room h)

-- ---- the first replies of a function
pub map_take : (f : Float → Bool) (l : List Float) (n : ℕ) → n < length l → map f (take (suc n) l) ≡ map f (take n l) ++ f (get_or l n nan) ∷ []
map_take f l n h = ap (map f) (take-suc l n nan h) ∙ join (take n l) (get_or l n nan)
  where
    join : (l : List Float) (x : Float) → map f (l ++ x ∷ []) ≡ map f l ++ f x ∷ []
    join [] x = refl
    join (y ∷ l) x = ap (λ (t : List Bool). f y ∷ t) (join l x)

pub length_map_take : (f : Float → Bool) (l : List Float) (n : ℕ) → n ≤ length l → length (map f (take n l)) ≡ n
length_map_take f l n h = length-map (take n l) f ∙ length-take-le n l h

-- ---- feeding, where at most three questions are asked
module _ (touches : Float → Bool) (t : Asking (List RealRoot)) (q : Inquiry) (begin : Has t [] q) (few : length (places_asked touches t) ≤ 3) where
  abbrev xs : List Float
  xs = places_asked touches t

  has_fed : (n : ℕ) → n ≤ length xs → Has t (map touches (take n xs)) (fed touches n q)
  unfolding fed
  has_fed zero h = begin
  has_fed (suc n) h =
      let l = length_map_take touches xs n (omega arith) in
      rw (map_take touches xs n (omega arith))
      (has_reply t (fed touches n q) (map touches (take n xs)) (get_or xs n nan) touches (omega (arith, l, few, h)) (has_fed n (omega arith))
      (question touches t n (omega arith)))

  asks_at : (n : ℕ) → n < length xs → asked_of (fed touches n q) ≡ shown (asks (get_or xs n nan))
  asks_at n h = has_asked t (fed touches n q) (map touches (take n xs)) (has_fed n (omega arith)) ∙ ap shown (question touches t n h)

  ends_with : asked_of (fed touches (length xs) q) ≡ shown (walked (map touches xs) t)
  ends_with =
      has_asked t (fed touches (length xs) q) (map touches (take (length xs) xs)) (has_fed (length xs) (omega arith))
      ∙ ap (λ (l : List Float). shown (walked (map touches l) t)) (take-length xs)

-- ---- the bounds
module _ (sine : Sine) (coeffs : List Float) (tol : Float) where
  abbrev s : Solved
  s = solved_in (solve_of sine coeffs tol)

  abbrev most : ℕ
  most = (length (list_of s.roots) + 2 * length (pair_list_of s.pairs)) - 1

  abbrev total : ℕ
  total = multiplicities (list_of s.roots) + 2 * length (pair_list_of s.pairs)

  bounds : EndsWithin most (real_roots_touching sine coeffs tol) (λ m l. ListedIn total l)
  bounds =
      subst (λ (t : Asking (List RealRoot)). EndsWithin most t (λ m l. ListedIn total l)) (solved_asks sine coeffs tol)
      (touching_within s.poly s.tol (list_of s.roots) (pair_list_of s.pairs))

  -- at most R roots and P pairs, R + 2 P at most 4, and at most the degree
  sizes : (most ≤ 3) × (most ≤ degree_left coeffs - 1) × (total ≤ 4) × (total ≤ degree_left coeffs)
  sizes =
      let shared = solved_shared sine coeffs tol in
      let each = length_counted (list_of s.roots) (counted (list_of s.roots) shared.listed) in
      let pairs = length_pair_list s.pairs (solved_fits sine coeffs tol).1 in
      let four = (sound_is (fresh_by s) (solved_sound sine coeffs tol)).total in
      let degree = shared.sum in
      (omega (arith, each, pairs, four), omega (arith, each, degree), omega (arith, pairs, four), omega (arith, degree))

  pub solved_has : Has (real_roots_touching sine coeffs tol) [] (fresh_by s)
  solved_has = record { asks_it = solved_asks sine coeffs tol; has = refl; array = refl; count = refl; sound = solved_sound sine coeffs tol }

  pub start_has : Has (real_roots_touching sine coeffs tol) [] (inquiry_in (start_of sine coeffs tol))
  start_has = subst⁻¹ (Has (real_roots_touching sine coeffs tol) []) (start_is sine coeffs tol) solved_has

  -- replies that lead to a question are at most two
  pub start_room : (rs : List Bool) (x : Float) → walked rs (real_roots_touching sine coeffs tol) ≡ asks x → length rs < 3
  start_room rs x e =
      let t = real_roots_touching sine coeffs tol in
      let h = subst (AtStage (length rs < most) (ListedIn total)) e (walked_within (ListedIn total) rs most t bounds) in
      omega (arith, h, sizes.0)

-- ---- for a function
module _ (sine : Sine) (touches : Float → Bool) (coeffs : List Float) (tol : Float) where
  asked_most : length (places_asked touches (real_roots_touching sine coeffs tol)) ≤ most sine coeffs tol
  asked_most =
      places_within (λ m l. ListedIn (total sine coeffs tol) l) touches (most sine coeffs tol) (real_roots_touching sine coeffs tol) (bounds sine coeffs tol)

  pub start_few : length (places_asked touches (real_roots_touching sine coeffs tol)) ≤ 3
  start_few = omega (arith, asked_most, (sizes sine coeffs tol).0)

  pub start_fed : Fed sine touches (inquiry_in (start_of sine coeffs tol)) coeffs tol
  unfolding shown
  start_fed =
      let t = real_roots_touching sine coeffs tol in
      let q = inquiry_in (start_of sine coeffs tol) in
      let last = fed touches (length (places_asked touches t)) q in
      let end = ends_with touches t q (start_has sine coeffs tol) start_few ∙ ap shown (finish touches t) in
      record {
        question = asks_at touches t q (start_has sine coeffs tol) start_few;
        finished = end;
        over = λ r. let refused = sym (reply_refused last r (ap is_question end)) in (refused, ap (value_or last) refused);
      }

  pub start_list : Within (degree_left coeffs) (answered touches (real_roots_touching sine coeffs tol))
  start_list =
      let l = answered touches (real_roots_touching sine coeffs tol) in
      let h = answered_within (ListedIn (total sine coeffs tol)) touches (most sine coeffs tol) (real_roots_touching sine coeffs tol)
      (bounds sine coeffs tol) in
      let each = length_counted l (counted l h.0) in
      record { four = omega (arith, each, h.1, (sizes sine coeffs tol).2); listed = h.0; sum = omega (arith, h.1, (sizes sine coeffs tol).3) }

  -- at most degree - 1 questions
  pub start_most : length (places_asked touches (real_roots_touching sine coeffs tol)) ≤ degree_left coeffs - 1
  start_most = omega (arith, asked_most, (sizes sine coeffs tol).1)
