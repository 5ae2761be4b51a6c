-- An inquiry that is asked, and replied to by a yes-or-no function, until it asks no more: it is asked at most three times, and then shows the function's list.
use mathlib.Core.Path.{◌≡◌, refl, sym, ap, ◌∙◌, subst⁻¹}
use mathlib.Core.Logic.{⊎_elim}
use mathlib.Core.Bool.{Bool, true, false, true≢false}
use mathlib.Core.List.{List, [], ◌∷◌, ◌++◌, map}
use Prim.Native.Nat.{ℕ, ◌≤◌, ◌<◌}
use native.Mathlib.Nat.{eq-or-lt_of_le}
use native.Mathlib.Numerals.{add-one}
use native.Mathlib.Omega.{arith}
use lib.Dec.{eqb}
use lib.ListN.{length, take, get_or}
use lib.Seq.{take-length}
use lib.Ieee.{Float, nan}
use Rattle.std.specs.Prelude.{Result, Ok, Err}
use Rattle.refusals.specs.declared.Refusal.{Refusal}
use Rattle.refusals.specs.Refusals.{outcome_of, and_then}
use Rattle.float.specs.Literals.{zero64}
use Rattle.float.specs.Methods.{max_of}
use Rattle.roots.specs.declared.RealRoot.{RealRoot}
use Rattle.roots.specs.Roots.{list_of, pair_list_of, roots_of}
use Rattle.angle.specs.declared.Sine.{Sine}
use Rattle.poly.specs.declared.Solved.{Solved}
use Rattle.poly.specs.Coefficients.{zeros_of, counted_of, refusal_of, poly_of}
use Rattle.poly.specs.Solve.{finished_of, solve_of, solved_in}
use Rattle.poly.specs.Brief.{relogged, ButLogs}
use Rattle.poly.proofs.Refusals.{solved_number}
use Rattle.asking.specs.Asking.{Asking, done, answered, places_asked, walked}
use Rattle.asking.proofs.Feeding.{question, finish}
use Rattle.touching.proofs.Logs.{same_touching}
use Rattle.inquiry.specs.declared.Inquiry.{Inquiry}
use Rattle.inquiry.specs.declared.Asked.{Asked}
use Rattle.inquiry.specs.declared.Asked.TheVariants.{Question, Finished}
use Rattle.inquiry.specs.Inquiry.{sound_of, shown, asked_of, place_of, list_in, is_question, with_reply}
use Rattle.inquiry.specs.Start.{touching_by, real_roots_touching, fresh_by}
use Rattle.inquiry.proofs.Theorem.{Has, has_asked, has_more, map_take, length_map_take, solved_has}

-- ---- the start, solved without logarithms
relogged_has : (t : Asking (List RealRoot)) (lg : List Float) (r : Result Solved Refusal) → Has t [] (fresh_by (solved_in r))
    → Has t [] (fresh_by (solved_in (and_then r (λ s. Ok (relogged lg s)))))
unfolding sound_of
relogged_has t lg (Ok s) h =
    record {
      asks_it = same_touching lg s.poly s.tol (list_of s.roots) (pair_list_of s.pairs) ∙ h.asks_it;
      has = refl;
      array = refl;
      count = refl;
      sound = h.sound;
    }
relogged_has t lg (Err refusal) h = h

pub brief_has : (sine : Sine) (coeffs : List Float) (tol : Float) (r : Result Solved Refusal) → ButLogs r (solve_of sine coeffs tol)
    → Has (real_roots_touching sine coeffs tol) [] (fresh_by (solved_in r))
brief_has sine coeffs tol r (lg, b) =
    subst⁻¹ (λ (x : Result Solved Refusal). Has (real_roots_touching sine coeffs tol) [] (fresh_by (solved_in x))) b
    (relogged_has (real_roots_touching sine coeffs tol) lg (solve_of sine coeffs tol) (solved_has sine coeffs tol))

logged_number : (lg : List Float) (q : Result Solved Refusal)
    → outcome_of (and_then q (λ s. Ok (relogged lg s))) ≡ outcome_of q
logged_number lg (Ok s) = refl
logged_number lg (Err refusal) = refl

pub brief_number : (sine : Sine) (coeffs : List Float) (tol : Float) (r : Result Solved Refusal)
    → ButLogs r (solve_of sine coeffs tol) → outcome_of r ≡ refusal_of coeffs
brief_number sine coeffs tol r (lg, b) =
    ap outcome_of b ∙ logged_number lg (solve_of sine coeffs tol) ∙ solved_number sine coeffs tol

-- a refused list asks nothing
pub refused_asks : (sine : Sine) (coeffs : List Float) (tol : Float) → eqb (refusal_of coeffs) 0 ≡ false → real_roots_touching sine coeffs tol ≡ done []
unfolding real_roots_touching solve_of
refused_asks sine coeffs tol h = go (counted_of coeffs) h
  where
    go : (r : Result ℕ Refusal) → eqb (outcome_of r) 0 ≡ false
        → touching_by (and_then r (λ n. Ok (finished_of sine (poly_of coeffs) (zeros_of coeffs) (max_of tol zero64)))) ≡ done []
    go (Ok n) h = absurd (true≢false h)
    go (Err refusal) h = refl

-- ---- q has the replies of touches to the first questions of t, as many as it counts
abbrev pub Along : (Float → Bool) → Asking (List RealRoot) → Inquiry → Type 0
Along touches t q = let n = q.replies.count in (n ≤ length (places_asked touches t)) × Has t (map touches (take n (places_asked touches t))) q

pub along_start : (touches : Float → Bool) (t : Asking (List RealRoot)) (s : Solved) → Has t [] (fresh_by s) → Along touches t (fresh_by s)
along_start touches t s h = (omega arith, h)

-- what is shown then
module _ (touches : Float → Bool) (t : Asking (List RealRoot)) (few : length (places_asked touches t) ≤ 3) (q : Inquiry) (a : Asked) (is : a ≡ asked_of q)
    (h : Along touches t q) where
  abbrev xs : List Float
  xs = places_asked touches t

  abbrev n : ℕ
  n = q.replies.count

  shows : a ≡ shown (walked (map touches (take n xs)) t)
  shows = is ∙ has_asked t q (map touches (take n xs)) h.1

  ends : n ≡ length xs → a ≡ Finished (roots_of (answered touches t))
  unfolding shown
  ends e =
      shows ∙ ap (λ (k : ℕ). shown (walked (map touches (take k xs)) t)) e ∙ ap (λ (l : List Float). shown (walked (map touches l) t)) (take-length xs)
      ∙ ap shown (finish touches t)

  asks_at : n < length xs → a ≡ Question (get_or xs n nan)
  unfolding shown
  asks_at less = shows ∙ ap shown (question touches t n less)

  more : is_question a ≡ true → n < length xs
  more on = ⊎_elim (λ e. absurd (true≢false (sym on ∙ ap is_question (ends e)))) (λ less. less) (eq-or-lt_of_le h.0)

  pub along_room : is_question a ≡ true → n < 3
  along_room on = omega (arith, more on, few)

  pub along_next : is_question a ≡ true → Along touches t (with_reply q (touches (place_of a)))
  along_next on =
      let room = more on in
      let place : place_of a ≡ get_or xs n nan = ap place_of (asks_at room) in
      let so_far = length_map_take touches xs n h.0 in
      let more = has_more t q (map touches (take n xs)) (touches (place_of a)) (omega (arith, so_far, few, room)) h.1 in
      let is-more = ap (λ (k : ℕ). map touches (take k xs)) (add-one n) ∙ map_take touches xs n room
      ∙ ap (λ (x : Float). map touches (take n xs) ++ touches x ∷ []) (sym place) in
      (omega (arith, room), subst⁻¹ (λ (rs : List Bool). Has t rs (with_reply q (touches (place_of a)))) is-more more)

  pub along_end : is_question a ≡ false → list_in a ≡ roots_of (answered touches t)
  along_end off =
      ⊎_elim (λ e. ap list_in (ends e)) (λ less. absurd (true≢false (sym (ap is_question (asks_at less)) ∙ off)))
      (eq-or-lt_of_le h.0)
