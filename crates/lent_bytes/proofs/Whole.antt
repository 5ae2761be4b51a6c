-- Answers that are stored whole, or not at all.
use mathlib.Core.Path.{◌≡◌, refl, sym, ap, subst, subst⁻¹, ◌∙◌}
use mathlib.Core.Bool.{Bool, true, false}
use mathlib.Core.List.{List, [], ◌∷◌, ◌++◌, append-nil, append_assoc, flat_map}
use Prim.Native.Nat.{ℕ, zero, suc, ◌+◌, ◌*◌, ◌/◌, ◌<◌, ◌≤◌}
use native.Mathlib.Numerals.{add-one}
use native.Mathlib.Omega.{arith}
use lib.Dec.{ltb}
use lib.ListN.{length, take, get_or, length-append}
use lib.Seq.{sets, take-suc, take_all, length-take-le}
use lib.Ieee.{Float, nan, binary64, to_bits}
use Rattle.std.specs.Prelude.{Result, Ok, Err}
use Rattle.refusals.specs.declared.Refusal.{Refusal}
use Rattle.refusals.specs.Refusals.{number_of, outcome_of, value_or}
use Rattle.refusals.proofs.Numbers.{number_bounds}
use borrow.Author.Tests.{lt-ltb, le-ltb, ne_eqb}
use Rattle.facts.specs.Cond.{if_taken, if_left}
use Rattle.float.proofs.Bytes.{length_bytes}
use Rattle.text.proofs.Laws.{sets_append}
use Rattle.lent_bytes.specs.Bytes.{double_bytes, doubles_bytes, whole, unless, Answered, Stored}

-- eight bytes for each double
pub length_doubles : (xs : List Float) → length (doubles_bytes xs) ≡ 8 * length xs
unfolding flat_map
length_doubles [] = refl
length_doubles (x ∷ xs) = omega (arith, length-append (double_bytes x) (doubles_bytes xs), length_bytes (to_bits binary64 x), length_doubles xs)

doubles_append : (xs ys : List Float) → doubles_bytes (xs ++ ys) ≡ doubles_bytes xs ++ doubles_bytes ys
unfolding flat_map
doubles_append [] ys = refl
doubles_append (x ∷ xs) ys =
    ap (λ (l : List ℕ). double_bytes x ++ l) (doubles_append xs ys) ∙ sym (append_assoc (double_bytes x) (doubles_bytes xs) (doubles_bytes ys))

-- none of them, one more, and all
pub stored_none : (l : List ℕ) → l ≡ sets l 0 (doubles_bytes [])
unfolding flat_map
stored_none l = refl

module _ (l : List ℕ) (xs : List Float) where
  module _ (i : ℕ) {m : List ℕ} (so_far : m ≡ sets l 0 (doubles_bytes (take i xs))) where
    pub stored_next : i < length xs → sets m (8 * i) (double_bytes (get_or xs i nan)) ≡ sets l 0 (doubles_bytes (take (i + 1) xs))
    unfolding flat_map
    stored_next h =
        let s = doubles_bytes (take i xs) in
        let t = double_bytes (get_or xs i nan) in
        let n : 8 * i ≡ 0 + length s = omega (arith, length_doubles (take i xs), length-take-le i xs (omega arith)) in
        let all : s ++ t ≡ doubles_bytes (take (i + 1) xs) =
        rw (add-one, take-suc xs i nan h)
        (ap (λ (u : List ℕ). s ++ u) (sym (append-nil t)) ∙ sym (doubles_append (take i xs) (get_or xs i nan ∷ []))) in
        ap (λ (b : List ℕ). sets b (8 * i) t) so_far ∙ ap (λ (k : ℕ). sets (sets l 0 s) k t) n ∙ sets_append l 0 s t ∙ ap (sets l 0) all

    pub stored_all : length xs ≤ i → m ≡ sets l 0 (doubles_bytes xs)
    stored_all h = so_far ∙ ap (λ (ys : List Float). sets l 0 (doubles_bytes ys)) (take_all i xs h)

-- ---- stored, or not
module _ (xs : List Float) (l : List ℕ) where
  pub are_too_few : length l / 8 < length xs → Answered 0 xs l 0 l
  unfolding whole
  are_too_few h =
      let e = lt-ltb (length l) (length (doubles_bytes xs)) (omega (arith, length_doubles xs)) in
      record { said = simp e; bytes = simp e }

  pub all_stored : (m : List ℕ) (r : ℕ) → length xs ≤ length l / 8 → r ≡ 8 * length xs → m ≡ sets l 0 (doubles_bytes xs) → Answered 0 xs l r m
  unfolding whole
  all_stored m r h e p =
      let k = le-ltb (length l) (length (doubles_bytes xs)) (omega (arith, length_doubles xs)) in
      record { said = simp k (e ∙ sym (length_doubles xs)); bytes = simp k p }

  pub refused : (n : ℕ) → (n ≡ 0 → ⊥) → Answered n xs l n l
  refused n h = record { said = simp (ne_eqb _ _ h); bytes = simp (ne_eqb _ _ h) }

pub nothing : (l : List ℕ) → Stored [] l 0 l
unfolding flat_map
nothing l = all_stored [] l l 0 (omega arith) refl refl

-- ---- under another name
pub answered_as : {n k : ℕ} {xs ys : List Float} {l : List ℕ} {r : ℕ} {m : List ℕ} → n ≡ k → xs ≡ ys → Answered n xs l r m → Answered k ys l r m
answered_as {n} {k} {xs} {l = l} {r = r} {m = m} e p h = subst (λ (t : List Float). Answered k t l r m) p (subst (λ (i : ℕ). Answered i xs l r m) e h)

-- the numbers of an answer that is refused are none that are stored
pub answered_if : {n k : ℕ} {xs ys : List Float} {l : List ℕ} {r : ℕ} {m : List ℕ} → n ≡ k → (k ≡ 0 → xs ≡ ys) → Answered n xs l r m → Answered k ys l r m
answered_if {n} {k} {xs} {ys} {l} {r} {m} e p h = go k e p
  where
    go : (k : ℕ) → n ≡ k → (k ≡ 0 → xs ≡ ys) → Answered k ys l r m
    go zero e p = answered_as e (p refl) h
    go (suc k) e p =
        let w = subst (λ (i : ℕ). Answered i xs l r m) e h in
        let some = ne_eqb (suc k) 0 (λ z. omega (arith, z)) in
        record { said = simp some (simp some at w.said); bytes = simp some (simp some at w.bytes) }

pub stored_as : {xs ys : List Float} {l : List ℕ} {r : ℕ} {m : List ℕ} → xs ≡ ys → Stored xs l r m → Stored ys l r m
stored_as e h = answered_as refl e h

-- ---- an answer that may be refused
module _ (answer : Result (List Float) Refusal) (l : List ℕ) where
  pub answered : {xs : List Float} {r : ℕ} {m : List ℕ} → answer ≡ Ok xs → Stored xs l r m → Answered (outcome_of answer) (value_or [] answer) l r m
  answered {r = r} {m = m} is s = subst⁻¹ (λ (a : Result (List Float) Refusal). Answered (outcome_of a) (value_or [] a) l r m) is s

  pub told : {refusal : Refusal} {n : ℕ} → answer ≡ Err refusal → n ≡ number_of refusal → Answered (outcome_of answer) (value_or [] answer) l n l
  told {refusal = refusal} {n} is e =
      subst⁻¹ (λ (a : Result (List Float) Refusal). Answered (outcome_of a) (value_or [] a) l n l) is
      (subst⁻¹ (λ (k : ℕ). Answered (number_of refusal) [] l k l) e (refused [] l (number_of refusal) (λ z. omega (arith, z, number_bounds refusal))))

  pub told_by : {refusal : Refusal} {n r : ℕ} {m : List ℕ} → answer ≡ Err refusal → n ≡ number_of refusal → Answered n [] l r m
      → Answered (outcome_of answer) (value_or [] answer) l r m
  told_by {refusal = refusal} {r = r} {m = m} is e w =
      subst⁻¹ (λ (a : Result (List Float) Refusal). Answered (outcome_of a) (value_or [] a) l r m) is (answered_as e refl w)

-- ---- by what a test of the input found
module _ {A : Type 0} (other x : A) {p b : Bool} (e : b ≡ p) where
  pub is_other : b ≡ true → other ≡ unless other p x
  unfolding unless
  is_other t = if_taken other x (sym e ∙ t) refl

  pub is_given : {r : A} → b ≡ false → r ≡ x → r ≡ unless other p x
  unfolding unless
  is_given t h = if_left other x (sym e ∙ t) h

module _ (ys : List Float) (l : List ℕ) {p b : Bool} (e : b ≡ p) where
  pub lacking : b ≡ true → Stored (unless [] p ys) l 0 l
  lacking t = stored_as (is_other [] ys e t) (nothing l)

  pub held : {xs : List Float} {r : ℕ} {m : List ℕ} → b ≡ false → xs ≡ ys → Stored xs l r m → Stored (unless [] p ys) l r m
  held t h w = stored_as (is_given [] ys e t h) w

-- ---- for `using`: nothing, in any room
pub no_bytes : (n : ℕ) → whole (doubles_bytes []) n ≡ []
unfolding whole flat_map
no_bytes n = simp (le-ltb n 0 (omega arith))
