-- Lists: sums over them, and what holds of all their items; the first n of an array, as a loop reads them; one more behind them; an array of four by its
-- places.
-- The definitions to read are `sum_of` and `AllOf`. The laws stand here with their proofs: tools of other proofs, in which there is nothing to believe.
use Rattle.std.specs.Prelude.{◌≡◌, List, [], ◌∷◌, ◌++◌, map, ℕ, zero, suc, ◌+◌, ◌-◌, ◌≤◌, ◌<◌, length, take, drop, get_or, set, replicate}
use Rattle.std.proofs.Common.{sym, ap, ◌∙◌, add-one, arith, length-append, drop_of_length-le, drop-cons, get_or-take, length-take-le, take-suc-set}
use Rattle.std.proofs.lemmas.List.{length-replicate, length-map}
use Rattle.std.proofs.Math.Seq.{append_snoc, set-append_seam}

module _ {A : Type 0} where
  abbrev pub sum_of : (A → ℕ) → List A → ℕ
  sum_of size [] = 0
  sum_of size (x ∷ l) = size x + sum_of size l

  abbrev pub AllOf : (A → Type 0) → List A → Type 0
  AllOf P [] = Unit {0}
  AllOf P (x ∷ l) = P x × AllOf P l

  pub sum_append : (size : A → ℕ) (l m : List A) → sum_of size (l ++ m) ≡ sum_of size l + sum_of size m
  sum_append size [] m = omega arith
  sum_append size (x ∷ l) m = omega (arith, sum_append size l m)

  pub all_append : (P : A → Type 0) (l m : List A) → AllOf P l → AllOf P m → AllOf P (l ++ m)
  all_append P [] m g h = h
  all_append P (x ∷ l) m g h = (g.0, all_append P l m g.1 h)

  -- what is read at a place, where d stands for a read outside the list
  pub all_at : (P : A → Type 0) (l : List A) (d : A) (k : ℕ) → (length l ≤ k → P d) → AllOf P l → P (get_or l k d)
  all_at P [] d k out h = out (omega arith)
  all_at P (x ∷ l) d zero out h = h.0
  all_at P (x ∷ l) d (suc k) out h = all_at P l d k (λ t. out (omega arith)) h.1

-- an array of structs is owned as the list of their values
pub length_mapped : (X Y : Type 0) (f : X → Y) (l : List X) (n : ℕ) → length (map f l) ≡ n → length l ≡ n
length_mapped X Y f l n e = sym (length-map l f) ∙ e

-- ---- what is left of a list, the first n of an array, and one more
module _ {A : Type 0} where
  pub drop_next : (l : List A) (k : ℕ) (d : A) → k < length l → drop k l ≡ get_or l k d ∷ drop (k + 1) l
  drop_next l k d h = rw (add-one k) (drop-cons l k d h)

  pub left_cons : (l : List A) (n k : ℕ) (d : A) → n ≤ length l → k < n → drop k (take n l) ≡ get_or l k d ∷ drop (k + 1) (take n l)
  left_cons l n k d h t =
      let e : length (take n l) ≡ n = length-take-le n l h in
      drop_next (take n l) k d (omega arith) ∙ ap (λ (a : A). a ∷ drop (k + 1) (take n l)) (get_or-take n l k d t)

  pub left_nil : (l : List A) (n k : ℕ) → n ≤ length l → n ≤ k → drop k (take n l) ≡ []
  left_nil l n k h t = let e : length (take n l) ≡ n = length-take-le n l h in drop_of_length-le (take n l) {i = k} (omega arith)

  pub length_snoc : (l : List A) (x : A) → length (l ++ x ∷ []) ≡ length l + 1
  length_snoc l x = length-append l (x ∷ [])

  pub take_pushed : (l : List A) (n : ℕ) (x : A) → n < length l → take (n + 1) (set l n x) ≡ take n l ++ x ∷ []
  take_pushed l n x h = rw (add-one n) (take-suc-set l n x h)

  pub sum_snoc : (size : A → ℕ) (l : List A) (x : A) → sum_of size (l ++ x ∷ []) ≡ sum_of size l + size x
  sum_snoc size l x = omega (arith, sum_append size l (x ∷ []))

  pub all_snoc : (P : A → Type 0) (l : List A) (x : A) → AllOf P l → P x → AllOf P (l ++ x ∷ [])
  all_snoc P l x h p = all_append P l (x ∷ []) h (p, tt)

-- ---- a list in an array of m, d at the places after it
module _ {A : Type 0} (m : ℕ) (d : A) where
  abbrev padded : List A → List A
  padded l = l ++ replicate (m - length l) d

  pub length_padded : (l : List A) → length l ≤ m → length (padded l) ≡ m
  length_padded l h = length-append l (replicate (m - length l) d) ∙ ap (λ (k : ℕ). length l + k) (length-replicate (m - length l) d) ∙ omega arith

  pub padded_push : (l : List A) (x : A) → length l < m → set (padded l) (length l) x ≡ padded (l ++ x ∷ [])
  padded_push l x h =
      let n = m - length (l ++ x ∷ []) in
      let e = length_snoc l x in
      let room : m - length l ≡ suc n = omega arith in
      ap (λ (k : ℕ). set (l ++ replicate k d) (length l) x) room ∙ set-append_seam l d (replicate n d) x ∙ sym (append_snoc l x (replicate n d))

-- ---- an array of four is known by its places
pub of_four : {A : Type 0} (P : List A → Type 0) → ((a b c d : A) → P (a ∷ b ∷ c ∷ d ∷ [])) → (l : List A) → length l ≡ 4 → P l
of_four P f (a ∷ b ∷ c ∷ d ∷ []) e = f a b c d
of_four P f [] e = absurd (omega (arith, e))
of_four P f (a ∷ []) e = absurd (omega (arith, e))
of_four P f (a ∷ b ∷ []) e = absurd (omega (arith, e))
of_four P f (a ∷ b ∷ c ∷ []) e = absurd (omega (arith, e))
of_four P f (a ∷ b ∷ c ∷ d ∷ x ∷ l) e = absurd (omega (arith, e))
