-- Texts stored one after another are one text stored.
use mathlib.Core.Path.{◌≡◌, refl, sym, ap, subst, ◌∙◌}
use mathlib.Core.List.{List, [], ◌∷◌, ◌++◌, append-nil, append_assoc, flat_map}
use Prim.Native.Nat.{ℕ, suc, ◌+◌, ◌<◌, ◌≤◌}
use native.Mathlib.Numerals.{add-one}
use native.Mathlib.Omega.{arith}
use lib.ListN.{length, take, get_or, set, length-append}
use lib.Seq.{sets, take-suc, take_all, length-sets}
use Rattle.text.specs.declared.Text.{Text}
use Rattle.text.specs.Digits.{hex_digits}
use Rattle.text.specs.Written.{holding, Written}
use Rattle.text.proofs.Digits.{hex_none}

pub sets_append : (l : List ℕ) (at : ℕ) (s t : List ℕ) → sets (sets l at s) (at + length s) t ≡ sets l at (s ++ t)
sets_append l at [] t =
    let e : at + 0 ≡ at = omega arith in
    ap (λ (k : ℕ). sets l k t) e
sets_append l at (a ∷ s) t =
    let e : at + suc (length s) ≡ suc at + length s = omega arith in
    ap (λ (k : ℕ). sets (sets (set l at a) (suc at) s) k t) e ∙ sets_append (set l at a) (suc at) s t

pub written_length : {a b : Text} {t : List ℕ} → Written a t b → length b.out.now ≡ length a.out.now
written_length {a} {b} {t} w = ap (λ o. length o.now) w.bytes ∙ length-sets a.out.now a.at t

pub written_none : (a : Text) → Written a [] a
written_none a = record { bytes = refl; place = omega arith }

-- no digits, for `using`
pub written_no_hex : {a : Text} (k n : ℕ) → k ≤ 0 → Written a (hex_digits k n) a
written_no_hex {a} k n h = subst (λ (t : List ℕ). Written a t a) (sym (hex_none k n (omega arith))) (written_none a)

-- Nested to the right, `written_then p (written_then q r)` says the text s ++ (t ++ u) as a definition has it.
pub written_then : {a b c : Text} {s t : List ℕ} → Written a s b → Written b t c → Written a (s ++ t) c
written_then {a} {b} {c} {s} {t} p q =
    record {
      bytes = q.bytes
          ∙ ap (λ o. holding o (sets o.now b.at t)) p.bytes
          ∙ ap (λ (i : ℕ). holding a.out (sets (sets a.out.now a.at s) i t)) p.place
          ∙ ap (holding a.out) (sets_append a.out.now a.at s t);
      place = omega (arith, p.place, q.place, length-append s t);
    }

pub written_as : {a b : Text} {s t : List ℕ} → s ≡ t → Written a s b → Written a t b
written_as {a} {b} e w = subst (λ (t : List ℕ). Written a t b) e w

-- one byte more of s
pub written_next : {a b c : Text} (s : List ℕ) (i : ℕ) → i < length s → Written a (take i s) b → Written b (get_or s i 0 ∷ []) c → Written a (take (i + 1) s) c
written_next s i h p q = written_as (rw (add-one, take-suc s i 0)) (written_then p q)

pub written_all : {a b : Text} (s : List ℕ) (i : ℕ) → length s ≤ i → Written a (take i s) b
    → Written a s b
written_all s i h w = written_as (take_all i s h) w

-- ---- the texts of a list's elements, one after another

module _ {A : Type 0} where
  flat_append : (f : A → List ℕ) (xs ys : List A) → flat_map f (xs ++ ys) ≡ flat_map f xs ++ flat_map f ys
  unfolding flat_map
  flat_append f [] ys = refl
  flat_append f (x ∷ xs) ys = ap (λ (l : List ℕ). f x ++ l) (flat_append f xs ys) ∙ sym (append_assoc (f x) (flat_map f xs) (flat_map f ys))

  flat_next : (f : A → List ℕ) (xs : List A) (i : ℕ) (d : A) → i < length xs → flat_map f (take i xs) ++ f (get_or xs i d) ≡ flat_map f (take (i + 1) xs)
  unfolding flat_map
  flat_next f xs i d h =
      rw (add-one, take-suc xs i d)
      (ap (λ (l : List ℕ). flat_map f (take i xs) ++ l) (sym (append-nil (f (get_or xs i d)))) ∙ sym (flat_append f (take i xs) (get_or xs i d ∷ [])))

  pub flat_none : (f : A → List ℕ) (a : Text) (xs : List A) → Written a (flat_map f (take 0 xs)) a
  unfolding flat_map
  flat_none f a xs = written_none a

  pub written_flat : {a b c : Text} (f : A → List ℕ) (xs : List A) (i : ℕ) (d : A) → i < length xs
      → Written a (flat_map f (take i xs)) b → Written b (f (get_or xs i d)) c → Written a (flat_map f (take (i + 1) xs)) c
  written_flat f xs i d h p q = written_as (flat_next f xs i d h) (written_then p q)

  pub flat_all : {a b : Text} (f : A → List ℕ) (xs : List A) (i : ℕ) → length xs ≤ i → Written a (flat_map f (take i xs)) b → Written a (flat_map f xs) b
  flat_all f xs i h w = written_as (ap (flat_map f) (take_all i xs h)) w
