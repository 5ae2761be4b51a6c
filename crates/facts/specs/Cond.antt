-- What a test gives: what its two arms return is what `cond` gives, what holds of both arms holds of it, and a test of two parts is known by its parts.
-- Statement and proof of each law stand together here: it is a tool of other proofs, and there is nothing that a reader has to believe.
use Rattle.std.specs.Prelude.{◌≡◌, refl, Bool, true, false, cond, ◌&&◌}
use Rattle.std.proofs.Common.{sym, true≢false}

module _ {A : Type 0} where
  -- (a proof has the flag b as `.if1 .taken` or as `.if1 .left`)
  pub if_taken : {b : Bool} {r : A} (x y : A) → b ≡ true → r ≡ x → r ≡ cond b x y
  if_taken x y h e = rw h e

  pub if_left : {b : Bool} {r : A} (x y : A) → b ≡ false → r ≡ y → r ≡ cond b x y
  if_left x y h e = rw h e

  pub either_way : (P : A → Type 0) (b : Bool) {x y : A} → P x → P y → P (cond b x y)
  either_way P true p q = p
  either_way P false p q = q

pub both_hold : (p q : Bool) → p ≡ true → q ≡ true → (p && q) ≡ true
both_hold p q h k = rw (h, k)

pub first_fails : (p q : Bool) → p ≡ false → (p && q) ≡ false
first_fails p q h = rw h

pub first_holds : (p q : Bool) → (p && q) ≡ true → p ≡ true
first_holds true q h = refl
first_holds false q h = h

pub second_holds : (p q : Bool) → (p && q) ≡ true → q ≡ true
second_holds true q h = h
second_holds false q h = absurd (true≢false (sym h))
