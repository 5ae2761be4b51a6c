-- Doubles in lent bytes. Definitions only.
use Rattle.std.specs.Prelude.{◌≡◌, Bool, cond, ◌||◌, ℕ, zero, suc, ◌+◌, ltb, eqb, length, Float}
use mathlib.Core.List.{List, [], ◌∷◌, flat_map}
use Rattle.std.proofs.lemmas.List.Edits.{sets}
use Rattle.std.specs.Float.{binary64}
use Rattle.std.specs.Float.Ieee.{to_bits}
use Rattle.float.specs.Bytes.{f64_at, bytes_of}

-- the k doubles from at on
unfoldable pub f64s_at : ℕ → List ℕ → ℕ → List Float
f64s_at zero s at = []
f64s_at (suc k) s at = f64_at s at ∷ f64s_at k s (at + 8)

-- the five doubles in the first 40 bytes
abbrev pub five_at : List ℕ → List Float
five_at a = f64s_at 5 a 0

-- there are fewer than five doubles, or the degree d is above 4
unfoldable pub lacks_five : List ℕ → ℕ → Bool
lacks_five a d = ltb (length a) 40 || ltb 4 d

-- x, and `other` where it lacks what it is made of
unfoldable pub unless : {A : Type 0} → A → Bool → A → A
unless other lacking x = cond lacking other x

-- the bits of a double in eight bytes, lowest first
abbrev pub double_bytes : Float → List ℕ
double_bytes x = bytes_of (to_bits binary64 x)

-- doubles one after another
abbrev pub doubles_bytes : List Float → List ℕ
doubles_bytes xs = flat_map double_bytes xs

-- t where n bytes have room for all of it, and nothing where not
unfoldable pub whole : List ℕ → ℕ → List ℕ
whole t n = cond (ltb n (length t)) [] t

-- Of an answer xs, refused under n where n is not 0: what is said, r, and what stands, m, where the bytes l were lent. All of xs is stored and r is how many
-- bytes that are, or nothing is and r is 0 where l has no room for all; on a refusal nothing is stored, and r is n.
pub record Answered (n : ℕ) (xs : List Float) (l : List ℕ) (r : ℕ) (m : List ℕ) : Type 0 where
  pub said : r ≡ cond (eqb n 0) (length (whole (doubles_bytes xs) (length l))) n
  pub bytes : m ≡ sets l 0 (cond (eqb n 0) (whole (doubles_bytes xs) (length l)) [])

-- the same of an answer that is never refused
abbrev pub Stored : List Float → List ℕ → ℕ → List ℕ → Type 0
Stored xs l r m = Answered 0 xs l r m
