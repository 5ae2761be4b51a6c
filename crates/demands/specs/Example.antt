-- Document 01's example of a hall file, and its listing. Definitions only.
use Rattle.std.specs.Prelude.{List, [], ◌∷◌, ◌++◌, ℕ, Float}
use Prim.Native.Char.{code}
use Prim.Native.String as text
use Prim.Native.String.{String}
use Rattle.std.specs.Float.Ieee.{neg}
use Rattle.float.specs.Literals.{zero64, one64, two64, three64}
use Rattle.lent_bytes.specs.Bytes.{doubles_bytes}
use Rattle.float.specs.Dyadic.{◌/2^◌}

-- the characters of a text
unfoldable pub ascii : String → List ℕ
ascii text.[] = []
ascii (text.◌∷◌ c s) = code c ∷ ascii s

-- 2^-30
abbrev tol : Float
tol = 1 /2^ 30

-- 'PL (tolerance 2^-30; 2, −3, 1), PL (count 0, 2^-30), QD (2^-30, 2^-30, 1, −3, 2), TG (2^-30, 0, 0, 1, 0, 0), then `XX`'
unfoldable pub example_file : List ℕ
unfolding ascii
example_file =
    ascii "PL" ++ 3 ∷ doubles_bytes (tol ∷ two64 ∷ neg three64 ∷ one64 ∷ [])
    ++ ascii "PL" ++ 0 ∷ doubles_bytes (tol ∷ [])
    ++ ascii "QD" ++ doubles_bytes (tol ∷ tol ∷ one64 ∷ neg three64 ∷ two64 ∷ [])
    ++ ascii "TG" ++ doubles_bytes (tol ∷ zero64 ∷ zero64 ∷ one64 ∷ zero64 ∷ zero64 ∷ [])
    ++ ascii "XX"

-- with the kinds of request Two: 'document 01's listing gains it too', and the total of request Five: 'which now ends `T 5 4 4`'
unfoldable pub example_listing : List ℕ
unfolding ascii
example_listing =
    ascii "1 PL ok 2 3FF0000000000000 1 c 4000000000000000 1 c\n"
    ++ ascii "2 PL refused 2\n"
    ++ ascii "3 QD two 3FF0000000000000 4000000000000000\n"
    ++ ascii "4 TG ok 4 2 BFF0000000000000 1 c 3FF0000000000000 1 c\n"
    ++ ascii "5 -- refused 6\n"
    ++ ascii "T 5 4 4\n"
