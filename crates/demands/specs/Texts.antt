-- Texts of formulas, and what each comes to. Definitions only.
use Rattle.std.specs.Prelude.{List, [], ◌∷◌, ℤ, pos, negsuc, Ok, Err}
use Prim.Native.String.{String}
use Rattle.refusals.specs.declared.Refusal.TheVariants.{NotASum, DegreeTooHigh, CoefficientTooLarge}
use Rattle.parts.specs.Value.{Value}

-- a text, and its polynomial, the coefficient of t^0 first, or its refusal
pub record TextRow : Type 0 where
  pub text : String
  pub value : Value

abbrev row : String → Value → TextRow
row s v = record { text = s; value = v }

abbrev pub texts : List TextRow
texts =
    row "(t-2)^2*(t+1)" (Ok (pos 4 ∷ pos 0 ∷ negsuc 2 ∷ pos 1 ∷ []))
    -- joins are grouped from the left, a product before a sum, a power before a product
    ∷ row "1-2-3" (Ok (negsuc 3 ∷ []))
    ∷ row "1-(2-3)" (Ok (pos 2 ∷ []))
    ∷ row "1+2*3^2" (Ok (pos 19 ∷ []))
    ∷ row "t^0" (Ok (pos 1 ∷ []))
    ∷ row "000000007*t" (Ok (pos 0 ∷ pos 7 ∷ []))
    -- no sum, also where a limit is met before that shows
    ∷ row "" (Err NotASum)
    ∷ row "-t" (Err NotASum)
    ∷ row "(-t)" (Err NotASum)
    ∷ row "+t" (Err NotASum)
    ∷ row "t^2^2" (Err NotASum)
    ∷ row "t^12" (Err NotASum)
    ∷ row "0000000007" (Err NotASum)
    ∷ row "t - 2" (Err NotASum)
    ∷ row "T" (Err NotASum)
    ∷ row "(t" (Err NotASum)
    ∷ row "t)" (Err NotASum)
    ∷ row "()" (Err NotASum)
    ∷ row "2t" (Err NotASum)
    ∷ row "t(" (Err NotASum)
    ∷ row "t^9*" (Err NotASum)
    -- a degree above 4, whatever becomes of it later; zero terms are dropped
    ∷ row "(t^5)^0" (Err DegreeTooHigh)
    ∷ row "0*t^5" (Err DegreeTooHigh)
    ∷ row "t^5-t^5" (Err DegreeTooHigh)
    ∷ row "0*t^4*t" (Ok [])
    -- a coefficient above 2^53, and 2^53 itself
    ∷ row "94906266*94906266" (Err CoefficientTooLarge)
    ∷ row "90071992*100000000+54740992" (Ok (pos 9007199254740992 ∷ []))
    ∷ row "90071992*100000000+54740992+1-1" (Err CoefficientTooLarge)
    -- the one met first, the left operand before the right; 14 where one product meets both
    ∷ row "(10000*t)^9" (Err CoefficientTooLarge)
    ∷ row "(1000*t)^9" (Err DegreeTooHigh)
    ∷ row "t^5+94906266*94906266" (Err DegreeTooHigh)
    ∷ row "94906266*94906266+t^5" (Err CoefficientTooLarge)
    ∷ row "94906266*t^4*(94906266*t)" (Err DegreeTooHigh)
    ∷ []

-- the parts of `2-(t+1)^2` in their order: 2, t, 1, their sum, the bracket, its first and second power, and the difference
abbrev pub parts_in_order : List (List ℤ)
parts_in_order =
    (pos 2 ∷ [])
    ∷ (pos 0 ∷ pos 1 ∷ [])
    ∷ (pos 1 ∷ [])
    ∷ (pos 1 ∷ pos 1 ∷ [])
    ∷ (pos 1 ∷ pos 1 ∷ [])
    ∷ (pos 1 ∷ pos 1 ∷ [])
    ∷ (pos 1 ∷ pos 2 ∷ pos 1 ∷ [])
    ∷ (pos 1 ∷ negsuc 1 ∷ negsuc 0 ∷ [])
    ∷ []
