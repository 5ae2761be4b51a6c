-- Document 01's entries marked P: calls, each with the answer that the paper states. Definitions only.
use Rattle.std.specs.Prelude.{false, List, [], ◌∷◌, ℕ, ◌-◌, ℤ, pos, length, Float, Result, Ok, Err}
use Rattle.std.specs.Float.{nan, inf, fin}
use Rattle.std.specs.Float.Ieee.{neg, minus}
use Rattle.refusals.specs.declared.Refusal.{Refusal}
use Rattle.refusals.specs.Refusals.{number_of}
use Rattle.float.specs.Literals.{one64, two64, three64}
use Rattle.float.specs.Dyadic.{◌/2^◌}
use Rattle.sqrt.specs.Root.{sqrt_of}
use Rattle.cbrt.specs.Root.{cbrt_of}
use Rattle.angle.specs.declared.Sine.{Sine}
use Rattle.angle.specs.Third.{third_angle_of}
use Rattle.log2.specs.Log.{log2_grid_of}
use Rattle.scaled.specs.Scaled.{scaled_of}
use Rattle.roots.specs.declared.RealRoot.{RealRoot}
use Rattle.roots.specs.declared.Roots.{Roots}
use Rattle.roots.specs.Roots.{root, list_of}
use Rattle.poly.specs.RealRoots.{real_roots_of}

pub data Call : Type 0 where
  square_root : Float → Call
  cube_root : Float → Call
  third_angle : Float → Call
  logarithm : Float → Call
  exponent : List Float → Call
  list : List Float → Float → Call

-- a number, c and s, or e; the roots of a list, or the number of its refusal
pub data RowAnswer : Type 0 where
  number : Float → RowAnswer
  pair : Float → Float → RowAnswer
  power : ℤ → RowAnswer
  roots : List RealRoot → RowAnswer
  refused : ℕ → RowAnswer

-- the roots, or the number of the refusal
abbrev pub list_answer : Result Roots Refusal → RowAnswer
list_answer (Ok l) = roots (list_of l)
list_answer (Err refusal) = refused (number_of refusal)

-- what the definitions give
unfoldable pub row_answer_of : Sine → Call → RowAnswer
unfolding sqrt_of cbrt_of third_angle_of log2_grid_of scaled_of real_roots_of
row_answer_of sine (square_root x) = number (sqrt_of x)
row_answer_of sine (cube_root x) = number (cbrt_of x)
row_answer_of sine (third_angle v) = let t = third_angle_of sine v in pair t.cos t.sin
row_answer_of sine (logarithm x) = number (log2_grid_of x)
row_answer_of sine (exponent a) = power (scaled_of a (length a - 1)).e
row_answer_of sine (list coeffs tol) = list_answer (real_roots_of sine coeffs tol)

-- a call and its answer
pub record Row : Type 0 where
  pub call : Call
  pub answer : RowAnswer

infix 68 ◌gives◌
abbrev pub ◌gives◌ : Call → RowAnswer → Row
c gives a = record { call = c; answer = a }

-- 0
abbrev pub o : Float
o = 0 /2^ 0

-- tol is the tolerance of the lists, and plays no part in their answers
unfoldable pub table : Float → List Row
table tol =
    square_root (1 /2^ 1074) gives number (1 /2^ 537)
    ∷ cube_root (27 /2^ 0) gives number (3 /2^ 0)
    ∷ third_angle (1 /2^ 0) gives pair (1 /2^ 0) (0 /2^ 0)
    ∷ logarithm (3 /2^ 0) gives number (405 /2^ 8)
    ∷ exponent (two64 ∷ neg three64 ∷ one64 ∷ []) gives power (pos 2)
    ∷ list [] tol gives refused 2
    ∷ list (o ∷ o ∷ o ∷ []) tol gives refused 2
    ∷ list (7 /2^ 0 ∷ o ∷ []) tol gives refused 2
    ∷ list (nan ∷ []) tol gives refused 1
    ∷ list (o ∷ o ∷ o ∷ o ∷ o ∷ inf false ∷ []) tol gives refused 1
    ∷ list (o ∷ o ∷ o ∷ o ∷ o ∷ 1 /2^ 0 ∷ []) tol gives refused 3
    ∷ list (o ∷ o ∷ 3 /2^ 0 ∷ []) tol gives roots (root o 2 ∷ [])
    ∷ []
