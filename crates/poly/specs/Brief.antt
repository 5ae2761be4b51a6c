-- Solving without logarithms, where none of them matters. Definitions only.
use Rattle.std.specs.Prelude.{◌≡◌, ◌⊎◌, List, ℕ, ◌-◌, Float, Result, Ok}
use Rattle.refusals.specs.declared.Refusal.{Refusal}
use Rattle.refusals.specs.Refusals.{and_then}
use Rattle.float.specs.Literals.{zero64}
use Rattle.float.specs.Methods.{max_of}
use Rattle.angle.specs.declared.Sine.{Sine}
use Rattle.horner.specs.declared.Polynomial.{Polynomial}
use Rattle.scaled.specs.declared.Scaled.{Scaled}
use Rattle.scaled.specs.Scaled.{with_logs_of}
use Rattle.level.specs.Level.{NoGap}
use Rattle.poly.specs.declared.Solved.{Solved}
use Rattle.poly.specs.Coefficients.{trimmed_of, zeros_of, counted_of, refusal_of, middle_of}
use Rattle.poly.specs.Solve.{finished_of}

-- the logarithms of degree l are enough for factors: all of them, or none where there is no gap
abbrev pub Enough : List Float → ℕ → ℕ → Type 0
Enough a d l = (l ≡ d) ⊎ ((l ≡ 0) × NoGap a d)

-- the polynomial without its zeros
abbrev pub Middle : List Float → Polynomial → Type 0
Middle coeffs p =
    let zeros = zeros_of coeffs in
    let n = trimmed_of coeffs in
    (p.f ≡ middle_of coeffs zeros n) × (p.d ≡ n - zeros - 1)

-- solved with the logarithms of degree l
abbrev pub solved_with : Sine → List Float → Float → ℕ → Result Solved Refusal
solved_with sine coeffs tol l =
    let zeros = zeros_of coeffs in
    let n = trimmed_of coeffs in
    and_then (counted_of coeffs) (λ k. Ok (finished_of sine (with_logs_of (middle_of coeffs zeros n) (n - zeros - 1) l) zeros (max_of tol zero64)))

-- r is that, of a degree that `logs` gives of the polynomial
unfoldable pub SolvedBy : Sine → (Polynomial → ℕ → Type 0) → List Float → Float → Result Solved Refusal → Type 0
SolvedBy sine logs coeffs tol r = (l : ℕ) × (r ≡ solved_with sine coeffs tol l) × (refusal_of coeffs ≡ 0 → (p : Polynomial) × Middle coeffs p × logs p l)

-- the same with other logarithms
abbrev pub other_logs : List Float → Scaled → Scaled
other_logs lg sc = record { f = sc.f; g = sc.g; lg = lg; d = sc.d; e = sc.e; unit = sc.unit }

abbrev pub relogged : List Float → Solved → Solved
relogged lg s = record { poly = other_logs lg s.poly; tol = s.tol; roots = s.roots; pairs = s.pairs; systems = s.systems }

-- r is s, but for the logarithms, of which nothing is said
abbrev pub ButLogs : Result Solved Refusal → Result Solved Refusal → Type 0
ButLogs r s = (lg : List Float) × (r ≡ and_then s (λ solved. Ok (relogged lg solved)))
