-- `quadratic_centre` and `solve_quadratic` of equation.rs, and the quadratic that document 01 answers or refuses. Tolerances are taken as they are: a NaN
-- or a negative one is not read as 0. Definitions only.
use Rattle.std.specs.Prelude.{Bool, cond, ◌&&◌, List, [], ◌∷◌, Float, Result, Ok, Err}
use Rattle.std.specs.Float.Ieee.{neg, lt, le}
use Rattle.refusals.specs.declared.Refusal.{Refusal}
use Rattle.refusals.specs.declared.Refusal.TheVariants.{NotFinite, AnswerNotFinite}
use Rattle.float.specs.Rounded.{◌+ᶠ◌, ◌-ᶠ◌, ◌*ᶠ◌, ◌/ᶠ◌}
use Rattle.float.specs.Literals.{zero64, epsilon64, half64, one64, two64, four64}
use Rattle.float.specs.Methods.{abs_of, is_finite_of, copysign_of, min_of, max_of, all_finite_of}
use Rattle.sqrt.specs.Root.{sqrt_of}
use Rattle.solution.specs.declared.QuadraticSolution.{QuadraticSolution}
use Rattle.solution.specs.declared.QuadraticSolution.TheVariants.{Two, One, Linear, Degenerate, Empty}
use Rattle.solution.specs.Solution.{values_of}

-- ---- the equation a*t^2 + b*t + c = 0

-- `let mid = -b / (2.0 * a);`, and `let t0 = -b / (2.0 * a);` of `quadratic_centre`
abbrev pub mid_of : Float → Float → Float
mid_of a b = neg b /ᶠ (two64 *ᶠ a)

-- `if a.abs() > tol.angular && t0.is_finite() { t0 } else { 0.0 }`: 0 where the equation is near linear
unfoldable pub quadratic_centre_of : Float → Float → Float → Float
quadratic_centre_of a b angular = let t0 = mid_of a b in cond (lt angular (abs_of a) && is_finite_of t0) t0 zero64

-- `if b.abs() <= tol.confusion { return QuadraticSolution::Degenerate; }`, `return QuadraticSolution::Linear(-c / b);`: b*t + c = 0. It never looks at c alone,
-- so (0, 0, 5) is degenerate.
unfoldable pub linear_of : Float → Float → Float → QuadraticSolution
linear_of b c confusion = cond (le (abs_of b) confusion) Degenerate (Linear (neg c /ᶠ b))

-- `let disc = b * b - 4.0 * a * c;`
abbrev pub quadratic_disc_of : Float → Float → Float → Float
quadratic_disc_of a b c = b *ᶠ b -ᶠ four64 *ᶠ a *ᶠ c

-- `let noise = (4.0 * f64::EPSILON * (b * b + 4.0 * (a * c).abs())).sqrt() / (2.0 * a.abs());`
abbrev pub quadratic_noise_of : Float → Float → Float → Float
quadratic_noise_of a b c = sqrt_of (four64 *ᶠ epsilon64 *ᶠ (b *ᶠ b +ᶠ four64 *ᶠ abs_of (a *ᶠ c))) /ᶠ (two64 *ᶠ abs_of a)

-- `if sep <= tol.confusion * (1.0 + mid.abs()) + noise`: the roots count as one. `root` is `disc.abs().sqrt()`.
unfoldable pub is_grazing_of : Float → Float → Float → Float → Float → Float → Bool
is_grazing_of a b c mid root confusion =
    -- let sep = disc.abs().sqrt() / (2.0 * a.abs());
    let sep = root /ᶠ (two64 *ᶠ abs_of a) in
    let noise = quadratic_noise_of a b c in
    le sep (confusion *ᶠ (one64 +ᶠ abs_of mid) +ᶠ noise)

-- `QuadraticSolution::Two(r1.min(r2), r1.max(r2))`: two roots, the smaller first. `root` is `disc.sqrt()`. `min` and `max` pass a NaN over.
unfoldable pub two_of : Float → Float → Float → Float → QuadraticSolution
two_of a b c root =
    -- let q = -0.5 * (b + disc.sqrt().copysign(b));
    let q = neg half64 *ᶠ (b +ᶠ copysign_of root b) in
    -- let (r1, r2) = (q / a, c / q);
    let r1 = q /ᶠ a in
    let r2 = c /ᶠ q in
    Two (min_of r1 r2) (max_of r1 r2)

-- `solve_quadratic`: `if a.abs() <= tol.angular { .. }`, `QuadraticSolution::One(mid)`, `else if disc < 0.0 { QuadraticSolution::Empty }`, and two roots
unfoldable pub solve_quadratic_of : Float → Float → Float → Float → Float → QuadraticSolution
solve_quadratic_of a b c confusion angular =
    let disc = quadratic_disc_of a b c in
    let mid = mid_of a b in
    cond (le (abs_of a) angular) (linear_of b c confusion)
    (cond (is_grazing_of a b c mid (sqrt_of (abs_of disc)) confusion) (One mid)
    (cond (lt disc zero64) Empty (two_of a b c (sqrt_of disc))))

-- ---- what document 01 refuses

-- 'Quadratic: 1, one of a, b, c not finite; 5, a number in the Rust's answer is not finite'
unfoldable pub quadratic_of : Float → Float → Float → Float → Float → Result QuadraticSolution Refusal
quadratic_of a b c confusion angular =
    let s = solve_quadratic_of a b c confusion angular in
    cond (all_finite_of (a ∷ b ∷ c ∷ [])) (cond (all_finite_of (values_of s)) (Ok s) (Err AnswerNotFinite)) (Err NotFinite)

-- the places that are answered: those of a solution, and none of a refusal
unfoldable pub places_in : Result QuadraticSolution Refusal → List Float
places_in (Ok s) = values_of s
places_in (Err refusal) = []
