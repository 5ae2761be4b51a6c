-- A pin contact from path and circle: request One of document 02. The coefficients, the replies, and the answer. Definitions only.
use Rattle.std.specs.Prelude.{Bool, cond, List, [], ◌∷◌, ℕ, Float, Result, Ok, Err}
use Rattle.std.specs.Float.Ieee.{lt, le}
use Rattle.refusals.specs.declared.Refusal.{Refusal}
use Rattle.refusals.specs.declared.Refusal.TheVariants.{RecordNotFinite, NoRadius, MadeNotFinite}
use Rattle.refusals.specs.Refusals.{and_then}
use Rattle.float.specs.Literals.{zero64, two64}
use Rattle.float.specs.Methods.{abs_of, all_finite_of}
use Rattle.float.specs.Rounded.{◌+ᶠ◌, ◌-ᶠ◌, ◌*ᶠ◌}
use Rattle.sqrt.specs.Root.{sqrt_of}
use Rattle.roots.specs.declared.Roots.{Roots}
use Rattle.roots.specs.Roots.{roots_of}
use Rattle.angle.specs.declared.Sine.{Sine}
use Rattle.poly.specs.Coefficients.{counted_of}
use Rattle.poly.specs.RealRoots.{real_roots_systems_of}
use Rattle.inquiry.specs.Start.{real_roots_touching_of}
use Rattle.contact.specs.declared.Path.{Path}
use Rattle.contact.specs.declared.Circle.{Circle}

-- 'A record PC holds confusion, x0, x1, x2, y0, y1, y2 .., the circle's centre cx, cy and radius R': its ten numbers
abbrev pub numbers_of : Float → Path → Circle → List Float
numbers_of confusion path circle =
    confusion ∷ path.x0 ∷ path.x1 ∷ path.x2 ∷ path.y0 ∷ path.y1 ∷ path.y2 ∷ circle.cx ∷ circle.cy ∷ circle.r ∷ []

-- 'With X0 = x0 − cx, Y0 = y0 − cy and the other letters unchanged'
unfoldable pub seen_of : Path → Circle → Path
seen_of path circle =
    record {
      x0 = path.x0 -ᶠ circle.cx;
      x1 = path.x1;
      x2 = path.x2;
      y0 = path.y0 -ᶠ circle.cy;
      y1 = path.y1;
      y2 = path.y2;
    }

-- '(X0² + Y0²) − R²; 2(X0X1 + Y0Y1); (X1² + Y1²) + 2(X0X2 + Y0Y2); 2(X1X2 + Y1Y2); X2² + Y2², each operation rounded once': ascending
unfoldable pub coefficients_of : Path → Float → List Float
coefficients_of p r =
    (p.x0 *ᶠ p.x0 +ᶠ p.y0 *ᶠ p.y0) -ᶠ r *ᶠ r
    ∷ two64 *ᶠ (p.x0 *ᶠ p.x1 +ᶠ p.y0 *ᶠ p.y1)
    ∷ (p.x1 *ᶠ p.x1 +ᶠ p.y1 *ᶠ p.y1) +ᶠ two64 *ᶠ (p.x0 *ᶠ p.x2 +ᶠ p.y0 *ᶠ p.y2)
    ∷ two64 *ᶠ (p.x1 *ᶠ p.x2 +ᶠ p.y1 *ᶠ p.y2)
    ∷ p.x2 *ᶠ p.x2 +ᶠ p.y2 *ᶠ p.y2
    ∷ []

-- 'D being the square root of X² + Y², with X = X0 + t·(X1 + t·X2) and Y alike'
unfoldable pub distance_of : Path → Float → Float
distance_of p t =
    let x = p.x0 +ᶠ t *ᶠ (p.x1 +ᶠ t *ᶠ p.x2) in
    let y = p.y0 +ᶠ t *ᶠ (p.y1 +ᶠ t *ᶠ p.y2) in
    sqrt_of (x *ᶠ x +ᶠ y *ᶠ y)

-- 'A question at t is replied yes exactly when |D − R| is at most confusion'
unfoldable pub touches_of : Float → Path → Float → Float → Bool
touches_of confusion p r t = le (abs_of (distance_of p t -ᶠ r)) confusion

-- 'The tolerance of the list is confusion': the Rust's list for these replies; 'then 2 as for a list'
unfoldable pub listed_of : Sine → Float → Path → Float → List Float → Result Roots Refusal
listed_of sine confusion p r coeffs =
    and_then (counted_of coeffs) (λ n. Ok (roots_of (real_roots_touching_of sine (touches_of confusion p r) coeffs confusion)))

-- the coefficients made of a record
abbrev pub made_of : Path → Circle → List Float
made_of path circle = coefficients_of (seen_of path circle) circle.r

-- '10, a number of the record is not finite; 11, R is not above 0; 12, a coefficient made is not finite; in that order'
unfoldable pub pin_contact_of : Sine → Float → Path → Circle → Result Roots Refusal
pin_contact_of sine confusion path circle =
    cond (all_finite_of (numbers_of confusion path circle))
    (cond (lt zero64 circle.r)
    (cond (all_finite_of (made_of path circle)) (listed_of sine confusion (seen_of path circle) circle.r (made_of path circle)) (Err MadeNotFinite))
    (Err NoRadius))
    (Err RecordNotFinite)

-- how many systems were solved for it: those of the list of the coefficients made, whatever is replied; of a refusal none. (12 needs no test: the list of
-- coefficients that are not finite is refused too.)
unfoldable pub pin_contact_systems_of : Sine → Float → Path → Circle → ℕ
pin_contact_systems_of sine confusion path circle =
    cond (all_finite_of (numbers_of confusion path circle))
    (cond (lt zero64 circle.r) (real_roots_systems_of sine (made_of path circle) confusion) 0)
    0
