-- The solver's answers to the numbers of a record that stands whole. Definitions only.
use Rattle.std.specs.Prelude.{List, ℕ, ◌+◌, take, drop, Result}
use Rattle.float.specs.Bytes.{f64_at}
use Rattle.angle.specs.declared.Sine.{Sine}
use Rattle.lent_bytes.specs.Bytes.{f64s_at}
use Rattle.refusals.specs.declared.Refusal.{Refusal}
use Rattle.roots.specs.declared.Roots.{Roots}
use Rattle.solution.specs.declared.QuadraticSolution.{QuadraticSolution}
use Rattle.trig_quartic.specs.declared.TrigEquation.{TrigEquation}
use Rattle.crank.specs.declared.CrankAnswer.{CrankAnswer}
use Rattle.poly.specs.RealRoots.{real_roots_of}
use Rattle.equation.specs.Quadratic.{quadratic_of}
use Rattle.crank.specs.Crank.{crank_of}
use Rattle.contact.specs.declared.Path.{Path}
use Rattle.contact.specs.declared.Circle.{Circle}
use Rattle.contact.specs.Contact.{pin_contact_of}
use Rattle.formula_roots.specs.FormulaRoots.{formula_roots_of}
use Rattle.records.specs.Records.{count_at}

-- 'PL: count byte, tolerance, that many coefficients'
unfoldable pub polynomial_at : Sine → List ℕ → ℕ → Result Roots Refusal
unfolding f64s_at
polynomial_at sine s at = real_roots_of sine (f64s_at (count_at s at) s (at + 11)) (f64_at s (at + 3))

-- 'QD: confusion, angular, a, b, c'
unfoldable pub quadratic_at : List ℕ → ℕ → Result QuadraticSolution Refusal
quadratic_at s at =
    let confusion = f64_at s (at + 2) in
    let angular = f64_at s (at + 10) in
    quadratic_of (f64_at s (at + 18)) (f64_at s (at + 26)) (f64_at s (at + 34)) confusion angular

-- 'TG: confusion, a2, b2, c1, d1, e, every question replied no'
abbrev pub trig_at : List ℕ → ℕ → TrigEquation
trig_at s at =
    record { a2 = f64_at s (at + 10); b2 = f64_at s (at + 18); c1 = f64_at s (at + 26); d1 = f64_at s (at + 34); e = f64_at s (at + 42) }

unfoldable pub crank_at : Sine → List ℕ → ℕ → Result CrankAnswer Refusal
crank_at sine s at = crank_of sine (f64_at s (at + 2)) (trig_at s at)

-- 'A record PC holds confusion, x0, x1, x2, y0, y1, y2 .., the circle's centre cx, cy and radius R'
abbrev pub path_at : List ℕ → ℕ → Path
path_at s at =
    record {
      x0 = f64_at s (at + 10);
      x1 = f64_at s (at + 18);
      x2 = f64_at s (at + 26);
      y0 = f64_at s (at + 34);
      y1 = f64_at s (at + 42);
      y2 = f64_at s (at + 50);
    }

abbrev pub circle_at : List ℕ → ℕ → Circle
circle_at s at = record { cx = f64_at s (at + 58); cy = f64_at s (at + 66); r = f64_at s (at + 74) }

unfoldable pub contact_at : Sine → List ℕ → ℕ → Result Roots Refusal
contact_at sine s at = pin_contact_of sine (f64_at s (at + 2)) (path_at s at) (circle_at s at)

-- 'A record TX holds a length byte 0 to 255, a tolerance and that much ASCII'
abbrev pub text_at : List ℕ → ℕ → List ℕ
text_at s at = take (count_at s at) (drop (at + 11) s)

unfoldable pub formula_at : Sine → List ℕ → ℕ → Result Roots Refusal
formula_at sine s at = formula_roots_of sine (text_at s at) (f64_at s (at + 3))
