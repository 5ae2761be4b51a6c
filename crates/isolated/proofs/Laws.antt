-- Four roots judged one after the other, and the roots of a quadratic by the root of its discriminant's size.
use mathlib.Core.Path.{◌≡◌, sym, ap, ◌∙◌}
use mathlib.Core.Bool.{true, false}
use Rattle.std.specs.Prelude.{List, [], ◌∷◌, Option, Some, None, MatchOption}
use Rattle.std.specs.Option.{IsSomeAnd}
use lib.Ieee.{Float, binary64, mul, neg, le}
use Rattle.facts.specs.Count.{count_up}
use Rattle.facts.specs.Cond.{if_taken, if_left}
use Rattle.float.specs.Literals.{zero64, half64}
use Rattle.float.specs.Methods.{abs_of}
use Rattle.sqrt.specs.Root.{sqrt_of}
use Rattle.sqrt.proofs.Size.{least_root, below_root}
use Rattle.horner.specs.Product.{discriminant_of}
use Rattle.cubic.specs.Cubic.{over_or}
use Rattle.quartic.specs.declared.QuarticFactor.{QuarticFactor}
use Rattle.isolated.specs.declared.Complex.{Complex}
use Rattle.isolated.specs.declared.Best.{Best}
use Rattle.isolated.specs.declared.Disc.{Disc}
use Rattle.isolated.specs.Isolated.{disc_of, far_by, far_root_of, complex, root_at, root_pair_of, dist_of, least_of, greatest_of, judged_of}
use Rattle.isolated.specs.Isolated.{best_root_of, lone_of, isolated_of, isolated_root_of}

-- ---- the isolated root

-- one more root judged, with its distances to the others a, b and c, and theirs
abbrev judged_by : Option Best → Complex → List Float → List Float → Option Best
judged_by best z near apart = judged_of best z.re z.im (least_of near) (greatest_of apart)

abbrev between : Complex → Complex → Float
between x y = dist_of x.re x.im y.re y.im

module _ (quads : QuarticFactor) (z y : List Complex) (d01 d02 d03 d12 d13 d23 : Float) (b0 b1 b2 b3 : Option Best) (ez : z ≡ root_pair_of quads.al quads.be)
    (ey : y ≡ root_pair_of quads.ga quads.de) (e01 : d01 ≡ between (root_at z 0) (root_at z 1))
    (e02 : d02 ≡ between (root_at z 0) (root_at y 0))
    (e03 : d03 ≡ between (root_at z 0) (root_at y 1)) (e12 : d12 ≡ between (root_at z 1) (root_at y 0))
    (e13 : d13 ≡ between (root_at z 1) (root_at y 1)) (e23 : d23 ≡ between (root_at y 0) (root_at y 1))
    (f0 : b0 ≡ judged_by None (root_at z 0) (d01 ∷ d02 ∷ d03 ∷ []) (d12 ∷ d13 ∷ d23 ∷ []))
    (f1 : b1 ≡ judged_by b0 (root_at z 1) (d01 ∷ d12 ∷ d13 ∷ []) (d02 ∷ d03 ∷ d23 ∷ []))
    (f2 : b2 ≡ judged_by b1 (root_at y 0) (d02 ∷ d12 ∷ d23 ∷ []) (d01 ∷ d03 ∷ d13 ∷ []))
    (f3 : b3 ≡ judged_by b2 (root_at y 1) (d03 ∷ d13 ∷ d23 ∷ []) (d01 ∷ d02 ∷ d12 ∷ [])) where
  pub in_turn : b3 ≡ best_root_of quads
  unfolding best_root_of count_up
  in_turn = rw (sym ez, sym ey) (rw (f3, f2, f1, f0, e01, e02, e03, e12, e13, e23))

-- ---- the roots of a quadratic, by the root of its discriminant's size

module _ (al be : Float) {s : Disc} (is : s ≡ disc_of al be) where
  the_disc : s.disc ≡ discriminant_of al be
  unfolding disc_of
  the_disc = ap (λ (t : Disc). t.disc) is

  the_root : s.root ≡ sqrt_of (abs_of (discriminant_of al be))
  unfolding disc_of
  the_root = ap (λ (t : Disc). t.root) is

  -- where the discriminant is at least 0
  pub far_is : {q : Float} → le zero64 s.disc ≡ true → q ≡ far_by al s.root → q ≡ far_root_of al (discriminant_of al be)
  unfolding far_by far_root_of
  far_is h is-q = is-q ∙ rw (the_root, least_root (discriminant_of al be) al (rw the_disc at h))

  pub real_pair : {q o : Float} → le zero64 s.disc ≡ true → q ≡ far_by al s.root → o ≡ over_or be q zero64
      → complex q zero64 ∷ complex o zero64 ∷ [] ≡ root_pair_of al be
  unfolding root_pair_of
  real_pair h is-q is-o = if_taken _ _ (rw the_disc at h) (rw (is-o, far_is h is-q))

  pub complex_pair : le zero64 s.disc ≡ false
      → root_pair_of al be ≡ complex (mul binary64 (neg half64) al) (mul binary64 half64 s.root)
      ∷ complex (mul binary64 (neg half64) al) (neg (mul binary64 half64 s.root)) ∷ []
  unfolding root_pair_of
  complex_pair h = sym (if_left _ _ (rw the_disc at h) (rw (the_root, below_root (discriminant_of al be) (rw the_disc at h))))

-- an isolated root, if there is one, of the two quadratics
pub mapped : (o : Option Best) (r : Option Float) {P : Best → Float → Type 0} → ((b : Best) (x : Float) → P b x → x ≡ b.root)
    → MatchOption o (r ≡ None) (λ b. IsSomeAnd r (P b)) → r ≡ lone_of o
mapped None r step h = h
mapped (Some b) (Some x) step h = ap Some (step b x h)
mapped (Some b) None step h = absurd h

pub is_lone : (quads : QuarticFactor) (far : Option Float) → far ≡ lone_of (best_root_of quads)
    → record { far = far; first = disc_of quads.al quads.be; second = disc_of quads.ga quads.de } ≡ isolated_of quads
unfolding isolated_of isolated_root_of
is_lone quads far e = rw e
