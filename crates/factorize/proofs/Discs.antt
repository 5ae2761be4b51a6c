-- Factors with their discriminants, from the factors alone.
use mathlib.Core.Path.{◌≡◌, refl, sym, ap, ◌∙◌}
use mathlib.Core.List.{[], ◌∷◌}
use Prim.Native.Nat.{ℕ, zero, suc, ◌<◌, ◌≤◌}
use native.Mathlib.Omega.{arith}
use borrow.Author.Tests.{lt-ltb}
use lib.ListN.{get_or}
use lib.Ieee.{Float, nan}
use Rattle.quartic.specs.declared.QuarticFactor.{QuarticFactor}
use Rattle.isolated.specs.declared.Pairing.{Pairing}
use Rattle.isolated.specs.Isolated.{disc_of, isolated_of, isolated_root_of}
use Rattle.factors.specs.declared.Factors.{Factors}
use Rattle.factors.specs.Factors.{no_factors, push_quad_of, quad_at}
use Rattle.factorize.specs.declared.Rooted.{Rooted}
use Rattle.factorize.specs.Discs.{disc_at, rooted_of}

pub the_factors : {r : Rooted} {f : Factors} → r ≡ rooted_of f → r.f ≡ f
unfolding rooted_of
the_factors is = ap (λ (s : Rooted). s.f) is

-- the same for what those factors are
pub handed_on_is : {r : Rooted} (f : Factors) {g : Factors} → r ≡ rooted_of f → r.f ≡ g → r ≡ rooted_of g
handed_on_is f is h = is ∙ ap rooted_of (sym (the_factors is) ∙ h)

pub is_far : {s : Pairing} (quads : QuarticFactor) → s ≡ isolated_of quads → s.far ≡ isolated_root_of quads
unfolding isolated_of
is_far quads is = ap (λ (p : Pairing). p.far) is

two_rooted : (al be ga de : Float)
    → record { f = push_quad_of (push_quad_of no_factors al be) ga de; disc = disc_of al be ∷ disc_of ga de ∷ [] }
    ≡ rooted_of (push_quad_of (push_quad_of no_factors al be) ga de)
unfolding rooted_of disc_at push_quad_of
two_rooted al be ga de = refl

-- two quadratics with the discriminants that `isolated` took
pub in_two : {s : Pairing} (quads : QuarticFactor) {n m f : Factors} (g : Factors) → s ≡ isolated_of quads → n ≡ no_factors
    → m ≡ push_quad_of n quads.al quads.be → f ≡ push_quad_of m quads.ga quads.de
    → f ≡ g → record { f = f; disc = s.first ∷ s.second ∷ [] } ≡ rooted_of g
unfolding isolated_of
in_two quads g is N M F h =
    handed_on_is (push_quad_of (push_quad_of no_factors quads.al quads.be) quads.ga quads.de)
    (rw (is, F, M, N) (two_rooted quads.al quads.be quads.ga quads.de)) h

-- disc[i] is the discriminant of quad[i]
pub disc_is : (r : Rooted) (i : ℕ) → r ≡ rooted_of r.f → i < r.f.nquad → r.f.nquad ≤ 2
    → get_or r.disc i (record { disc = nan; root = nan }) ≡ disc_of (quad_at r.f i).al (quad_at r.f i).be
unfolding rooted_of disc_at
disc_is r zero is h m = ap (λ (s : Rooted). get_or s.disc 0 (record { disc = nan; root = nan })) is ∙ rw (lt-ltb 0 r.f.nquad h)
disc_is r (suc zero) is h m = ap (λ (s : Rooted). get_or s.disc 1 (record { disc = nan; root = nan })) is ∙ rw (lt-ltb 1 r.f.nquad h)
disc_is r (suc (suc i)) is h m = absurd (omega arith)
