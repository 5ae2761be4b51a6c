-- How many systems are solved for a contact: those of the list of the coefficients made, where the record passes the tests, and none where not.
use mathlib.Core.Path.{◌≡◌, refl, sym, ap, ◌∙◌}
use mathlib.Core.Bool.{true, false}
use mathlib.Core.List.{List}
use Prim.Native.Nat.{ℕ, ◌<◌}
use native.Mathlib.Omega.{arith}
use lib.Ieee.{Float, lt}
use Rattle.float.specs.Literals.{zero64}
use Rattle.float.specs.Methods.{all_finite_of}
use Rattle.angle.specs.declared.Sine.{Sine}
use Rattle.poly.specs.Coefficients.{counted_by, refusal_of}
use Rattle.poly.specs.RealRoots.{real_roots_systems_of}
use Rattle.poly.proofs.Systems.{none_refused}
use Rattle.contact.specs.declared.Path.{Path}
use Rattle.contact.specs.declared.Circle.{Circle}
use Rattle.contact.specs.Contact.{numbers_of, seen_of, coefficients_of, made_of, pin_contact_systems_of}

not_finite : (coeffs : List Float) → all_finite_of coeffs ≡ false → 0 < refusal_of coeffs
unfolding counted_by
not_finite coeffs h = rw h (omega arith)

module _ (sine : Sine) (confusion : Float) (path : Path) (circle : Circle) where
  pub none_by_record : all_finite_of (numbers_of confusion path circle) ≡ false → 0 ≡ pin_contact_systems_of sine confusion path circle
  unfolding pin_contact_systems_of
  none_by_record h = rw h refl

  pub none_by_radius : all_finite_of (numbers_of confusion path circle) ≡ true → lt zero64 circle.r ≡ false
      → 0 ≡ pin_contact_systems_of sine confusion path circle
  unfolding pin_contact_systems_of
  none_by_radius h g = rw (h, g) refl

  module _ (p : Path) (made : List Float) (is-p : p ≡ seen_of path circle) (is-made : made ≡ coefficients_of p circle.r)
      (h : all_finite_of (numbers_of confusion path circle) ≡ true) (g : lt zero64 circle.r ≡ true) where
    pub listed_systems : {n : ℕ} → n ≡ real_roots_systems_of sine made confusion → n ≡ pin_contact_systems_of sine confusion path circle
    unfolding pin_contact_systems_of
    listed_systems is =
        let told : made ≡ made_of path circle = is-made ∙ ap (λ (q : Path). coefficients_of q circle.r) is-p in
        is ∙ rw (told, h, g) refl

    pub none_by_made : all_finite_of made ≡ false → 0 ≡ pin_contact_systems_of sine confusion path circle
    none_by_made m = listed_systems (sym (none_refused sine made confusion (not_finite made m)))
