-- From `nearest_best` to the words of specs/Demands, and what a finite double is that is not zero.
use mathlib.Core.Path.{◌≡◌, refl, sym, ap, ◌∙◌}
use mathlib.Core.Bool.{Bool, true, false, not, cond, true≢false}
use Prim.Native.Nat.{ℕ, zero, suc, ◌+◌, ◌*◌, ◌^◌, ◌≤◌, ◌<◌}
use native.Mathlib.Nat.{add-zero, zero-lt-suc}
use native.Mathlib.Numerals.{add-one}
use borrow.Author.Tests.{lt-ltb}
use lib.Dec.{T}
use lib.IntN.{ℤ}
use lib.Ieee.{Float, nan, inf, fin, binary64, neg}
use lib.Ieee.Bits.{is_true}
use lib.Ieee.Fits.{neg-fits}
use lib.Ieee.Exact.{HasValue}
use lib.Ieee.Positive.{positive}
use Rattle.float.specs.Methods.{is_finite_of, is_sign_negative_of}
use Rattle.float.specs.Units.{units_of, Finite}
use Rattle.float.proofs.Bits.{of_true}
use Rattle.decode.specs.Exponent.{regular_of}
use Rattle.decode.proofs.Class.{regular_units}
use Rattle.nearest.specs.Greatest.{nearest_of}
use Rattle.nearest.proofs.Best.{part, nearest_value, nearest_fits, nearest_best}
use Rattle.demands.specs.Demands.{Nearest}

pub has_sign : (x : Float) (s : Bool) (a c : ℕ) → HasValue x s a c → (is_finite_of x ≡ true) × (is_sign_negative_of x ≡ s)
unfolding is_finite_of is_sign_negative_of
has_sign nan s a c h = absurd h
has_sign (inf t) s a c h = absurd h
has_sign (fin t m e) s a c h = (refl, h.0)

-- t passes the test and t + 1 does not: the number is t where it is exact, and less than t + 1 elsewhere
pub nearest_is : (t : ℕ) (exact : Bool) → t < 2 ^ 2000 → (exact ≡ false → 2 ^ 53 ≤ t) → (under over : ℕ → Type 0)
    → ((a b : ℕ) → a ≤ b → under b → under a) → ((a b : ℕ) → a ≤ b → over a → over b) → under (2 * t) → (T exact → over (2 * t))
    → over (2 * suc t) → Nearest false under over (nearest_of t exact)
nearest_is t exact small big under over down up lo is hi =
    let v = has_sign (nearest_of t exact) false (units_of (nearest_of t exact)) (2 ^ 1074) (nearest_value t exact small) in
    let best = nearest_best t exact small big under over down up lo (above exact is) in
    record {
      finite = record { held = nearest_fits t exact small; finite = v.0 };
      sign = v.1;
      smaller = λ d f l. (best d f.held f.finite).0 l;
      larger = λ d f l. (best d f.held f.finite).1 l;
    }
  where
    above : (exact : Bool) → (T exact → over (2 * t)) → over (2 * (t + part exact))
    above true is = rw add-zero (is tt)
    above false is = rw add-one hi

-- ---- a finite double that is not zero

pub regular_is : (x : Float) → regular_of x ≡ true → (m : ℕ) × (e : ℤ) × (x ≡ fin (is_sign_negative_of x) (suc m) e)
unfolding is_sign_negative_of
regular_is nan p = absurd (true≢false (sym p))
regular_is (inf s) p = absurd (true≢false (sym p))
regular_is (fin s zero e) p = absurd (true≢false (sym p))
regular_is (fin s (suc m) e) p = (m, e, refl)

pub positive_is : (x : Float) → positive x ≡ true → (m : ℕ) × (e : ℤ) × (x ≡ fin false (suc m) e)
positive_is nan p = absurd (true≢false (sym p))
positive_is (inf s) p = absurd (true≢false (sym p))
positive_is (fin true m e) p = absurd (true≢false (sym p))
positive_is (fin false zero e) p = absurd (true≢false (sym p))
positive_is (fin false (suc m) e) p = (m, e, refl)

pub positive_units : (x : Float) → Finite x → positive x ≡ true → 0 < units_of x
positive_units x f p = let v = positive_is x p in regular_units x f.held (ap regular_of v.2 ∙ lt-ltb 0 (suc v.0) (zero-lt-suc v.0))

-- ---- the same number in other words, and with a sign

pub in_words : {s : Bool} {under over : ℕ → Type 0} {r : Float} (below above : ℕ → Type 0) → ((h : ℕ) → under h → below h)
    → ((h : ℕ) → over h → above h) → Nearest s under over r → Nearest s below above r
in_words {r = r} below above u o n = record {
  finite = n.finite;
  sign = n.sign;
  smaller = λ d f l. u (units_of r + units_of d) (n.smaller d f l);
  larger = λ d f l. o (units_of r + units_of d) (n.larger d f l);
}

neg_units : (x : Float) → units_of (neg x) ≡ units_of x
unfolding neg
neg_units nan = refl
neg_units (inf s) = refl
neg_units (fin s m e) = refl

neg_sign : (x : Float) → is_finite_of x ≡ true → (is_finite_of (neg x) ≡ true) × (is_sign_negative_of (neg x) ≡ not (is_sign_negative_of x))
unfolding neg is_finite_of is_sign_negative_of
neg_sign nan f = absurd (true≢false (sym f))
neg_sign (inf s) f = absurd (true≢false (sym f))
neg_sign (fin s m e) f = (refl, refl)

pub signed : {under over : ℕ → Type 0} (s : Bool) (r : Float) → Nearest false under over r → Nearest s under over (cond s (neg r) r)
signed false r n = n
signed {under} {over} true r n = record {
  finite = record { held = is_true _ (neg-fits binary64 r (of_true n.finite.held)); finite = (neg_sign r n.finite.finite).0 };
  sign = (neg_sign r n.finite.finite).1 ∙ ap not n.sign;
  smaller = λ d f. rw (neg_units r) (n.smaller d f);
  larger = λ d f. rw (neg_units r) (n.larger d f);
}
