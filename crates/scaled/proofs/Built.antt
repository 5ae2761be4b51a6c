-- The degree, the logarithms, and what the parts of Scaled::new rest on where one function hands an i32 to another, which stands there as the machine reads it.
use mathlib.Core.Path.{◌≡◌, refl}
use mathlib.Core.Bool.{true}
use mathlib.Core.List.{List, [], ◌∷◌}
use Prim.Native.Nat.{ℕ, ◌^◌, ◌≤◌, ◌<◌}
use borrow.Author.Tests.{le-leb, lt-leb}
use lib.IntN.{ℤ, ◌+ℤ◌, ◌*ℤ◌, nat_abs}
use lib.ListN.{get_or, replicate}
use lib.Ieee.{Float, nan, binary64, fits, neg, of_bits}
use mir.Syntax.{w32}
use mir.Val.{to_z, of_z}
use Rattle.decode.specs.Exponent.{exponent_of}
use Rattle.facts.specs.Arrays.{from_fn}
use Rattle.log2.specs.Log.{log2_five_of}
use Rattle.scaled.specs.Scaled.{top_of, coefficient_of, coefficients_of, sizes_of}
use Rattle.scaled.specs.Scaled.{log_size_of, log_sizes_of, scaled_of}
use Rattle.scaled.proofs.Signed.{back, negated, sum, sum_small}
use Rattle.scaled.proofs.Digits.{exponent_small}
use Rattle.scaled.proofs.Best.{exponent_bounded}

pub degree_is : (a : List Float) (d : ℕ) → (scaled_of a d).d ≡ d
unfolding scaled_of
degree_is a d = refl

-- the five coefficients, e' for e and top' for top as the machine reads them
pub coefficients_are : (a : List Float) (d : ℕ) (e e' top top' : ℤ) → e' ≡ e → top' ≡ top
    → (x0 x1 x2 x3 x4 : Float) → x0 ≡ coefficient_of a d e' top' 0 → x1 ≡ coefficient_of a d e' top' 1
    → x2 ≡ coefficient_of a d e' top' 2 → x3 ≡ coefficient_of a d e' top' 3 → x4 ≡ coefficient_of a d e' top' 4
    → x0 ∷ x1 ∷ x2 ∷ x3 ∷ x4 ∷ [] ≡ coefficients_of a d e top
unfolding coefficients_of
coefficients_are a d e e' top top' E T x0 x1 x2 x3 x4 h0 h1 h2 h3 h4 = rw (h0, h1, h2, h3, h4, E, T)

-- f64::NEG_INFINITY
abbrev pub least : Float
least = of_bits binary64 0xfff0_0000_0000_0000

pub no_logs : (a : List Float) (d : ℕ) (e top : ℤ) → d < 3 → replicate 5 least ≡ log_sizes_of a d e top
unfolding log_sizes_of of_bits neg
no_logs a d e top h = rw (lt-leb 3 d h)

pub logs_are : (a : List Float) (d : ℕ) (e top : ℤ) (s l lg : List Float) → 3 ≤ d → s ≡ sizes_of a → l ≡ log2_five_of s
    → lg ≡ from_fn 5 (λ i. log_size_of (get_or l i nan) d e top i) → lg ≡ log_sizes_of a d e top
unfolding log_sizes_of
logs_are a d e top s l lg h S L G = rw (G, le-leb 3 d h, L, S)

pub no_log : (l : Float) (d : ℕ) (e top : ℤ) (i : ℕ) → d < i → log_size_of l d e top i ≡ least
unfolding log_size_of of_bits neg
no_log l d e top i h = rw (lt-leb i d h)

-- the leading coefficient's exponent, as the machine computes it
pub top_is : (x : Float) (e : ℤ) (d : ℕ) → fits binary64 x ≡ true → nat_abs e ≤ 2 ^ 13 → d ≤ 4 → (t : ℤ) → t ≡ exponent_of x
    → let m = to_z w32 (of_z w32 (to_z w32 (of_z w32 t) +ℤ to_z w32 (of_z w32 (to_z w32 (of_z w32 e) *ℤ to_z w32 d)))) in
    (m ≡ top_of x e d) × (nat_abs m ≤ 2 ^ 16)
unfolding top_of
top_is x e d W E D t q =
    let m = sum e d E D (exponent_of x) (exponent_small x W) in
    rw (q, m.is) (refl, sum_small e d E D (exponent_of x) (exponent_small x W))

-- An exponent is small, also as the machine reads it.
pub ruleset built = (exponent_bounded, back, negated)
