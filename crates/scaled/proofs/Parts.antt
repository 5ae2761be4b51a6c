-- The parts of Scaled::new put together. An i32 that one function hands to another stands there as the machine reads it, e' for e and top' for top.
use mathlib.Core.Path.{◌≡◌}
use mathlib.Core.List.{List}
use Prim.Native.Nat.{ℕ}
use lib.IntN.{ℤ, neg_ℤ}
use lib.ListN.{get_or}
use lib.Ieee.{Float, nan}
use Rattle.float.specs.Literals.{one64}
use Rattle.ldexp.specs.Scale.{ldexp_of}
use Rattle.scaled.specs.Exponent.{scale_exponent_of}
use Rattle.scaled.specs.Scaled.{top_of, coefficients_of, monic_of, log_sizes_of, scaled_of, with_logs_of}

pub built : (a : List Float) (d l : ℕ) (e e' top top' m : ℤ) (f g lg : List Float) (unit : Float)
    → e ≡ scale_exponent_of a d → e' ≡ e
    → top ≡ top_of (get_or a d nan) e' d → top' ≡ top
    → f ≡ coefficients_of a d e' top' → g ≡ monic_of f d → lg ≡ log_sizes_of a l e' top'
    → m ≡ neg_ℤ e → unit ≡ ldexp_of one64 m
    → record { f = f; g = g; lg = lg; d = d; e = e'; unit = unit } ≡ with_logs_of a d l
unfolding scaled_of with_logs_of
built a d l e e' top top' m f g lg unit E E' T T' F G L M U = rw (U, M, L, G, F, T', T, E', E)
