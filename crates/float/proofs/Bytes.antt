-- Writing eight bytes, and reading them back.
use mathlib.Core.Path.{◌≡◌, refl, sym, ap, ◌∙◌}
use mathlib.Core.List.{List, [], ◌∷◌, ◌++◌, append_assoc}
use Prim.Native.Nat.{ℕ, zero, suc, ◌+◌, ◌-◌, ◌/◌, ◌%◌, ◌^◌, ◌<◌, ◌≤◌}
use native.Mathlib.Nat.{mod-add-div, mod-eq_of_lt, add-zero}
use native.Mathlib.Omega.{arith}
use mir.Syntax.{w64}
use borrow.Rule.Slice.PartMut.{put_mid}
use Rattle.std.specs.Int.{to_le_bytes}
use lib.Dec.{T}
use lib.ListN.{length, take, drop, get_or, set, length-set}
use lib.Seq.{sets, sets-eq, drop-drop, get_or-set_same, get_or-set_other}
use lib.Ieee.{Float, binary64, fits, of_bits, to_bits}
use lib.Ieee.Bits.{of_bits-to_bits}
use Rattle.float.specs.Bytes.{u64_at, f64_at, low_bytes, bytes_of}
use Rattle.float.proofs.Bits.{bits_below}

-- ---- writing

-- the bytes of std's `to_le_bytes`
pub le_bytes : (n : ℕ) → to_le_bytes w64 n ≡ bytes_of n
unfolding bytes_of
le_bytes n =
    let a : n / 65536 ≡ n / 256 / 256 = omega arith in
    let b : n / 16777216 ≡ n / 256 / 256 / 256 = omega arith in
    let c : n / 4294967296 ≡ n / 256 / 256 / 256 / 256 = omega arith in
    let d : n / 1099511627776 ≡ n / 256 / 256 / 256 / 256 / 256 = omega arith in
    let e : n / 281474976710656 ≡ n / 256 / 256 / 256 / 256 / 256 / 256 = omega arith in
    let f : n / 72057594037927936 ≡ n / 256 / 256 / 256 / 256 / 256 / 256 / 256 = omega arith in
    simp (a, b, c, d, e, f)

-- stored in a part of a buffer
pub stored : (l vs ws : List ℕ) (at k : ℕ) → ws ≡ vs → k ≡ length vs → at + length vs ≤ length l → put_mid at k l ws ≡ sets l at vs
stored l vs ws at k e n h =
    ap (λ (x : List ℕ). take at l ++ (x ++ drop k (drop at l))) e
    ∙ ap (λ (x : List ℕ). take at l ++ (vs ++ x)) (drop-drop k at l ∙ ap (λ (j : ℕ). drop (at + j) l) n)
    ∙ sym (append_assoc (take at l) vs _) ∙ sym (sets-eq vs l at h)

-- ---- writing byte by byte: what is left, done to the buffer as it is, is the whole

pub put_turn : (l : List ℕ) (at i n : ℕ) → i < 8 → sets l (at + i) (low_bytes (8 - i) n)
    ≡ sets (set l (at + i) (n % 256)) (at + (i + 1)) (low_bytes (8 - (i + 1)) (n / 256))
put_turn l at i n h =
    let e : 8 - i ≡ suc (8 - (i + 1)) = omega arith in
    let f : suc (at + i) ≡ at + (i + 1) = omega arith in
    ap (λ (k : ℕ). sets l (at + i) (low_bytes k n)) e ∙ ap (λ (j : ℕ). sets (set l (at + i) (n % 256)) j (low_bytes (8 - (i + 1)) (n / 256))) f

pub put_end : (l : List ℕ) (at i n : ℕ) → 8 ≤ i → sets l (at + i) (low_bytes (8 - i) n) ≡ l
put_end l at i n h = let e : 8 - i ≡ 0 = omega arith in ap (λ (k : ℕ). sets l (at + i) (low_bytes k n)) e

-- ---- reading back

-- the bytes before the run stay, and those of the run are read one by one
before_run : (l vs : List ℕ) (i j : ℕ) → j < i → get_or (sets l i vs) j 0 ≡ get_or l j 0
before_run l [] i j h = refl
before_run l (v ∷ vs) i j h = before_run (set l i v) vs (suc i) j (omega arith) ∙ get_or-set_other l i j v 0 no
  where
    no : j ≡ i → ⊥
    no e = omega arith

pub run_at : (l vs : List ℕ) (at i : ℕ) → i < length vs → at + length vs ≤ length l → get_or (sets l at vs) (at + i) 0 ≡ get_or vs i 0
run_at l [] at i h g = absurd (none h)
  where
    none : i < 0 → ⊥
    none h = omega arith
run_at l (v ∷ vs) at zero h g =
    ap (λ (j : ℕ). get_or (sets (set l at v) (suc at) vs) j 0) (add-zero at) ∙ before_run (set l at v) vs (suc at) at (omega arith)
    ∙ get_or-set_same l at v 0 (omega arith)
run_at l (v ∷ vs) at (suc i) h g =
    let e : at + suc i ≡ suc at + i = omega arith in
    ap (λ (j : ℕ). get_or (sets (set l at v) (suc at) vs) j 0) e ∙ run_at (set l at v) vs (suc at) i (omega arith) (simp length-set (omega arith))

-- eight bytes hold a number below 2 ^ 64
pub u64_of_bytes : (n : ℕ) → n < 2 ^ 64 → u64_at (bytes_of n) 0 ≡ n
unfolding bytes_of
u64_of_bytes n h = simp (mod-eq_of_lt (let l : n / 256 / 256 / 256 / 256 / 256 / 256 / 256 < 256 = omega arith in l), mod-add-div)

-- there are eight of them
pub length_bytes : (n : ℕ) → length (bytes_of n) ≡ 8
unfolding bytes_of
length_bytes n = refl

-- the number turns on the eight bytes alone
same_bytes : (s vs : List ℕ) (at : ℕ) → ((i : ℕ) → i < 8 → get_or s (at + i) 0 ≡ get_or vs i 0) → u64_at s at ≡ u64_at vs 0
same_bytes s vs at h =
    let first : get_or s at 0 ≡ get_or vs 0 0 = ap (λ (j : ℕ). get_or s j 0) (sym (add-zero at)) ∙ h 0 (omega arith) in
    simp (first, h 1 (omega arith), h 2 (omega arith), h 3 (omega arith), h 4 (omega arith), h 5 (omega arith), h 6 (omega arith), h 7 (omega arith))

-- what put_u64 wrote is what u64_at reads
pub u64_back : (l : List ℕ) (at n : ℕ) → at + 8 ≤ length l → n < 2 ^ 64 → u64_at (sets l at (bytes_of n)) at ≡ n
u64_back l at n g h =
    same_bytes (sets l at (bytes_of n)) (bytes_of n) at (λ i k. run_at l (bytes_of n) at i (rw length_bytes k) (rw length_bytes g)) ∙ u64_of_bytes n h

-- what put_f64 wrote is what f64_at reads
pub f64_back : (l : List ℕ) (at : ℕ) (x : Float) → at + 8 ≤ length l → T (fits binary64 x) → f64_at (sets l at (bytes_of (to_bits binary64 x))) at ≡ x
unfolding f64_at
f64_back l at x g t = ap (of_bits binary64) (u64_back l at (to_bits binary64 x) g (bits_below x t)) ∙ of_bits-to_bits binary64 x t
