-- A turn of the compensated Horner rule on doubles: how far the value and its correction, together, are from the exact polynomial (`step`).
-- v and r are the value and its correction so far, Q / S units the exact value, and 2 ^ 53 h units bound the sum of the sizes of its terms, up to ε 2 ^ 53.
-- Kept are
--   |v| ≤ 2 ^ 53 h + α h + β      |r| ≤ ρ h + τ      2 ^ 53 |v + r - Q / S| ≤ κ h + b
-- and a turn with |y| ≤ 4 and |c| ≤ 2 makes of them
--   α + 4      4 β + 3      ρ + 8      6 τ + 2 ^ 66      κ + 2 ρ + 26      4 b + 9 τ + 2 ^ 118      4 ε + 1
-- The argument on numbers is that of rounding's Step.
use mathlib.Core.Path.{◌≡◌, sym, ap, subst}
use Prim.Native.Nat.{ℕ, zero, suc, ◌+◌, ◌*◌, ◌/◌, ◌^◌, ◌≤◌, ◌<◌}
use native.Mathlib.Nat.{add-le-add, le_refl, le_trans, le_of_eq, le_of_lt, mul-le-mul_right, mul-le-mul_left, mul-pos, div-mul-le_self, lt-div-mul-add}
use native.Mathlib.Omega.{arith}
use lib.Dec.{lit<, lit≤}
use lib.Ieee.{Float}
use Rattle.rounding.specs.Units.{one_units}
use Rattle.rounding.specs.Diff.{Diff, ◌⊞◌, ◌⊟◌, ◌⊠◌, ◌⊡◌, Apart, magnitude}
use Rattle.rounding.proofs.Value.{one_pos}
use Rattle.rounding.proofs.Diff.{apart_le, apart_times, product_within, within_magnitude}
use Rattle.rounding.proofs.Num.{Num, add_num, mul_num, rounded_side}
use Rattle.rounding.proofs.Step.{grown, Stepped, stepped}
use Rattle.horner.specs.Horner.{Horner, compensated_step}
use Rattle.accuracy.proofs.Product.{product_num}
use Rattle.accuracy.proofs.Sum.{sum_num}

-- ---- what was lost; and coarse bounds kv and ke on the value and its correction, against overflow
pub record Loss : Type 0 where
  pub α : ℕ
  pub β : ℕ
  pub ρ : ℕ
  pub τ : ℕ
  pub κ : ℕ
  pub b : ℕ
  pub ε : ℕ
  pub kv : ℕ
  pub ke : ℕ

-- what a turn makes of it
abbrev pub grow : Loss → Loss
grow L =
    let p = 2 * (L.kv * 4) + 1 in
    record {
      α = L.α + 4;
      β = 4 * L.β + 3;
      ρ = L.ρ + 8;
      τ = 6 * L.τ + 2 ^ 66;
      κ = L.κ + (2 * L.ρ + 26);
      b = 4 * L.b + (9 * L.τ + 2 ^ 118);
      ε = 4 * L.ε + 1;
      kv = 2 * (p + 2);
      ke = 2 * (2 * (L.ke * 4) + 1 + 2 * (3 * (L.kv * 4) + 3 + 96 * (p + 2)));
    }

-- after n turns
abbrev pub loss : ℕ → Loss
loss zero = record { α = 0; β = 0; ρ = 0; τ = 0; κ = 0; b = 0; ε = 1; kv = 2; ke = 0 }
loss (suc n) = grow (loss n)

-- small enough for one more
abbrev pub Modest : Loss → Type 0
Modest L = (L.α ≤ 2 ^ 20) × (L.β ≤ 2 ^ 20) × (L.ρ ≤ 2 ^ 20) × (L.kv ≤ 2 ^ 20) × (L.ke ≤ 2 ^ 60)

-- ---- after some coefficients: the rule's locals, and the exact value Q / S, whose terms' sizes add up to magnitude Q / S
pub record State (H : Horner) (Q : Diff) (S h : ℕ) (L : Loss) : Type 0 where
  pub vn : Num H.v L.kv
  pub rn : Num H.err L.ke
  pub v_size : magnitude vn.v ≤ 2 ^ 53 * h + (L.α * h + L.β)
  pub r_size : magnitude rn.v ≤ L.ρ * h + L.τ
  pub close : Apart ((vn.v ⊞ rn.v) ⊡ S ⊡ 2 ^ 53) (Q ⊡ 2 ^ 53) ((L.κ * h + L.b) * S)
  pub bound : 2 ^ 53 * (h * S) ≤ magnitude Q + 2 ^ 53 * (L.ε * S)

-- ---- the distance, carried over a turn, on plain numbers
carried : (A U R C Q : Diff) (b1 b2 : ℕ) → Apart A (U ⊞ R ⊞ C) b1 → Apart (U ⊞ R) Q b2 → Apart A (C ⊞ Q) (b1 + b2)
carried A U R C Q b1 b2 h l = (omega arith, omega arith)

-- (v + r) S W - Q W is at most b, times y
placed : (v r Q y : Diff) (S W b : ℕ) → Apart ((v ⊞ r) ⊡ S ⊡ W) (Q ⊡ W) b
    → Apart ((v ⊠ y) ⊡ W ⊡ S ⊞ (r ⊠ y) ⊡ W ⊡ S) ((Q ⊠ y) ⊡ W) (b * magnitude y)
placed v r Q y S W b h =
    let X : Diff = (v ⊞ r) ⊡ S ⊡ W ⊟ Q ⊡ W in
    let w = product_within X y b (magnitude y) (h.0, h.1) (within_magnitude y) in
    let l = expand v.p v.n r.p r.n Q.p Q.n y.p y.n S W in
    let m = expand v.p v.n r.p r.n Q.p Q.n y.n y.p S W in (
      le_trans (le_of_eq (sym l)) (le_trans w.0 (le_of_eq (ap (λ (z : ℕ). z + b * magnitude y) m))),
      le_trans (le_of_eq (sym m)) (le_trans w.1 (le_of_eq (ap (λ (z : ℕ). z + b * magnitude y) l))),
    )
  where
    expand : (v w r s q t y z S W : ℕ)
        → ((v + r) * S * W + t * W) * y + ((w + s) * S * W + q * W) * z ≡ (v * y + w * z) * W * S + (r * y + s * z) * W * S + (q * z + t * y) * W
    expand v w r s q t y z S W = omega arith

advanced : (s e c v r Q y : Diff) (S D W a b : ℕ)
    → Apart ((s ⊞ e) ⊡ D ⊡ W) ((v ⊠ y) ⊡ W ⊞ (r ⊠ y) ⊡ W ⊞ c ⊡ D ⊡ W) (a * D) → Apart ((v ⊞ r) ⊡ S ⊡ W) (Q ⊡ W) (b * S)
    → Apart ((s ⊞ e) ⊡ (S * D) ⊡ W) ((c ⊡ (S * D) ⊞ Q ⊠ y) ⊡ W) (a * D * S + b * S * magnitude y)
advanced s e c v r Q y S D W a b h l =
    let t = apart_times ((s ⊞ e) ⊡ D ⊡ W) ((v ⊠ y) ⊡ W ⊞ (r ⊠ y) ⊡ W ⊞ c ⊡ D ⊡ W) (a * D) S h in
    let u = spread ((s ⊞ e) ⊡ D ⊡ W ⊡ S) ((v ⊠ y) ⊡ W) ((r ⊠ y) ⊡ W) (c ⊡ D ⊡ W) S (a * D * S) t in
    let w = carried ((s ⊞ e) ⊡ D ⊡ W ⊡ S) ((v ⊠ y) ⊡ W ⊡ S) ((r ⊠ y) ⊡ W ⊡ S) (c ⊡ D ⊡ W ⊡ S) ((Q ⊠ y) ⊡ W) (a * D * S) (b * S * magnitude y)
    u (placed v r Q y S W (b * S) l) in
    renamed (s ⊞ e) c (Q ⊠ y) S D W (a * D * S + b * S * magnitude y) w
  where
    spread : (x u r c : Diff) (S b : ℕ) → Apart x ((u ⊞ r ⊞ c) ⊡ S) b → Apart x (u ⊡ S ⊞ r ⊡ S ⊞ c ⊡ S) b
    spread x u r c S b h = (omega arith, omega arith)

    renamed : (t c q : Diff) (S D W b : ℕ) → Apart (t ⊡ D ⊡ W ⊡ S) (c ⊡ D ⊡ W ⊡ S ⊞ q ⊡ W) b → Apart (t ⊡ (S * D) ⊡ W) ((c ⊡ (S * D) ⊞ q) ⊡ W) b
    renamed t c q S D W b h = (omega arith, omega arith)

-- ---- the next h: 2 ^ 53 times it covers the terms, of h Y and C units, and one less does not
pub next_h : ℕ → ℕ → ℕ → ℕ → ℕ
next_h h Y C s = (2 ^ 53 * (h * Y) + C * s) / (2 ^ 53 * s) + 1

next_covers : (h Y C s : ℕ) → 0 < s → 2 ^ 53 * (h * Y) + C * s ≤ 2 ^ 53 * (next_h h Y C s * s)
unfolding next_h
next_covers h Y C s S = le_trans (le_of_lt (lt-div-mul-add (mul-pos (lit< tt) S))) (le_of_eq (go ((2 ^ 53 * (h * Y) + C * s) / (2 ^ 53 * s)) s))
  where
    go : (q s : ℕ) → q * (2 ^ 53 * s) + 2 ^ 53 * s ≡ 2 ^ 53 * ((q + 1) * s)
    go q s = omega arith

next_tight : (h Y C s : ℕ) → 2 ^ 53 * (next_h h Y C s * s) ≤ 2 ^ 53 * (h * Y) + C * s + 2 ^ 53 * s
unfolding next_h
next_tight h Y C s =
    le_trans (le_of_eq (go ((2 ^ 53 * (h * Y) + C * s) / (2 ^ 53 * s)) s))
    (add-le-add (div-mul-le_self (2 ^ 53 * (h * Y) + C * s) (2 ^ 53 * s)) (le_refl (2 ^ 53 * s)))
  where
    go : (q s : ℕ) → 2 ^ 53 * ((q + 1) * s) ≡ q * (2 ^ 53 * s) + 2 ^ 53 * s
    go q s = omega arith

-- the sum of the sizes of the terms, after the turn
terms_next : (Q y c : Diff) (h k s S ε : ℕ) → 2 ^ 53 * (k * s) ≤ 2 ^ 53 * (h * magnitude y) + magnitude c * s + 2 ^ 53 * s → magnitude y ≤ 4 * s
    → 2 ^ 53 * (h * S) ≤ magnitude Q + 2 ^ 53 * (ε * S) → 2 ^ 53 * (k * (S * s)) ≤ magnitude (c ⊡ (S * s) ⊞ Q ⊠ y) + 2 ^ 53 * ((4 * ε + 1) * (S * s))
terms_next Q y c h k s S ε l p b =
    le_trans (go (magnitude Q) (magnitude y) (magnitude c) l p b) (le_of_eq (ap (λ (z : ℕ). z + 2 ^ 53 * ((4 * ε + 1) * (S * s))) (spread Q y c (S * s))))
  where
    go : (M Y C : ℕ) → 2 ^ 53 * (k * s) ≤ 2 ^ 53 * (h * Y) + C * s + 2 ^ 53 * s → Y ≤ 4 * s → 2 ^ 53 * (h * S) ≤ M + 2 ^ 53 * (ε * S)
        → 2 ^ 53 * (k * (S * s)) ≤ C * (S * s) + M * Y + 2 ^ 53 * ((4 * ε + 1) * (S * s))
    go M Y C l p b =
        let x : 2 ^ 53 * (k * s) * S ≤ (2 ^ 53 * (h * Y) + C * s + 2 ^ 53 * s) * S = mul-le-mul_right S l in
        let y : 2 ^ 53 * (h * S) * Y ≤ (M + 2 ^ 53 * (ε * S)) * Y = mul-le-mul_right Y b in
        let z : ε * S * Y ≤ ε * S * (4 * s) = mul-le-mul_left (ε * S) p in
        omega arith

    spread : (Q y c : Diff) (T : ℕ) → magnitude c * T + magnitude Q * magnitude y ≡ magnitude (c ⊡ T ⊞ Q ⊠ y)
    spread Q y c T = omega arith

-- ---- a turn on values
module _ {Q : Diff} {S h : ℕ} {L : Loss} {y c : Float} {H : Horner} (St : State H Q S h L) (Y : Num y 4) (C : Num c 2) (few : Modest L) where
  link : 2 ^ 53 * (h * magnitude Y.v) + magnitude C.v * one_units ≤ 2 ^ 53 * (next_h h (magnitude Y.v) (magnitude C.v) one_units * one_units)
  link = next_covers h (magnitude Y.v) (magnitude C.v) one_units one_pos

  pub step : State (compensated_step y c H) (C.v ⊡ (S * one_units) ⊞ Q ⊠ Y.v) (S * one_units) (next_h h (magnitude Y.v) (magnitude C.v) one_units) (grow L)
  unfolding compensated_step
  step =
      let k = next_h h (magnitude Y.v) (magnitude C.v) one_units in
      let p = product_num St.vn Y few.3 (lit≤ tt) in
      let s = sum_num p.prod.result C (s_room L.kv few.3) in
      let g = mul_num St.rn Y (g_room L.ke few.4) in
      let f = add_num p.err s.err (f_room L.kv few.3) in
      let e = add_num g.result f.result (e_room L.kv L.ke few.3 few.4) in
      let v' : Diff = s.sum.result.v in
      let r' : Diff = e.result.v in
      let a = (2 * L.ρ + 26) * k + (9 * L.τ + 2 ^ 118) in
      let q : Stepped St.vn.v St.rn.v Y.v C.v v' r' k L.α L.β L.ρ L.τ one_units =
      stepped St.vn.v St.rn.v Y.v C.v p.prod.result.v p.err.v v' s.err.v g.result.v f.result.v r'
      h k L.α L.β L.ρ L.τ one_units one_pos link Y.bound St.v_size St.r_size few.0 few.1 few.2
      p.prod.rounds p.close s.sum.rounds s.close g.rounds f.rounds e.rounds
      (rounded_side p.prod.result.v p.prod.rounds) (rounded_side v' s.sum.rounds) (rounded_side r' e.rounds) in
      record {
        vn = s.sum.result;
        rn = e.result;
        v_size = q.value;
        r_size = q.correction;
        close = apart_le ((v' ⊞ r') ⊡ (S * one_units) ⊡ 2 ^ 53) ((C.v ⊡ (S * one_units) ⊞ Q ⊠ Y.v) ⊡ 2 ^ 53)
            (a * one_units * S + (L.κ * h + L.b) * S * magnitude Y.v) (((grow L).κ * k + (grow L).b) * (S * one_units))
            (total a (L.κ * h + L.b) (magnitude Y.v) (L.κ * k + 4 * L.b) one_units S ((grow L).κ * k + (grow L).b)
            (grown h k (magnitude Y.v) (magnitude C.v) one_units link Y.bound L.κ L.b) (regroup L.κ L.ρ k L.b (9 * L.τ + 2 ^ 118)))
            (advanced v' r' C.v St.vn.v St.rn.v Q Y.v S one_units (2 ^ 53) a (L.κ * h + L.b) q.near St.close);
        bound = terms_next Q Y.v C.v h k one_units S L.ε (next_tight h (magnitude Y.v) (magnitude C.v) one_units) Y.bound St.bound;
      }
    where
      s_room : (kv : ℕ) → kv ≤ 2 ^ 20 → 2 * (kv * 4) + 1 + 2 ≤ 2 ^ 100
      s_room kv h = omega arith

      g_room : (ke : ℕ) → ke ≤ 2 ^ 60 → ke * 4 ≤ 2 ^ 118
      g_room ke h = omega arith

      f_room : (kv : ℕ) → kv ≤ 2 ^ 20 → 3 * (kv * 4) + 3 + 96 * (2 * (kv * 4) + 1 + 2) ≤ 2 ^ 118
      f_room kv h = omega arith

      e_room : (kv ke : ℕ) → kv ≤ 2 ^ 20 → ke ≤ 2 ^ 60 → 2 * (ke * 4) + 1 + 2 * (3 * (kv * 4) + 3 + 96 * (2 * (kv * 4) + 1 + 2)) ≤ 2 ^ 118
      e_room kv ke h l = omega arith

      regroup : (κ ρ k b t : ℕ) → (2 * ρ + 26) * k + t + (κ * k + 4 * b) ≡ (κ + (2 * ρ + 26)) * k + (4 * b + t)
      regroup κ ρ k b t = omega arith

      total : (a d Y m D S c : ℕ) → d * Y ≤ m * D → a + m ≡ c → a * D * S + d * S * Y ≤ c * (S * D)
      total a d Y m D S c h e = let g : d * Y * S ≤ m * D * S = mul-le-mul_right S h in subst (λ (z : ℕ). a * D * S + d * S * Y ≤ z * (S * D)) e (omega arith)
