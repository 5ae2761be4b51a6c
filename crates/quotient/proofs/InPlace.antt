-- A product built in place, from its top coefficient down: each coefficient is put where l's was, and made of l's coefficients at that place and below it,
-- which still stand.
use mathlib.Core.Path.{◌≡◌, refl, ap, sym, ◌∙◌}
use mathlib.Core.Bool.{cond, ◌&&◌}
use mathlib.Core.List.{List, ◌∷◌, ◌++◌}
use Prim.Native.Nat.{ℕ, zero, suc, ◌+◌, ◌-◌, ◌≤◌, ◌<◌}
use native.Mathlib.Omega.{arith}
use lib.Dec.{leb}
use lib.ListN.{length, get_or, set, drop, length-set, drop_of_length-le}
use lib.Seq.{drop-cons, drop-set-lt, get_or-set_same, get_or-set_other}
use lib.Ieee.{Float, nan, binary64, add, mul}
use Rattle.facts.specs.Arrays.{fill_from, from_fn}
use Rattle.facts.specs.Count.{count_down, down_turn, down_end}
use Rattle.quotient.specs.Quotient.{product_term_of, next_at, mul_of}
use Rattle.quotient.proofs.Terms.{terms_all, terms_turn, none_after}
use Rattle.quotient.specs.declared.Monic.{Monic}

-- ---- an array by a rule: rules that agree below its end, and its last place
agreeing : (g h : ℕ → Float) (i k : ℕ) → ((j : ℕ) → j < i + k → g j ≡ h j) → fill_from i k g ≡ fill_from i k h
agreeing g h i zero e = refl
agreeing g h i (suc k) e =
    ap (λ (x : Float). x ∷ fill_from (i + 1) k g) (e i (omega arith)) ∙ ap (λ (l : List Float). h i ∷ l) (agreeing g h (i + 1) k (λ j t. e j (omega arith)))

last_apart : (g : ℕ → Float) (i k n : ℕ) (l : List Float) → i + k ≡ n → fill_from i (suc k) g ++ l ≡ fill_from i k g ++ g n ∷ l
last_apart g i zero n l e = ap (λ (j : ℕ). g j ∷ l) (let q : i ≡ n = omega (arith, e) in q)
last_apart g i (suc k) n l e = ap (λ (m : List Float). g i ∷ m) (last_apart g (i + 1) k n l (omega (arith, e)))

module _ (dl : ℕ) (f : List Float) where
  -- ---- what is put at a place i above k is not read for coefficient k
  module _ (l : List Float) (i : ℕ) (x : Float) (k : ℕ) (h : k < i) where
    terms_kept : (n : ℕ) (acc : Float) → count_down (product_term_of (set l i x) dl f k) n acc ≡ count_down (product_term_of l dl f k) n acc
    unfolding count_down product_term_of
    terms_kept zero acc = refl
    terms_kept (suc j) acc =
        terms_kept j _
        ∙ ap (λ (y : Float). count_down (product_term_of l dl f k) j
        (cond (leb j k && leb (k - j) dl) (add binary64 acc (mul binary64 y (get_or f j nan))) acc))
        (get_or-set_other l i (k - j) x nan (λ e. absurd (omega (arith, e))))

    next_kept : next_at (set l i x) dl f k ≡ next_at l dl f k
    unfolding next_at
    next_kept = terms_kept (length f) _

  -- ---- coefficient k, put in its place
  abbrev pub put_next : ℕ → List Float → List Float
  put_next k l = set l k (next_at l dl f k)

  -- put at the places below n, those above them left as they are
  placed : (n : ℕ) (l : List Float) → n ≤ length l → count_down put_next n l ≡ from_fn n (next_at l dl f) ++ drop n l
  unfolding count_down
  placed zero l h = refl
  placed (suc n) l h =
      let x = next_at l dl f n in
      let m = set l n x in
      let there : n < length m = omega (arith, length-set l n x) in
      placed n m (omega arith)
      ∙ ap (λ (r : List Float). from_fn n (next_at m dl f) ++ r) (
      drop-cons m n nan there ∙ ap (λ (y : Float). y ∷ drop (suc n) m) (get_or-set_same l n x nan (omega arith))
      ∙ ap (λ (r : List Float). x ∷ r) (drop-set-lt (suc n) l n x (omega arith))
      )
      ∙ ap (λ (r : List Float). r ++ x ∷ drop (suc n) l) (agreeing (next_at m dl f) (next_at l dl f) 0 n (λ j t. next_kept l n x j (omega arith)))
      ∙ sym (last_apart (next_at l dl f) 0 n n (drop (suc n) l) (omega arith))

  pub all_placed : (l : List Float) → length l ≡ 5 → count_down put_next 5 l ≡ from_fn 5 (next_at l dl f)
  all_placed l e = placed 5 l (omega arith) ∙ ap (λ (r : List Float). from_fn 5 (next_at l dl f) ++ r) (drop_of_length-le l {i = 5} (omega arith))

  -- t of them are put, and k = 4 - t is next
  pub next_placed : (t : ℕ) (l : List Float) → t < 5
      → count_down put_next (5 - t) l ≡ count_down put_next (5 - (t + 1)) (put_next (4 - t) l)
  unfolding count_down
  next_placed t l h =
      ap (λ (n : ℕ). count_down put_next n l) (let e : 5 - t ≡ suc (4 - t) = omega arith in e)
      ∙ ap (λ (n : ℕ). count_down put_next n (put_next (4 - t) l)) (let e : 4 - t ≡ 5 - (t + 1) = omega arith in e)

pub mul_is : (p : Monic) (f : List Float) (l : List Float) → l ≡ from_fn 5 (next_at p.l p.dl f) → record { l = l; dl = p.dl + (length f - 1) } ≡ mul_of p f
unfolding mul_of
mul_is p f l e = λ i. record { l = e i; dl = p.dl + (length f - 1) }

-- What the product's proof rests on.
pub ruleset terms = (down_turn, down_end, terms_all, terms_turn, none_after, all_placed)
