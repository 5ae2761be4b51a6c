-- The readers of factors, terms and sums, step by step: what is read so far, and what of the definition is left to do.
use mathlib.Core.Path.{◌≡◌, refl, sym, ap, ap₂, subst, ◌∙◌}
use mathlib.Core.Bool.{true, false}
use mathlib.Core.List.{List}
use mathlib.Core.Option.{Option}
use Prim.Native.Nat.{ℕ, zero, suc, ◌+◌, ◌-◌, ◌*◌, ◌≤◌, ◌<◌}
use native.Mathlib.Omega.{arith}
use lib.Dec.{lit≤}
use lib.ListN.{length, drop}
use lib.IntN.{ℤ}
use Rattle.parts.specs.declared.Operator.{Operator}
use Rattle.parts.specs.declared.Operator.TheVariants.{Product}
use Rattle.parts.specs.Value.{Value, joined}
use Rattle.parts.specs.Products.{operator_of}
use Rattle.parts.specs.Part.{value_in}
use Rattle.formula.specs.declared.cursor.Cursor.{Cursor}
use Rattle.formula.specs.Grammar.{Sign, Sum, term, join, Term, factor, times, Factor}
use Rattle.formula.specs.Expansion.{sum_of, term_of, factor_of}
use Rattle.formula.specs.Reading.{Read, fails, reads, and_then, if_some, read_unit, read_closed, read_sum, more_terms, read_term, more_factors, read_factor}
use Rattle.std.specs.Prelude as Prelude
use Rattle.std.specs.Prelude.{Some, None, IfSome}
use Rattle.formula.specs.Readers.{is_at, sign_at, operator_at, Ahead, Further, HasRead, Reads, Based, Closed, Powered, Shut, Joined, Joins}
use Rattle.formula.proofs.Bytes.{at_inside, sign_inside, after_true, after_false, sign_true, sign_false, sign_next, operator_is}
use Rattle.formula.proofs.Complete.{factors_end, terms_end}
use Rattle.formula.proofs.Cursors.{ahead_then}

-- ---- factors
-- all is read but the power
pub record Base (s : List ℕ) (at : ℕ) (c : Prelude.Option Cursor) : Type 0 where
  pub ahead : IfSome c (Ahead s at)
  pub means : (f : ℕ) → 3 * (length s - at) + 1 ≤ f → Based s c (read_factor f (drop at s))

module _ (s : List ℕ) (at : ℕ) where
  -- what a factor is by its first byte
  by_first : ℕ → Option (List ℕ) → Read Factor
  by_first f o = if_some o (read_unit (drop at s)) (λ u. and_then (read_sum f u) read_closed)

  pub factor_bracket : (inner c : Prelude.Option Cursor) → is_at s at 40 ≡ true → Reads read_sum sum_of 3 s (at + 1) inner → Further s inner c
      → Shut s inner c → Reads read_factor factor_of 1 s at c
  unfolding read_factor by_first
  factor_bracket inner c e r h k = record { ahead = h at (ahead_then s at (at + 1) inner (omega arith) r.ahead); means = means }
    where
      means : (f : ℕ) → 3 * (length s - at) + 1 ≤ f → HasRead factor_of s (read_factor f (drop at s)) c
      means zero g = absurd (omega arith)
      means (suc f) g =
          subst (λ (x : Read Factor). HasRead factor_of s x c) (sym (ap (by_first f) (after_true s at 40 e)))
          (k (read_sum f (drop (at + 1) s)) (r.means f (omega (arith, at_inside s at 40 e))))

  pub factor_bare : (c : Prelude.Option Cursor) → is_at s at 40 ≡ false → IfSome c (Ahead s at) → HasRead factor_of s (read_unit (drop at s)) c
      → Reads read_factor factor_of 1 s at c
  unfolding read_factor by_first
  factor_bare c e h k = record { ahead = h; means = means }
    where
      means : (f : ℕ) → 3 * (length s - at) + 1 ≤ f → HasRead factor_of s (read_factor f (drop at s)) c
      means zero g = absurd (omega arith)
      means (suc f) g = subst (λ (x : Read Factor). HasRead factor_of s x c) (sym (ap (by_first f) (after_false s at 40 e))) k

  -- ---- by what is read but the power
  pub bracket_none : is_at s at 40 ≡ true → Reads read_sum sum_of 3 s (at + 1) None → Reads read_factor factor_of 1 s at None
  unfolding read_factor by_first
  bracket_none e r = record { ahead = tt; means = means }
    where
      means : (f : ℕ) → 3 * (length s - at) + 1 ≤ f → read_factor f (drop at s) ≡ fails
      means zero g = absurd (omega arith)
      means (suc f) g =
          ap (by_first f) (after_true s at 40 e) ∙ ap (λ (x : Read Sum). and_then x read_closed) (r.means f (omega (arith, at_inside s at 40 e)))

  pub base_bracket : (inner : Cursor) (c : Prelude.Option Cursor) → is_at s at 40 ≡ true → Reads read_sum sum_of 3 s (at + 1) (Some inner)
      → IfSome c (Ahead s inner.next) → Closed s inner c → Base s at c
  unfolding read_factor by_first
  base_bracket inner c e r h k = record { ahead = ahead_then s at inner.next c (omega (arith, r.ahead.low)) h; means = means }
    where
      means : (f : ℕ) → 3 * (length s - at) + 1 ≤ f → Based s c (read_factor f (drop at s))
      means zero g = absurd (omega arith)
      means (suc f) g =
          let m = r.means f (omega (arith, at_inside s at 40 e)) in
          subst (Based s c)
          (sym (ap (by_first f) (after_true s at 40 e) ∙ ap (λ (x : Read Sum). and_then x read_closed) m.1)) (k m.0 m.2)

  pub base_unit : (c : Prelude.Option Cursor) → is_at s at 40 ≡ false → IfSome c (Ahead s at) → Based s c (read_unit (drop at s)) → Base s at c
  unfolding read_factor by_first
  base_unit c e h b = record { ahead = h; means = means }
    where
      means : (f : ℕ) → 3 * (length s - at) + 1 ≤ f → Based s c (read_factor f (drop at s))
      means zero g = absurd (omega arith)
      means (suc f) g = subst (Based s c) (sym (ap (by_first f) (after_false s at 40 e))) b

  pub factor_none : Base s at None → Reads read_factor factor_of 1 s at None
  factor_none b = record { ahead = tt; means = b.means }

  pub factor_read : (base : Cursor) (c : Prelude.Option Cursor) → Base s at (Some base) → IfSome c (Ahead s base.next) → Powered s base c
      → Reads read_factor factor_of 1 s at c
  factor_read base c b h p = record {
    ahead = ahead_then s at base.next c b.ahead.low h;
    means = λ f g. let m = b.means f g in subst (λ (x : Read Factor). HasRead factor_of s x c) (sym m.1) (p m.0 m.2);
  }

-- ---- what is read so far: `more g a` goes on behind the tree a
abbrev SoFar : {A : Type 0} → (ℕ → A → List ℕ → Read A) → (A → Value) → List ℕ → Cursor → Read A → Type 0
SoFar {A} more value s c x = (a : A) × (g : ℕ) × (3 * (length s - c.next) + 1 ≤ g) × (value_in c.part ≡ value a) × (x ≡ more g a (drop c.next s))

pub record Far {A : Type 0} (read : ℕ → List ℕ → Read A) (more : ℕ → A → List ℕ → Read A) (value : A → Value) (n : ℕ) (s : List ℕ) (at : ℕ)
    (c : Cursor) : Type 0 where
  pub ahead : Ahead s at c
  pub far : (f : ℕ) → 3 * (length s - at) + n ≤ f → SoFar more value s c (read f (drop at s))

-- ---- parts joined from the left: a term of factors, a sum of terms
module _ {A B : Type 0} (read : ℕ → List ℕ → Read A) (more : ℕ → A → List ℕ → Read A) (value : A → Value) (readPart : ℕ → List ℕ → Read B)
    (part : B → Value) (n : ℕ) (some : 1 ≤ n) (few : n ≤ 3) (s : List ℕ) (at : ℕ) where
  module _ (one : B → A) (step : (f : ℕ) (u : List ℕ) → read (suc f) u ≡ and_then (readPart f u) (λ b rest. more f (one b) rest)) where
    -- the first part
    behind : ℕ → Read B → Read A
    behind f x = and_then x (λ b rest. more f (one b) rest)

    first_none : Reads readPart part n s at None → Reads read value (n + 1) s at None
    unfolding behind
    first_none r = record { ahead = tt; means = means }
      where
        means : (f : ℕ) → 3 * (length s - at) + (n + 1) ≤ f → read f (drop at s) ≡ fails
        means zero h = absurd (omega arith)
        means (suc f) h = step f (drop at s) ∙ ap (behind f) (r.means f (omega arith))

    first : ((b : B) → part b ≡ value (one b)) → (c : Cursor) → Reads readPart part n s at (Some c) → Far read more value (n + 1) s at c
    unfolding behind
    first worth c r = record { ahead = r.ahead; far = far }
      where
        far : (f : ℕ) → 3 * (length s - at) + (n + 1) ≤ f → SoFar more value s c (read f (drop at s))
        far zero h = absurd (omega arith)
        far (suc f) h =
            let m = r.means f (omega arith) in
            (one m.0, f, omega (arith, r.ahead.low), m.2 ∙ worth m.0, step f (drop at s) ∙ ap (behind f) m.1)

  module _ (left : Cursor) (inside : left.next < length s) (k : A → B → A)
      (step : (g : ℕ) (a : A) → more (suc g) a (drop left.next s) ≡ and_then (readPart g (drop (left.next + 1) s)) (λ b rest. more g (k a b) rest))
      (m : ℕ) (w : Far read more value m s at left) where
    -- one part more
    joining : A → ℕ → Read B → Read A
    joining a g x = and_then x (λ b rest. more g (k a b) rest)

    next_none : Reads readPart part n s (left.next + 1) None → Reads read value m s at None
    unfolding joining
    next_none r = record { ahead = tt; means = λ f h. let u = w.far f h in go (read f (drop at s)) u.0 u.1 u.2 u.4 }
      where
        go : (x : Read A) (a : A) (g : ℕ) → 3 * (length s - left.next) + 1 ≤ g → x ≡ more g a (drop left.next s) → x ≡ fails
        go x a zero h q = absurd (omega arith)
        go x a (suc g) h q = q ∙ step g a ∙ ap (joining a g) (r.means g (omega arith))

    next : (right c : Cursor) (op : Operator) → Reads readPart part n s (left.next + 1) (Some right) → Joined op left right c
        → ((a : A) (b : B) → joined (operator_of op) (value a) (part b) ≡ value (k a b)) → Far read more value m s at c
    unfolding joining
    next right c op r j worth = record {
      ahead = record { low = omega (arith, w.ahead.low, r.ahead.low, j.next); high = omega (arith, r.ahead.high, j.next) };
      far = λ f h. let u = w.far f h in go (read f (drop at s)) u.0 u.1 u.2 u.3 u.4;
    }
      where
        go : (x : Read A) (a : A) (g : ℕ) → 3 * (length s - left.next) + 1 ≤ g → value_in left.part ≡ value a → x ≡ more g a (drop left.next s)
            → SoFar more value s c x
        go x a zero h p q = absurd (omega arith)
        go x a (suc g) h p q =
            let y = r.means g (omega arith) in (
              k a y.0,
              g,
              omega (arith, r.ahead.low, j.next),
              j.value ∙ ap₂ (joined (operator_of op)) p y.2 ∙ worth a y.0,
              q ∙ step g a ∙ ap (joining a g) y.1 ∙ ap (λ (i : ℕ). more g (k a y.0) (drop i s)) (sym j.next),
            )

module _ {A : Type 0} (read : ℕ → List ℕ → Read A) (more : ℕ → A → List ℕ → Read A) (value : A → Value) (n : ℕ) (s : List ℕ) (at : ℕ) (c : Cursor) where
  last : ((g : ℕ) (a : A) → 1 ≤ g → more g a (drop c.next s) ≡ reads a (drop c.next s)) → Far read more value n s at c → Reads read value n s at (Some c)
  last end w = record { ahead = w.ahead; means = λ f h. let u = w.far f h in (u.0, u.4 ∙ end u.1 u.0 (omega (arith, u.2)), u.3) }

-- ---- terms
abbrev pub TermFar : List ℕ → ℕ → Cursor → Type 0
TermFar s at c = Far read_term more_factors term_of 2 s at c

module _ (s : List ℕ) (at : ℕ) where
  pub term_none : Reads read_factor factor_of 1 s at None → Reads read_term term_of 2 s at None
  unfolding read_term term_of
  term_none r = first_none read_term more_factors term_of read_factor factor_of 1 (lit≤ tt) (lit≤ tt) s at factor (λ f u. refl) r

module _ (s : List ℕ) (at : ℕ) (c : Cursor) where
  pub term_first : Reads read_factor factor_of 1 s at (Some c) → TermFar s at c
  unfolding read_term term_of
  term_first r = first read_term more_factors term_of read_factor factor_of 1 (lit≤ tt) (lit≤ tt) s at factor (λ f u. refl) (λ b. refl) c r

  module _ (w : TermFar s at c) where
    module _ (e : is_at s c.next 42 ≡ true) where
      more_term : ℕ → Term → List ℕ → Read Term
      more_term f a u = and_then (read_factor f u) (λ b rest. more_factors f (times a b) rest)

      term_step : (f : ℕ) (a : Term) → more_factors (suc f) a (drop c.next s) ≡ more_term f a (drop (c.next + 1) s)
      unfolding read_term more_term
      term_step f a = ap (λ (o : Option (List ℕ)). if_some o (reads a (drop c.next s)) (more_term f a)) (after_true s c.next 42 e)

      pub term_next_none : Reads read_factor factor_of 1 s (c.next + 1) None → Reads read_term term_of 2 s at None
      unfolding more_term
      term_next_none r =
          next_none read_term more_factors term_of read_factor factor_of 1 (lit≤ tt) (lit≤ tt) s at c (at_inside s c.next 42 e) times term_step 2 w r

      pub term_next : (right d : Cursor) → Reads read_factor factor_of 1 s (c.next + 1) (Some right) → Joined Product c right d → TermFar s at d
      unfolding more_term term_of
      term_next right d r j =
          next read_term more_factors term_of read_factor factor_of 1 (lit≤ tt) (lit≤ tt) s at c (at_inside s c.next 42 e) times term_step 2 w
          right d Product r j (λ a b. refl)

    pub term_last : is_at s c.next 42 ≡ false → Reads read_term term_of 2 s at (Some c)
    term_last e = last read_term more_factors term_of 2 s at c (λ g a l. factors_end g a (drop c.next s) l (after_false s c.next 42 e)) w

-- ---- sums
abbrev pub SumFar : List ℕ → ℕ → Cursor → Type 0
SumFar s at c = Far read_sum more_terms sum_of 3 s at c

module _ (s : List ℕ) (at : ℕ) where
  pub sum_none : Reads read_term term_of 2 s at None → Reads read_sum sum_of 3 s at None
  unfolding read_sum sum_of
  sum_none r = first_none read_sum more_terms sum_of read_term term_of 2 (lit≤ tt) (lit≤ tt) s at term (λ f u. refl) r

module _ (s : List ℕ) (at : ℕ) (c : Cursor) where
  pub sum_first : Reads read_term term_of 2 s at (Some c) → SumFar s at c
  unfolding read_sum sum_of
  sum_first r = first read_sum more_terms sum_of read_term term_of 2 (lit≤ tt) (lit≤ tt) s at term (λ f u. refl) (λ b. refl) c r

  module _ (w : SumFar s at c) where
    module _ (e : sign_at s c.next ≡ true) where
      sign : Sign
      sign = sign_next s c.next

      more_sum : ℕ → Sum → Sign × List ℕ → Read Sum
      more_sum f a w = and_then (read_term f w.1) (λ b rest. more_terms f (join a w.0 b) rest)

      sum_step : (f : ℕ) (a : Sum) → more_terms (suc f) a (drop c.next s) ≡ more_sum f a (sign, drop (c.next + 1) s)
      unfolding read_sum sign more_sum
      sum_step f a = ap (λ (o : Option (Sign × List ℕ)). if_some o (reads a (drop c.next s)) (more_sum f a)) (sign_true s c.next e)

      pub sum_next_none : Reads read_term term_of 2 s (c.next + 1) None → Reads read_sum sum_of 3 s at None
      unfolding more_sum
      sum_next_none r =
          next_none read_sum more_terms sum_of read_term term_of 2 (lit≤ tt) (lit≤ tt) s at c (sign_inside s c.next e) (λ a b. join a sign b) sum_step 3 w r

      sum_worth : (op : Operator) → op ≡ operator_at s c.next → (a : Sum) (b : Term)
          → joined (operator_of op) (sum_of a) (term_of b) ≡ sum_of (join a sign b)
      unfolding sum_of sign
      sum_worth op o a b = ap (λ (f : List ℤ → List ℤ → List ℤ). joined f (sum_of a) (term_of b)) (ap operator_of o ∙ operator_is s c.next)

      pub sum_next : (right d : Cursor) (op : Operator) → op ≡ operator_at s c.next → Reads read_term term_of 2 s (c.next + 1) (Some right)
          → Joined op c right d → SumFar s at d
      unfolding more_sum
      sum_next right d op o r j =
          next read_sum more_terms sum_of read_term term_of 2 (lit≤ tt) (lit≤ tt) s at c (sign_inside s c.next e) (λ a b. join a sign b) sum_step 3 w
          right d op r j (sum_worth op o)

    pub sum_last : sign_at s c.next ≡ false → Reads read_sum sum_of 3 s at (Some c)
    sum_last e = last read_sum more_terms sum_of 3 s at c (λ g a l. terms_end g a (drop c.next s) l (sign_false s c.next e)) w

-- ---- what is read so far, if it was read
abbrev pub TermSoFar : List ℕ → ℕ → Prelude.Option Cursor → Type 0
TermSoFar s at None = Reads read_term term_of 2 s at None
TermSoFar s at (Some c) = TermFar s at c

pub term_begun : (s : List ℕ) (at : ℕ) (c : Prelude.Option Cursor) → Reads read_factor factor_of 1 s at c → TermSoFar s at c
term_begun s at None r = term_none s at r
term_begun s at (Some c) r = term_first s at c r

pub term_more : (s : List ℕ) (at : ℕ) (c : Cursor) → TermFar s at c → is_at s c.next 42 ≡ true → (right d : Prelude.Option Cursor)
    → Reads read_factor factor_of 1 s (c.next + 1) right → Joins Product (Some c) right d → TermSoFar s at d
term_more s at c w e None d r j = subst (TermSoFar s at) (sym j) (term_next_none s at c w e r)
term_more s at c w e (Some b) None r j = absurd j
term_more s at c w e (Some b) (Some d) r j = term_next s at c w e b d r j

abbrev pub SumSoFar : List ℕ → ℕ → Prelude.Option Cursor → Type 0
SumSoFar s at None = Reads read_sum sum_of 3 s at None
SumSoFar s at (Some c) = SumFar s at c

pub sum_begun : (s : List ℕ) (at : ℕ) (c : Prelude.Option Cursor) → Reads read_term term_of 2 s at c → SumSoFar s at c
sum_begun s at None r = sum_none s at r
sum_begun s at (Some c) r = sum_first s at c r

pub sum_more : (s : List ℕ) (at : ℕ) (c : Cursor) → SumFar s at c → sign_at s c.next ≡ true → (op : Operator) → op ≡ operator_at s c.next
    → (right d : Prelude.Option Cursor) → Reads read_term term_of 2 s (c.next + 1) right → Joins op (Some c) right d → SumSoFar s at d
sum_more s at c w e op o None d r j = subst (SumSoFar s at) (sym j) (sum_next_none s at c w e r)
sum_more s at c w e op o (Some b) None r j = absurd j
sum_more s at c w e op o (Some b) (Some d) r j = sum_next s at c w e b d op o r j

-- how much is left to read
abbrev pub unread : List ℕ → Prelude.Option Cursor → ℕ
unread s None = 0
unread s (Some c) = length s - c.next

pub unread_falls : (s : List ℕ) (op : Operator) (c : Cursor) (right d : Prelude.Option Cursor) → c.next < length s → IfSome right (Ahead s (c.next + 1))
    → Joins op (Some c) right d → unread s d < unread s (Some c)
unread_falls s op c None d h r j = subst (λ (o : Prelude.Option Cursor). unread s o < unread s (Some c)) (sym j) (omega (arith, h))
unread_falls s op c (Some b) None h r j = absurd j
unread_falls s op c (Some b) (Some d) h r j = omega (arith, h, r.low, r.high, j.next)
