-- How the roots of real_roots_touching are formed, where the replies are known beforehand: its items, chains and list again, each place with the numbers of the
-- questions whose replies helped to form it. Of kinds it knows nothing; `Kinds` in Demands says what a root's kind has to do with these questions. Definitions
-- only.
use Rattle.std.specs.Prelude.{◌≡◌, Bool, true, false, ◌&&◌, ℕ, ◌+◌, ◌<◌, eqb, ℤ, length, get_or, Float}
use Rattle.std.proofs.Math.Bool.{cond}
use mathlib.Core.List.{List, [], ◌∷◌, ◌++◌, map}
use Rattle.std.specs.Float.{nan}
use Rattle.std.specs.Float.Ieee.{lt}
use Rattle.facts.specs.Lists.{sum_of}
use Rattle.facts.specs.Sort.{sorted_by}
use Rattle.float.specs.Rounded.{◌+ᶠ◌, ◌-ᶠ◌, ◌*ᶠ◌}
use Rattle.float.specs.Literals.{zero64, half64}
use Rattle.float.specs.Methods.{is_finite_of, total_le_of}
use Rattle.scaled.specs.declared.Scaled.{Scaled}
use Rattle.roots.specs.declared.RealRoot.{RealRoot}
use Rattle.roots.specs.declared.Pair.{Pair}
use Rattle.roots.specs.Roots.{root, list_of, pair_list_of}
use Rattle.std.specs.Prelude.{Option, Some, None}
use Rattle.critical.specs.Critical.{extremum_of}
use Rattle.poly.specs.declared.Solved.{Solved}
use Rattle.poly.specs.RealRoots.{unscaled_of}
use Rattle.touching.specs.Touching.{pair_order, reach_of, all_apart, apart_of, double_of}

-- A place, its multiplicity, and the questions, numbered from 0 in the order in which they are asked.
pub record Formed : Type 0 where
  pub value : Float
  pub multiplicity : ℕ
  pub questions : List ℕ

-- how often question i stands among some, and among those of all places
abbrev pub times_in : ℕ → List ℕ → ℕ
times_in i [] = 0
times_in i (j ∷ l) = cond (eqb i j) 1 0 + times_in i l

abbrev pub times_of : ℕ → List Formed → ℕ
times_of i l = sum_of (λ (f : Formed). times_in i f.questions) l

-- a root of `finish`, of which nothing was asked
abbrev pub unasked : RealRoot → Formed
unasked r = record { value = r.value; multiplicity = r.multiplicity; questions = [] }

-- an item of the Rust, (value, multiplicity)
abbrev pub item_of : Formed → RealRoot
item_of f = root f.value f.multiplicity

-- ---- items
-- `if pairs.len > 0 { items.sort_unstable_by(|a, b| a.0.total_cmp(&b.0)); }`
unfoldable pub sorted_items : List Pair → List Formed → List Formed
sorted_items [] its = its
sorted_items (p ∷ ps) its = sorted_by (λ a b. total_le_of a.value b.value) its

-- ---- a chain: the Rust's `first`, `items[k].0` of its last item, `at`, `touching` and `mult`, which is 0 where there is no chain; and the questions
pub record Joined : Type 0 where
  pub first : Float
  pub last : Float
  pub at : Float
  pub touching : ℕ
  pub mult : ℕ
  pub questions : List ℕ

abbrev pub nothing_joined : Joined
nothing_joined = record { first = zero64; last = zero64; at = zero64; touching = 0; mult = 0; questions = [] }

-- one item
abbrev pub begun_by : Formed → Joined
begun_by it =
    record {
      first = it.value;
      last = it.value;
      at = it.value;
      touching = double_of it.multiplicity;
      mult = it.multiplicity;
      questions = it.questions;
    }

-- one item more, linked at y by the reply to question n
abbrev pub linked_to : Joined → Formed → ℕ → Float → Joined
linked_to c it n y =
    record {
      first = c.first;
      last = it.value;
      at = y;
      touching = c.touching + (1 + double_of it.multiplicity);
      mult = c.mult + it.multiplicity;
      questions = (c.questions ++ it.questions) ++ n ∷ [];
    }

-- `match touching { 0 => first, 1 => at, _ => 0.5 * (first + items[k].0), };`
unfoldable pub contact_by : Joined → Float
contact_by c =
    cond (eqb c.touching 0) c.first
    (cond (eqb c.touching 1) c.at (half64 *ᶠ (c.first +ᶠ c.last)))

-- the chains that have ended, and this one
unfoldable pub ended_with : List Formed → Joined → List Formed
unfolding contact_by
ended_with out c = cond (eqb c.mult 0) out (out ++ record { value = contact_by c; multiplicity = c.mult; questions = c.questions } ∷ [])

-- ---- the walk; reply n is the reply to question n. Beside what the Rust has, each state begins with the number of questions so far.
module _ (reply : ℕ → Bool) (poly : Scaled) (tol : Float) where
  -- `touches_at(y)`, and the number of questions then: a place that is not finite in x is not asked about
  unfoldable pub touches_by : ℕ → Float → Bool × ℕ
  touches_by n y = cond (is_finite_of (unscaled_of poly.e y)) (reply n, n + 1) (false, n)

  -- a pair: a double root, formed by the yes to its question, or a separator
  unfoldable pub paired_by : ℕ × List Formed → Option Float → ℕ × List Formed
  unfolding touches_by
  paired_by s None = s
  paired_by s (Some y) =
      let t = touches_by s.0 y in
      let it : Formed = record { value = y; multiplicity = cond t.0 2 0; questions = cond t.0 (s.0 ∷ []) [] } in
      cond (all_apart (apart_of poly tol y) y (map item_of s.1)) (t.1, s.1 ++ it ∷ []) s

  unfoldable pub pairs_by : ℕ × List Formed → List Pair → ℕ × List Formed
  unfolding paired_by
  pairs_by s [] = s
  pairs_by s (p ∷ ps) =
      let m = p.centre in
      let reach = reach_of m p.half (map item_of s.1) in
      pairs_by (paired_by s (extremum_of poly m (m -ᶠ reach) (m +ᶠ reach) tol)) ps

  -- the chain ends, and the item begins one
  abbrev pub parted_by : ℕ → Joined → List Formed → Formed → ℕ × (Joined × List Formed)
  parted_by n c out it = (n, (begun_by it, ended_with out c))

  -- the item is linked to the chain by a yes, or parted from it
  unfoldable pub linked_by : ℕ → Joined → List Formed → Formed → Option Float → ℕ × (Joined × List Formed)
  unfolding touches_by ended_with
  linked_by n c out it None = parted_by n c out it
  linked_by n c out it (Some y) =
      let t = touches_by n y in
      cond (lt c.last y && lt y it.value) (cond t.0 (t.1, (linked_to c it n y, out)) (parted_by t.1 c out it)) (parted_by n c out it)

  -- one item: a separator ends the chain; another item begins one, or comes to the one at hand
  unfoldable pub joined_by : ℕ → Joined → List Formed → Formed → ℕ × (Joined × List Formed)
  unfolding linked_by ended_with
  joined_by n c out it =
      let lo = c.last in
      let hi = it.value in
      cond (eqb it.multiplicity 0) (n, (nothing_joined, ended_with out c))
      (cond (eqb c.mult 0) (n, (begun_by it, out)) (linked_by n c out it (extremum_of poly (half64 *ᶠ (lo +ᶠ hi)) lo hi tol)))

  unfoldable pub chains_by : ℕ × (Joined × List Formed) → List Formed → ℕ × List Formed
  unfolding joined_by ended_with
  chains_by s [] = (s.0, ended_with s.1.1 s.1.0)
  chains_by s (it ∷ its) = chains_by (joined_by s.0 s.1.0 s.1.1 it) its

  -- all chains, in the scaled variable, and how many questions were asked
  unfoldable pub formed_by : List RealRoot → List Pair → ℕ × List Formed
  unfolding pairs_by sorted_items chains_by
  formed_by roots pairs =
      let s = pairs_by (0, map unasked roots) (pair_order pairs) in
      chains_by (s.0, (nothing_joined, [])) (sorted_items pairs s.1)

-- `if let Some(r) = poly.unscaled(y, mult) { out.push(r); }`: those whose place is finite in x
unfoldable pub listed_by : ℤ → List Formed → List Formed
listed_by e [] = []
listed_by e (f ∷ l) =
    let x = unscaled_of e f.value in
    cond (is_finite_of x) (record { value = x; multiplicity = f.multiplicity; questions = f.questions } ∷ listed_by e l) (listed_by e l)

-- ---- of what was solved: how many questions, and the chains; and the list
abbrev pub chains_formed : (ℕ → Bool) → Solved → ℕ × List Formed
chains_formed reply s = formed_by reply s.poly s.tol (list_of s.roots) (pair_list_of s.pairs)

abbrev pub roots_formed : (ℕ → Bool) → Solved → List Formed
roots_formed reply s = listed_by s.poly.e (chains_formed reply s).1

-- ---- replies in a list: the i-th; and that one of those to the questions of f is yes
abbrev pub reply_in : List Bool → ℕ → Bool
reply_in replies i = get_or replies i false

abbrev pub SomeYes : List Bool → Formed → Type 0
SomeYes replies f = (k : ℕ) × (k < length f.questions) × (reply_in replies (get_or f.questions k 0) ≡ true)

-- what is read outside a list
abbrev pub unformed : Formed
unformed = record { value = nan; multiplicity = 0; questions = [] }
