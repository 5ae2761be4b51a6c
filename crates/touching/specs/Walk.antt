-- What the functions inside say of each other: where a walk with the replies at hand has come to, and what their structs hold. Definitions only.
use Rattle.std.specs.Prelude.{◌≡◌, Bool, List, ℕ, ◌+◌, ◌-◌, ◌*◌, ◌≤◌, drop, Option, Some, None, Result, Ok, Err}
use Rattle.roots.specs.declared.RealRoot.{RealRoot}
use Rattle.roots.specs.declared.Roots.{Roots}
use Rattle.roots.specs.declared.Pairs.{Pairs}
use Rattle.roots.specs.Roots.{list_of, roots_of}
use Rattle.roots.specs.Listed.{multiplicities, Fits, PairsFit}
use Rattle.asking.specs.Asking.{Stage, asks, ended}
use Rattle.touching.specs.declared.Replies.{Replies}
use Rattle.touching.specs.declared.Question.{Question}
use Rattle.touching.specs.declared.Heard.{Heard}
use Rattle.touching.specs.declared.Walk.{Walk}
use Rattle.touching.specs.declared.Links.{Links}
use Rattle.touching.specs.declared.Chain.{Chain}
use Rattle.touching.specs.Touching.{no_chain}
use Rattle.touching.specs.Replies.{replies_of}
pub use Rattle.touching.specs.Replies.{RepliesFit}

-- ---- where a walk has come to: to a question, or to an end with a value and the replies that are left
-- the replies from `used` on
abbrev pub left_of : Replies → ℕ → List Bool
left_of rs used = drop used (replies_of rs)

-- the chain as the definitions have it
abbrev pub chain_of : Option Chain → Chain
chain_of None = no_chain
chain_of (Some c) = c

abbrev pub heard_at : Replies → Result Heard Question → Stage Bool
heard_at rs (Ok h) = ended h.yes (left_of rs h.used)
heard_at rs (Err q) = asks q.place

abbrev pub walk_at : Replies → Result Walk Question → Stage (List RealRoot)
walk_at rs (Ok w) = ended (list_of w.items) (left_of rs w.used)
walk_at rs (Err q) = asks q.place

abbrev pub links_at : Replies → Result Links Question → Stage (Chain × List RealRoot)
links_at rs (Ok w) = ended (chain_of w.chain, list_of w.out) (left_of rs w.used)
links_at rs (Err q) = asks q.place

-- ---- sizes
-- zeros after the list too
abbrev pub Tidy : Roots → Type 0
Tidy s = (s ≡ roots_of (list_of s)) × (s.len ≤ 4)

-- 1 where a chain is at hand
abbrev pub at_hand : Option Chain → ℕ
at_hand None = 0
at_hand (Some c) = 1

-- 1 where the chain at hand has a root, which goes into the list
abbrev pub counts : Option Chain → ℕ
counts None = 0
counts (Some c) = 1 - (1 - c.mult)

-- what a pair adds at most to the items
abbrev pub PairAdds : Roots → Roots → Type 0
PairAdds s r = Fits r × (r.len ≤ s.len + 1) × (multiplicities (list_of r) ≤ multiplicities (list_of s) + 2)

-- what an item adds at most to a walk over the items
pub record ItemAdds (w r : Links) (it : RealRoot) : Type 0 where
  pub tidy : Tidy r.out
  pub length : r.out.len + at_hand r.chain ≤ w.out.len + at_hand w.chain + 1
  pub counted : at_hand r.chain ≤ (chain_of r.chain).mult
  pub mult : (chain_of r.chain).mult ≤ (chain_of w.chain).mult + it.multiplicity
  pub touching : (chain_of r.chain).touching ≤ (chain_of w.chain).touching + 2

-- what an item finds: room in the list, a chain that counts, and sums that cannot overflow
pub record ItemRoom (w : Links) (it : RealRoot) : Type 0 where
  pub tidy : Tidy w.out
  pub length : w.out.len + at_hand w.chain ≤ 3
  pub counted : at_hand w.chain ≤ (chain_of w.chain).mult
  pub mult : (chain_of w.chain).mult + it.multiplicity ≤ 4
  pub touching : (chain_of w.chain).touching ≤ 8

-- what a sound inquiry has: roots and pairs of at most the degree 4, and arrays that hold their counts
abbrev pub Held : Roots → Pairs → Type 0
Held s ps = Fits s × PairsFit ps × (s.len + ps.len ≤ 4) × (multiplicities (list_of s) + 2 * ps.len ≤ 4)
