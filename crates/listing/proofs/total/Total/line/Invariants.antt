use Rattle.std.proofs.Common.{◌≡◌, take}
use Rattle.roots.specs.Listed.{multiplicities}
use Rattle.listing.proofs.total.Total.line.Given as goal

abbrev pub invariant-loop-root : goal.invariant-loop-root
invariant-loop-root l = l.multiplicities ≡ multiplicities (take l.root-index l.root-items)
