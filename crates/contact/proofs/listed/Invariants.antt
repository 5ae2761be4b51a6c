use Prim.Native.Nat.{◌-◌}
use Rattle.inquiry.specs.Start.{real_roots_touching, fresh_by, given}
use Rattle.inquiry.proofs.Loop.{Along}
use Rattle.contact.specs.Contact.{touches_of}
use Rattle.contact.proofs.listed.Given as goal

abbrev pub invariant-loop-t : goal.invariant-loop-t
invariant-loop-t l = Along (touches_of l.confusion l.p l.r) (real_roots_touching l.fn.sine l.coeffs l.confusion) (given (fresh_by l.s) l.replies)

abbrev pub decreases-loop-t : goal.decreases-loop-t
decreases-loop-t l = 3 - l.replies.count
