-- What is left is one word where the upper words of a * 2^52 and of s * s differ by the borrow alone: it is then a * 2^52 - s * s.
use Rattle.std.proofs.Common.{rules}
use Rattle.sqrt.proofs.Words.{at_rest, rest_is}
use Rattle.sqrt.proofs.by_rest.Goals as goal

pub returns-else-s-rest-2 : goal.returns-else-s-rest-2
returns-else-s-rest-2 c =
    let p = c.mul-p in
    at_rest _ _ _ (rest_is _ _ _ _ _ _ p.ensures.product (search rules) c.if-a-p.false) c.if-s-rest-2.false c.requires.a_low
